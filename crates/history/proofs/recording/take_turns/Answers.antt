-- One turn more: its memory is the last that is left, and there is a place for it.
use Rattle.std.proofs.Common.{◌≡◌, ℕ, ◌-◌, ◌<◌, Bool, cond, List, [], ◌∷◌, ◌++◌, map, length, take, vec_items, vec_len, vec_capacity, Some, Option, sym, ap, ◌∙◌, subst, arith, length-append, length-take}
use mathlib.Core.List.{map-append}
use Rattle.std.proofs.lemmas.List.{length-map, take_more}
use Rattle.std.proofs.lemmas.List.Elements.{All-pop}
use Rattle.segment.specs.declared.segments.JoinAnswer.{JoinAnswer}
use Rattle.history.specs.Histories.{OwnMade}
use Rattle.history.specs.Memory.{Blank, Roomy, TurnTaken, TurnsTaken}
use Rattle.history.specs.Recorded.{OwnRun, call_part, newest_first}
use Rattle.history.specs.declared.calls.Call.{Call}
use Rattle.history.specs.declared.moments.Moment.{Moment}
use Rattle.history.specs.declared.moments.Turn.{Turn}
use Rattle.history.proofs.Taking.{own_more, taken_more}
use Rattle.history.proofs.recording.take_turns.Goals as goal

-- of so many moments the last has memory, and one fewer have it too
last_room : (n k l : ℕ) (all rest : List Moment) (m : Moment) → all ≡ rest ++ m ∷ [] → Blank n k l all → Roomy k l m × Blank (n - 1) k l rest
last_room n k l all rest m cut (long, rooms) =
    let parts = All-pop (Roomy k l) all rest (Some m) cut rooms in
    let sum = ap length cut ∙ length-append rest (m ∷ []) in
    (parts.1, (omega arith, parts.0))

-- the memory that is left is as large for as many entries and bytes
room_left : (n n' k k' l l' : ℕ) (rest : List Moment) → n ≡ n' → k ≡ k' → l ≡ l' → Blank n k l rest → Blank n' k' l' rest
room_left n n' k k' l l' rest a b d blank =
    subst (λ (z : ℕ). Blank z k' l' rest) a (subst (λ (z : ℕ). Blank n z l' rest) b (subst (λ (z : ℕ). Blank n k z rest) d blank))

pub loop-call-preserved : goal.loop-call-preserved
loop-call-preserved g c =
    let i = c.loop-call.call-index in
    let calls = c.args.calls.now in
    let ts = vec_items c.loop-call.turns in
    let t = c.take_turn-turn.result in
    let s = c.args.segment.now in
    let u = c.loop-call.segment in
    let v = c.take_turn-turn.new.segment in
    let E = g.S.Segment.entries in
    let J = g.S.Segment.joining in
    let buffer = c.args.reply.now in
    let before = c.loop-call.reply in
    let after = c.take_turn-turn.new.reply in
    let inside : i < length calls = c.loop-call-test.true in
    let so_far = c.loop-call.invariant.3 in
    let joint = c.loop-call.invariant.5 in
    let own = OwnMade g.S.Segment.samples g.S.Segment.transfers g.S.Segment.answers g.S.Segment.entries in
    let done : length ts ≡ i = sym (length-map ts call_part) ∙ ap length c.loop-call.invariant.0 ∙ length-take i calls ∙ omega arith in
    let short : vec_len c.loop-call.turns < vec_capacity c.loop-call.turns = omega (arith, c.loop-call.turns.ok.0, done, c.loop-call.invariant.1) in
    let pushed : vec_items c.push.new.self ≡ ts ++ t ∷ [] = c.push.ensures.items ∙ ap (λ (b : Bool). cond b (ts ++ t ∷ []) ts) (c.push.ensures.succeeds short) in
    let next : TurnTaken (J s) (E u) before t after (E v) = subst (λ (o : Option JoinAnswer). TurnTaken o (E u) before t after (E v)) joint c.take_turn-turn.ensures.taken in
    let left = (last_room _ _ _ _ _ _ c.in-Some.ensures.items c.loop-call.invariant.2).1 in (
      ap (map call_part) pushed ∙ map-append call_part ts (t ∷ []) ∙ ap (λ (z : List Call). z ++ t.call ∷ []) c.loop-call.invariant.0
          ∙ ap (λ (z : Call). take i calls ++ z ∷ []) c.take_turn-turn.ensures.call ∙ sym (take_more calls i _ inside),
      omega (arith, c.push.ensures.capacity, c.loop-call.invariant.1),
      room_left _ _ _ _ _ _ _ (omega arith) (sym c.take_turn-turn.ensures.count) (sym c.take_turn-turn.auto.reply) left,
      subst (λ (z : List Turn). TurnsTaken (J s) (E s) buffer z after (E v)) (sym pushed) (taken_more (J s) (E s) buffer ts t (E u) before after (E v) so_far next),
      subst (λ (z : List Turn). OwnRun own s buffer (newest_first z) v) (sym pushed) (own_more (J s) (E s) buffer own s u v ts t (E u) before after (E v) so_far next c.loop-call.invariant.4 c.take_turn-turn.ensures.own),
      c.take_turn-turn.ensures.joint ∙ joint,
    )
