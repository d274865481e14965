-- Turns taken one after the other: the next one.
-- Assumes nothing.
use Rattle.std.proofs.Common.{◌≡◌, ℕ, List, [], ◌∷◌, ◌++◌, map, reverse, vec_items, Option, sym, refl, ap, ◌∙◌, subst}
use mathlib.Core.List.{map-append, reverse-append}
use Rattle.alert.specs.declared.entries.Entry.{Entry}
use Rattle.segment.specs.declared.segments.JoinAnswer.{JoinAnswer}
use Rattle.history.specs.Histories.{Chain, Follows, Made}
use Rattle.history.specs.Law.{shown_at}
use Rattle.history.specs.Memory.{TurnTaken, TurnsTaken}
use Rattle.history.specs.Recorded.{OwnRun, call_of, newest_first, reply_at, shown_now, turn_of}
use Rattle.history.specs.Turns as turn
use Rattle.history.specs.Turns.{Called}
use Rattle.history.specs.declared.calls.Answer.{Answer}
use Rattle.history.specs.declared.moments.Turn.{Turn}

-- ---- one turn more

-- a turn that is written down last is the newest
newest_more : (ts : List Turn) (t : Turn) → newest_first (ts ++ t ∷ []) ≡ turn_of t ∷ newest_first ts
newest_more ts t = ap reverse (map-append turn_of ts (t ∷ [])) ∙ reverse-append (map turn_of ts) (turn_of t ∷ [])

follows : (joining : Option JoinAnswer) (m n : turn.Moment) (call : Called) (answer : Answer) (xs : List Entry) (before after : List ℕ) (ys : List Entry)
    → m ≡ shown_now xs before → n ≡ shown_now ys after → Made joining call answer xs before after ys
    → Follows joining m (record { call = call; answer = answer; after = n })
follows joining m n call answer xs before after ys e f made =
    subst (λ (k : turn.Moment). Follows joining k (record { call = call; answer = answer; after = n })) (sym e)
    (subst (λ (k : turn.Moment). Follows joining (shown_now xs before) (record { call = call; answer = answer; after = k })) (sym f) (made, refl))

module _ (joining : Option JoinAnswer) (first : List Entry) (buffer : List ℕ) where
  pub taken_more : (ts : List Turn) (t : Turn) (xs : List Entry) (before after : List ℕ) (ys : List Entry) → TurnsTaken joining first buffer ts before xs
      → TurnTaken joining xs before t after ys → TurnsTaken joining first buffer (ts ++ t ∷ []) after ys
  taken_more ts t xs before after ys so_far next = record {
    chain = subst (Chain joining (shown_now first buffer)) (sym (newest_more ts t))
        (so_far.chain, follows joining _ _ _ _ xs before after ys so_far.end next.shown next.made);
    end = subst (λ (h : List turn.Turn). shown_at (shown_now first buffer) h ≡ shown_now ys after) (sym (newest_more ts t)) next.shown;
  }

  -- the reply buffer at the end of the turns so far
  reply_shown : (h : List turn.Turn) → reply_at buffer h ≡ (shown_at (shown_now first buffer) h).reply
  reply_shown [] = refl
  reply_shown (t ∷ h) = refl

  -- and by the own rules
  pub own_more : {S : Type 0} (own : Called → Answer → S → List ℕ → List ℕ → S → Type 0) (s u v : S) (ts : List Turn) (t : Turn) (xs : List Entry)
      (before after : List ℕ) (ys : List Entry) → TurnsTaken joining first buffer ts before xs → TurnTaken joining xs before t after ys
      → OwnRun own s buffer (newest_first ts) u → own (call_of t.call) t.answer u before after v → OwnRun own s buffer (newest_first (ts ++ t ∷ [])) v
  own_more own s u v ts t xs before after ys so_far next ran rule =
      let was : before ≡ reply_at buffer (newest_first ts) = sym (reply_shown (newest_first ts) ∙ ap (λ (m : turn.Moment). m.reply) so_far.end) in
      let is : after ≡ vec_items t.after.reply = sym (ap (λ (m : turn.Moment). m.reply) next.shown) in
      subst (λ (h : List turn.Turn). OwnRun own s buffer h v) (sym (newest_more ts t))
      (u, ran, subst (λ (k : List ℕ). own (call_of t.call) t.answer u (reply_at buffer (newest_first ts)) k v) is (subst (λ (k : List ℕ). own (call_of t.call) t.answer u k after v) was rule))
