-- One byte more, and the ways out where the line spells none.
use Rattle.std.proofs.Common.{◌≡◌, ◌++◌, length, vec_items, ap, ◌∙◌, subst, arith, rules, ◌<◌, ◌≤◌}
use Rattle.std.specs.Slice.Iter.{chunks_rest}
use Rattle.pec_vectors.specs.Hexadecimal.{Hexadecimal}
use Rattle.pec_vectors.proofs.Spelling.{no_pair, no_single, pair_is, rest_hexadecimal}
use Rattle.pec_vectors.proofs.hexadecimal.message.Goals as goal
use Rattle.pec_vectors.proofs.hexadecimal.message.Goals.{In-Some, in_default-via-then-pair-lt2, in_default-via-else-pair-lt2+else-pair-lt3}

-- what is left of a line that spells bytes spells bytes
left : (c : In-Some) → Hexadecimal c.args.line.now → Hexadecimal (chunks_rest c.loop-pair.pair-iterator)
left c h = rest_hexadecimal (vec_items c.loop-pair.bytes) (chunks_rest c.loop-pair.pair-iterator) (subst Hexadecimal c.loop-pair.invariant.3 h)

pub returns-in_default : goal.returns-in_default
returns-in_default c =
    λ h.
    let steps = c.in-Some.ensures.steps in
    let size = c.loop-pair.invariant.2 in
    let one : length (chunks_rest c.loop-pair.pair-iterator) ≡ 1 =
    elim c.in_default.branch [
      | in_default-via-then-pair-lt2 w ↦ let short : length c.in-Some.pair.now < 2 = search rules in omega (arith, short, size, steps.1.1, steps.1.2)
      | in_default-via-else-pair-lt2+else-pair-lt3 w ↦ let long : 3 ≤ length c.in-Some.pair.now = search rules in omega (arith, long, size, steps.1.1)
    ] in
    no_single _ one (left (goal.at.returns-in_default c).In-Some h)

pub returns-in_default-hex_byte : goal.returns-in_default-hex_byte
returns-in_default-hex_byte c =
    λ h.
    let pair = pair_is c.in-Some.pair.now (omega (arith, c.in-len2.len_at_least, c.in-len2.len_below)) in
    let rest = c.in-Some.ensures.steps.1.0 ∙ ap (λ l. l ++ chunks_rest c.next.new.self) pair in
    no_pair _ _ _ c.in_default-hex_byte.ensures.spells (subst Hexadecimal rest (left (goal.at.returns-in_default-hex_byte c).In-Some h))
