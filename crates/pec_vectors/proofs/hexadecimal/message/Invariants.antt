-- The line is what the bytes so far spell, and the pieces that are left.
use Rattle.std.proofs.Common.{◌≡◌, ◌++◌, vec_items}
use Rattle.std.specs.Slice.Iter.{chunks_rest, chunks_size}
use Rattle.pec_vectors.specs.Hexadecimal.{spelled}
use Rattle.pec_vectors.proofs.hexadecimal.message.Given as goal

abbrev pub invariant-loop-pair : goal.invariant-loop-pair
invariant-loop-pair l =
    (goal.iterator-loop-pair).can_next l.pair-iterator
    × (goal.iterator-loop-pair).is_finite l.pair-iterator
    × (chunks_size l.pair-iterator ≡ 2)
    × (l.line ≡ spelled (vec_items l.bytes) ++ chunks_rest l.pair-iterator)
