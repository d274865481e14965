-- So many moments so far.
use Rattle.std.proofs.Common.{length, vec_items}
use Rattle.history.specs.Memory.{Blank}
use Rattle.history.proofs.memory.blank_moments.Given as goal

abbrev pub invariant-loop-index : goal.invariant-loop-index
invariant-loop-index l = Blank l._index l.stations (length l.reply) (vec_items l.moments)
