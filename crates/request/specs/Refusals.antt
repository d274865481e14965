-- The numbers of the refusals of a transfer.
-- Assumes nothing.
use Rattle.std.specs.Prelude.{ℕ}
use Rattle.request.specs.declared.refusals.RequestRefusal.{RequestRefusal}
use Rattle.request.specs.declared.refusals.RequestRefusal.TheVariants.{Counts, Code}

-- the number that stands for a refusal
abbrev pub number_of : RequestRefusal → ℕ
number_of Counts = 5
number_of Code = 6
