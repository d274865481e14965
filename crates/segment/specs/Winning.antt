-- Who answers an alert read, by the stations' own rule.
-- Assumes nothing.
use Rattle.std.specs.Prelude.{◌≡◌, ℕ, Some, Ok, Err, Option, Result}
use Rattle.alert.specs.declared.conditions.Conditions.{Conditions}
use Rattle.segment.specs.declared.faults.SegmentFault.{SegmentFault}

-- an accepted alert read is answered by the lowest address, as its station's own rule says; a refused one changes nothing
abbrev pub Won : {S : Type 0} → (ℕ → S → Type 0) → Option ℕ → Result (ℕ × Conditions) SegmentFault → S → S → Type 0
Won answers lowest (Ok answer) before after = (a : ℕ) × (lowest ≡ Some a) × answers a after
Won answers lowest (Err fault) before after = after ≡ before
