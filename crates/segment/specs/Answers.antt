-- What an answer says: who refused, the number of a join's answer, an address as a number.
-- Assumes nothing.
use Rattle.std.specs.Prelude.{ℕ, Bool, true, false, Some, None, Ok, Err, Option, Result}
use Rattle.smbus.specs.declared.address.Address.{Address}
use Rattle.segment.specs.declared.faults.SegmentFault.{SegmentFault}
use Rattle.segment.specs.declared.faults.SegmentFault.TheVariants.{NoStation, NothingWritten, ShortBuffer, AlertCounts, NobodyPulls, Station}
use Rattle.segment.specs.declared.segments.JoinAnswer.{JoinAnswer}
use Rattle.segment.specs.declared.segments.JoinAnswer.TheVariants.{Joined, Clash}

-- the call is refused by the segment itself, so that no station judged it
abbrev pub BySegment : {A : Type 0} → Result A SegmentFault → Type 0
BySegment (Ok answer) = ⊥
BySegment (Err NoStation) = Unit {0}
BySegment (Err NothingWritten) = Unit {0}
BySegment (Err ShortBuffer) = Unit {0}
BySegment (Err AlertCounts) = Unit {0}
BySegment (Err NobodyPulls) = Unit {0}
BySegment (Err (Station fault)) = ⊥

-- whether the call reached no station
abbrev pub is_missed : {A : Type 0} → Result A SegmentFault → Bool
is_missed (Ok answer) = false
is_missed (Err NoStation) = true
is_missed (Err NothingWritten) = false
is_missed (Err ShortBuffer) = false
is_missed (Err AlertCounts) = false
is_missed (Err NobodyPulls) = false
is_missed (Err (Station fault)) = false

-- the number of a join's answer
abbrev pub join_number : JoinAnswer → ℕ
join_number Joined = 0
join_number Clash = 12

-- an address, if there is one, as a number
abbrev pub address_in : Option Address → Option ℕ
address_in None = None
address_in (Some address) = Some address.byte
