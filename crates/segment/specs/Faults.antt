-- The numbers and layers of refusals, and the sets that they raise.
-- Assumes nothing.
use Rattle.std.specs.Prelude.{ℕ, ◌↔◌}
use Rattle.std.proofs.Common.{lit<}
use Rattle.alert.specs.declared.conditions.Conditions.{Conditions}
use Rattle.alert.specs.Conditions.{Has}
use Rattle.segment.specs.declared.faults.Layer.{Layer}
use Rattle.segment.specs.declared.faults.Layer.TheVariants as layer
use Rattle.segment.specs.declared.faults.StationFault.{StationFault}
use Rattle.segment.specs.declared.faults.StationFault.TheVariants.{UnknownCommand, WrongCounts, WrongCode, UnlawfulData, WordOutOfRange, MissingPin}
use Rattle.segment.specs.declared.faults.SegmentFault.{SegmentFault}
use Rattle.segment.specs.declared.faults.SegmentFault.TheVariants.{NoStation, NothingWritten, ShortBuffer, AlertCounts, NobodyPulls, Station}

-- the set of no condition
abbrev pub no_conditions : Conditions
no_conditions = record { bits = 0; few = lit< tt }

-- two sets have the same conditions
abbrev pub Same : Conditions → Conditions → Type 0
Same a b = (c : ℕ) → Has c a ↔ Has c b

-- the number of a refusal by a station
abbrev pub station_number : StationFault → ℕ
station_number (UnknownCommand set) = 4
station_number (WrongCounts set) = 5
station_number (WrongCode set) = 6
station_number (UnlawfulData set) = 7
station_number WordOutOfRange = 8
station_number MissingPin = 9

-- the set that it raises: a refused sample raises nothing
abbrev pub raised_by : StationFault → Conditions
raised_by (UnknownCommand set) = set
raised_by (WrongCounts set) = set
raised_by (WrongCode set) = set
raised_by (UnlawfulData set) = set
raised_by WordOutOfRange = no_conditions
raised_by MissingPin = no_conditions

-- a transfer is refused by 4 to 7
abbrev pub OfTransfer : StationFault → Type 0
OfTransfer (UnknownCommand set) = Unit {0}
OfTransfer (WrongCounts set) = Unit {0}
OfTransfer (WrongCode set) = Unit {0}
OfTransfer (UnlawfulData set) = Unit {0}
OfTransfer WordOutOfRange = ⊥
OfTransfer MissingPin = ⊥

-- a sample is refused by 8 or 9
abbrev pub OfSample : StationFault → Type 0
OfSample (UnknownCommand set) = ⊥
OfSample (WrongCounts set) = ⊥
OfSample (WrongCode set) = ⊥
OfSample (UnlawfulData set) = ⊥
OfSample WordOutOfRange = Unit {0}
OfSample MissingPin = Unit {0}

-- the number of a refusal
abbrev pub segment_number : SegmentFault → ℕ
segment_number NoStation = 1
segment_number NothingWritten = 2
segment_number ShortBuffer = 3
segment_number AlertCounts = 5
segment_number NobodyPulls = 10
segment_number (Station fault) = station_number fault

-- who refused: the segment, or the station
abbrev pub layer_of : SegmentFault → Layer
layer_of NoStation = layer.Segment
layer_of NothingWritten = layer.Segment
layer_of ShortBuffer = layer.Segment
layer_of AlertCounts = layer.Segment
layer_of NobodyPulls = layer.Segment
layer_of (Station fault) = layer.Station

-- the number of who refused: 2 the segment, 3 the station
abbrev pub layer_number : Layer → ℕ
layer_number layer.Segment = 2
layer_number layer.Station = 3

-- the set that it raises: only a station's refusal raises anything
abbrev pub segment_raised : SegmentFault → Conditions
segment_raised NoStation = no_conditions
segment_raised NothingWritten = no_conditions
segment_raised ShortBuffer = no_conditions
segment_raised AlertCounts = no_conditions
segment_raised NobodyPulls = no_conditions
segment_raised (Station fault) = raised_by fault
