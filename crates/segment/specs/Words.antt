-- What is printed of who refused, of a refusal, and of a join's answer.
-- Assumes nothing.
use Rattle.std.specs.Prelude.{ℕ, List, codes}
use Rattle.segment.specs.declared.faults.Layer.{Layer}
use Rattle.segment.specs.declared.faults.Layer.TheVariants as layer
use Rattle.segment.specs.declared.faults.StationFault.{StationFault}
use Rattle.segment.specs.declared.faults.StationFault.TheVariants.{UnknownCommand, WrongCounts, WrongCode, UnlawfulData, WordOutOfRange, MissingPin}
use Rattle.segment.specs.declared.faults.SegmentFault.{SegmentFault}
use Rattle.segment.specs.declared.faults.SegmentFault.TheVariants.{NoStation, NothingWritten, ShortBuffer, AlertCounts, NobodyPulls, Station}
use Rattle.segment.specs.declared.segments.JoinAnswer.{JoinAnswer}
use Rattle.segment.specs.declared.segments.JoinAnswer.TheVariants.{Joined, Clash}

-- who refused: the number of the layer, and its name
abbrev pub layer_words : Layer → List ℕ
layer_words layer.Segment = codes "layer 2, the segment"
layer_words layer.Station = codes "layer 3, the station"

-- why a station refuses
abbrev pub station_words : StationFault → List ℕ
station_words (UnknownCommand set) = codes "unknown command"
station_words (WrongCounts set) = codes "wrong counts"
station_words (WrongCode set) = codes "wrong packet error code"
station_words (UnlawfulData set) = codes "unlawful data"
station_words WordOutOfRange = codes "a word is out of range"
station_words MissingPin = codes "no such pin"

-- why a call is refused: a station's refusal in the station's own words
abbrev pub segment_words : SegmentFault → List ℕ
segment_words NoStation = codes "no station at that address"
segment_words NothingWritten = codes "nothing is written"
segment_words ShortBuffer = codes "the reply buffer is too short"
segment_words AlertCounts = codes "an alert read wants one byte or two"
segment_words NobodyPulls = codes "nobody pulls"
segment_words (Station fault) = station_words fault

-- what a join answers: the number of the answer, and what it says
abbrev pub join_words : JoinAnswer → List ℕ
join_words Joined = codes "0, both sides are joined"
join_words Clash = codes "12, an address stands on both sides: the left side alone"
