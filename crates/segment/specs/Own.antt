-- Where a call goes, by the stations' own rules: to the station at its address, on the left side or else on the right.
-- Assumes nothing.
use Rattle.std.specs.Prelude.{◌≡◌, ℕ, Bool, true, false, List, ◌++◌, length, take, drop, Some, Err, Option, Result, nat_lt}
use Rattle.alert.specs.declared.conditions.Conditions.{Conditions}
use Rattle.request.specs.Requests.{taken_apart}
use Rattle.request.specs.declared.requests.Request.{Request}
use Rattle.segment.specs.Segments.{Checked, Refused, up}
use Rattle.segment.specs.declared.faults.SegmentFault.{SegmentFault}
use Rattle.segment.specs.declared.faults.SegmentFault.TheVariants.{NoStation, NothingWritten, ShortBuffer}
use Rattle.segment.specs.declared.faults.StationFault.{StationFault}
use Rattle.segment.specs.declared.segments.JoinAnswer.{JoinAnswer}
use Rattle.segment.specs.declared.segments.JoinAnswer.TheVariants.{Joined, Clash}

-- a sample to one station: at its address, as the station's own rule says; elsewhere missed, and nothing changes
abbrev pub OwnSample : {S : Type 0} → Bool → (Result Conditions StationFault → Type 0) → Result Conditions SegmentFault → S → S → Type 0
OwnSample true rule r before after = (q : Result Conditions StationFault) × (r ≡ up q) × rule q
OwnSample false rule r before after = (r ≡ Err NoStation) × (after ≡ before)

-- a transfer to one station, likewise: what the station sees of the reply buffer is as much as is wanted
abbrev pub OwnTransfer : {S : Type 0} → Bool → List ℕ → ℕ → List ℕ
    → (Request → List ℕ → Result (ℕ × Conditions) StationFault → List ℕ → Type 0) → Result (ℕ × Conditions) SegmentFault → List ℕ → S → S → Type 0
OwnTransfer false written wanted buffer rule r reply before after = Refused NoStation buffer r reply × (after ≡ before)
OwnTransfer true written wanted buffer rule r reply before after =
    Checked (taken_apart written) (nat_lt (length buffer) wanted) (Refused NothingWritten buffer r reply × (after ≡ before)) (Refused ShortBuffer buffer r reply × (after ≡ before))
    (λ q. (s : Result (ℕ × Conditions) StationFault) × (part : List ℕ) × (r ≡ up s) × rule q (take wanted buffer) s part × (reply ≡ part ++ drop wanted buffer))

-- the answer of one station to an alert read, likewise
abbrev pub OwnAnswer : {S : Type 0} → Bool → Type 0 → S → S → Type 0
OwnAnswer true rule before after = rule
OwnAnswer false rule before after = after ≡ before

-- a call to a join: the left side's rule where the address stands on the left, else the right side's if the join has both; the other side is unchanged
abbrev pub OnSide : Bool → Bool → Type 0 → Type 0 → Type 0 → Type 0 → Type 0
OnSide true both left right left_same right_same = left × right_same
OnSide false true left right left_same right_same = right × left_same
OnSide false false left right left_same right_same = left × right_same

-- what a join answers about itself
abbrev pub side_answer : Bool → Option JoinAnswer
side_answer true = Some Joined
side_answer false = Some Clash
