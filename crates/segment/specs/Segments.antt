-- What a segment of any shape shows of a call: its meaning is its list of entries.
-- Assumes nothing.
use Rattle.std.specs.Prelude.{◌≡◌, ℕ, min, Bool, true, false, cond, ◌||◌, ◌⊎◌, List, [], ◌∷◌, ◌++◌, length, take, drop, Some, None, Ok, Err, Option, Result, ◌==◌, ◌≢◌, nat_lt}
use Rattle.smbus.specs.Address.{read_byte, write_byte}
use Rattle.smbus.specs.PacketErrorCode.{code_of}
use Rattle.alert.specs.Conditions.{Empty}
use Rattle.alert.specs.Entries.{AsBuilt, address_of, pulls}
use Rattle.alert.specs.declared.conditions.Conditions.{Conditions}
use Rattle.alert.specs.declared.entries.Entry.{Entry}
use Rattle.request.specs.Requests.{taken_apart}
use Rattle.request.specs.declared.requests.Request.{Request}
use Rattle.segment.specs.Stations as station
use Rattle.segment.specs.declared.faults.SegmentFault.{SegmentFault}
use Rattle.segment.specs.declared.faults.SegmentFault.TheVariants.{NoStation, NothingWritten, ShortBuffer, AlertCounts, NobodyPulls, Station}
use Rattle.segment.specs.declared.faults.StationFault.{StationFault}

-- ---- addresses

-- whether an entry of the list has the address
abbrev pub stands : ℕ → List Entry → Bool
stands a [] = false
stands a (x ∷ xs) = address_of x == a || stands a xs

-- whether a call reaches a station at the address: now exactly where one stands there
abbrev pub reached : ℕ → List Entry → Bool
reached a xs = stands a xs

-- whether an address stands on both sides
abbrev pub clash : List Entry → List Entry → Bool
clash [] right = false
clash (x ∷ left) right = stands (address_of x) right || clash left right

-- all addresses are unlike
abbrev pub Unlike : List Entry → Type 0
Unlike [] = Unit {0}
Unlike (x ∷ xs) = (stands (address_of x) xs ≡ false) × Unlike xs

-- ---- entries

-- P holds of each
abbrev pub All : (Entry → Type 0) → List Entry → Type 0
All P [] = Unit {0}
All P (x ∷ xs) = P x × All P xs

-- a segment as built: all addresses are unlike, and each station is as built
abbrev pub Built : List Entry → Type 0
Built xs = Unlike xs × All AsBuilt xs

-- an entry that a call leaves alone
abbrev pub Untouched : Entry → Entry → Type 0
Untouched x y = y ≡ x

-- R holds of the entries at each place
abbrev pub Each : (Entry → Entry → Type 0) → List Entry → List Entry → Type 0
Each R [] [] = Unit {0}
Each R [] (y ∷ ys) = ⊥
Each R (x ∷ xs) [] = ⊥
Each R (x ∷ xs) (y ∷ ys) = R x y × Each R xs ys

-- the first entry at the address changes as R says, and no other is touched
abbrev pub At : ℕ → (Entry → Entry → Type 0) → List Entry → List Entry → Type 0
At a R [] ys = ⊥
At a R (x ∷ xs) [] = ⊥
At a R (x ∷ xs) (y ∷ ys) =
    ((address_of x ≡ a) × R x y × Each Untouched xs ys) ⊎ ((address_of x ≢ a) × Untouched x y × At a R xs ys)

-- a call at an address: where it reaches no station, it is missed and nothing changes, else the first entry there changes as R says
abbrev pub CallAt : ℕ → Type 0 → (Entry → Entry → Type 0) → List Entry → List Entry → Type 0
CallAt a Missed R xs ys = ((reached a xs ≡ false) × Missed × (ys ≡ xs)) ⊎ At a R xs ys

-- ---- samples and transfers

-- the answer of a station, passed up
abbrev pub up : {A : Type 0} → Result A StationFault → Result A SegmentFault
up (Ok answer) = Ok answer
up (Err fault) = Err (Station fault)

-- a sample, at a station that it reached
abbrev pub SampledAt : Result Conditions SegmentFault → Entry → Entry → Type 0
SampledAt r x y = (s : Result Conditions StationFault) × (r ≡ up s) × station.Sampled x s y

-- a sample to an address of a segment
abbrev pub Sampled : ℕ → List Entry → Result Conditions SegmentFault → List Entry → Type 0
Sampled a xs r ys = CallAt a (r ≡ Err NoStation) (SampledAt r) xs ys

-- a transfer that the segment refuses changes nothing
abbrev pub Refused : SegmentFault → List ℕ → Result (ℕ × Conditions) SegmentFault → List ℕ → Type 0
Refused fault before r after = (r ≡ Err fault) × (after ≡ before)

-- a transfer that the station judges: it sees as much of the reply buffer as is wanted, and the rest stays
abbrev pub JudgedAt : Request → ℕ → List ℕ → Result (ℕ × Conditions) SegmentFault → List ℕ → Entry → Entry → Type 0
JudgedAt q wanted before r after x y =
    (s : Result (ℕ × Conditions) StationFault) × (part : List ℕ) × (r ≡ up s)
    × station.Transferred q x (take wanted before) s part y × (after ≡ part ++ drop wanted before)

-- the checks of a transfer before the station's own, in their order: something must be written, and the reply buffer must not be too short
abbrev pub Checked : Option Request → Bool → Type 0 → Type 0 → (Request → Type 0) → Type 0
Checked None short Unwritten Short Passed = Unwritten
Checked (Some q) true Unwritten Short Passed = Short
Checked (Some q) false Unwritten Short Passed = Passed q

-- a transfer, at a station that it reached
abbrev pub TransferredAt : List ℕ → ℕ → List ℕ → Result (ℕ × Conditions) SegmentFault → List ℕ → Entry → Entry → Type 0
TransferredAt written wanted before r after x y =
    Checked (taken_apart written) (nat_lt (length before) wanted) (Refused NothingWritten before r after × (y ≡ x)) (Refused ShortBuffer before r after × (y ≡ x))
    (λ q. JudgedAt q wanted before r after x y)

-- a transfer to an address of a segment
abbrev pub Transferred : ℕ → List ℕ → ℕ → List Entry → List ℕ → Result (ℕ × Conditions) SegmentFault → List ℕ → List Entry → Type 0
Transferred a written wanted xs before r after ys =
    CallAt a (Refused NoStation before r after) (TransferredAt written wanted before r after) xs ys

-- ---- alert reads

-- the lower of two addresses, if there is one
abbrev pub lower : Option ℕ → Option ℕ → Option ℕ
lower None b = b
lower (Some a) None = Some a
lower (Some a) (Some b) = Some (min a b)

-- the lowest address that pulls, if one does
abbrev pub lowest_pulling : List Entry → Option ℕ
lowest_pulling [] = None
lowest_pulling (x ∷ xs) = lower (cond (pulls x) (Some (address_of x)) None) (lowest_pulling xs)

-- an answer to an alert read, at a station that it reached
abbrev pub AnsweredAt : Result (Unit {0}) SegmentFault → Entry → Entry → Type 0
AnsweredAt r x y = (r ≡ Ok tt) × station.Answered x y

-- the station at an address answers an alert read
abbrev pub Answered : ℕ → List Entry → Result (Unit {0}) SegmentFault → List Entry → Type 0
Answered a xs r ys = CallAt a (r ≡ Err NoStation) (AnsweredAt r) xs ys

-- the reply to an alert read: the address for a write, and where two bytes are wanted the code over the alert response address for a read and that byte
abbrev pub alert_reply : ℕ → ℕ → List ℕ
alert_reply a wanted = write_byte a ∷ cond (wanted == 2) (code_of (read_byte 0x0c ∷ write_byte a ∷ []) ∷ []) []

-- an accepted answer: so many bytes of reply, and an empty set
abbrev pub Accepted : ℕ → Result (ℕ × Conditions) SegmentFault → Type 0
Accepted wanted (Ok answer) = (answer.0 ≡ wanted) × Empty answer.1
Accepted wanted (Err fault) = ⊥

-- the checks of an alert read, in their order: one byte or two must be wanted, the reply buffer must not be too short, some station must pull
abbrev pub AlertChecked : Bool → Bool → Option ℕ → Type 0 → Type 0 → Type 0 → (ℕ → Type 0) → Type 0
AlertChecked false short lowest Counts Short Nobody Passed = Counts
AlertChecked true true lowest Counts Short Nobody Passed = Short
AlertChecked true false None Counts Short Nobody Passed = Nobody
AlertChecked true false (Some a) Counts Short Nobody Passed = Passed a

-- an alert read of a segment: the lowest address that pulls answers, and no other entry changes
abbrev pub ReadsAlert : ℕ → List Entry → List ℕ → Result (ℕ × Conditions) SegmentFault → List ℕ → List Entry → Type 0
ReadsAlert wanted xs before r after ys =
    AlertChecked (wanted == 1 || wanted == 2) (nat_lt (length before) wanted) (lowest_pulling xs) (Refused AlertCounts before r after × (ys ≡ xs))
    (Refused ShortBuffer before r after × (ys ≡ xs)) (Refused NobodyPulls before r after × (ys ≡ xs))
    (λ a. Accepted wanted r × (after ≡ alert_reply a wanted ++ drop wanted before) × At a station.Answered xs ys)

-- ---- the line, and joins

-- whether some station pulls: the line is then low
abbrev pub some_pull : List Entry → Bool
some_pull [] = false
some_pull (x ∷ xs) = pulls x || some_pull xs

-- the entries of two joined sides: of both where no address clashes, else of the left side alone
abbrev pub joined_entries : Bool → List Entry → List Entry → List Entry
joined_entries both left right = cond both (left ++ right) left

-- entries written over the first places of a buffer, as many as fit
abbrev pub written_over : List Entry → List Entry → List Entry
written_over xs buffer = take (length buffer) xs ++ drop (length xs) buffer
