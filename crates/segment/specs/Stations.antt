-- What every station shows of a call, whatever its make.
-- Assumes nothing.
use Rattle.std.specs.Prelude.{◌≡◌, ℕ, Bool, true, false, cond, List, length, Some, None, Ok, Err, Option, Result}
use Rattle.alert.specs.Alerts.{AfterAnswer, AfterClear, AfterRaise}
use Rattle.alert.specs.Boxes.{armed_again}
use Rattle.alert.specs.Conditions.{Empty, Only}
use Rattle.alert.specs.Entries.{AsBuilt, Boxed, mask_of}
use Rattle.alert.specs.declared.alerts.AlertRecord.{AlertRecord}
use Rattle.alert.specs.declared.conditions.Conditions.{Conditions}
use Rattle.alert.specs.declared.entries.Entry.{Entry}
use Rattle.request.specs.declared.requests.Request.{Request}
use Rattle.segment.specs.Faults.{OfSample, OfTransfer, raised_by}
use Rattle.segment.specs.Requesting.{Owed, is_clear, mask_word}
use Rattle.segment.specs.declared.faults.StationFault.{StationFault}

-- ---- building

-- a station powered up is as built, and keeps its address
pub record Powered (x y : Entry) : Type 0 where
  pub address : y.address ≡ x.address
  pub built : AsBuilt y

-- ---- samples

-- a set is latched in addition, and nothing else of the entry changes but the frame, and the box by its rule
pub record Raised (set : Conditions) (x y : Entry) : Type 0 where
  pub address : y.address ≡ x.address
  pub sets : AfterRaise set x.alert y.alert
  pub mask : mask_of y ≡ mask_of x
  pub boxed : Boxed x.blackbox y

-- an accepted sample reports exactly the set that it raises; a refused one changes no part of the entry
abbrev pub Sampled : Entry → Result Conditions StationFault → Entry → Type 0
Sampled x (Ok set) y = Raised set x y
Sampled x (Err fault) y = OfSample fault × (y ≡ x)

-- ---- transfers

-- an accepted clear empties both sets; any other accepted transfer leaves them
abbrev pub AfterTransfer : Bool → AlertRecord → AlertRecord → Type 0
AfterTransfer true x y = AfterClear y
AfterTransfer false x y = y ≡ x

-- the word if there is one, else what there was
abbrev pub else : ℕ → Option ℕ → ℕ
else was None = was
else was (Some word) = word

-- an accepted transfer: reports an empty set, and its reply is as long as was wanted
pub record Performed (q : Request) (x : Entry) (wanted : ℕ) (answer : ℕ × Conditions) (y : Entry) : Type 0 where
  pub length : answer.0 ≡ wanted
  pub silent : Empty answer.1
  pub address : y.address ≡ x.address
  pub sets : AfterTransfer (is_clear q) x.alert y.alert
  pub mask : mask_of y ≡ else (mask_of x) (mask_word q)
  pub boxed : Boxed (cond (is_clear q) (armed_again x.blackbox) x.blackbox) y

-- a transfer that the station refuses: reports condition 1 alone and latches it, and leaves the reply buffer as it was
pub record Rejected (fault : StationFault) (x : Entry) (before after : List ℕ) (y : Entry) : Type 0 where
  pub kind : OfTransfer fault
  pub only : Only 1 (raised_by fault)
  pub raised : Raised (raised_by fault) x y
  pub reply : after ≡ before

-- the effect of a transfer on the entry and on the reply buffer, which is as long as the wanted count
abbrev pub Effect : Request → Entry → List ℕ → Result (ℕ × Conditions) StationFault → List ℕ → Entry → Type 0
Effect q x before (Ok answer) after y = Performed q x (length before) answer y
Effect q x before (Err fault) after y = Rejected fault x before after y

-- what every station shows of a transfer: the effect, and what is owed to every host
abbrev pub Transferred : Request → Entry → List ℕ → Result (ℕ × Conditions) StationFault → List ℕ → Entry → Type 0
Transferred q x before r after y = Effect q x before r after y × Owed q x (length before) r after

-- ---- alert reads

-- the station that answers an alert read: its answered set becomes its latched set
pub record Answered (x y : Entry) : Type 0 where
  pub address : y.address ≡ x.address
  pub sets : AfterAnswer x.alert y.alert
  pub mask : mask_of y ≡ mask_of x
  pub boxed : Boxed x.blackbox y
