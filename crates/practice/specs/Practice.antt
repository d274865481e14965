-- The rule of the station for practice: its exact answer to each call, and every part of its next state.
-- Assumes nothing.
use Rattle.std.specs.Prelude.{◌≡◌, ℕ, true, cond, ◌↔◌, List, [], ◌∷◌, length, replicate, Some, None, Ok, Err, Option, Result, ◌==◌}
use Rattle.smbus.specs.declared.address.Address.{Address}
use Rattle.alert.specs.Alerts.{AfterAnswer, AfterClear, AfterRaise}
use Rattle.alert.specs.Bits.{has_bit}
use Rattle.alert.specs.Boxes.{armed_again, noted}
use Rattle.alert.specs.Conditions.{Empty, Has, Only}
use Rattle.alert.specs.Entries.{AsBuilt, address_of, frame_of, latched, mask_of, pulls, with_alert, with_box, with_frame, with_mask}
use Rattle.alert.specs.Frames.{frame_bytes}
use Rattle.alert.specs.declared.conditions.Conditions.{Conditions}
use Rattle.alert.specs.declared.entries.Entry.{Entry}
use Rattle.request.specs.Judging.{Judgement, judged}
use Rattle.request.specs.Replies.{read_reply}
use Rattle.request.specs.declared.forms.Form.{Form}
use Rattle.request.specs.declared.judging.Access.{Access}
use Rattle.request.specs.declared.judging.Access.TheVariants.{Send, Read, WriteByte, WriteWord}
use Rattle.request.specs.declared.requests.Request.{Request}
use Rattle.segment.specs.Faults.{raised_by}
use Rattle.segment.specs.Requesting.{AsStationFault, common_body, common_form}
use Rattle.segment.specs.declared.faults.StationFault.{StationFault}
use Rattle.segment.specs.declared.faults.StationFault.TheVariants.{UnknownCommand, WrongCounts, WrongCode, UnlawfulData, WordOutOfRange, MissingPin}
use Rattle.segment.specs.declared.samples.Sample.{Sample}
use Rattle.practice.specs.declared.stations.PracticeStation.{PracticeStation}

-- the entry after the box rule
abbrev pub ruled : Entry → Entry
ruled e = with_box e (noted e.blackbox (pulls e) (frame_of e))

-- what the station was built from stays
abbrev pub Kept : PracticeStation → PracticeStation → Type 0
Kept s t = (t.first ≡ s.first) × (t.mask ≡ s.mask)

-- ---- powering up

-- an entry as built: the first set is latched, the mask is the given one, the frame is twelve zero bytes, nothing is answered, and
-- the box rule has been applied to a new box
pub record AsFirst (address : Address) (first : Conditions) (mask : ℕ) (e : Entry) : Type 0 where
  pub at : e.address ≡ address
  pub set : latched e ≡ first
  pub word : mask_of e ≡ mask
  pub frame : frame_of e ≡ replicate 12 0
  pub built : AsBuilt e

-- powering up: the entry is as built, at the same address
abbrev pub Powers : PracticeStation → PracticeStation → Type 0
Powers s t = Kept s t × AsFirst s.entry.address s.first s.mask t.entry

-- ---- samples

-- the six words of a sample's frame
abbrev pub sample_words : Sample → List ℕ
sample_words a = a.vin ∷ a.vout ∷ a.iin ∷ a.vaux ∷ a.temperature ∷ a.pins ∷ []

-- the set has the conditions whose bits are 1 in a word
abbrev pub OfWord : ℕ → Conditions → Type 0
OfWord word set = (c : ℕ) → Has c set ↔ (has_bit c word ≡ true)

-- what a sample does: its pins are reported and latched, its words are the frame, and the box rule ends the call
abbrev pub Taken : Sample → Conditions → Entry → Entry → Type 0
Taken a set x y =
    OfWord a.pins set × AfterRaise set x.alert y.alert × (frame_of y ≡ frame_bytes (sample_words a))
    × (y ≡ ruled (with_frame (with_alert x y.alert) y.frame))

-- a sample is always accepted, and reports the set that it raises
abbrev pub Samples : PracticeStation → Sample → Result Conditions StationFault → PracticeStation → Type 0
Samples s a (Ok set) t = Kept s t × Taken a set s.entry t.entry
Samples s a (Err fault) t = ⊥

-- ---- transfers

-- what a request asks for, judged in a form if there is one
abbrev pub asked_in : Option Form → Request → ℕ → ℕ → Option Judgement
asked_in None q address wanted = None
asked_in (Some form) q address wanted = Some (judged form address q wanted)

-- what a request asks for, in the form of its command; beside the three of every station no command is known
abbrev pub asked : Request → ℕ → ℕ → Option Judgement
asked q address wanted = asked_in (common_form q.command) q address wanted

-- how many bytes a read of the mask or of the black box replies with
abbrev pub body_size : ℕ → ℕ
body_size command = cond (command == 0xd8) 2 13

-- refused by 4, with condition 1 alone
abbrev pub AsUnknown : StationFault → Type 0
AsUnknown (UnknownCommand set) = Only 1 set
AsUnknown (WrongCounts set) = ⊥
AsUnknown (WrongCode set) = ⊥
AsUnknown (UnlawfulData set) = ⊥
AsUnknown WordOutOfRange = ⊥
AsUnknown MissingPin = ⊥

-- an answer is a refusal of this sort
abbrev pub Refused : (StationFault → Type 0) → Result (ℕ × Conditions) StationFault → Type 0
Refused Sort (Ok answer) = ⊥
Refused Sort (Err fault) = Sort fault

-- an answer accepts: its reply is as long as was wanted, and its set is empty
abbrev pub Accepted : ℕ → Result (ℕ × Conditions) StationFault → Type 0
Accepted wanted (Ok answer) = (answer.0 ≡ wanted) × Empty answer.1
Accepted wanted (Err fault) = ⊥

-- what an access does to the reply buffer and the entry: a send clears, a read replies with the body of the command, a written word
-- is the mask; none of the three commands has a byte to write
abbrev pub Done : Access → ℕ → Entry → List ℕ → List ℕ → Entry → Type 0
Done Send command x before after y =
    (after ≡ before) × AfterClear y.alert × (y ≡ with_box (with_alert x y.alert) (armed_again x.blackbox))
Done Read command x before after y =
    (after ≡ read_reply (address_of x) command (common_body command x) (length before)) × (y ≡ x)
Done (WriteByte b) command x before after y = (after ≡ before) × (y ≡ x)
Done (WriteWord w) command x before after y = (after ≡ before) × (y ≡ with_mask x w)

-- what a request does, as it is judged, until the transfer ends: a refusal leaves all as it was
abbrev pub Served : Option Judgement → ℕ → Entry → List ℕ → Result (ℕ × Conditions) StationFault → List ℕ → Entry → Type 0
Served None command x before r after y = Refused AsUnknown r × (after ≡ before) × (y ≡ x)
Served (Some (Err refusal)) command x before r after y = Refused (AsStationFault refusal) r × (after ≡ before) × (y ≡ x)
Served (Some (Ok access)) command x before r after y = Accepted (length before) r × Done access command x before after y

-- how a transfer ends: a refusal latches the set that it raises, and then the box rule is applied
abbrev pub Concluded : Result (ℕ × Conditions) StationFault → Entry → Entry → Type 0
Concluded (Ok answer) x y = y ≡ ruled x
Concluded (Err fault) x y = AfterRaise (raised_by fault) x.alert y.alert × (y ≡ ruled (with_alert x y.alert))

-- a transfer: the request is served, and the transfer ends
abbrev pub Transfers : PracticeStation → Request → List ℕ → Result (ℕ × Conditions) StationFault → List ℕ → PracticeStation → Type 0
Transfers s q before r after t =
    Kept s t × ((between : Entry) × Served (asked q (address_of s.entry) (length before)) q.command s.entry before r after between × Concluded r between t.entry)

-- ---- alert reads

-- the answer to an alert read: each latched condition is answered, and the box rule ends the call
abbrev pub Answered : Entry → Entry → Type 0
Answered x y = AfterAnswer x.alert y.alert × (y ≡ ruled (with_alert x y.alert))

-- an alert read that the station answers: its entry answers, and what it was built from stays
abbrev pub Answers : PracticeStation → PracticeStation → Type 0
Answers s t = Kept s t × Answered s.entry t.entry
