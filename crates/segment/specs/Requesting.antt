-- The three commands that every station serves: clear, the mask, and the black box.
-- Assumes nothing.
use Rattle.std.specs.Prelude.{◌≡◌, ℕ, ◌/◌, ◌%◌, Bool, cond, List, [], ◌∷◌, Some, None, Ok, Err, Option, Result, ◌==◌}
use Rattle.alert.specs.Conditions.{Only}
use Rattle.alert.specs.Entries.{address_of, box_of, mask_of}
use Rattle.alert.specs.declared.conditions.Conditions.{Conditions}
use Rattle.alert.specs.declared.entries.Entry.{Entry}
use Rattle.request.specs.Judging.{Judgement, judged, word}
use Rattle.request.specs.Replies.{read_reply}
use Rattle.request.specs.declared.forms.Form.{Form}
use Rattle.request.specs.declared.forms.Form.TheVariants.{SendByte, WordRegister, BlockRead}
use Rattle.request.specs.declared.judging.Access.TheVariants.{Send, Read, WriteByte, WriteWord}
use Rattle.request.specs.declared.refusals.RequestRefusal.{RequestRefusal}
use Rattle.request.specs.declared.refusals.RequestRefusal.TheVariants.{Counts, Code}
use Rattle.request.specs.declared.requests.DataBytes.{DataBytes}
use Rattle.request.specs.declared.requests.DataBytes.TheVariants.{Nothing, One, Two, Three, Longer}
use Rattle.request.specs.declared.requests.Request.{Request}
use Rattle.segment.specs.declared.faults.StationFault.{StationFault}
use Rattle.segment.specs.declared.faults.StationFault.TheVariants.{UnknownCommand, WrongCounts, WrongCode, UnlawfulData, WordOutOfRange, MissingPin}

-- the form of each of the three: 03h clears, D8h reads or writes the mask word, E0h reads the black box
abbrev pub common_form : ℕ → Option Form
common_form command =
    cond (command == 0x03) (Some SendByte) (cond (command == 0xd8) (Some WordRegister) (cond (command == 0xe0) (Some (BlockRead 12)) None))

-- what a read of the mask or of the black box replies: the word low byte first; the count 0Ch and the twelve bytes
abbrev pub common_body : ℕ → Entry → List ℕ
common_body command e = cond (command == 0xd8) (mask_of e % 256 ∷ mask_of e / 256 ∷ []) (12 ∷ box_of e)

-- whether an accepted request clears
abbrev pub is_clear : Request → Bool
is_clear q = q.command == 0x03

-- the word that data bytes write to a word register, if they do
abbrev pub word_of_data : DataBytes → Option ℕ
word_of_data Nothing = None
word_of_data (One x) = None
word_of_data (Two low high) = Some (word low high)
word_of_data (Three low high code) = Some (word low high)
word_of_data Longer = None

-- the word that an accepted request writes to the mask, if it does
abbrev pub mask_word : Request → Option ℕ
mask_word q = cond (q.command == 0xd8) (word_of_data q.data_bytes) None

-- a transfer is accepted
abbrev pub Accepted : Result (ℕ × Conditions) StationFault → Type 0
Accepted (Ok p) = Unit {0}
Accepted (Err fault) = ⊥

-- a request that is refused is a transfer refused by the station with the same number, which raises condition 1 alone
abbrev pub AsStationFault : RequestRefusal → StationFault → Type 0
AsStationFault Counts (WrongCounts set) = Only 1 set
AsStationFault Counts (UnknownCommand set) = ⊥
AsStationFault Counts (WrongCode set) = ⊥
AsStationFault Counts (UnlawfulData set) = ⊥
AsStationFault Counts WordOutOfRange = ⊥
AsStationFault Counts MissingPin = ⊥
AsStationFault Code (WrongCode set) = Only 1 set
AsStationFault Code (UnknownCommand set) = ⊥
AsStationFault Code (WrongCounts set) = ⊥
AsStationFault Code (UnlawfulData set) = ⊥
AsStationFault Code WordOutOfRange = ⊥
AsStationFault Code MissingPin = ⊥

-- a transfer is refused as a request is
abbrev pub RefusedAs : RequestRefusal → Result (ℕ × Conditions) StationFault → Type 0
RefusedAs refusal (Ok p) = ⊥
RefusedAs refusal (Err fault) = AsStationFault refusal fault

-- the answer to a request of one of the three commands, as it is judged: refused by its counts or its code, else accepted, and a
-- read replies with its body, and the code where one byte more is wanted
abbrev pub Served : Judgement → Request → Entry → ℕ → Result (ℕ × Conditions) StationFault → List ℕ → Type 0
Served (Err refusal) q x wanted r reply = RefusedAs refusal r
Served (Ok Send) q x wanted r reply = Accepted r
Served (Ok Read) q x wanted r reply = Accepted r × (reply ≡ read_reply (address_of x) q.command (common_body q.command x) wanted)
Served (Ok (WriteByte b)) q x wanted r reply = Accepted r
Served (Ok (WriteWord w)) q x wanted r reply = Accepted r

-- what is owed to every host, whatever the make of the station
abbrev pub Owed : Request → Entry → ℕ → Result (ℕ × Conditions) StationFault → List ℕ → Type 0
Owed q x wanted r reply = in_form (common_form q.command)
  where
    in_form : Option Form → Type 0
    in_form None = Unit {0}
    in_form (Some form) = Served (judged form (address_of x) q wanted) q x wanted r reply
