-- What a transfer asks for, or why it is refused: first its counts, then a written code.
-- Assumes nothing.
use Rattle.std.specs.Prelude.{◌≡◌, ℕ, ◌+◌, ◌*◌, cond, List, [], ◌∷◌, Some, None, Ok, Err, Option, Result, ◌==◌}
use Rattle.smbus.specs.PacketErrorCode.{EndsInCode, code_of, write_message}
use Rattle.request.specs.Forms.{CodeWritten, is_whole}
use Rattle.request.specs.Requests.{written_bytes}
use Rattle.request.specs.declared.forms.Form.{Form}
use Rattle.request.specs.declared.forms.Form.TheVariants.{SendByte, ReadByte, ReadWord, ByteRegister, WordRegister, BlockRead}
use Rattle.request.specs.declared.judging.Access.{Access}
use Rattle.request.specs.declared.judging.Access.TheVariants.{Send, Read, WriteByte, WriteWord}
use Rattle.request.specs.declared.refusals.RequestRefusal.{RequestRefusal}
use Rattle.request.specs.declared.refusals.RequestRefusal.TheVariants.{Counts, Code}
use Rattle.request.specs.declared.requests.DataBytes.{DataBytes}
use Rattle.request.specs.declared.requests.DataBytes.TheVariants.{Nothing, One, Two, Three, Longer}
use Rattle.request.specs.declared.requests.Request.{Request}

-- an access, or the reason why there is none
abbrev pub Judgement : Type 0
Judgement = Result Access RequestRefusal

-- two bytes as a word, low byte first
abbrev pub word : ℕ → ℕ → ℕ
word low high = low + 256 * high

-- a read of a reply of a size
abbrev pub read : ℕ → DataBytes → ℕ → Judgement
read size Nothing wanted = cond (is_whole size wanted) (Ok Read) (Err Counts)
read size (One x) wanted = Err Counts
read size (Two x y) wanted = Err Counts
read size (Three x y z) wanted = Err Counts
read size Longer wanted = Err Counts

-- an access whose code is written: over the address and the written bytes before the code
abbrev pub coded : ℕ → List ℕ → ℕ → Access → Judgement
coded address before code access = cond (code == code_of (write_message address before)) (Ok access) (Err Code)

-- a send: no data byte
abbrev pub sent : ℕ → ℕ → DataBytes → Judgement
sent address command Nothing = Ok Send
sent address command (One code) = coded address (command ∷ []) code Send
sent address command (Two x y) = Err Counts
sent address command (Three x y z) = Err Counts
sent address command Longer = Err Counts

-- a write of a byte
abbrev pub byte_written : ℕ → ℕ → DataBytes → Judgement
byte_written address command Nothing = Err Counts
byte_written address command (One x) = Ok (WriteByte x)
byte_written address command (Two x code) = coded address (command ∷ x ∷ []) code (WriteByte x)
byte_written address command (Three x y z) = Err Counts
byte_written address command Longer = Err Counts

-- a write of a word
abbrev pub word_written : ℕ → ℕ → DataBytes → Judgement
word_written address command Nothing = Err Counts
word_written address command (One x) = Err Counts
word_written address command (Two low high) = Ok (WriteWord (word low high))
word_written address command (Three low high code) = coded address (command ∷ low ∷ high ∷ []) code (WriteWord (word low high))
word_written address command Longer = Err Counts

-- a send or a write in a form
abbrev pub written_in : Form → ℕ → ℕ → DataBytes → Judgement
written_in SendByte address command bytes = sent address command bytes
written_in ByteRegister address command bytes = byte_written address command bytes
written_in WordRegister address command bytes = word_written address command bytes
written_in ReadByte address command bytes = Err Counts
written_in ReadWord address command bytes = Err Counts
written_in (BlockRead n) address command bytes = Err Counts

-- the data bytes before the last
abbrev pub before_last : DataBytes → List ℕ
before_last Nothing = []
before_last (One x) = []
before_last (Two x y) = x ∷ []
before_last (Three x y z) = x ∷ y ∷ []
before_last Longer = []

-- an access and the code that ends its bytes, where they end in one: refused where that is not the code of the bytes before it
abbrev pub checked : ℕ → List ℕ → Option (Access × Option ℕ) → Judgement
checked address before None = Err Counts
checked address before (Some (access, None)) = Ok access
checked address before (Some (access, Some code)) = coded address before code access

-- at every address and with every command this is what the data bytes send or write in a form
abbrev pub MeansWritten : Form → DataBytes → Option (Access × Option ℕ) → Type 0
MeansWritten form bytes found =
    (address command : ℕ) → checked address (command ∷ before_last bytes) found ≡ written_in form address command bytes

-- a send or a write, with which nothing is wanted
abbrev pub unless_wanted : ℕ → Judgement → Judgement
unless_wanted wanted written = cond (wanted == 0) written (Err Counts)

-- a register is read where no data byte is written, and written otherwise
abbrev pub register : DataBytes → Judgement → Judgement → Judgement
register Nothing reading writing = reading
register (One x) reading writing = writing
register (Two x y) reading writing = writing
register (Three x y z) reading writing = writing
register Longer reading writing = writing

-- what the request asks for, in a form, at an address, with so many bytes wanted
abbrev pub judged : Form → ℕ → Request → ℕ → Judgement
judged SendByte address r wanted = unless_wanted wanted (sent address r.command r.data_bytes)
judged ReadByte address r wanted = read 1 r.data_bytes wanted
judged ReadWord address r wanted = read 2 r.data_bytes wanted
judged ByteRegister address r wanted =
    register r.data_bytes (read 1 r.data_bytes wanted)
    (unless_wanted wanted (byte_written address r.command r.data_bytes))
judged WordRegister address r wanted =
    register r.data_bytes (read 2 r.data_bytes wanted)
    (unless_wanted wanted (word_written address r.command r.data_bytes))
judged (BlockRead n) address r wanted = read (n + 1) r.data_bytes wanted

-- a code is written, and it is not the code of the address and the bytes before it
abbrev pub HasWrongCode : Form → ℕ → Request → Type 0
HasWrongCode form address r =
    CodeWritten form r.data_bytes × (EndsInCode (write_message address (written_bytes r)) → ⊥)
