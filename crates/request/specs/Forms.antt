-- Which counts of bytes fit a form: exactly, or with one byte more, the packet error code.
-- Assumes nothing.
use Rattle.std.specs.Prelude.{◌≡◌, ℕ, ◌+◌, Bool, ◌||◌, ◌⊎◌, Some, None, Option, ◌==◌}
use Rattle.request.specs.declared.forms.Form.{Form}
use Rattle.request.specs.declared.forms.Form.TheVariants.{SendByte, ReadByte, ReadWord, ByteRegister, WordRegister, BlockRead}
use Rattle.request.specs.declared.requests.DataBytes.{DataBytes}
use Rattle.request.specs.declared.requests.DataBytes.TheVariants.{Nothing, One, Two, Three, Longer}

-- how many bytes the whole reply has, where the form can be read; a block begins with its count
abbrev pub reply_size : Form → Option ℕ
reply_size SendByte = None
reply_size ReadByte = Some 1
reply_size ReadWord = Some 2
reply_size ByteRegister = Some 1
reply_size WordRegister = Some 2
reply_size (BlockRead n) = Some (n + 1)

-- how many data bytes are written, where the form can be sent or written
abbrev pub data_size : Form → Option ℕ
data_size SendByte = Some 0
data_size ReadByte = None
data_size ReadWord = None
data_size ByteRegister = Some 1
data_size WordRegister = Some 2
data_size (BlockRead n) = None

-- how many bytes follow the command, where no more than three do
abbrev pub data_count : DataBytes → Option ℕ
data_count Nothing = Some 0
data_count (One x) = Some 1
data_count (Two x y) = Some 2
data_count (Three x y z) = Some 3
data_count Longer = None

-- there is such a number, and this holds of it
abbrev pub ThereIs : Option ℕ → (ℕ → Type 0) → Type 0
ThereIs None P = ⊥
ThereIs (Some n) P = P n

-- a count is the size, or one byte more: the packet error code
abbrev pub Whole : ℕ → ℕ → Type 0
Whole size n = (n ≡ size) ⊎ (n ≡ size + 1)

-- the same as a test
abbrev pub is_whole : ℕ → ℕ → Bool
is_whole size n = n == size || n == size + 1

-- a read: no data byte, and the whole reply is wanted
abbrev pub Reads : Form → DataBytes → ℕ → Type 0
Reads form bytes wanted = ThereIs (reply_size form) (λ size. ThereIs (data_count bytes) (λ n. (n ≡ 0) × Whole size wanted))

-- a send or a write: all of its data bytes, and nothing is wanted
abbrev pub Writes : Form → DataBytes → ℕ → Type 0
Writes form bytes wanted = ThereIs (data_size form) (λ size. ThereIs (data_count bytes) (λ n. Whole size n × (wanted ≡ 0)))

-- the bytes after the command and the bytes wanted fit the form
abbrev pub Fits : Form → DataBytes → ℕ → Type 0
Fits form bytes wanted = Reads form bytes wanted ⊎ Writes form bytes wanted

-- a packet error code is written: one byte more than the form's data
abbrev pub CodeWritten : Form → DataBytes → Type 0
CodeWritten form bytes = ThereIs (data_size form) (λ size. ThereIs (data_count bytes) (λ n. n ≡ size + 1))
