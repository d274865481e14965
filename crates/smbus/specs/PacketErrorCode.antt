-- The packet error code: the remainder of a message, as a polynomial over two elements, divided by x^8 + x^2 + x + 1.
-- Assumes nothing.
use Rattle.std.specs.Prelude.{◌≡◌, ℕ, zero, suc, ◌-◌, ◌*◌, ◌<◌, cond, List, ◌∷◌, ◌++◌, map, length, take, fold, bit_xor, nat_lt, slice_index}
use Rattle.smbus.specs.Address.{write_byte, read_byte}
use Rattle.std.specs.List.{range_with_len}

-- one bit: the remainder times x, less the divisor, 107h, where that has a term x^8
abbrev pub bit_step : ℕ → ℕ
bit_step c = cond (nat_lt c 128) (c * 2) (bit_xor (c * 2) 0x107)

-- f applied n times
abbrev pub times : ℕ → (ℕ → ℕ) → ℕ → ℕ
times zero f x = x
times (suc n) f x = f (times n f x)

-- one byte: it is added to the remainder, its high bit at the high bit, and eight bits follow
unfoldable pub byte_step : ℕ → ℕ → ℕ
byte_step c b = times 8 bit_step (bit_xor c b)

-- what eight bits make of each remainder, 0 to 255
abbrev pub remainders : List ℕ
remainders = map (times 8 bit_step) (range_with_len 0 256)

-- the code of the bytes, going on from a running code
abbrev pub code_from : ℕ → List ℕ → ℕ
code_from c bytes = fold byte_step c bytes

-- the code of the bytes: it starts at 0
abbrev pub code_of : List ℕ → ℕ
code_of bytes = code_from 0 bytes

-- the bytes on the bus in a write
abbrev pub write_message : ℕ → List ℕ → List ℕ
write_message a written = write_byte a ∷ written

-- the bytes on the bus in a read: the write, then the address once more, and the reply
abbrev pub read_message : ℕ → List ℕ → List ℕ → List ℕ
read_message a written reply = write_message a written ++ read_byte a ∷ reply

-- the packet has a last byte, which is the code of the bytes before it
abbrev pub EndsInCode : List ℕ → Type 0
EndsInCode packet = (0 < length packet) × (slice_index packet (length packet - 1) ≡ code_of (take (length packet - 1) packet))

-- the second list is the first with one byte changed to another
pub record OneByteChanged (given changed : List ℕ) : Type 0 where
  pub before : List ℕ
  pub after : List ℕ
  pub old : ℕ
  pub new : ℕ
  pub was : given ≡ before ++ old ∷ after
  pub becomes : changed ≡ before ++ new ∷ after
  pub differs : old ≡ new → ⊥
