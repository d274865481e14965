-- Transfers and replies, worked out.
-- Assumes nothing.
use Rattle.std.proofs.Common.{◌≡◌, ℕ, [], ◌∷◌, Some, Ok, Err, refl}
use Rattle.smbus.specs.PacketErrorCode.{byte_step, code_of, write_message}
use Rattle.request.specs.Judging.{judged}
use Rattle.request.specs.Replies.{read_reply}
use Rattle.request.specs.Requests.{taken_apart}
use Rattle.request.specs.declared.forms.Form.TheVariants.{SendByte, ReadWord, ByteRegister, WordRegister, BlockRead}
use Rattle.request.specs.declared.judging.Access.TheVariants.{Send, Read, WriteWord}
use Rattle.request.specs.declared.refusals.RequestRefusal.TheVariants.{Counts, Code}
use Rattle.request.specs.declared.requests.DataBytes.{DataBytes}
use Rattle.request.specs.declared.requests.DataBytes.TheVariants.{Nothing, One, Two, Three}
use Rattle.request.specs.declared.requests.Request.{Request}

abbrev asked : ℕ → DataBytes → Request
asked command bytes = record { command = command; data_bytes = bytes }

-- 03h with its code is a command and one data byte
pub clear_apart : taken_apart (0x03 ∷ 0xa7 ∷ []) ≡ Some (asked 0x03 (One 0xa7))
clear_apart = refl

-- a clear, 03h, at address 10h has the code A7h
pub clear_code : code_of (write_message 0x10 (0x03 ∷ [])) ≡ 0xa7
unfolding byte_step
clear_code = refl

-- a clear without a code, with the right one, and with a wrong one
pub clear_plain : judged SendByte 0x10 (asked 0x03 Nothing) 0 ≡ Ok Send
clear_plain = refl

pub clear_right : judged SendByte 0x10 (asked 0x03 (One 0xa7)) 0 ≡ Ok Send
unfolding byte_step
clear_right = refl

pub clear_wrong : judged SendByte 0x10 (asked 0x03 (One 0xa6)) 0 ≡ Err Code
unfolding byte_step
clear_wrong = refl

-- a word is read as two bytes, or as three with the code, and in no other count
pub word_read : judged ReadWord 0x10 (asked 0xd8 Nothing) 2 ≡ Ok Read
word_read = refl

pub word_read_code : judged ReadWord 0x10 (asked 0xd8 Nothing) 3 ≡ Ok Read
word_read_code = refl

pub word_read_short : judged ReadWord 0x10 (asked 0xd8 Nothing) 1 ≡ Err Counts
word_read_short = refl

pub word_read_long : judged ReadWord 0x10 (asked 0xd8 Nothing) 4 ≡ Err Counts
word_read_long = refl

-- a data byte with a read does not fit
pub word_read_data : (x : ℕ) → judged ReadWord 0x10 (asked 0xd8 (One x)) 2 ≡ Err Counts
word_read_data x = refl

-- a word is written low byte first, here with its code
pub word_write : judged WordRegister 0x10 (asked 0x57 (Three 0x11 0x0a 0x88)) 0 ≡ Ok (WriteWord 0x0a11)
unfolding byte_step
word_write = refl

-- a write with bytes wanted, and a register that is neither read nor written, do not fit
pub word_write_wanted : judged WordRegister 0x10 (asked 0x57 (Two 0x11 0x0a)) 2 ≡ Err Counts
word_write_wanted = refl

pub byte_neither : judged ByteRegister 0x10 (asked 0x10 Nothing) 0 ≡ Err Counts
byte_neither = refl

-- a block of six bytes is read with its count, as seven, and not as the count alone
pub block_read : judged (BlockRead 6) 0x10 (asked 0x9a Nothing) 7 ≡ Ok Read
block_read = refl

pub block_count_alone : judged (BlockRead 6) 0x10 (asked 0x9a Nothing) 1 ≡ Err Counts
block_count_alone = refl

-- the word 1234h of D8h as a reply of three bytes ends in its code
pub reply_code : read_reply 0x10 0xd8 (0x34 ∷ 0x12 ∷ []) 3 ≡ 0x34 ∷ 0x12 ∷ 0xe2 ∷ []
unfolding byte_step
reply_code = refl
