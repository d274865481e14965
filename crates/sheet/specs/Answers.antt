-- What a line of the sheet is answered.
use Rattle.std.specs.Prelude.{◌≡◌, ℕ, ◌/◌, ◌%◌, Bool, cond, not, ◌&&◌, List, [], ◌∷◌, ℤ, Some, None, Ok, Err, Option, Result, ◌==◌, nat_le}
use Rattle.direct.specs.Conversions.{word_answer, value_answer}
use Rattle.direct.specs.Registers.{register_code, register_quantity}
use Rattle.direct.specs.declared.cards.Card.{Card}
use Rattle.direct.specs.declared.quantities.LimitRegister.{LimitRegister}
use Rattle.direct.specs.declared.refusals.ConversionRefusal.{ConversionRefusal}
use Rattle.smbus.specs.Address.{write_byte}
use Rattle.smbus.specs.PacketErrorCode.{code_of, write_message, EndsInCode}
use Rattle.smbus.specs.declared.refusal.AddressRefusal.{AddressRefusal}
use Rattle.smbus.specs.declared.refusal.AddressRefusal.TheVariants.{Unlawful}
use Rattle.sheet.specs.declared.answers.Monitor.{Monitor}
use Rattle.sheet.specs.declared.answers.PlacedCard.{PlacedCard}
use Rattle.sheet.specs.declared.answers.WordWrite.{WordWrite}
use Rattle.sheet.specs.declared.answers.Setting.{Setting}
use Rattle.sheet.specs.declared.answers.Answer.{Answer}
use Rattle.sheet.specs.declared.answers.Answer.TheVariants as answer
use Rattle.sheet.specs.declared.answers.Refusal.{Refusal}
use Rattle.sheet.specs.declared.answers.Refusal.TheVariants as refusal
use Rattle.sheet_line.specs.declared.expected.Expected.TheVariants.{CardBefore}
use Rattle.sheet_line.specs.declared.line.Limit.{Limit}
use Rattle.sheet_line.specs.declared.line.Misfit.{Misfit}
use Rattle.sheet_line.specs.declared.line.Line.{Line}
use Rattle.sheet_line.specs.declared.line.Line.TheVariants as line

-- a card with the byte of its address
abbrev pub placed_card : Monitor → PlacedCard
placed_card m = record { address = m.address.byte; card = m.card }

-- the card that is set, if one is
abbrev pub placed : Option Monitor → Option PlacedCard
placed None = None
placed (Some m) = Some (placed_card m)

-- the same of a card that may be refused
abbrev pub given_place : Result Monitor AddressRefusal → Result PlacedCard AddressRefusal
given_place (Ok m) = Ok (placed_card m)
given_place (Err e) = Err e

-- a lawful address: 08h to 77h without 0Ch
abbrev pub is_lawful : ℕ → Bool
is_lawful a = nat_le 0x08 a && (nat_le a 0x77 && not (a == 0x0c))

-- a card at an address, which has to be lawful
abbrev pub place : ℕ → Card → Result PlacedCard AddressRefusal
place a c = cond (is_lawful a) (Ok (record { address = a; card = c })) (Err Unlawful)

-- what is written to a register: its code, then the word, low byte first
abbrev pub written : LimitRegister → ℕ → List ℕ
written r w = register_code r ∷ w % 256 ∷ w / 256 ∷ []

-- the write of a word to a register at an address, with its packet error code
abbrev pub write_of : ℕ → LimitRegister → ℕ → WordWrite
write_of a r w = record { address = write_byte a; command = register_code r; low = w % 256; high = w / 256; code = code_of (write_message a (written r w)) }

-- the bytes on the bus, in the order in which they are sent
abbrev pub bytes_of : WordWrite → List ℕ
bytes_of m = m.address ∷ m.command ∷ m.low ∷ m.high ∷ m.code ∷ []

-- a limit whose word is known, and what the word stands for, if it is lawful
abbrev pub with_value : ℕ → LimitRegister → ℕ → Result ℤ ConversionRefusal → Result Setting ConversionRefusal
with_value a r w (Ok x) = Ok (record { word = w; stands_for = x; write = write_of a r w })
with_value a r w (Err e) = Err e

-- a limit whose value has a word, or the refusal of it
abbrev pub with_word : PlacedCard → LimitRegister → Result ℕ ConversionRefusal → Result Setting ConversionRefusal
with_word p r (Ok w) = with_value p.address r w (value_answer p.card (register_quantity r) w)
with_word p r (Err e) = Err e

-- a limit on a card: the word that its value has there, what that word stands for, and the bytes that write it
abbrev pub limit_answer : PlacedCard → Limit → Result Setting ConversionRefusal
limit_answer p l = with_word p l.register (word_answer p.card (register_quantity l.register) l.value)

-- a limit that was set, or the refusal of it
abbrev pub set_or_refused : Limit → Result Setting ConversionRefusal → Result Answer Refusal
set_or_refused l (Ok s) = Ok (answer.Limit (record { limit = l; setting = s }))
set_or_refused l (Err e) = Err (refusal.Limit l e)

-- a card line: the card, or the refusal of its address
abbrev pub card_answer : Result PlacedCard AddressRefusal → Result Answer Refusal
card_answer (Ok p) = Ok (answer.Card p)
card_answer (Err e) = Err (refusal.Card e)

-- a limit line: it asks for a card before it
abbrev pub present_answer : Option PlacedCard → Limit → Result Answer Refusal
present_answer None l = Err (refusal.Misfit (record { place = 0; expected = CardBefore }))
present_answer (Some p) l = set_or_refused l (limit_answer p l)

-- the answer to a line, where a card may be set
abbrev pub answer_of : Result Line Misfit → Option PlacedCard → Result Answer Refusal
answer_of (Ok line.Note) p = Ok answer.Note
answer_of (Ok (line.Card a c)) p = card_answer (place a c)
answer_of (Ok (line.Limit l)) p = present_answer p l
answer_of (Err m) p = Err (refusal.Misfit m)

-- the card, or none where its address is refused
abbrev pub card_or_none : Result PlacedCard AddressRefusal → Option PlacedCard
card_or_none (Ok p) = Some p
card_or_none (Err e) = None

-- the card for the next lines: only a card line changes it, and a refused one leaves none
abbrev pub next_card : Result Line Misfit → Option PlacedCard → Option PlacedCard
next_card (Ok line.Note) p = p
next_card (Ok (line.Card a c)) p = card_or_none (place a c)
next_card (Ok (line.Limit l)) p = p
next_card (Err m) p = p

-- of a limit that is set: the bytes end in their packet error code, and the value that the word stands for has that word
abbrev pub Sound : Card → LimitRegister → Setting → Type 0
Sound c r s = EndsInCode (bytes_of s.write) × (word_answer c (register_quantity r) s.stands_for ≡ Ok s.word)
