-- What is printed of a line.
use Rattle.std.specs.Prelude.{ℕ, ◌+◌, ◌-◌, ◌^◌, min, List, [], ◌∷◌, ◌++◌, ℤ, Ok, Err, codes, decimal, Result}
use Rattle.direct.specs.Names.{kind_name, current_limit_name, register_name}
use Rattle.direct.specs.Refusals.{number_of as conversion_number, conversion_words}
use Rattle.direct.specs.Registers.{register_code, register_quantity}
use Rattle.direct.specs.declared.cards.Card.{Card}
use Rattle.direct.specs.declared.quantities.Quantity.{Quantity}
use Rattle.direct.specs.declared.quantities.Quantity.TheVariants.{Vin, Vout, Vaux, Iin, Pin, Temperature}
use Rattle.direct.specs.declared.refusals.ConversionRefusal.{ConversionRefusal}
use Rattle.smbus.specs.declared.refusal.AddressRefusal.{AddressRefusal}
use Rattle.smbus.specs.Refusals.{number_of as address_number, words_of as address_words}
use Rattle.text.specs.Writing.{hex_text, hex_word, signed_fixed, spaced}
use Rattle.sheet_line.specs.Expected.{expected_text}
use Rattle.sheet_line.specs.Forms.{decimals}
use Rattle.sheet_line.specs.declared.line.Limit.{Limit}
use Rattle.sheet_line.specs.declared.line.Misfit.{Misfit}
use Rattle.sheet.specs.Answers.{bytes_of}
use Rattle.sheet.specs.Parts.{in_turn}
use Rattle.sheet.specs.declared.answers.Setting.{Setting}
use Rattle.sheet.specs.declared.answers.Answer.{Answer}
use Rattle.sheet.specs.declared.answers.Answer.TheVariants as answer
use Rattle.sheet.specs.declared.answers.Refusal.{Refusal}
use Rattle.sheet.specs.declared.answers.Refusal.TheVariants as refusal

-- a blank and the unit: V, A, W or, in UTF-8, °C
abbrev pub unit_name : Quantity → List ℕ
unit_name Vin = codes " V"
unit_name Vout = codes " V"
unit_name Vaux = codes " V"
unit_name Iin = codes " A"
unit_name Pin = codes " W"
unit_name Temperature = 32 ∷ 0xC2 ∷ 0xB0 ∷ 67 ∷ []

-- a value with the decimals of its quantity, and its unit
abbrev pub amount : Quantity → ℤ → List ℕ
amount q v = signed_fixed (decimals q) v ++ unit_name q

-- a card and its address
abbrev pub card_line : ℕ → Card → List ℕ
card_line a c =
    in_turn (codes "card " ∷ hex_text a ∷ codes " " ∷ kind_name c.kind ∷ codes " " ∷ current_limit_name c.current_limit ∷ codes " " ∷ decimal c.resistor ∷ codes "\n" ∷ [])

-- an address that is refused: the refusal's number, and its words
abbrev pub card_refused_line : AddressRefusal → List ℕ
card_refused_line e = in_turn (codes "card refused " ∷ decimal (address_number e) ∷ codes ": " ∷ address_words e ∷ codes "\n" ∷ [])

-- what is printed first of a limit: its register, and what was asked
unfoldable pub limit_asked : Limit → List ℕ
limit_asked l =
    in_turn (codes "limit " ∷ register_name l.register ∷ codes " " ∷ hex_text (register_code l.register) ∷ codes "h: asked " ∷ amount (register_quantity l.register) l.value ∷ [])

-- what follows of a limit that is set: its word, what the word stands for, and the bytes of the write
abbrev pub set_after : List ℕ → Quantity → Setting → List ℕ
set_after front q s =
    in_turn (front ∷ codes ", word " ∷ hex_word s.word ∷ codes "h, stands for " ∷ amount q s.stands_for ∷ codes ", send" ∷ spaced (bytes_of s.write) ∷ codes "\n" ∷ [])

-- what follows of a limit that is refused: the refusal's number, and its words
abbrev pub refused_after : List ℕ → ConversionRefusal → List ℕ
refused_after front e = in_turn (front ∷ codes ", refused " ∷ decimal (conversion_number e) ∷ codes ": " ∷ conversion_words e ∷ codes "\n" ∷ [])

-- a place counted from 1; the largest number of 64 bits is the last
abbrev pub from_one : ℕ → ℕ
from_one n = min (n + 1) (2 ^ 64 - 1)

-- where the n-th line has none of the forms, and what was expected there
abbrev pub misfit_line : ℕ → Misfit → List ℕ
misfit_line n m = in_turn (codes "line " ∷ decimal n ∷ codes ", byte " ∷ decimal (from_one m.place) ∷ codes ": expected " ∷ expected_text m.expected ∷ codes "\n" ∷ [])

-- a limit that is set
abbrev pub limit_line : Limit → Setting → List ℕ
limit_line l s = set_after (limit_asked l) (register_quantity l.register) s

-- the line of a refusal of the n-th line
abbrev pub refusal_line : ℕ → Refusal → List ℕ
refusal_line n (refusal.Card e) = card_refused_line e
refusal_line n (refusal.Limit l e) = refused_after (limit_asked l) e
refusal_line n (refusal.Misfit m) = misfit_line n m

-- the line that is printed of the answer to the n-th line
abbrev pub printed : ℕ → List ℕ → Result Answer Refusal → List ℕ
printed n line (Ok answer.Note) = in_turn (line ∷ codes "\n" ∷ [])
printed n line (Ok (answer.Card p)) = card_line p.address p.card
printed n line (Ok (answer.Limit s)) = limit_line s.limit s.setting
printed n line (Err e) = refusal_line n e
