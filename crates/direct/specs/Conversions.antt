-- What a word means on a card, which word a value has, and which refusal comes when.
use Rattle.std.specs.Prelude.{ℕ, ◌*◌, ◌^◌, Bool, true, false, cond, not, ◌&&◌, ◌||◌, ℤ, pos, negsuc, ◌+ℤ◌, ◌-ℤ◌, ◌*ℤ◌, Ok, Err, Result, int_le, nat_le, unsigned_abs}
use Rattle.std.specs.Int.{w16}
use Rattle.std.proofs.Common.{to_z, of_z}
use Rattle.direct.specs.Coefficients.{coefficients_of}
use Rattle.direct.specs.Nearest.{rounded}
use Rattle.direct.specs.declared.cards.Card.{Card}
use Rattle.direct.specs.declared.quantities.Quantity.{Quantity}
use Rattle.direct.specs.declared.quantities.Quantity.TheVariants.{Vin, Vout, Vaux, Iin, Pin, Temperature}
use Rattle.direct.specs.declared.refusals.ConversionRefusal.{ConversionRefusal}
use Rattle.direct.specs.declared.refusals.ConversionRefusal.TheVariants.{Word, Resistor, Value}
use Rattle.direct.specs.declared.tables.Coefficients.{Coefficients}

-- U: how many of a value's units make one V, A, °C (micro-units) or W (milliwatts)
abbrev pub unit : Quantity → ℕ
unit Vin = 1000000
unit Vout = 1000000
unit Vaux = 1000000
unit Iin = 1000000
unit Pin = 1000
unit Temperature = 1000000

-- current and power are measured over the sense resistor
abbrev pub uses_resistor : Quantity → Bool
uses_resistor Vin = false
uses_resistor Vout = false
uses_resistor Vaux = false
uses_resistor Iin = true
uses_resistor Pin = true
uses_resistor Temperature = false

-- S: the resistor in µΩ for current and power, and 1000 otherwise
abbrev pub sense : Card → Quantity → ℕ
sense card q = cond (uses_resistor q) card.resistor 1000

-- a resistor that plays a part is 100 to 10,000 µΩ
abbrev pub resistor_lawful : Card → Quantity → Bool
resistor_lawful card q = not (uses_resistor q) || (nat_le 100 card.resistor && nat_le card.resistor 10000)

-- the number Y that a word stands for: a 16-bit two's complement number
abbrev pub word_number : ℕ → ℤ
word_number w = to_z w16 w

-- the least number a lawful word has: -4096 for a temperature, else 0
abbrev pub least : Quantity → ℤ
least Vin = pos 0
least Vout = pos 0
least Vaux = pos 0
least Iin = pos 0
least Pin = pos 0
least Temperature = negsuc 4095

-- a number that a lawful word can have: up to 4095
abbrev pub in_range : Quantity → ℤ → Bool
in_range q y = int_le (least q) y && int_le y (pos 4095)

-- 10 to the power -R
abbrev pub scale : Coefficients → ℕ
scale c = 10 ^ unsigned_abs c.r

-- N: a word's number Y stands for the exact value N / D
abbrev pub value_numerator : Quantity → Coefficients → ℤ → ℤ
value_numerator q c y = ((y *ℤ pos (scale c)) -ℤ c.b) *ℤ pos (unit q * 1000)

-- D
abbrev pub value_divisor : Coefficients → ℕ → ℕ
value_divisor c s = c.m * s

-- K: a value X has the exact word number K / E
abbrev pub word_numerator : Quantity → Coefficients → ℕ → ℤ → ℤ
word_numerator q c s x = (x *ℤ pos (c.m * s)) +ℤ (c.b *ℤ pos (unit q * 1000))

-- E
abbrev pub word_divisor : Quantity → Coefficients → ℕ
word_divisor q c = unit q * 1000 * scale c

-- the coefficients of a quantity on a card
abbrev pub on : Card → Quantity → Coefficients
on card q = coefficients_of card.kind q card.current_limit

-- the value of a word's number, rounded once
abbrev pub exact_value : Card → Quantity → ℤ → ℤ
exact_value card q y = rounded (value_numerator q (on card q) y) (value_divisor (on card q) (sense card q))

-- the word number of a value, rounded once
abbrev pub exact_word : Card → Quantity → ℤ → ℤ
exact_word card q x = rounded (word_numerator q (on card q) (sense card q) x) (word_divisor q (on card q))

-- word to value: 8 where the word is out of range, then 14 where the resistor is
abbrev pub value_answer : Card → Quantity → ℕ → Result ℤ ConversionRefusal
value_answer card q w =
    cond (in_range q (word_number w))
    (cond (resistor_lawful card q) (Ok (exact_value card q (word_number w))) (Err Resistor)) (Err Word)

-- a value that can be asked for: within ±4,000,000,000
abbrev pub askable : ℤ → Bool
askable x = int_le (negsuc 3999999999) x && int_le x (pos 4000000000)

-- value to word: 14 where the resistor is out of range, then 15 where the value is, or its word
abbrev pub word_answer : Card → Quantity → ℤ → Result ℕ ConversionRefusal
word_answer card q x =
    cond (resistor_lawful card q)
    (cond (askable x && in_range q (exact_word card q x)) (Ok (of_z w16 (exact_word card q x))) (Err Value)) (Err Resistor)
