-- The table of worked examples, over the definitions that the calls' contracts cite. A number -n is written negsuc (n - 1).
-- Assumes nothing.
use Rattle.std.specs.Prelude.{◌≡◌, ℕ, [], ◌∷◌, pos, negsuc, Ok}
use Rattle.direct.specs.Conversions.{value_answer}
use Rattle.direct.specs.declared.cards.Card.{Card}
use Rattle.direct.specs.declared.cards.CurrentLimit.{CurrentLimit}
use Rattle.direct.specs.declared.cards.CurrentLimit.TheVariants.{Vdd}
use Rattle.direct.specs.declared.cards.Kind.{Kind}
use Rattle.direct.specs.declared.cards.Kind.TheVariants.{Lm5056}
use Rattle.direct.specs.declared.quantities.Quantity.TheVariants.{Vin, Iin, Temperature}
use Rattle.smbus.specs.PacketErrorCode.{code_of}

-- a card of that kind and CL setting, with a resistor of so many µΩ
abbrev pub card : Kind → CurrentLimit → ℕ → Card
card k c s = record { kind = k; current_limit = c; resistor = s }

pub record Worked : Type 0 where
  -- the code of no bytes is 00h
  pub code_of_no_bytes : code_of [] ≡ 0x00
  -- the code of 20h 03h, a clear sent to the address 10h, is A7h
  pub code_of_clear : code_of (0x20 ∷ 0x03 ∷ []) ≡ 0xA7
  -- the VIN word 0890h of an LM5056 is 47,650,911 µV
  pub vin : value_answer (card Lm5056 Vdd 1000) Vin 0x0890 ≡ Ok (pos 47650911)
  -- the IIN word 0 of an LM5056 with CL at VDD and 1000 µΩ is -285,018 µA
  pub iin_of_zero : value_answer (card Lm5056 Vdd 1000) Iin 0x0000 ≡ Ok (negsuc 285017)
  -- the temperature word FFF0h is -1,000,000 µ°C on every kind, whatever its CL setting and resistor
  pub temperature : (k : Kind) (c : CurrentLimit) (s : ℕ) → value_answer (card k c s) Temperature 0xFFF0 ≡ Ok (negsuc 999999)
