-- A set of conditions in print.
-- Assumes nothing.
use Rattle.std.specs.Prelude.{ℕ, ◌+◌, ◌/◌, ◌%◌, ◌^◌, cond, List, [], ◌∷◌, nat_lt}
use Rattle.alert.specs.declared.conditions.Conditions as c

-- the upper-case hexadecimal digit of a number below 16, as its ASCII code
abbrev pub hex_digit : ℕ → ℕ
hex_digit d = cond (nat_lt d 10) (48 + d) (55 + d)

-- the five digits of a set, the highest first
abbrev pub five_digits : c.Conditions → List ℕ
five_digits s = digit 4 ∷ digit 3 ∷ digit 2 ∷ digit 1 ∷ digit 0 ∷ []
  where
    digit : ℕ → ℕ
    digit k = hex_digit (s.bits / 16 ^ k % 16)
