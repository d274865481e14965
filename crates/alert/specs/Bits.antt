-- The bits of a number.
-- Assumes nothing.
use Rattle.std.specs.Prelude.{◌≡◌, ℕ, zero, suc, ◌/◌, ◌%◌, ◌^◌, Bool, true, false, ◌||◌, ◌==◌}

-- whether bit c of n, worth 2 ^ c, is 1
unfoldable pub has_bit : ℕ → ℕ → Bool
has_bit c n = n / 2 ^ c % 2 == 1

-- each bit that is 1 in a is 1 in b
abbrev pub Within : ℕ → ℕ → Type 0
Within a b = (c : ℕ) → has_bit c a ≡ true → has_bit c b ≡ true

-- whether the test holds of some number below n
abbrev pub some_below : ℕ → (ℕ → Bool) → Bool
some_below zero test = false
some_below (suc n) test = test n || some_below n test
