-- Rounding to the nearest whole number, halves up: the formula, and what it means.
use Rattle.std.specs.Prelude.{◌≡◌, ℕ, ◌*◌, ◌≤◌, ℤ, pos, ◌+ℤ◌, ◌-ℤ◌, ◌*ℤ◌, ◌≤ℤ◌, unsigned_abs}
use Rattle.std.specs.Int.{int_div_euclid}

-- the greatest whole number that is not above n / d, for a d above 0
abbrev pub floor : ℤ → ℕ → ℤ
floor n d = int_div_euclid n (pos d)

-- floor((2n + d) / 2d)
unfoldable pub rounded : ℤ → ℕ → ℤ
rounded n d = floor ((pos 2 *ℤ n) +ℤ pos d) (2 * d)

-- how far the whole number z is from n / d, counted in parts of 1 / d
abbrev pub distance : ℤ → ℕ → ℤ → ℕ
distance n d z = unsigned_abs (n -ℤ (z *ℤ pos d))

-- x is the whole number nearest to n / d, and of two that are equally near the upper one
pub record Nearest (n : ℤ) (d : ℕ) (x : ℤ) : Type 0 where
  pub near : (z : ℤ) → distance n d x ≤ distance n d z
  pub up : (z : ℤ) → distance n d z ≡ distance n d x → z ≤ℤ x
