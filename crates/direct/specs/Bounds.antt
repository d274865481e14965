-- The bounds that the three numbers of every line keep to.
-- Assumes nothing.
use Rattle.std.specs.Prelude.{ℕ, ◌+◌, ◌*◌, ◌<◌, ◌≤◌, ℤ, unsigned_abs}

-- what holds of the three numbers of every line
pub record Bounded (slope : ℕ) (offset : ℤ) (step : ℕ) : Type 0 where
  -- one step of the word is more than one step of the value
  pub rises : 0 < slope
  pub coarse : slope < step
  -- the numbers are small enough for 64 bits
  pub slope_small : slope < 250000000
  pub offset_small : unsigned_abs offset < 32768000000000
  pub step_small : step ≤ 1000000000000
  -- the value of every number from -4096 to 4096 is within ±4,000,000,000
  pub near : 4096 * step + unsigned_abs offset ≤ 4000000000 * slope
