-- What every record of the tables keeps to. It is a test that is computed over the tables, and from it the round trip follows.
use Rattle.std.specs.Prelude.{ℕ, ◌+◌, ◌*◌, ◌<◌, ◌≤◌, cond, unsigned_abs}
use Rattle.direct.specs.Conversions.{unit, uses_resistor, scale}
use Rattle.direct.specs.declared.quantities.Quantity.{Quantity}
use Rattle.direct.specs.declared.tables.Coefficients.{Coefficients}

-- the least and the greatest S
abbrev pub least_sense : Quantity → ℕ
least_sense q = cond (uses_resistor q) 100 1000

abbrev pub greatest_sense : Quantity → ℕ
greatest_sense q = cond (uses_resistor q) 10000 1000

pub record Sound (q : Quantity) (c : Coefficients) : Type 0 where
  -- m is above 0, and m, b and R are small
  pub some : 0 < c.m
  pub m_small : c.m < 25000
  pub b_small : unsigned_abs c.b < 32768
  pub r_small : unsigned_abs c.r ≤ 3
  -- m × S < U × 1000 × 10^(-R): one step of the word is more than one step of the value
  pub coarse : c.m * greatest_sense q < unit q * 1000 * scale c
  -- every lawful word's value is within ±4,000,000,000
  pub near : (4096 * scale c + unsigned_abs c.b) * (unit q * 1000) ≤ 4000000000 * (c.m * least_sense q)
