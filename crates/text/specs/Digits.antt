-- Digits, and the numbers that they write.
use Rattle.std.specs.Prelude.{◌≡◌, ℕ, ◌+◌, ◌-◌, ◌*◌, ◌^◌, ◌<◌, ◌≤◌, min, Bool, cond, ◌&&◌, List, length, take, Some, None, fold, Option, nat_le}
use Rattle.std.specs.List.{prefix_len}

-- 0 to 9
abbrev pub is_digit : ℕ → Bool
is_digit b = nat_le 48 b && nat_le b 57

-- A to F
abbrev pub is_hex_letter : ℕ → Bool
is_hex_letter b = nat_le 65 b && nat_le b 70

-- the value of a decimal digit
abbrev pub decimal_digit : ℕ → Option ℕ
decimal_digit b = cond (is_digit b) (Some (b - 48)) None

-- the value of a hexadecimal digit, its letters in upper case
abbrev pub hex_digit : ℕ → Option ℕ
hex_digit b = cond (is_digit b) (Some (b - 48)) (cond (is_hex_letter b) (Some (b - 55)) None)

-- 16 times the high digit and the low one, where both are digits
abbrev pub of_two : Option ℕ → Option ℕ → Option ℕ
of_two None l = None
of_two (Some h) None = None
of_two (Some h) (Some l) = Some (16 * h + l)

-- the byte that two hexadecimal digits write
abbrev pub hex_byte : ℕ → ℕ → Option ℕ
hex_byte high low = of_two (hex_digit high) (hex_digit low)

-- how many decimal digits stand at the front of a text, counted up to a number
abbrev pub digits_at_front : ℕ → List ℕ → ℕ
digits_at_front most bs = min most (prefix_len is_digit bs)

-- the number that decimal digits write, the first one the highest
abbrev pub number_of : List ℕ → ℕ
number_of bs = fold (λ n b. 10 * n + (b - 48)) 0 bs

-- the longest run of at most `most` digits at the front of a text: how many there are, and the number that they write
pub record Leads (most : ℕ) (text : List ℕ) (count value : ℕ) : Type 0 where
  pub longest : count ≡ digits_at_front most text
  pub number : value ≡ number_of (take count text)
  pub few : count ≤ most
  pub within : count ≤ length text
  pub bound : value < 10 ^ count
