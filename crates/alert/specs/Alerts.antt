-- What raising, answering and clearing do to the two sets of a station, and when it asserts the alert.
-- Assumes nothing.
use Rattle.std.specs.Prelude.{◌≡◌, ℕ, Bool, false, not, ◌&&◌, nat_lt}
use Rattle.alert.specs.Bits.{has_bit, some_below}
use Rattle.alert.specs.Conditions.{Empty, Has, Union, has}
use Rattle.alert.specs.declared.conditions.Conditions as c
use Rattle.alert.specs.declared.alerts.AlertRecord.{AlertRecord}

-- raising a set adds it to what is latched
abbrev pub AfterRaise : c.Conditions → AlertRecord → AlertRecord → Type 0
AfterRaise set x y = Union x.latched set y.latched × (y.answered ≡ x.answered)

-- answering makes the answered set the latched one
abbrev pub AfterAnswer : AlertRecord → AlertRecord → Type 0
AfterAnswer x y = (y.latched ≡ x.latched) × (y.answered ≡ x.latched)

-- clearing empties both sets
abbrev pub AfterClear : AlertRecord → Type 0
AfterClear y = Empty y.latched × Empty y.answered

-- whether a mask word covers the condition c: its bit c is 1, and c is below 16; condition 16 cannot be masked
abbrev pub covers : ℕ → ℕ → Bool
covers mask c = nat_lt c 16 && has_bit c mask

-- some latched condition is neither answered nor covered by the mask
abbrev pub Asserts : AlertRecord → ℕ → Type 0
Asserts r mask = (c : ℕ) × Has c r.latched × (has c r.answered ≡ false) × (covers mask c ≡ false)

-- the same as a test
unfoldable pub asserts : AlertRecord → ℕ → Bool
asserts r mask = some_below 17 (λ c. has c r.latched && (not (has c r.answered) && not (covers mask c)))
