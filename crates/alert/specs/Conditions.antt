-- Sets of conditions, by membership.
-- Assumes nothing.
use Rattle.std.specs.Prelude.{◌≡◌, ℕ, Bool, true, ◌⊎◌, ◌↔◌}
use Rattle.alert.specs.Bits.{has_bit}
use Rattle.alert.specs.declared.conditions.Conditions as c

-- whether the condition c is in the set
abbrev pub has : ℕ → c.Conditions → Bool
has c s = has_bit c s.bits

-- the condition c is in the set
abbrev pub Has : ℕ → c.Conditions → Type 0
Has c s = has c s ≡ true

-- no condition is in the set
abbrev pub Empty : c.Conditions → Type 0
Empty s = (c : ℕ) → Has c s → ⊥

-- the condition k is in the set, and no other
abbrev pub Only : ℕ → c.Conditions → Type 0
Only k s = (c : ℕ) → Has c s ↔ (c ≡ k)

-- s has what a has and what b has, and nothing else
abbrev pub Union : c.Conditions → c.Conditions → c.Conditions → Type 0
Union a b s = (c : ℕ) → Has c s ↔ (Has c a ⊎ Has c b)
