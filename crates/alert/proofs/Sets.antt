-- Sets of conditions by membership: the empty one, one condition, joins, and a set by its conditions.
-- Assumes nothing.
use Rattle.std.proofs.Common.{◌≡◌, ℕ, ◌^◌, ◌<◌, true, ◌⊎◌, ◌↔◌, sym, ap, ◌∙◌, subst, ⊎_elim, arith}
use lib.Bits.{bit_or}
use native.Mathlib.Bridge.{le_prop}
use Rattle.std.proofs.lemmas.Bool.Decides.{same_from_decides}
use Rattle.std.proofs.lemmas.Bool.{both_ways, cases_eq, cases_lt, or_cases, or_left, or_right}
use Rattle.alert.specs.Bits.{has_bit}
use Rattle.alert.specs.Conditions.{Empty, Has}
use Rattle.alert.specs.declared.conditions.Conditions as c
use Rattle.alert.proofs.Bits.{has_below, has_or, has_power, lacks_power, lacks_zero, same_bits, some_bit}

-- no bit is 1 in 0
pub none : (d : ℕ) → has_bit d 0 ≡ true → ⊥
none d = both_ways (has_bit d 0) (lacks_zero d)

-- one bit is 1 in a power of two
pub only : (k d : ℕ) → (has_bit d (2 ^ k) ≡ true) ↔ (d ≡ k)
only k d = (
  (λ h. ⊎_elim (λ e. e) (λ n. absurd (both_ways (has_bit d (2 ^ k)) (lacks_power k d n) h)) (cases_eq d k)),
  (λ e. subst (λ (j : ℕ). has_bit j (2 ^ k) ≡ true) (sym e) (has_power k)),
)

-- a bit of a disjunction is one of either side
pub either : (a b d : ℕ) → (has_bit d (bit_or a b) ≡ true) ↔ ((has_bit d a ≡ true) ⊎ (has_bit d b ≡ true))
either a b d = (
  (λ h. or_cases (has_bit d a) (has_bit d b) (sym (has_or d a b) ∙ h)),
  ⊎_elim (λ h. has_or d a b ∙ or_left (has_bit d a) (has_bit d b) h) (λ h. has_or d a b ∙ or_right (has_bit d a) (has_bit d b) h),
)

-- a condition of a set is below 17
pub has_few : (d : ℕ) (s : c.Conditions) → Has d s → d < 17
has_few d s = has_below 17 d s.bits s.few

-- a set without a condition is the number 0
pub empty_zero : (s : c.Conditions) → Empty s → s.bits ≡ 0
empty_zero s e =
    ⊎_elim (λ (p : 0 < s.bits). let found = some_bit 17 s.bits p s.few in absurd (e found.0 found.1)) (λ h. omega arith) (cases_lt 0 s.bits)

same_number : (m n : ℕ) → m ≡ n → (f : m < 2 ^ 17) (g : n < 2 ^ 17) → ◌≡◌ {A = c.Conditions} (record { bits = m; few = f }) (record { bits = n; few = g })
same_number m n e =
    subst (λ (k : ℕ). (f : m < 2 ^ 17) (g : k < 2 ^ 17) → ◌≡◌ {A = c.Conditions} (record { bits = m; few = f }) (record { bits = k; few = g })) e
    (λ f g. ap (λ (h : m < 2 ^ 17). record { bits = m; few = h }) (le_prop f g))

-- sets with the same conditions are equal
pub same_set : (a b : c.Conditions) → ((d : ℕ) → Has d a ↔ Has d b) → a ≡ b
same_set a b same =
    let bits : a.bits ≡ b.bits =
    same_bits 17 a.bits b.bits a.few b.few
    (λ d. same_from_decides {P = Has d b} (has_bit d a.bits) (has_bit d b.bits) (same d) ((λ h. h), (λ h. h))) in
    same_number a.bits b.bits bits a.few b.few
