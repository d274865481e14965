-- What `rounded` means: it is within half a part, of which the lower end counts, and so the nearest; and it is the only such number.
-- Assumes nothing.
use Rattle.std.proofs.Common.{◌≡◌, ℕ, suc, ◌+◌, ◌*◌, ◌/◌, ◌%◌, ◌<◌, ◌≤◌, ℤ, pos, negsuc, ◌+ℤ◌, ◌-ℤ◌, ◌*ℤ◌, neg_ℤ, nat_abs, ◌≤ℤ◌, ◌<ℤ◌, subst, ⊎_elim, le_refl, le_of_lt, suc-mul, arith}
use Rattle.std.proofs.lemmas.Nat.{div-add-mod', mod_below}
use Rattle.std.proofs.lemmas.Int.{ints, by_lt_z}
use Rattle.direct.specs.Nearest.{floor, rounded, distance, Nearest}
use Rattle.direct.proofs.Integers.{times_twice, times_less, abs_is, abs_above, abs_below}

floors : (n : ℤ) (d : ℕ) → 0 < d → ((floor n d *ℤ pos d) ≤ℤ n) × (n <ℤ ((floor n d *ℤ pos d) +ℤ pos d))
floors (pos a) d h =
    let e : a / d * d + a % d ≡ a = div-add-mod' a d in
    let l : a % d < d = mod_below a d h in
    (omega (arith, ints), omega (arith, ints))
floors (negsuc a) d h =
    let e : a / d * d + a % d ≡ a = div-add-mod' a d in
    let l : a % d < d = mod_below a d h in
    let m : suc (a / d) * d ≡ a / d * d + d = suc-mul (a / d) d in
    (omega (arith, ints), omega (arith, ints))

-- x is within half of n / d: -1/2 ≤ n / d - x < 1/2
pub record WithinHalf (n : ℤ) (d : ℕ) (x : ℤ) : Type 0 where
  pub low : (pos 2 *ℤ (x *ℤ pos d)) ≤ℤ ((pos 2 *ℤ n) +ℤ pos d)
  pub high : (pos 2 *ℤ n) <ℤ ((pos 2 *ℤ (x *ℤ pos d)) +ℤ pos d)

pub rounded_within : (n : ℤ) (d : ℕ) → 0 < d → WithinHalf n d (rounded n d)
unfolding rounded
rounded_within n d h =
    let f = floors ((pos 2 *ℤ n) +ℤ pos d) (2 * d) (omega arith) in
    let e = times_twice (floor ((pos 2 *ℤ n) +ℤ pos d) (2 * d)) d in
    record { low = omega (arith, ints, f.0, e); high = omega (arith, ints, f.1, e) }

-- two numbers within half are one
pub within_one : (n : ℤ) (d : ℕ) (x y : ℤ) → WithinHalf n d x → WithinHalf n d y → x ≡ y
within_one n d x y p q =
    by_lt_z x y (λ h. absurd (apart x y h p q))
    (λ h. by_lt_z y x (λ k. absurd (apart y x k q p)) (λ k. omega (arith, ints)))
  where
    apart : (a b : ℤ) → a <ℤ b → WithinHalf n d a → WithinHalf n d b → ⊥
    apart a b h r s = omega (arith, ints, times_less a b d h, r.high, s.low)

-- of two numbers, the one that is not above the other, nor its negative, has the smaller absolute value
abs_le : (a b : ℤ) → a ≤ℤ b → neg_ℤ a ≤ℤ b → nat_abs a ≤ nat_abs b
abs_le a b h k =
    ⊎_elim (λ (e : pos (nat_abs a) ≡ a). omega (arith, ints, abs_above b)) (λ (e : pos (nat_abs a) ≡ neg_ℤ a). omega (arith, ints, abs_above b)) (abs_is a)

abs_lt_negative : (a b : ℤ) → a <ℤ neg_ℤ b → neg_ℤ a <ℤ neg_ℤ b → nat_abs a < nat_abs b
abs_lt_negative a b h k =
    ⊎_elim (λ (e : pos (nat_abs a) ≡ a). omega (arith, ints, abs_below b)) (λ (e : pos (nat_abs a) ≡ neg_ℤ a). omega (arith, ints, abs_below b)) (abs_is a)

module _ (n : ℤ) (d : ℕ) (x : ℤ) (p : WithinHalf n d x) where
  not_below : (z : ℤ) → z <ℤ x → distance n d x ≤ distance n d z
  not_below z h =
      abs_le (n -ℤ (x *ℤ pos d)) (n -ℤ (z *ℤ pos d)) (omega (arith, ints, times_less z x d h)) (omega (arith, ints, times_less z x d h, p.low))

  above_less : (z : ℤ) → x <ℤ z → distance n d x < distance n d z
  above_less z h =
      abs_lt_negative (n -ℤ (x *ℤ pos d)) (n -ℤ (z *ℤ pos d)) (omega (arith, ints, times_less x z d h, p.high)) (omega (arith, ints, times_less x z d h, p.high, p.low))

  within_near : (z : ℤ) → distance n d x ≤ distance n d z
  within_near z =
      by_lt_z z x (not_below z)
      (λ h. by_lt_z x z (λ k. le_of_lt (above_less z k))
      (λ k. let e : x ≡ z = omega (arith, ints) in subst (λ (y : ℤ). distance n d x ≤ distance n d y) e (le_refl (distance n d x))))

  within_up : (z : ℤ) → distance n d z ≡ distance n d x → z ≤ℤ x
  within_up z e = by_lt_z x z (λ h. absurd (equal_not_less (distance n d x) (distance n d z) e (above_less z h))) (λ h. h)
    where
      equal_not_less : (a b : ℕ) → b ≡ a → a < b → ⊥
      equal_not_less a b f g = omega arith

pub within_nearest : (n : ℤ) (d : ℕ) (x : ℤ) → WithinHalf n d x → Nearest n d x
within_nearest n d x p = record { near = within_near n d x p; up = within_up n d x p }

pub rounded_nearest : (n : ℤ) (d : ℕ) → 0 < d → Nearest n d (rounded n d)
rounded_nearest n d h = within_nearest n d (rounded n d) (rounded_within n d h)
