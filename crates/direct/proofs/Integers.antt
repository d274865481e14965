-- Laws of the integers' product with a natural number, its order, and the absolute value.
-- Assumes nothing.
use Rattle.std.proofs.Common.{◌≡◌, ℕ, zero, suc, ◌+◌, ◌*◌, ◌^◌, ◌<◌, ◌≤◌, ◌⊎◌, ℤ, pos, negsuc, ◌+ℤ◌, ◌-ℤ◌, ◌*ℤ◌, neg_ℤ, nat_abs, ◌≤ℤ◌, ◌<ℤ◌, sym, refl, ap, ◌∙◌, inl, inr, ⊎_elim, mul-le-mul_right, mul_assoc, suc-mul, mul_comm, zero-mul, arith, w64, SFits, to_z, of_z}
use lib.IntN.{suc_ℤ, pred_ℤ, ℤ_ind, +ℤ_idr, +ℤ_one, -ℤ_one, +ℤ-suc_ℤ, +ℤ-pred_ℤ, +ℤ_invr, suc_ℤ-*ℤ, pred_ℤ-*ℤ, zero-*ℤ}
use Rattle.std.proofs.lemmas.Int.{ints, to_z-of_z, to_z_pos, unsigned_abs-mul, fits_signed_from_abs}

-- the product with a product
pub times_times : (a : ℤ) (k d : ℕ) → (a *ℤ pos k) *ℤ pos d ≡ a *ℤ pos (k * d)
times_times (pos a) k d = ap pos (mul_assoc a k d)
times_times (negsuc a) k d = negated (suc a * k) ∙ ap (λ (n : ℕ). neg_ℤ (pos n)) (mul_assoc (suc a) k d)
  where
    negated : (m : ℕ) → neg_ℤ (pos m) *ℤ pos d ≡ neg_ℤ (pos (m * d))
    negated zero = ap pos (zero-mul d) ∙ sym (ap (λ (n : ℕ). neg_ℤ (pos n)) (zero-mul d))
    negated (suc m) = refl

pub times_twice : (a : ℤ) (d : ℕ) → a *ℤ pos (2 * d) ≡ pos 2 *ℤ (a *ℤ pos d)
times_twice (pos a) d = let e : a * (2 * d) ≡ 2 * (a * d) = omega (arith, sym (mul_assoc a 2 d), ap (λ (n : ℕ). n * d) (mul_comm a 2), mul_assoc 2 a d) in omega (arith, ints)
times_twice (negsuc a) d = let e : suc a * (2 * d) ≡ 2 * (suc a * d) = omega (arith, sym (mul_assoc (suc a) 2 d), ap (λ (n : ℕ). n * d) (mul_comm (suc a) 2), mul_assoc 2 (suc a) d) in omega (arith, ints)

-- a greater number has the greater product
pub times_less : (a b : ℤ) (d : ℕ) → a <ℤ b → ((a *ℤ pos d) +ℤ pos d) ≤ℤ (b *ℤ pos d)
times_less (pos a) (pos b) d h = let l : suc a ≤ b = omega (arith, ints) in let m = mul-le-mul_right d l in let e = suc-mul a d in omega (arith, ints)
times_less (pos a) (negsuc b) d h = absurd h.lt
times_less (negsuc a) (pos b) d h = let e = suc-mul a d in omega (arith, ints)
times_less (negsuc a) (negsuc b) d h = let l : suc b ≤ a = omega (arith, ints) in let m = mul-le-mul_right d l in let e = suc-mul a d in omega (arith, ints)

-- the absolute value is the number or its negative, and not below either
pub abs_is : (z : ℤ) → (pos (nat_abs z) ≡ z) ⊎ (pos (nat_abs z) ≡ neg_ℤ z)
abs_is (pos n) = inl refl
abs_is (negsuc n) = inr refl

pub abs_above : (z : ℤ) → z ≤ℤ pos (nat_abs z)
abs_above (pos n) = omega (arith, ints)
abs_above (negsuc n) = omega (arith, ints)

pub abs_below : (z : ℤ) → neg_ℤ z ≤ℤ pos (nat_abs z)
abs_below (pos n) = omega (arith, ints)
abs_below (negsuc n) = omega (arith, ints)

-- the absolute value of a sum, and of a negative
pub abs_sum : (a b : ℤ) → nat_abs (a +ℤ b) ≤ nat_abs a + nat_abs b
abs_sum a b =
    ⊎_elim (λ (e : pos (nat_abs (a +ℤ b)) ≡ a +ℤ b). omega (arith, ints, abs_above a, abs_above b))
    (λ (e : pos (nat_abs (a +ℤ b)) ≡ neg_ℤ (a +ℤ b)). omega (arith, ints, abs_below a, abs_below b)) (abs_is (a +ℤ b))

pub abs_neg : (a : ℤ) → nat_abs (neg_ℤ a) ≡ nat_abs a
abs_neg (pos zero) = refl
abs_neg (pos (suc n)) = refl
abs_neg (negsuc n) = refl

-- number × factor + shift as the code reckons it, each part having gone through its 64 bits, is that sum
pub sum_read : (number shift read : ℤ) (factor : ℕ) → SFits w64 number → read ≡ shift → factor < 2 ^ 60 → nat_abs number * factor < 2 ^ 60 → nat_abs shift < 2 ^ 60 →
    to_z w64 (of_z w64 (to_z w64 (of_z w64 (to_z w64 (of_z w64 number) *ℤ to_z w64 factor)) +ℤ read)) ≡ (number *ℤ pos factor) +ℤ shift
sum_read number shift read factor fits is factor_small product_small shift_small =
    let n = to_z-of_z w64 number fits in
    let f = to_z_pos w64 factor (omega arith) in
    let parts : to_z w64 (of_z w64 number) *ℤ to_z w64 factor ≡ number *ℤ pos factor = cc in
    let product : to_z w64 (of_z w64 (to_z w64 (of_z w64 number) *ℤ to_z w64 factor)) ≡ number *ℤ pos factor =
    ap (λ (z : ℤ). to_z w64 (of_z w64 z)) parts ∙ to_z-of_z w64 (number *ℤ pos factor) (fits_signed_from_abs w64 _ (omega (arith, unsigned_abs-mul number (pos factor)))) in
    let sum : to_z w64 (of_z w64 (to_z w64 (of_z w64 number) *ℤ to_z w64 factor)) +ℤ read ≡ (number *ℤ pos factor) +ℤ shift = cc in
    ap (λ (z : ℤ). to_z w64 (of_z w64 z)) sum ∙ to_z-of_z w64 _ (fits_signed_from_abs w64 _ (omega (arith, abs_sum (number *ℤ pos factor) shift, unsigned_abs-mul number (pos factor))))

-- the product of a sum, and of a negative
pub sum_times : (a b : ℤ) (d : ℕ) → (a +ℤ b) *ℤ pos d ≡ (a *ℤ pos d) +ℤ (b *ℤ pos d)
sum_times a b d = ℤ_ind (λ z. (a +ℤ z) *ℤ pos d ≡ (a *ℤ pos d) +ℤ (z *ℤ pos d)) none up down b
  where
    none : (a +ℤ pos 0) *ℤ pos d ≡ (a *ℤ pos d) +ℤ (pos 0 *ℤ pos d)
    none = ap (λ (z : ℤ). z *ℤ pos d) (+ℤ_idr a) ∙ omega (arith, ints, zero-*ℤ (pos d))

    up : (n : ℕ) → (a +ℤ pos n) *ℤ pos d ≡ (a *ℤ pos d) +ℤ (pos n *ℤ pos d) → (a +ℤ (pos n +ℤ pos 1)) *ℤ pos d ≡ (a *ℤ pos d) +ℤ ((pos n +ℤ pos 1) *ℤ pos d)
    up n h =
        let e : a +ℤ (pos n +ℤ pos 1) ≡ suc_ℤ (a +ℤ pos n) = ap (λ (z : ℤ). a +ℤ z) (+ℤ_one (pos n)) ∙ +ℤ-suc_ℤ a (pos n) in
        let f : (pos n +ℤ pos 1) *ℤ pos d ≡ (pos n *ℤ pos d) +ℤ pos d = ap (λ (z : ℤ). z *ℤ pos d) (+ℤ_one (pos n)) ∙ suc_ℤ-*ℤ (pos n) (pos d) in
        let g : (a +ℤ (pos n +ℤ pos 1)) *ℤ pos d ≡ ((a +ℤ pos n) *ℤ pos d) +ℤ pos d = ap (λ (z : ℤ). z *ℤ pos d) e ∙ suc_ℤ-*ℤ (a +ℤ pos n) (pos d) in
        omega (arith, ints)

    down : (n : ℕ) → (a +ℤ neg_ℤ (pos n)) *ℤ pos d ≡ (a *ℤ pos d) +ℤ (neg_ℤ (pos n) *ℤ pos d) → (a +ℤ (neg_ℤ (pos n) +ℤ neg_ℤ (pos 1))) *ℤ pos d ≡ (a *ℤ pos d) +ℤ ((neg_ℤ (pos n) +ℤ neg_ℤ (pos 1)) *ℤ pos d)
    down n h =
        let e : a +ℤ (neg_ℤ (pos n) +ℤ neg_ℤ (pos 1)) ≡ pred_ℤ (a +ℤ neg_ℤ (pos n)) = ap (λ (z : ℤ). a +ℤ z) (-ℤ_one (neg_ℤ (pos n))) ∙ +ℤ-pred_ℤ a (neg_ℤ (pos n)) in
        let f : (neg_ℤ (pos n) +ℤ neg_ℤ (pos 1)) *ℤ pos d ≡ (neg_ℤ (pos n) *ℤ pos d) -ℤ pos d = ap (λ (z : ℤ). z *ℤ pos d) (-ℤ_one (neg_ℤ (pos n))) ∙ pred_ℤ-*ℤ (neg_ℤ (pos n)) (pos d) in
        let g : (a +ℤ (neg_ℤ (pos n) +ℤ neg_ℤ (pos 1))) *ℤ pos d ≡ ((a +ℤ neg_ℤ (pos n)) *ℤ pos d) -ℤ pos d = ap (λ (z : ℤ). z *ℤ pos d) e ∙ pred_ℤ-*ℤ (a +ℤ neg_ℤ (pos n)) (pos d) in
        omega (arith, ints)

pub neg_times : (b : ℤ) (d : ℕ) → neg_ℤ b *ℤ pos d ≡ neg_ℤ (b *ℤ pos d)
neg_times b d =
    let s = sum_times b (neg_ℤ b) d in
    let z : (b +ℤ neg_ℤ b) *ℤ pos d ≡ pos 0 *ℤ pos d = ap (λ (y : ℤ). y *ℤ pos d) (+ℤ_invr b) in
    let n = zero-*ℤ (pos d) in
    omega (arith, ints)
