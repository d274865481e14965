-- How large a number of so many digits is.
use Rattle.std.proofs.Common.{◌≡◌, ℕ, ◌-◌, ◌*◌, ◌^◌, ◌<◌, ◌≤◌, ap, ◌∙◌, subst, arith, pow-add, sym}
use Rattle.std.proofs.Math.Nat.{mul-lt-mul_of_pos_right}
use native.Mathlib.Nat.{pow-le-pow_right, one-le-pow}

-- a power of ten of no more digits is no larger
pub power_up : (k m : ℕ) → k ≤ m → 10 ^ k ≤ 10 ^ m
power_up k m h = pow-le-pow_right {n = 10} (omega arith) h

-- n digits of k decimals, in units of the last
pub fraction_small : (n l k : ℕ) → n < 10 ^ l → l ≤ k → n * 10 ^ (k - l) < 10 ^ k
fraction_small n l k h less =
    let some : 0 < 10 ^ (k - l) = one-le-pow (k - l) 10 (omega arith) in
    let all : 10 ^ l * 10 ^ (k - l) ≡ 10 ^ k = sym (pow-add 10 l (k - l)) ∙ ap (λ m. 10 ^ m) (omega arith) in
    subst (λ m. n * 10 ^ (k - l) < m) all (mul-lt-mul_of_pos_right h some)
