-- A run of decimal digits, and the number that it writes.
use Rattle.std.proofs.Common.{◌≡◌, ℕ, ◌+◌, ◌-◌, ◌*◌, ◌^◌, ◌<◌, ◌≤◌, leb, List, length, get_or, take, sym, ap, ◌∙◌, add-one, arith, length-take-le}
use native.Mathlib.Nat.{pow-succ', pow-le-pow_right}
use Rattle.std.specs.List.{prefix_len}
use Rattle.std.proofs.lemmas.List.Sums.{fold_more, prefix_len_is, prefix_len_passes, prefix_len-le-length}
use Rattle.std.proofs.lemmas.List.{get_or-take}
use Rattle.std.proofs.lemmas.Bool.{and_parts, leb-true}
use Rattle.text.specs.Digits.{is_digit, number_of}

-- the first digits of a run are digits
pub all_digits : (bs : List ℕ) (n : ℕ) → n ≤ prefix_len is_digit bs → prefix_len is_digit (take n bs) ≡ length (take n bs)
all_digits bs n few =
    let size = length-take-le n bs (omega (arith, few, prefix_len-le-length is_digit bs)) in
    prefix_len_is is_digit (take n bs) (length (take n bs)) 0 (omega arith) (λ k h. ap is_digit (get_or-take n bs k 0 (omega (arith, size))) ∙ prefix_len_passes is_digit bs k 0 (omega (arith, size))) (λ h. absurd (omega arith))

-- a number of fewer than 19 digits and one digit more fit 64 bits
pub room : (n i d : ℕ) → n < 10 ^ i → i < 19 → d < 10 → 10 * n + d < 2 ^ 64
room n i d small few one =
    let most : 10 ^ i ≤ 10 ^ 18 = let few' : i ≤ 18 = omega arith in pow-le-pow_right {n = 10} (omega arith) few' in
    omega arith

-- one digit of a list of digits, after a number
module _ (bs : List ℕ) (i n : ℕ) (inside : i < length bs) (all : prefix_len is_digit bs ≡ length bs) where
  pub digit_range : (48 ≤ get_or bs i 0) × (get_or bs i 0 - 48 < 10)
  digit_range =
      let b = get_or bs i 0 in
      let q = and_parts (leb 48 b) (leb b 57) (prefix_len_passes is_digit bs i 0 (omega (arith, all))) in
      (leb-true 48 b q.0, omega (arith, leb-true b 57 q.1))

  pub number_more : n ≡ number_of (take i bs) → 10 * n + (get_or bs i 0 - 48) ≡ number_of (take (i + 1) bs)
  number_more e = ap (λ m. 10 * m + (get_or bs i 0 - 48)) e ∙ sym (fold_more (λ m b. 10 * m + (b - 48)) 0 bs i 0 inside)

  pub bound_more : n < 10 ^ i → 10 * n + (get_or bs i 0 - 48) < 10 ^ (i + 1)
  bound_more h = rw (add-one, pow-succ') (omega (arith, digit_range.1))
