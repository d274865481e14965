use Rattle.std.proofs.Common.{◌≡◌, ℕ, zero, suc, ◌+◌, ◌-◌, ◌*◌, ◌/◌, ◌%◌, ◌^◌, ◌<◌, ◌≤◌, ◌∷◌, ◌++◌, take, drop, set, sym, refl, ap, ◌∙◌, add-one, arith, length-set}
use native.Mathlib.Nat.{pow-succ'}
use Rattle.std.proofs.lemmas.List.{drop-set, take_rest}
use Rattle.text.proofs.Appending.{front_digits, digits_last, digits_more, no_front}
use Rattle.text.proofs.Reading.{decimal_reads}
use Rattle.text.proofs.writing.decimal_digits.Goals as goal

-- a number of two digits or more has room for one digit less
shorter : (n k : ℕ) → 10 ≤ n → n < 10 ^ (k + 1) → (0 < k) × (n / 10 < 10 ^ (k - 1 + 1))
shorter n zero l h = absurd (omega arith)
shorter n (suc k) l h =
    let p : n < 10 * 10 ^ suc k = rw (add-one, pow-succ') at h in
    let q : suc k - 1 + 1 ≡ suc k = omega arith in
    (omega arith, rw q (omega arith))

pub loop-left-init : goal.loop-left-init
loop-left-init c = (refl, omega arith, omega arith, omega arith, digits_last c.args.n (omega arith))

pub loop-left-preserved : goal.loop-left-preserved
loop-left-preserved c =
    let n = c.loop-left.left in
    let i = c.loop-left.start in
    let buffer = c.loop-left.buffer in
    let inv = c.loop-left.invariant in
    let less = shorter n i c.loop-left-test.true inv.2 in
    let back : i - 1 + 1 ≡ i = omega (arith, less.0) in
    let put : drop (i - 1) (set buffer (i - 1) (48 + n / 10 % 10)) ≡ (48 + n / 10 % 10) ∷ drop i buffer = drop-set buffer (i - 1) (48 + n / 10 % 10) (omega (arith, less.0, inv.0)) ∙ ap (λ k. (48 + n / 10 % 10) ∷ drop k buffer) back in (
      length-set buffer (i - 1) (48 + n / 10 % 10) ∙ inv.0,
      omega arith,
      less.1,
      omega arith,
      ap (λ l. front_digits (n / 10) ++ l) put ∙ digits_more n (drop i buffer) _ c.loop-left-test.true (omega arith) inv.4,
    )

pub returns : goal.returns
returns c =
    let inv = c.loop-left.invariant in
    let buffer = c.loop-left.buffer in
    record {
      value = ap (λ n. take (n - c.loop-left.start) (drop c.loop-left.start buffer)) (sym inv.0) ∙ take_rest buffer c.loop-left.start ∙ no_front _ _ _ c.loop-left-test.false inv.4;
      within = omega arith;
      reads = decimal_reads c.args.n (omega arith);
    }
