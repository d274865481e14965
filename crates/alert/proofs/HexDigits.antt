-- A number below 16 ^ 5 in five upper-case hexadecimal digits, as padding with zeros writes it.
-- Assumes nothing.
use Rattle.std.proofs.Common.{◌≡◌, ℕ, zero, suc, ◌+◌, ◌-◌, ◌/◌, ◌%◌, ◌^◌, ◌<◌, ◌≤◌, Bool, true, false, eqb, cond, List, [], ◌∷◌, ◌++◌, length, replicate, sym, refl, ap, ◌∙◌, ⊎_elim, arith, pow-suc}
use mathlib.Core.List.{append-nil}
use Rattle.std.proofs.lemmas.Bool.{cases_lt, eq-eqb, ne_eqb}
use Rattle.std.specs.Fmt.{char_count, digit_glyph, digits, digits_onto, format_spec, padded_integral}
use Rattle.alert.specs.Printing.{five_digits}
use Rattle.alert.specs.declared.conditions.Conditions as c

-- the last k digits of n, before those that are written
abbrev fixed : ℕ → ℕ → List ℕ → List ℕ
fixed zero n written = written
fixed (suc k) n written = fixed k (n / 16) (digit_glyph true (n % 16) ∷ written)

-- digits with zeros before them, up to the width
abbrev padded : ℕ → List ℕ → List ℕ
padded width ds = replicate (width - length ds) 48 ++ ds

-- the digits of 0 are zeros
zeros : (k : ℕ) (written : List ℕ) → replicate k 48 ++ written ≡ fixed k 0 written
zeros zero written = refl
zeros (suc k) written = pushed k written ∙ zeros k (48 ∷ written)
  where
    pushed : (j : ℕ) (ds : List ℕ) → (48 ∷ replicate j 48 ++ ds) ≡ replicate j 48 ++ 48 ∷ ds
    pushed zero ds = refl
    pushed (suc j) ds = ap (λ (l : List ℕ). 48 ∷ l) (pushed j ds)

-- one turn of the digits: the last one, and the front where there is one
turn : (k n : ℕ) (written : List ℕ) (t : Bool) → eqb (n / 16) 0 ≡ t
    → digits_onto (suc k) 16 true n written ≡ cond t (digit_glyph true (n % 16) ∷ written) (digits_onto k 16 true (n / 16) (digit_glyph true (n % 16) ∷ written))
turn k n written t e =
    ap (λ (b : Bool). cond b (digit_glyph true (n % 16) ∷ written) (digits_onto k 16 true (n / 16) (digit_glyph true (n % 16) ∷ written))) e

-- zeros before one digit
one_digit : (k j n : ℕ) (written : List ℕ) → n < 16 → padded (suc k + length written) (digits_onto (suc j) 16 true n written) ≡ fixed (suc k) n written
one_digit k j n written small =
    let last : List ℕ = digit_glyph true (n % 16) ∷ written in
    let none : 0 ≡ n / 16 = omega arith in
    let width : suc k + length written - suc (length written) ≡ k = omega arith in
    ap (padded (suc k + length written)) (turn j n written true (eq-eqb _ 0 (sym none))) ∙ ap (λ (m : ℕ). replicate m 48 ++ last) width ∙ zeros k last
    ∙ ap (λ (m : ℕ). fixed k m last) none

-- zeros before the digits of a number make up the width
filled : (k j n : ℕ) (written : List ℕ) → k < j → n < 16 ^ suc k → padded (suc k + length written) (digits_onto j 16 true n written) ≡ fixed (suc k) n written
filled k zero n written b h = absurd (omega arith)
filled zero (suc j) n written b h = one_digit zero j n written (omega arith)
filled (suc k) (suc j) n written b h =
    ⊎_elim (one_digit (suc k) j n written) (λ (large : 16 ≤ n). digits_more large (filled k j (n / 16) (digit_glyph true (n % 16) ∷ written) (omega arith) (omega (arith, pow-suc 16 (suc k)))))
    (cases_lt n 16)
  where
    digits_more : 16 ≤ n → padded (suc k + suc (length written)) (digits_onto j 16 true (n / 16) (digit_glyph true (n % 16) ∷ written)) ≡ fixed (suc (suc k)) n written
        → padded (suc (suc k) + length written) (digits_onto (suc j) 16 true n written) ≡ fixed (suc (suc k)) n written
    digits_more large rest =
        let width : suc (suc k) + length written ≡ suc k + suc (length written) = omega arith in
        ap (padded (suc (suc k) + length written)) (turn j n written false (ne_eqb _ 0 (λ e. omega arith)))
        ∙ ap (λ (m : ℕ). padded m (digits_onto j 16 true (n / 16) (digit_glyph true (n % 16) ∷ written))) width ∙ rest

-- the digits, by the turns
spelled : (n : ℕ) → digits 16 true n ≡ digits_onto 64 16 true n []
unfolding digits
spelled n = refl

-- what the width 5 and the flag for zeros make of digits
laid_out : (ds : List ℕ) → padded_integral (format_spec 32 0 4 5 (2 ^ 64 - 1)) false [] ds ≡ padded 5 ds
unfolding padded_integral char_count
laid_out ds =
    let short : 5 - length ds - 0 - 0 ≡ 5 - length ds = omega arith in
    λ i. replicate (short i) 48 ++ append-nil ds i

-- what is printed of a set by `{:05X}`
pub hex_five : (s : c.Conditions) → padded_integral (format_spec 32 0 4 5 (2 ^ 64 - 1)) false [] (digits 16 true s.bits) ≡ five_digits s
hex_five s =
    let n : ℕ = s.bits in
    let fourth : n / 16 / 16 / 16 / 16 % 16 ≡ n / 65536 % 16 = omega arith in
    let third : n / 16 / 16 / 16 % 16 ≡ n / 4096 % 16 = omega arith in
    let second : n / 16 / 16 % 16 ≡ n / 256 % 16 = omega arith in
    let none : n % 16 ≡ n / 1 % 16 = omega arith in
    laid_out (digits 16 true n) ∙ ap (padded 5) (spelled n) ∙ filled 4 64 n [] (omega arith) (omega (arith, s.few))
    ∙ (λ i. digit_glyph true (fourth i) ∷ digit_glyph true (third i) ∷ digit_glyph true (second i) ∷ digit_glyph true (n / 16 % 16) ∷ digit_glyph true (none i) ∷ [])
