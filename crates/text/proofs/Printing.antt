-- What a format string writes of a byte, of a word and of a digit.
use Rattle.std.proofs.Common.{◌≡◌, ◌≢◌, ℕ, zero, suc, ◌+◌, ◌-◌, ◌/◌, ◌%◌, ◌^◌, ◌≤◌, ◌<◌, Bool, true, false, cond, eqb, List, [], ◌∷◌, ◌++◌, decimal, ⊎_elim, refl, sym, ap, ◌∙◌, append_assoc, arith, eq-eqb, ne_eqb}
use native.Mathlib.Nat.{pow-succ', div-div-eq-div-mul}
use Rattle.std.specs.Fmt.{digits, digits_onto, padded_integral, char_count, format_spec}
use Rattle.std.proofs.lemmas.Bool.{cases_lt}
use Rattle.std.proofs.lemmas.Fmt as std
use Rattle.text.specs.Writing.{hex_letter, hex_text, hex_word, last_digits, fixed}

-- what `{byte:02X}` writes
pub hex_byte_text : (n : ℕ) → n < 256 → padded_integral (format_spec 32 0 4 2 (2 ^ 64 - 1)) false [] (digits 16 true n) ≡ hex_text n
hex_byte_text n small = std.hex_byte true n small

-- one digit of a number, before those that follow
module _ (k n : ℕ) (after : List ℕ) where
  digit_by : (last : Bool) → eqb (n / 16) 0 ≡ last → digits_onto (suc k) 16 true n after ≡ cond last (hex_letter (n % 16) ∷ after) (digits_onto k 16 true (n / 16) (hex_letter (n % 16) ∷ after))
  digit_by last e = ap (λ (b : Bool). cond b (hex_letter (n % 16) ∷ after) (digits_onto k 16 true (n / 16) (hex_letter (n % 16) ∷ after))) e

  first_digit : n < 16 → digits_onto (suc k) 16 true n after ≡ hex_letter n ∷ after
  first_digit small = let same : n % 16 ≡ n = omega arith in digit_by true (eq-eqb _ 0 (omega arith)) ∙ ap (λ d. hex_letter d ∷ after) same

  later_digit : 16 ≤ n → digits_onto (suc k) 16 true n after ≡ digits_onto k 16 true (n / 16) (hex_letter (n % 16) ∷ after)
  later_digit large = digit_by false (ne_eqb _ 0 (omega arith))

-- the digits of a number of three digits, and of four
onto_three : (k n : ℕ) → 256 ≤ n → n < 4096 → digits_onto (suc (suc (suc k))) 16 true n [] ≡ hex_letter (n / 16 / 16) ∷ hex_letter (n / 16 % 16) ∷ hex_letter (n % 16) ∷ []
onto_three k n large small =
    later_digit (suc (suc k)) n [] (omega arith) ∙ later_digit (suc k) (n / 16) _ (omega arith) ∙ first_digit k (n / 16 / 16) _ (omega arith)

onto_four : (k n : ℕ) → 4096 ≤ n → n < 65536 → digits_onto (suc (suc (suc (suc k)))) 16 true n [] ≡ hex_letter (n / 16 / 16 / 16) ∷ hex_letter (n / 16 / 16 % 16) ∷ hex_letter (n / 16 % 16) ∷ hex_letter (n % 16) ∷ []
onto_four k n large small =
    later_digit (suc (suc (suc k))) n [] (omega arith) ∙ later_digit (suc (suc k)) (n / 16) _ (omega arith) ∙ later_digit (suc k) (n / 16 / 16) _ (omega arith)
    ∙ first_digit k (n / 16 / 16 / 16) _ (omega arith)

three_digits : (n : ℕ) → 256 ≤ n → n < 4096 → digits 16 true n ≡ hex_letter (n / 16 / 16) ∷ hex_letter (n / 16 % 16) ∷ hex_letter (n % 16) ∷ []
unfolding digits
three_digits n large small = onto_three 61 n large small

four_digits : (n : ℕ) → 4096 ≤ n → n < 65536 → digits 16 true n ≡ hex_letter (n / 16 / 16 / 16) ∷ hex_letter (n / 16 / 16 % 16) ∷ hex_letter (n / 16 % 16) ∷ hex_letter (n % 16) ∷ []
unfolding digits
four_digits n large small = onto_four 60 n large small

-- the four digits of a word, one after the other
word_digits : (n : ℕ) → n < 65536 → hex_word n ≡ hex_letter (n / 16 / 16 / 16) ∷ hex_letter (n / 16 / 16 % 16) ∷ hex_letter (n / 16 % 16) ∷ hex_letter (n % 16) ∷ []
word_digits n small =
    let first : n / 256 / 16 ≡ n / 16 / 16 / 16 = omega arith in
    let second : n / 256 % 16 ≡ n / 16 / 16 % 16 = omega arith in
    let third : n % 256 / 16 ≡ n / 16 % 16 = omega arith in
    let fourth : n % 256 % 16 ≡ n % 16 = omega arith in
    rw (first, second, third, fourth)

-- what `{word:04X}` writes
pub hex_word_text : (n : ℕ) → n < 65536 → padded_integral (format_spec 32 0 4 4 (2 ^ 64 - 1)) false [] (digits 16 true n) ≡ hex_word n
unfolding padded_integral char_count
hex_word_text n small = ⊎_elim
    (λ below. ⊎_elim
    (λ byte. ⊎_elim
    (λ one.
    let high : n / 16 / 16 / 16 ≡ 0 = omega arith in let next : n / 16 / 16 % 16 ≡ 0 = omega arith in let third : n / 16 % 16 ≡ 0 = omega arith in let low : n % 16 ≡ n = omega arith in
    rw (std.hex_one_digit true n one, word_digits n small, high, next, third, low))
    (λ two.
    let high : n / 16 / 16 / 16 ≡ 0 = omega arith in let next : n / 16 / 16 % 16 ≡ 0 = omega arith in let third : n / 16 % 16 ≡ n / 16 = omega arith in
    rw (std.hex_two_digits true n two byte, word_digits n small, high, next, third))
    (cases_lt n 16))
    (λ three. let high : n / 16 / 16 / 16 ≡ 0 = omega arith in let next : n / 16 / 16 % 16 ≡ n / 16 / 16 = omega arith in rw (three_digits n three below, word_digits n small, high, next))
    (cases_lt n 256))
    (λ four. rw (four_digits n four small, word_digits n small))
    (cases_lt n 4096)

-- a number with decimals: the number without the last one, and its digit
pub fixed_step : (k n : ℕ) → ◌≢◌ k 0 → fixed k n ≡ fixed (k - 1) (n / 10) ++ decimal (n % 10)
fixed_step zero n some = absurd (some refl)
fixed_step (suc k) n some =
    let back : k ≡ suc k - 1 = omega arith in
    let whole : n / 10 ^ suc k ≡ n / 10 / 10 ^ k = ap (λ p. n / p) (pow-succ' 10 k) ∙ sym (div-div-eq-div-mul n 10 (10 ^ k)) in
    ap (λ w. decimal w ++ 46 ∷ last_digits (suc k) n) whole ∙ sym (append_assoc (decimal (n / 10 / 10 ^ k)) (46 ∷ last_digits k (n / 10)) ((48 + n % 10) ∷ []))
    ∙ ap (λ d. fixed k (n / 10) ++ d) (sym (std.decimal_digit (n % 10) (omega arith))) ∙ ap (λ j. fixed j (n / 10) ++ decimal (n % 10)) back
