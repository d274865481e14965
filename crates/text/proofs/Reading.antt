-- What is written of a number reads back as it.
use Rattle.std.proofs.Common.{◌≡◌, ℕ, ◌+◌, ◌-◌, ◌*◌, ◌/◌, ◌%◌, ◌^◌, ◌<◌, true, [], ◌∷◌, Some, None, decimal, fold, Option, refl, ap, ◌∙◌, arith, rules, MatchOption}
use Rattle.std.specs.Str.{all_ascii_digits}
use Rattle.std.proofs.lemmas.Bool.Decides.{nat_tests}
use Rattle.std.proofs.lemmas.Str.Parse.{IsNumeralModel, numerals_by_fold, tells_all_ascii_digits}
use Rattle.std.proofs.lemmas.Fmt.{digits_value-decimal}
use Rattle.text.specs.Digits.{hex_digit, hex_byte, of_two, number_of}
use Rattle.text.specs.Writing.{hex_letter, hex_text}

hex_back : (d : ℕ) → d < 16 → hex_digit (hex_letter d) ≡ Some d
hex_back d h = grind (arith, nat_tests)

pub hex_reads : (n : ℕ) → n < 256 → hex_byte (hex_letter (n / 16)) (hex_letter (n % 16)) ≡ Some n
hex_reads n h =
    let high = hex_back (n / 16) (omega arith) in
    let low = hex_back (n % 16) (omega arith) in
    let whole : 16 * (n / 16) + n % 16 ≡ n = omega arith in
    ap (λ h. of_two h (hex_digit (hex_letter (n % 16)))) high ∙ ap (λ l. of_two (Some (n / 16)) l) low ∙ ap (λ m. Some m) whole

own : IsNumeralModel (λ ds. all_ascii_digits ds ≡ true) number_of
own = numerals_by_fold _ tells_all_ascii_digits (fold (λ n b. 10 * n + (b - 48))) (search rules)

pub decimal_reads : (n : ℕ) → n < 2 ^ 64 → number_of (decimal n) ≡ n
decimal_reads n h = digits_value-decimal own n h

-- a digit's value is below 16, and the byte is that of the value
letter_of : (b d : ℕ) → hex_digit b ≡ Some d → (b ≡ hex_letter d) × (d < 16)
letter_of b d e = grind (arith, nat_tests)

two_found : (o p : Option ℕ) (b : ℕ) → Some b ≡ of_two o p → (h : ℕ) × (l : ℕ) × (o ≡ Some h) × (p ≡ Some l) × (b ≡ 16 * h + l)
two_found None p b e = let z : ◌≡◌ {A = ℕ} 0 1 = cc in absurd (omega arith)
two_found (Some h) None b e = let z : ◌≡◌ {A = ℕ} 0 1 = cc in absurd (omega arith)
two_found (Some h) (Some l) b e = (h, l, refl, refl, cc)

-- what two digits write is the byte that they spell
pub hex_spells : (high low : ℕ) (r : Option ℕ) → r ≡ hex_byte high low → MatchOption r ((b : ℕ) → b < 256 → (high ∷ low ∷ []) ≡ hex_text b → ⊥) (λ b. (high ∷ low ∷ []) ≡ hex_text b)
hex_spells high low None e = none
  where
    apart : {b : ℕ} → ◌≡◌ {A = Option ℕ} None (Some b) → ⊥
    apart f = let z : ◌≡◌ {A = ℕ} 0 1 = cc in omega arith

    none : (b : ℕ) → b < 256 → (high ∷ low ∷ []) ≡ hex_text b → ⊥
    none b h s =
        let h1 : high ≡ hex_letter (b / 16) = cc in
        let h2 : low ≡ hex_letter (b % 16) = cc in
        apart (e ∙ ap (λ (x : ℕ). hex_byte x low) h1 ∙ ap (λ (x : ℕ). hex_byte (hex_letter (b / 16)) x) h2 ∙ hex_reads b h)
hex_spells high low (Some b) e =
    let found = two_found (hex_digit high) (hex_digit low) b e in
    let first = letter_of high found.0 found.2 in
    let second = letter_of low found.1 found.3 in
    let h1 : b / 16 ≡ found.0 = omega (arith, found.4, first.1, second.1) in
    let h2 : b % 16 ≡ found.1 = omega (arith, found.4, first.1, second.1) in
    cc (first.0, second.0)
