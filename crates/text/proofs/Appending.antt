-- One append after another.
use Rattle.std.proofs.Common.{◌≡◌, ℕ, suc, ◌+◌, ◌/◌, ◌%◌, ◌^◌, ◌<◌, ◌≤◌, true, cond, ltb, List, [], ◌∷◌, ◌++◌, is_err, Ok, Err, decimal, Result, sym, ap, ◌∙◌, ⊎_elim, append_assoc, div-one, arith}
use native.Mathlib.Nat.{pow-succ', div-div-eq-div-mul}
use Rattle.std.proofs.lemmas.Fmt.{decimal_digit, decimal_step}
use Rattle.std.proofs.lemmas.Bool.{false≢true, lt-ltb, le-ltb, cases_lt}
use Rattle.text.specs.Writing.{Appends, Begun, fixed, last_digits}

-- the first text stands whole, and a second append goes on from there
pub appends_then : {T E : Type 0} (r : Result T E) (old a b mid new : List ℕ) → mid ≡ old ++ a → Appends r mid b new → Appends r old (a ++ b) new
appends_then (Ok x) old a b mid new first second = second ∙ ap (λ l. l ++ b) first ∙ append_assoc old a b
appends_then (Err e) old a b mid new first (part, left, whole, is) =
    (a ++ part, left, ap (λ l. a ++ l) whole ∙ sym (append_assoc a part left), is ∙ ap (λ l. l ++ part) first ∙ append_assoc old a part)

-- the first append stopped for want of memory, so the second text is not begun
pub appends_stops : {T E : Type 0} (r : Result T E) (old a b new : List ℕ) → is_err r ≡ true → Begun old a new → Appends r old (a ++ b) new
appends_stops (Ok x) old a b new none begun = absurd (false≢true none)
appends_stops (Err e) old a b new some (part, left, whole, is) = (part, left ++ b, ap (λ l. l ++ b) whole ∙ append_assoc part left b, is)

-- a text written with one more decimal
pub fixed_more : (k n : ℕ) → fixed (suc k) n ≡ fixed k (n / 10) ++ (48 + n % 10) ∷ []
fixed_more k n =
    let whole : n / 10 ^ suc k ≡ n / 10 / 10 ^ k = ap (λ p. n / p) (pow-succ' 10 k) ∙ sym (div-div-eq-div-mul n 10 (10 ^ k)) in
    ap (λ w. decimal w ++ 46 ∷ last_digits (suc k) n) whole ∙ sym (append_assoc (decimal (n / 10 / 10 ^ k)) (46 ∷ last_digits k (n / 10)) ((48 + n % 10) ∷ []))

-- with no decimals a point follows the whole number
pub fixed_none : (n : ℕ) → fixed 0 n ≡ decimal n ++ 46 ∷ []
fixed_none n = ap (λ w. decimal w ++ 46 ∷ []) (div-one n)

-- the digits of a number but for the last one
abbrev pub front_digits : ℕ → List ℕ
front_digits n = cond (ltb n 10) [] (decimal (n / 10))

pub digits_last : (n : ℕ) → n < 2 ^ 64 → front_digits n ++ (48 + n % 10) ∷ [] ≡ decimal n
digits_last n h =
    ⊎_elim
    (λ (s : n < 10).
    let one : n % 10 ≡ n = omega arith in
    ap (λ b. cond b [] (decimal (n / 10)) ++ (48 + n % 10) ∷ []) (lt-ltb n 10 s) ∙ ap (λ d. (48 + d) ∷ []) one ∙ sym (decimal_digit n s))
    (λ (l : 10 ≤ n). ap (λ b. cond b [] (decimal (n / 10)) ++ (48 + n % 10) ∷ []) (le-ltb n 10 l) ∙ sym (decimal_step n l h))
    (cases_lt n 10)

-- one digit more in front of those written so far
pub digits_more : (n : ℕ) (written all : List ℕ) → 10 ≤ n → n < 2 ^ 64 → front_digits n ++ written ≡ all → front_digits (n / 10) ++ (48 + n / 10 % 10) ∷ written ≡ all
digits_more n written all l h e =
    sym (append_assoc (front_digits (n / 10)) ((48 + n / 10 % 10) ∷ []) written) ∙ ap (λ ds. ds ++ written) (digits_last (n / 10) (omega arith))
    ∙ sym (ap (λ b. cond b [] (decimal (n / 10)) ++ written) (le-ltb n 10 l)) ∙ e

pub no_front : (n : ℕ) (written all : List ℕ) → n < 10 → front_digits n ++ written ≡ all → written ≡ all
no_front n written all h e = sym (ap (λ b. cond b [] (decimal (n / 10)) ++ written) (lt-ltb n 10 h)) ∙ e
