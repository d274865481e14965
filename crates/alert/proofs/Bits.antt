-- Which bits are 1 in 0, in a power of two, in a disjunction, a conjunction and a complement.
-- Assumes nothing.
use Rattle.std.proofs.Common.{◌≡◌, ℕ, zero, suc, ◌+◌, ◌-◌, ◌*◌, ◌/◌, ◌%◌, ◌^◌, ◌<◌, ◌≤◌, min, max, true, false, not, ◌&&◌, ◌||◌, eqb, sym, ap, ◌∙◌, subst, ⊎_elim, add-mul, pow-suc, div-one, arith, pow_pos, pow_mono, pow-add}
use native.Mathlib.Nat.{div-eq_of_lt, div_self}
use lib.Bits.{bit_and, bit_or, and_step, or_step, and_shr, or_shr}
use Rattle.std.proofs.lemmas.Nat.{shr-shr, shr_split, shr_high, mod_below, leading_top, shr_below, shl-shr, pow_below}
use Rattle.std.proofs.lemmas.Bool.{both_ways, cases_lt, eq-eqb, ne_eqb}
use Rattle.std.proofs.lemmas.Bool.Decides.{nat_tests}
use Rattle.alert.specs.Bits.{has_bit}

-- ---- a bit as a digit

pub has_digit : (c n : ℕ) → n / 2 ^ c % 2 ≡ 1 → has_bit c n ≡ true
unfolding has_bit
has_digit c n = eq-eqb (n / 2 ^ c % 2) 1

pub lacks_digit : (c n : ℕ) → n / 2 ^ c % 2 ≡ 0 → has_bit c n ≡ false
unfolding has_bit
lacks_digit c n e = ne_eqb (n / 2 ^ c % 2) 1 (λ f. omega arith)

-- ---- past the highest bit

pub lacks_past : (k c n : ℕ) → n < 2 ^ k → k ≤ c → has_bit c n ≡ false
lacks_past k c n f h = let below : n < 2 ^ c = omega (arith, pow_mono {i = k} {j = c} h) in lacks_digit c n (omega (arith, div-eq_of_lt below))

pub has_below : (k c n : ℕ) → n < 2 ^ k → has_bit c n ≡ true → c < k
has_below k c n f e = ⊎_elim (λ h. h) (λ h. absurd (both_ways (has_bit c n) (lacks_past k c n f h) e)) (cases_lt c k)

pub lacks_zero : (c : ℕ) → has_bit c 0 ≡ false
lacks_zero c = lacks_past 0 c 0 (omega arith) (omega arith)

-- ---- a power of two

pub has_power : (c : ℕ) → has_bit c (2 ^ c) ≡ true
has_power c = let e : 2 ^ c / 2 ^ c ≡ 1 = div_self (pow_pos c) in has_digit c (2 ^ c) (omega arith)

pub lacks_power : (c d : ℕ) → (d ≡ c → ⊥) → has_bit d (2 ^ c) ≡ false
lacks_power c d n = ⊎_elim lower higher (cases_lt d c)
  where
    lower : d < c → has_bit d (2 ^ c) ≡ false
    lower h =
        let j : ℕ = c - suc d in
        let width : suc j + d ≡ c = omega arith in
        let whole : 2 ^ c ≡ 2 ^ suc j * 2 ^ d = ap (λ (k : ℕ). 2 ^ k) (sym width) ∙ pow-add 2 (suc j) d in
        let quotient : 2 ^ c / 2 ^ d ≡ 2 ^ suc j = ap (λ (m : ℕ). m / 2 ^ d) whole ∙ shl-shr (2 ^ suc j) d in
        lacks_digit d (2 ^ c) (omega (arith, quotient, pow-suc 2 j))

    higher : c ≤ d → has_bit d (2 ^ c) ≡ false
    higher h = lacks_past d d (2 ^ c) (pow_below c d (omega arith)) (omega arith)

-- ---- or, and, not

either_digit : (n x y : ℕ) → n % 2 ≡ max (x % 2) (y % 2) → eqb (n % 2) 1 ≡ (eqb (x % 2) 1 || eqb (y % 2) 1)
either_digit n x y e = grind (arith, nat_tests)

both_digits : (n x y : ℕ) → n % 2 ≡ min (x % 2) (y % 2) → eqb (n % 2) 1 ≡ (eqb (x % 2) 1 && eqb (y % 2) 1)
both_digits n x y e = grind (arith, nat_tests)

other_digit : (n x : ℕ) → n % 2 ≡ 1 - x % 2 → eqb (n % 2) 1 ≡ not (eqb (x % 2) 1)
other_digit n x e = grind (arith, nat_tests)

pub has_or : (c a b : ℕ) → has_bit c (bit_or a b) ≡ (has_bit c a || has_bit c b)
unfolding has_bit
has_or c a b = either_digit _ (a / 2 ^ c) (b / 2 ^ c) (ap (λ (n : ℕ). n % 2) (or_shr a b c) ∙ omega (arith, or_step (a / 2 ^ c) (b / 2 ^ c)))

pub has_and : (c a b : ℕ) → has_bit c (bit_and a b) ≡ (has_bit c a && has_bit c b)
unfolding has_bit
has_and c a b = both_digits _ (a / 2 ^ c) (b / 2 ^ c) (ap (λ (n : ℕ). n % 2) (and_shr a b c) ∙ omega (arith, and_step (a / 2 ^ c) (b / 2 ^ c)))

-- the complement at a width of k bits
pub has_not : (k c a : ℕ) → c < k → a < 2 ^ k → has_bit c ((2 ^ k - 1) - a) ≡ not (has_bit c a)
unfolding has_bit
has_not k c a h f =
    let j : ℕ = k - suc c in
    let unit : ℕ = 2 ^ c in
    let high : ℕ = a / unit in
    let low : ℕ = a % unit in
    let rest : ℕ = 2 ^ suc j - 1 - high in
    let width : suc j + c ≡ k = omega arith in
    let whole : 2 ^ k ≡ 2 ^ suc j * unit = ap (λ (n : ℕ). 2 ^ n) (sym width) ∙ pow-add 2 (suc j) c in
    let even : 2 ^ suc j ≡ 2 ^ j * 2 = pow-suc 2 j in
    let low_fits : low < unit = mod_below a unit (pow_pos c) in
    let high_fits : high < 2 ^ suc j = shr_below a (suc j) c (subst (λ (n : ℕ). a < 2 ^ n) (sym width) f) in
    let count : rest + (high + 1) ≡ 2 ^ suc j = omega arith in
    let product : 2 ^ suc j * unit ≡ rest * unit + (high * unit + unit) =
    ap (λ (n : ℕ). n * unit) (sym count) ∙ add-mul rest (high + 1) unit ∙ omega (arith, add-mul high 1 unit) in
    let apart : (2 ^ k - 1) - a ≡ rest * unit + (unit - 1 - low) = omega (arith, shr_split a c) in
    let small : unit - 1 - low < unit = omega arith in
    let quotient : ((2 ^ k - 1) - a) / unit ≡ rest = ap (λ (n : ℕ). n / unit) apart ∙ shr_high rest c (unit - 1 - low) small in
    other_digit _ high (omega arith)

-- ---- a number by its bits

-- a number that is not 0 has a bit that is 1
pub some_bit : (k n : ℕ) → 0 < n → n < 2 ^ k → (c : ℕ) × (has_bit c n ≡ true)
some_bit k n p f =
    let top = leading_top k n p f in
    let j : ℕ = top.0 in
    let twice : 2 ^ suc j ≡ 2 ^ j * 2 = pow-suc 2 j in
    let low : n - 2 ^ j < 2 ^ j = omega (arith, top.2, top.3) in
    let apart : n ≡ 1 * 2 ^ j + (n - 2 ^ j) = omega (arith, top.2) in
    let quotient : n / 2 ^ j ≡ 1 = ap (λ (m : ℕ). m / 2 ^ j) apart ∙ shr_high 1 j (n - 2 ^ j) low in
    (j, has_digit j n (omega arith))

-- bit 0, and the bits of the half
has_first : (n : ℕ) → has_bit 0 n ≡ eqb (n % 2) 1
unfolding has_bit
has_first n = ap (λ (m : ℕ). eqb (m % 2) 1) (div-one n)

has_next : (c n : ℕ) → has_bit c (n / 2) ≡ has_bit (1 + c) n
unfolding has_bit
has_next c n = ap (λ (m : ℕ). eqb (m % 2) 1) (shr-shr n 1 c)

same_digit : (a b : ℕ) → eqb (a % 2) 1 ≡ eqb (b % 2) 1 → a % 2 ≡ b % 2
same_digit a b e = grind (arith, nat_tests)

-- numbers with the same bits are equal
pub same_bits : (k a b : ℕ) → a < 2 ^ k → b < 2 ^ k → ((c : ℕ) → has_bit c a ≡ has_bit c b) → a ≡ b
same_bits zero a b f g same = omega arith
same_bits (suc k) a b f g same =
    let twice : 2 ^ suc k ≡ 2 ^ k * 2 = pow-suc 2 k in
    let first : a % 2 ≡ b % 2 = same_digit a b (sym (has_first a) ∙ same 0 ∙ has_first b) in
    let halves : a / 2 ≡ b / 2 =
    same_bits k (a / 2) (b / 2) (omega arith) (omega arith) (λ c. has_next c a ∙ same (1 + c) ∙ sym (has_next c b)) in
    omega arith
