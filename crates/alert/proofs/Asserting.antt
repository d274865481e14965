-- The test of whether a record asserts the alert, and what it tells.
-- Assumes nothing.
use Rattle.std.proofs.Common.{◌≡◌, ℕ, ◌-◌, ◌^◌, ◌<◌, ◌≤◌, Bool, true, not, ◌&&◌, eqb, ◌↔◌, sym, refl, ap, ◌∙◌, subst, ⊎_elim, arith}
use mathlib.Core.Bool.{and_assoc}
use lib.Bits.{bit_and, and_le_l}
use Rattle.std.proofs.lemmas.Bool.{and_from, and_parts, cases_lt, eqb-false, le-ltb, lt-ltb, ne_eqb, not_from_false, not-true}
use Rattle.std.proofs.lemmas.Bool.Decides.{same_from_decides, Decides-below_or}
use Rattle.alert.specs.Alerts.{Asserts, asserts, covers}
use Rattle.alert.specs.Bits.{has_bit, some_below}
use Rattle.alert.specs.Conditions.{has}
use Rattle.alert.specs.declared.alerts.AlertRecord.{AlertRecord}
use Rattle.alert.proofs.Bits.{has_and, has_not, lacks_past, some_bit, has_below}
use Rattle.alert.proofs.Sets.{has_few, none}

-- ---- some number below a limit

-- the test holds of some number below n exactly when there is one
pub some_test : (n : ℕ) (test : ℕ → Bool) → (some_below n test ≡ true) ↔ ((c : ℕ) × (c < n) × (test c ≡ true))
some_test n test = Decides-below_or test (λ c. test c ≡ true) (λ k. some_below k test) (λ c. ((λ h. h), (λ h. h))) refl (λ k. refl) n

-- tests that agree below n
some_same : (n : ℕ) (s t : ℕ → Bool) → ((c : ℕ) → c < n → s c ≡ t c) → some_below n s ≡ some_below n t
some_same n s t same =
    same_from_decides {P = (c : ℕ) × (c < n) × (t c ≡ true)} (some_below n s) (some_below n t) (
      (λ h. let found = (some_test n s).0 h in (found.0, found.1, sym (same found.0 found.1) ∙ found.2)),
      (λ found. (some_test n s).1 (found.0, found.1, same found.0 found.1 ∙ found.2)),
    )
    (some_test n t)

-- a number below 2 ^ k is not 0 exactly when some bit below k is 1
not_zero : (k n : ℕ) → n < 2 ^ k → not (eqb n 0) ≡ some_below k (λ c. has_bit c n)
not_zero k n f = same_from_decides {P = (c : ℕ) × (c < k) × (has_bit c n ≡ true)} (not (eqb n 0)) (some_below k (λ c. has_bit c n)) (forth, back) (some_test k (λ c. has_bit c n))
  where
    forth : not (eqb n 0) ≡ true → (c : ℕ) × (c < k) × (has_bit c n ≡ true)
    forth e =
        let more : 0 < n = omega (arith, eqb-false n 0 (not-true _ e)) in
        let found = some_bit k n more f in
        (found.0, has_below k found.0 n f found.1, found.1)

    back : (c : ℕ) × (c < k) × (has_bit c n ≡ true) → not (eqb n 0) ≡ true
    back found =
        not_from_false (eqb n 0) (ne_eqb n 0 (λ z. none found.0 (subst (λ (m : ℕ). has_bit found.0 m ≡ true) z found.2)))

-- ---- the mask

-- a mask word has no bit above 15, so that the limit of what it covers is its width
covers_is : (mask c : ℕ) → mask < 2 ^ 16 → covers mask c ≡ has_bit c mask
covers_is mask c f = ⊎_elim low high (cases_lt c 16)
  where
    low : c < 16 → covers mask c ≡ has_bit c mask
    low h = ap (λ (b : Bool). b && has_bit c mask) (lt-ltb c 16 h)

    high : 16 ≤ c → covers mask c ≡ has_bit c mask
    high h = ap (λ (b : Bool). b && has_bit c mask) (le-ltb c 16 h) ∙ sym (lacks_past 16 c mask f h)

-- ---- what the code computes

-- the latched conditions that are neither answered nor masked, as bits of 32
unfoldable pub open_bits : ℕ → ℕ → ℕ → ℕ
open_bits latched answered mask = bit_and (bit_and latched (4294967295 - answered)) (4294967295 - mask)

open_bit : (c latched answered mask : ℕ) → c < 17 → answered < 2 ^ 17 → mask < 2 ^ 16
    → has_bit c (open_bits latched answered mask) ≡ (has_bit c latched && (not (has_bit c answered) && not (covers mask c)))
unfolding open_bits
open_bit c latched answered mask h f g =
    let outer = has_and c (bit_and latched (4294967295 - answered)) (4294967295 - mask) in
    let inner = has_and c latched (4294967295 - answered) in
    let unanswered : has_bit c (4294967295 - answered) ≡ not (has_bit c answered) = has_not 32 c answered (omega arith) (omega arith) in
    let unmasked : has_bit c (4294967295 - mask) ≡ not (covers mask c) =
    has_not 32 c mask (omega arith) (omega arith) ∙ ap not (sym (covers_is mask c g)) in
    outer ∙ (λ i. inner i && unmasked i) ∙ (λ i. (has_bit c latched && unanswered i) && not (covers mask c))
    ∙ and_assoc (has_bit c latched) (not (has_bit c answered)) (not (covers mask c))

pub asserts_is : (r : AlertRecord) (mask : ℕ) → mask < 2 ^ 16 → not (eqb (open_bits r.latched.bits r.answered.bits mask) 0) ≡ asserts r mask
unfolding asserts open_bits
asserts_is r mask f =
    let few : open_bits r.latched.bits r.answered.bits mask < 2 ^ 17 =
    omega (arith, and_le_l (bit_and r.latched.bits (4294967295 - r.answered.bits)) (4294967295 - mask), and_le_l r.latched.bits (4294967295 - r.answered.bits), r.latched.few) in
    not_zero 17 (open_bits r.latched.bits r.answered.bits mask) few
    ∙ some_same 17 _ _ (λ c h. open_bit c r.latched.bits r.answered.bits mask h r.answered.few f)

-- ---- what the test tells

-- the test at one condition: latched, and neither answered nor covered
abbrev stands_out : AlertRecord → ℕ → ℕ → Bool
stands_out r mask c = has c r.latched && (not (has c r.answered) && not (covers mask c))

-- the test holds exactly when some latched condition is neither answered nor covered
pub asserts_test : (r : AlertRecord) (mask : ℕ) → (asserts r mask ≡ true) ↔ Asserts r mask
unfolding asserts
asserts_test r mask = (forth, back)
  where
    forth : some_below 17 (stands_out r mask) ≡ true → Asserts r mask
    forth e =
        let found = (some_test 17 (stands_out r mask)).0 e in
        let c : ℕ = found.0 in
        let parts = and_parts (has c r.latched) (not (has c r.answered) && not (covers mask c)) found.2 in
        let rest = and_parts (not (has c r.answered)) (not (covers mask c)) parts.1 in
        (c, parts.0, not-true _ rest.0, not-true _ rest.1)

    back : Asserts r mask → some_below 17 (stands_out r mask) ≡ true
    back a =
        (some_test 17 (stands_out r mask)).1 (
          a.0,
          has_few a.0 r.latched a.1,
          and_from _ _ a.1 (and_from _ _ (not_from_false _ a.2) (not_from_false _ a.3)),
        )
