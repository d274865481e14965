-- When an address stands on two segments, and segments as built.
-- Assumes nothing.
use Rattle.std.proofs.Common.{◌≡◌, ℕ, ◌<◌, Bool, true, false, not, ◌&&◌, ◌||◌, eqb, List, [], ◌∷◌, ◌++◌, get_or, sym, refl, ap, ◌∙◌, subst, arith, ⊎_elim, eq-eqb, eqb-true}
use Rattle.std.proofs.lemmas.Bool.{and_parts, both_ways, false_from_ne_true, or_cases, or_from, or_left, or_parts, or_right}
use Rattle.std.proofs.lemmas.List.Folds.{list_any_at}
use Rattle.std.proofs.lemmas.List.FromFn.{get_or-range_with_len, length-range_with_len}
use Rattle.std.specs.List.{list_any, range_with_len}
use Rattle.alert.specs.Entries.{AsBuilt, address_of}
use Rattle.alert.specs.declared.entries.Entry.{Entry}
use Rattle.segment.specs.Segments.{All, Built, Unlike, clash, joined_entries, stands}
use Rattle.segment.proofs.Places.{stands_append}

-- an address that stands on both sides
pub clash_by : (a : ℕ) (l r : List Entry) → stands a l ≡ true → stands a r ≡ true → clash l r ≡ true
clash_by a [] r here there = absurd (both_ways false refl here)
clash_by a (x ∷ l) r here there = by (eqb (address_of x) a) refl here (λ more. clash_by a l r more there)
  where
    by : (t : Bool) → eqb (address_of x) a ≡ t → (t || stands a l) ≡ true → (stands a l ≡ true → clash l r ≡ true) → clash (x ∷ l) r ≡ true
    by true is on more = or_left _ _ (subst (λ (k : ℕ). stands k r ≡ true) (sym (eqb-true (address_of x) a is)) there)
    by false is on more = or_right (stands (address_of x) r) _ (more on)

-- an address of a station is below 128
address_low : (x : Entry) → address_of x < 128
address_low x = let h = x.address.lawful.1 in omega arith

-- where none does
pub no_clash : (l r : List Entry) → ((a : ℕ) → a < 128 → (stands a l && stands a r) ≡ false) → clash l r ≡ false
no_clash [] r none = refl
no_clash (x ∷ l) r none = or_from _ _ (first (stands (address_of x) r) refl) (no_clash l r rest)
  where
    here : stands (address_of x) (x ∷ l) ≡ true
    here = or_left _ _ (eq-eqb (address_of x) (address_of x) refl)

    first : (t : Bool) → stands (address_of x) r ≡ t → t ≡ false
    first true is = absurd (both_ways _ (none (address_of x) (address_low x)) (ap (λ (b : Bool). b && stands (address_of x) r) here ∙ is))
    first false is = refl

    rest : (a : ℕ) → a < 128 → (stands a l && stands a r) ≡ false
    rest a low = by (stands a l) (stands a r) (eqb (address_of x) a) (none a low)
      where
        by : (s t e : Bool) → ((e || s) && t) ≡ false → (s && t) ≡ false
        by true t true is = is
        by true t false is = is
        by false t e is = refl

-- an address stands on both sides where one below 80h does
pub any_clash : (l r : List Entry) → list_any (λ a. stands a l && stands a r) (range_with_len 0 128) ≡ clash l r
any_clash l r = by (list_any on_both (range_with_len 0 128)) refl
  where
    on_both : ℕ → Bool
    on_both a = stands a l && stands a r

    found : (xs : List ℕ) → list_any on_both xs ≡ true → clash l r ≡ true
    found [] e = absurd (both_ways false refl e)
    found (a ∷ xs) e =
        ⊎_elim (λ here. let both = and_parts (stands a l) (stands a r) here in clash_by a l r both.0 both.1) (found xs) (or_cases (on_both a) (list_any on_both xs) e)

    absent : list_any on_both (range_with_len 0 128) ≡ false → (a : ℕ) → a < 128 → on_both a ≡ false
    absent is a low =
        let at : get_or (range_with_len 0 128) a 0 ≡ a = omega (arith, get_or-range_with_len 0 128 a 0 low) in
        false_from_ne_true (on_both a) (λ here.
        both_ways _ is (list_any_at on_both (range_with_len 0 128) a 0 (omega (arith, low, length-range_with_len 0 128)) (ap on_both at ∙ here)))

    by : (t : Bool) → list_any on_both (range_with_len 0 128) ≡ t → t ≡ clash l r
    by true is = sym (found (range_with_len 0 128) is)
    by false is = sym (no_clash l r (absent is))

-- ---- as built

all_append : (P : Entry → Type 0) (l r : List Entry) → All P l → All P r → All P (l ++ r)
all_append P [] r left right = right
all_append P (x ∷ l) r left right = (left.0, all_append P l r left.1 right)

unlike_append : (l r : List Entry) → Unlike l → Unlike r → clash l r ≡ false → Unlike (l ++ r)
unlike_append [] r left right none = right
unlike_append (x ∷ l) r left right none = (
  stands_append (address_of x) l r ∙ or_from _ _ left.0 (or_parts _ _ none).0,
  unlike_append l r left.1 right (or_parts (stands (address_of x) r) _ none).1,
)

-- a join of segments as built is as built
pub built_joined : (l r : List Entry) (both : Bool) → both ≡ not (clash l r) → Built l → Built r → Built (joined_entries both l r)
built_joined l r true is left right = (unlike_append l r left.0 right.0 (none (clash l r) is), all_append AsBuilt l r left.1 right.1)
  where
    none : (t : Bool) → true ≡ not t → t ≡ false
    none true e = absurd (both_ways true e refl)
    none false e = refl
built_joined l r false is left right = left
