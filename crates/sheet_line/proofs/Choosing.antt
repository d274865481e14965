-- The first word that stands at the front, and the nearest of some words, as the library finds them.
use Rattle.std.proofs.Common.{◌≡◌, ℕ, ◌+◌, ◌<◌, true, false, eqb, max, zero, suc, List, [], ◌∷◌, length, drop, map, fold, Some, None, sym, refl, ◌∙◌, ⊎_elim, arith}
use Rattle.std.specs.List.{common_prefix_len, AllWithin, HoldsAt, starts_with, reduce}
use Rattle.std.specs.Option.{unwrap_or}
use Rattle.std.proofs.lemmas.Bool.{cases_Bool, eqb-true, eq-eqb, ne_eqb}
use Rattle.std.proofs.lemmas.Bool.Decides.{nat_tests}
use Rattle.sheet_line.specs.Pieces.{named, stands, found, nearest}
use Rattle.sheet_line.specs.declared.pieces.Named.{Named}

one_more : (a b : ℕ) → eqb a b ≡ eqb (1 + a) (suc b)
one_more a b =
    ⊎_elim
    (λ (e : eqb a b ≡ true). e ∙ sym (eq-eqb (1 + a) (suc b) (omega (arith, eqb-true a b e))))
    (λ (e : eqb a b ≡ false). e ∙ sym (ne_eqb (1 + a) (suc b) (λ s. let same : a ≡ b = omega (arith, s) in let both : true ≡ false = sym (eq-eqb a b same) ∙ e in cc)))
    (cases_Bool (eqb a b))

-- to start with a word is to have all of it in common
pub starts_stands : (bs w : List ℕ) → starts_with eqb bs w ≡ stands w bs
starts_stands [] [] = refl
starts_stands (x ∷ xs) [] = refl
starts_stands [] (y ∷ ys) = sym (ne_eqb 0 (length (y ∷ ys)) (λ e. omega (arith, e)))
starts_stands (x ∷ xs) (y ∷ ys) =
    ⊎_elim
    (λ (e : eqb x y ≡ true). let same : eqb y x ≡ true = eq-eqb y x (sym (eqb-true x y e)) in rw (e, same) (starts_stands xs ys ∙ one_more (common_prefix_len eqb xs ys) (length ys)))
    (λ (e : eqb x y ≡ false). let other : eqb y x ≡ false = grind (arith, nat_tests) in rw (e, other) (sym (ne_eqb 0 (length (y ∷ ys)) (λ z. omega (arith, z)))))
    (cases_Bool (eqb x y))

module _ {A : Type 0} (bs : List ℕ) where
  -- a word stands at the front, or not
  abbrev pub Yes : Named A → Type 0
  Yes w = starts_with eqb bs w.text.now ≡ true

  abbrev pub No : Named A → Type 0
  No w = starts_with eqb bs w.text.now ≡ false

  pub none_found : (ws : List (Named A)) → AllWithin No ws 0 (length ws) → found (map named ws) bs ≡ None
  none_found [] h = refl
  none_found (w ∷ ws) h = rw (sym (starts_stands bs w.text.now) ∙ h 0 w (omega arith) (omega arith)) (none_found ws (λ k d l u. h (suc k) d (omega arith) (omega arith)))

  pub first_found : (ws : List (Named A)) (w : Named A) (i : ℕ) → Yes w → i < length ws → HoldsAt (λ v. v ≡ w) ws i → AllWithin No ws 0 i → found (map named ws) bs ≡ Some (w.means, drop (length w.text.now) bs)
  first_found [] w i y l at h = absurd (omega arith)
  first_found (v ∷ vs) w zero y l at h = rw (at v, sym (starts_stands bs w.text.now) ∙ y) refl
  first_found (v ∷ vs) w (suc i) y l at h = rw (sym (starts_stands bs v.text.now) ∙ h 0 v (omega arith) (omega arith)) (first_found vs w i y (omega arith) at (λ k d m u. h (suc k) d (omega arith) (omega arith)))

  abbrev pub common : Named A → ℕ
  common w = common_prefix_len eqb bs w.text.now

  fold_nearest : (n : ℕ) (ws : List (Named A)) → fold max n (map common ws) ≡ max n (nearest (map named ws) bs)
  fold_nearest n [] = omega arith
  fold_nearest n (w ∷ ws) = fold_nearest (max n (common w)) ws ∙ omega arith

  pub nearest_is : (ws : List (Named A)) → unwrap_or (reduce max (map common ws)) 0 ≡ nearest (map named ws) bs
  nearest_is [] = refl
  nearest_is (w ∷ ws) = fold_nearest (common w) ws
