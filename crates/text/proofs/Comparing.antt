-- What two texts have in common at their beginning.
use Rattle.std.proofs.Common.{◌≡◌, ℕ, ◌+◌, Bool, true, false, cond, eqb, List, [], ◌∷◌, ◌++◌, length, take, drop, refl, sym, ap, ◌∙◌, one-add, eqb-true}
use Rattle.std.proofs.Math.Seq.{take-add}
use Rattle.std.specs.List.{prefix_len, common_prefix_len, zip}
use Rattle.std.proofs.lemmas.List.Folds.{length-prefix_len}

-- a pair of equal bytes
abbrev pub same : ℕ × ℕ → Bool
same p = eqb p.0 p.1

equal_pairs : (xs ys : List ℕ) → prefix_len same (zip xs ys) ≡ common_prefix_len eqb xs ys
equal_pairs [] ys = refl
equal_pairs (x ∷ xs) [] = refl
equal_pairs (x ∷ xs) (y ∷ ys) = ap (λ n. cond (eqb x y) (1 + n) 0) (equal_pairs xs ys)

-- it is as long as the run of equal pairs
pub length_in_common : (xs ys : List ℕ) → length (take (prefix_len same (zip xs ys)) (zip xs ys)) ≡ common_prefix_len eqb xs ys
length_in_common xs ys = length-prefix_len same (zip xs ys) ∙ equal_pairs xs ys

one_more : (x y n : ℕ) (xs ys : List ℕ) (t : Bool) → eqb x y ≡ t → take n xs ≡ take n ys → take (cond t (1 + n) 0) (x ∷ xs) ≡ take (cond t (1 + n) 0) (y ∷ ys)
one_more x y n xs ys false e rest = refl
one_more x y n xs ys true e rest = rw (one-add n, eqb-true x y e) (ap (λ l. y ∷ l) rest)

-- and it is the same in both
pub same_beginning : (xs ys : List ℕ) → take (common_prefix_len eqb xs ys) xs ≡ take (common_prefix_len eqb xs ys) ys
same_beginning [] [] = refl
same_beginning [] (y ∷ ys) = refl
same_beginning (x ∷ xs) [] = refl
same_beginning (x ∷ xs) (y ∷ ys) = one_more x y (common_prefix_len eqb xs ys) xs ys (eqb x y) refl (same_beginning xs ys)

-- two beginnings, one after the other
pub past : (xs ys : List ℕ) (at n : ℕ) → take at xs ≡ take at ys → take n (drop at xs) ≡ take n (drop at ys) → take (at + n) xs ≡ take (at + n) ys
past xs ys at n front rest = take-add at n xs ∙ ap (λ l. l ++ take n (drop at xs)) front ∙ ap (λ l. take at ys ++ l) rest ∙ sym (take-add at n ys)
