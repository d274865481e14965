-- The items that an iterator gives one by one are those of the list that it yields.
-- Assumes nothing.
use Rattle.std.proofs.Common.{◌≡◌, ℕ, List, [], ◌∷◌, Option, Some, Result, Ok, Err, OkIff, sym, ap}
use Rattle.std.specs.Result.{result_ok}
use Rattle.std.proofs.lemmas.Iterator.{YieldsList}
use Rattle.direct.specs.Names.{ReadsName}

-- an item that came was the first of the list, and the others are left
pub first_of : {S A B : Type 0} {steps : S → Option A → S → Type 0} {v : A → B} {s j : S} (x : A) (ys : List B) → YieldsList steps v s ys → steps s (Some x) j →
    (more : List B) × (ys ≡ v x ∷ more) × YieldsList steps v j more
first_of {j = j} x [] y e = absurd (y.runs x j e)
first_of {j = j} x (z ∷ ys) y e = let t = y.runs.1 x j e in (ys, ap (λ w. w ∷ ys) (sym t.0), record { runs = t.1 })

-- what was read of a name is that whose name it is
pub name_read : {X E : Type 0} (name : X → List ℕ) (text : List ℕ) (r : Result X E) (x : X) → Some x ≡ result_ok r → ReadsName name text r → text ≡ name x
name_read name text (Ok y) x e h = cc
name_read name text (Err f) x e h = cc

-- what was read of a number is its value
pub number_read : {X E : Type 0} (P : Type 0) (v : X) (r : Result X E) (x : X) → Some x ≡ result_ok r → OkIff r P v → v ≡ x
number_read P v (Ok y) x e h = cc
number_read P v (Err f) x e h = cc
