-- A turn that does something at one address only, or at none, and what it makes of the entries place by place.
-- Assumes nothing.
use Rattle.std.proofs.Common.{◌≡◌, ℕ, Bool, true, false, cond, eqb, List, [], ◌∷◌, refl, subst, inl, inr}
use Rattle.std.proofs.lemmas.Bool.{eqb-false, or_parts}
use Rattle.alert.specs.Entries.{address_of}
use Rattle.alert.specs.declared.entries.Entry.{Entry}
use Rattle.segment.specs.Segments.{At, Each, Unlike, Untouched, stands}
use Rattle.history.specs.Law.{Answers}
use Rattle.history.specs.Turns.{Called, Moment, Turn}
use Rattle.history.specs.declared.calls.Answer.{Answer}
use Rattle.history.proofs.Moves.{DidNothing, left}
use Rattle.history.proofs.Places.{AnsweredLowest}
use Rattle.history.proofs.Steps.{Moved}

-- a turn of these parts
abbrev pub turn : Called → Answer → Moment → Turn
turn call answer after = record { call = call; answer = answer; after = after }

-- ---- the entries, place by place

module _ (t : Turn) where
  -- a turn that does nothing anywhere leaves every entry
  pub all_left : ((s : ℕ) → DidNothing s t) → ((s : ℕ) → ¬ (Answers s t)) → (xs : List Entry) → Each (Moved t) xs xs
  all_left did silent [] = tt
  all_left did silent (x ∷ xs) = (left (address_of x) t x x (did (address_of x)) (silent (address_of x)) refl, all_left did silent xs)

  module _ (a : ℕ) (away : (s : ℕ) → (s ≡ a → ⊥) → DidNothing s t × (¬ (Answers s t))) where
    untouched : (x y : Entry) → (address_of x ≡ a → ⊥) → y ≡ x → Moved t x y
    untouched x y off same = let nothing = away (address_of x) off in left (address_of x) t x y nothing.0 nothing.1 same

    all_away : (xs ys : List Entry) → stands a xs ≡ false → Each Untouched xs ys → Each (Moved t) xs ys
    all_away [] [] none each = tt
    all_away [] (y ∷ ys) none each = absurd each
    all_away (x ∷ xs) [] none each = absurd each
    all_away (x ∷ xs) (y ∷ ys) none each = (
      untouched x y (eqb-false (address_of x) a (or_parts _ _ none).0) each.0,
      all_away xs ys (or_parts (eqb (address_of x) a) _ none).1 each.1,
    )

    -- a turn that does nothing away from the address a, and there what R says
    pub at_one : (R : Entry → Entry → Type 0) → ((x y : Entry) → address_of x ≡ a → R x y → Moved t x y) → (xs ys : List Entry) → Unlike xs → At a R xs ys
        → Each (Moved t) xs ys
    at_one R here [] ys differ at = absurd at
    at_one R here (x ∷ xs) [] differ at = absurd at
    at_one R here (x ∷ xs) (y ∷ ys) differ (inl (is, changed, rest)) =
        (here x y is changed, all_away xs ys (subst (λ (k : ℕ). stands k xs ≡ false) is differ.0) rest)
    at_one R here (x ∷ xs) (y ∷ ys) differ (inr (off, same, at)) = (untouched x y off same, at_one R here xs ys differ.1 at)

-- a choice between two that are one
pub same_both : {A : Type 0} (b : Bool) (x : A) → cond b x x ≡ x
same_both true x = refl
same_both false x = refl

-- what a turn that follows makes of the entries, and who answers in it
abbrev pub Step : Turn → List Entry → List Entry → Type 0
Step t xs ys = Each (Moved t) xs ys × AnsweredLowest t xs ys
