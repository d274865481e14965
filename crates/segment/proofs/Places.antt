-- Entries by their addresses: in a list, and in one list after another.
-- Assumes nothing.
use Rattle.std.proofs.Common.{◌≡◌, ℕ, Bool, true, false, ◌||◌, eqb, List, [], ◌∷◌, ◌++◌, sym, refl, ap, ◌∙◌, inl, inr, eq-eqb}
use Rattle.std.proofs.Math.Bool.{or_assoc}
use Rattle.std.proofs.lemmas.Bool.{eqb-false, or_left, or_parts, or_right}
use Rattle.alert.specs.Entries.{address_of}
use Rattle.alert.specs.declared.entries.Entry.{Entry}
use Rattle.segment.specs.Segments.{At, Each, Untouched, stands}

-- ---- addresses

pub stands_append : (a : ℕ) (l r : List Entry) → stands a (l ++ r) ≡ (stands a l || stands a r)
stands_append a [] r = refl
stands_append a (x ∷ l) r = ap (λ (b : Bool). eqb (address_of x) a || b) (stands_append a l r) ∙ sym (or_assoc (eqb (address_of x) a) (stands a l) (stands a r))

-- ---- entries that a call leaves alone

pub untouched : (xs : List Entry) → Each Untouched xs xs
untouched [] = tt
untouched (x ∷ xs) = (refl, untouched xs)

pub untouched_more : (l l' r : List Entry) → Each Untouched l l' → Each Untouched (l ++ r) (l' ++ r)
untouched_more [] [] r each = untouched r
untouched_more [] (y ∷ l') r each = absurd each
untouched_more (x ∷ l) [] r each = absurd each
untouched_more (x ∷ l) (y ∷ l') r each = (each.0, untouched_more l l' r each.1)

-- ---- the first entry at an address

module _ (a : ℕ) (R : Entry → Entry → Type 0) where
  pub at_stands : (xs ys : List Entry) → At a R xs ys → stands a xs ≡ true
  at_stands [] ys at = absurd at
  at_stands (x ∷ xs) [] at = absurd at
  at_stands (x ∷ xs) (y ∷ ys) (inl (here, changed, rest)) = or_left _ _ (eq-eqb (address_of x) a here)
  at_stands (x ∷ xs) (y ∷ ys) (inr (away, same, at)) = or_right (eqb (address_of x) a) _ (at_stands xs ys at)

  pub at_left : (l l' r : List Entry) → At a R l l' → At a R (l ++ r) (l' ++ r)
  at_left [] l' r at = absurd at
  at_left (x ∷ l) [] r at = absurd at
  at_left (x ∷ l) (y ∷ l') r (inl (here, changed, rest)) = inl (here, changed, untouched_more l l' r rest)
  at_left (x ∷ l) (y ∷ l') r (inr (away, same, at)) = inr (away, same, at_left l l' r at)

  pub at_right : (l r r' : List Entry) → stands a l ≡ false → At a R r r' → At a R (l ++ r) (l ++ r')
  at_right [] r r' none at = at
  at_right (x ∷ l) r r' none at =
      inr (eqb-false (address_of x) a (or_parts _ _ none).0, refl, at_right l r r' (or_parts (eqb (address_of x) a) _ none).1 at)

  -- some entry there changed
  pub at_some : (xs ys : List Entry) → At a R xs ys → (x y : Entry) × R x y
  at_some [] ys at = absurd at
  at_some (x ∷ xs) [] at = absurd at
  at_some (x ∷ xs) (y ∷ ys) (inl (here, changed, rest)) = (x, y, changed)
  at_some (x ∷ xs) (y ∷ ys) (inr (away, same, at)) = at_some xs ys at
