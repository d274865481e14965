-- A call to a join, from the call to its left side and, where that misses, to its right side.
-- Assumes nothing.
use Rattle.std.proofs.Common.{◌≡◌, ℕ, Bool, true, false, ◌||◌, List, ◌++◌, sym, refl, ap, ◌∙◌, subst, inl, inr}
use Rattle.std.proofs.lemmas.Bool.{both_ways, or_from, or_left}
use Rattle.alert.specs.declared.entries.Entry.{Entry}
use Rattle.segment.specs.Own.{OnSide}
use Rattle.segment.specs.Segments.{At, CallAt, joined_entries, stands}
use Rattle.segment_join.specs.declared.joins.Join.{Join}
use Rattle.segment.proofs.Places.{at_left, at_right, at_some, at_stands, stands_append}

module _ (a : ℕ) where
  -- the left side answers, or there is no right side
  pub on_left : (both : Bool) (l l' r : List Entry) (Missed : Type 0) (R : Entry → Entry → Type 0) → (both ≡ true → Missed → ⊥)
      → CallAt a Missed R l l' → CallAt a Missed R (joined_entries both l r) (joined_entries both l' r)
  on_left true l l' r Missed R answers (inl (none, missed, same)) = absurd (answers refl missed)
  on_left true l l' r Missed R answers (inr at) = inr (at_left a R l l' r at)
  on_left false l l' r Missed R answers call = call

  -- the left side misses, and the right side is asked
  pub on_right : (both : Bool) (l l' r r' : List Entry) (Missed Missed' : Type 0) (R R' : Entry → Entry → Type 0) → both ≡ true
      → ((x y : Entry) → R x y → ⊥) → CallAt a Missed R l l' → CallAt a Missed' R' r r'
      → CallAt a Missed' R' (joined_entries both l r) (joined_entries both l' r')
  on_right false l l' r r' Missed Missed' R R' joint misses left right = absurd (both_ways false refl joint)
  on_right true l l' r r' Missed Missed' R R' joint misses (inr at) right =
      let (x, y, changed) = at_some a R l l' at in absurd (misses x y changed)
  on_right true l l' r r' Missed Missed' R R' joint misses (inl (none, missed, same)) (inl (none', missed', same')) =
      inl (stands_append a l r ∙ or_from _ _ none none', missed', ap (λ (z : List Entry). z ++ r') same ∙ ap (λ (z : List Entry). l ++ z) same')
  on_right true l l' r r' Missed Missed' R R' joint misses (inl (none, missed, same)) (inr at) =
      inr (subst (λ z. At a R' (l ++ r) (z ++ r')) (sym same) (at_right a R' l r r' none at))

  -- the left side missed, or else it stands there
  pub missed_none : (l l' : List Entry) (Missed : Type 0) (R : Entry → Entry → Type 0) → ((x y : Entry) → R x y → ⊥)
      → CallAt a Missed R l l' → (stands a l ≡ false) × Missed
  missed_none l l' Missed R misses (inl (none, missed, same)) = (none, missed)
  missed_none l l' Missed R misses (inr at) = let (x, y, changed) = at_some a R l l' at in absurd (misses x y changed)

  pub answered_stands : (l l' : List Entry) (Missed : Type 0) (R : Entry → Entry → Type 0) → (Missed → ⊥) → CallAt a Missed R l l' → stands a l ≡ true
  answered_stands l l' Missed R answers (inl (none, missed, same)) = absurd (answers missed)
  answered_stands l l' Missed R answers (inr at) = at_stands a R l l' at

-- the own rule of a join, by the side that was asked
pub own_left : (here both : Bool) (L R left_same right_same : Type 0) → (both ≡ true → here ≡ true) → L → right_same → OnSide here both L R left_same right_same
own_left true both L R left_same right_same stands rule same = (rule, same)
own_left false true L R left_same right_same stands rule same = absurd (both_ways false refl (stands refl))
own_left false false L R left_same right_same stands rule same = (rule, same)

pub own_right : (here both : Bool) (L R left_same right_same : Type 0) → here ≡ false → both ≡ true → R → left_same → OnSide here both L R left_same right_same
own_right true both L R left_same right_same none joint rule same = absurd (both_ways true none refl)
own_right false true L R left_same right_same none joint rule same = (rule, same)
own_right false false L R left_same right_same none joint rule same = absurd (both_ways false refl joint)

-- where an address stands on a join
pub holds_left : (a : ℕ) (both : Bool) (l r : List Entry) → stands a l ≡ true → stands a (joined_entries both l r) ≡ true
holds_left a true l r e = stands_append a l r ∙ or_left _ _ e
holds_left a false l r e = e

pub holds_right : (a : ℕ) (both : Bool) (l r : List Entry) → stands a l ≡ false → both ≡ true → stands a (joined_entries both l r) ≡ stands a r
holds_right a true l r e joint = stands_append a l r ∙ ap (λ (b : Bool). b || stands a r) e
holds_right a false l r e joint = absurd (both_ways false refl joint)

-- a join whose sides are as they were is as it was
pub same_join : {L R : Type 0} (s : Join L R) (l : L) (r : R) → l ≡ s.left → r ≡ s.right → ◌≡◌ {A = Join L R} (record { left = l; right = r; both = s.both }) s
same_join {L} {R} s l r e f =
    ap (λ (z : L). record { left = z; right = r; both = s.both }) e ∙ ap (λ (z : R). record { left = s.left; right = z; both = s.both }) f
