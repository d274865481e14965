-- The lowest address that pulls, and whether any does.
-- Assumes nothing.
use Rattle.std.proofs.Common.{◌≡◌, ℕ, min, Bool, true, false, cond, ◌||◌, eqb, ltb, List, [], ◌∷◌, ◌++◌, length, drop, is_some, Some, None, Ok, Option, Result, sym, refl, ap, ◌∙◌, subst, inl, inr, arith, eq-eqb}
use Rattle.std.proofs.lemmas.Bool.{both_ways, eqb-false, or_left, or_right}
use Rattle.alert.specs.declared.conditions.Conditions.{Conditions}
use Rattle.smbus.specs.declared.address.Address.{Address}
use Rattle.alert.specs.Entries.{address_of, pulls}
use Rattle.alert.specs.declared.entries.Entry.{Entry}
use Rattle.segment.specs.Answers.{address_in}
use Rattle.segment.specs.Segments.{Accepted, AlertChecked, ReadsAlert, Answered, AnsweredAt, At, Refused, alert_reply, joined_entries, lower, lowest_pulling, some_pull, stands}
use Rattle.segment.specs.Stations as station
use Rattle.segment.specs.declared.faults.SegmentFault.{SegmentFault}
use Rattle.segment.specs.declared.faults.SegmentFault.TheVariants.{AlertCounts, NobodyPulls, ShortBuffer}

-- ---- the lower of two

lower_assoc : (a b c : Option ℕ) → lower (lower a b) c ≡ lower a (lower b c)
lower_assoc None b c = refl
lower_assoc (Some a) None c = refl
lower_assoc (Some a) (Some b) None = refl
lower_assoc (Some a) (Some b) (Some c) = ap Some (omega arith)

-- the lowest of one list after another
pub lowest_append : (l r : List Entry) → lowest_pulling (l ++ r) ≡ lower (lowest_pulling l) (lowest_pulling r)
lowest_append [] r = refl
lowest_append (x ∷ l) r =
    ap (lower (cond (pulls x) (Some (address_of x)) None)) (lowest_append l r)
    ∙ sym (lower_assoc (cond (pulls x) (Some (address_of x)) None) (lowest_pulling l) (lowest_pulling r))

-- ---- the line

lower_some : (a b : Option ℕ) → is_some (lower a b) ≡ (is_some a || is_some b)
lower_some None b = refl
lower_some (Some a) None = refl
lower_some (Some a) (Some b) = refl

if_some : (b : Bool) (a : ℕ) → is_some (cond b (Some a) None) ≡ b
if_some true a = refl
if_some false a = refl

-- some station pulls where there is a lowest that does
pub lowest_some : (xs : List Entry) → is_some (lowest_pulling xs) ≡ some_pull xs
lowest_some [] = refl
lowest_some (x ∷ xs) =
    lower_some (cond (pulls x) (Some (address_of x)) None) (lowest_pulling xs)
    ∙ ap (λ (b : Bool). b || is_some (lowest_pulling xs)) (if_some (pulls x) (address_of x)) ∙ ap (λ (b : Bool). pulls x || b) (lowest_some xs)

pub address_in_some : (o : Option Address) → is_some (address_in o) ≡ is_some o
address_in_some None = refl
address_in_some (Some a) = refl

-- ---- the lowest address stands on the segment

pub lowest_stands : (xs : List Entry) (a : ℕ) → lowest_pulling xs ≡ Some a → stands a xs ≡ true
lowest_stands [] a e = absurd (both_ways false refl (ap is_some e))
lowest_stands (x ∷ xs) a e = by (pulls x) (lowest_pulling xs) e (lowest_stands xs)
  where
    least : (b : ℕ) → min (address_of x) b ≡ a → ((k : ℕ) → Some b ≡ Some k → stands k xs ≡ true) → stands a (x ∷ xs) ≡ true
    least b m more = go (eqb (address_of x) a) refl
      where
        go : (t : Bool) → eqb (address_of x) a ≡ t → (t || stands a xs) ≡ true
        go true is = refl
        go false is = more a (ap Some (omega (arith, eqb-false (address_of x) a is)))

    by : (p : Bool) (rest : Option ℕ) → lower (cond p (Some (address_of x)) None) rest ≡ Some a
        → ((k : ℕ) → rest ≡ Some k → stands k xs ≡ true) → stands a (x ∷ xs) ≡ true
    by true None is more = let here : address_of x ≡ a = cc in or_left _ _ (eq-eqb (address_of x) a here)
    by true (Some b) is more = let m : min (address_of x) b ≡ a = cc in least b m more
    by false rest is more = or_right (eqb (address_of x) a) _ (more a is)

-- the lowest of a join that has both sides
pub lowest_joined : (both : Bool) (l r : List Entry) (a b : Option ℕ) → both ≡ true → a ≡ lowest_pulling l → b ≡ lowest_pulling r
    → lower a b ≡ lowest_pulling (joined_entries both l r)
lowest_joined true l r a b joint left right = ap (λ (z : Option ℕ). lower z b) left ∙ ap (lower (lowest_pulling l)) right ∙ sym (lowest_append l r)
lowest_joined false l r a b joint left right = absurd (both_ways false refl joint)

-- ---- the station that answers

-- the lowest address answers
pub winner_answers : (xs ys : List Entry) (a : ℕ) (r : Result (Unit {0}) SegmentFault) → lowest_pulling xs ≡ Some a → Answered a xs r ys
    → (r ≡ Ok tt) × At a station.Answered xs ys
winner_answers xs ys a r e (inl (none, missed, same)) = absurd (both_ways (stands a xs) none (lowest_stands xs a e))
winner_answers xs ys a r e (inr at) = split xs ys at
  where
    split : (xs ys : List Entry) → At a (AnsweredAt r) xs ys → (r ≡ Ok tt) × At a station.Answered xs ys
    split [] ys at = absurd at
    split (x ∷ xs) [] at = absurd at
    split (x ∷ xs) (y ∷ ys) (inl (here, (ok, changed), rest)) = (ok, inl (here, changed, rest))
    split (x ∷ xs) (y ∷ ys) (inr (away, same, at)) = let m = split xs ys at in (m.0, inr (away, same, m.1))

-- an alert read that passes its checks
pub alert_made : (wanted : ℕ) (xs : List Entry) (before : List ℕ) (r : Result (ℕ × Conditions) SegmentFault) (after : List ℕ) (ys : List Entry) (a : ℕ)
    → (eqb wanted 1 || eqb wanted 2) ≡ true → ltb (length before) wanted ≡ false → lowest_pulling xs ≡ Some a
    → Accepted wanted r × (after ≡ alert_reply a wanted ++ drop wanted before) × At a station.Answered xs ys → ReadsAlert wanted xs before r after ys
alert_made wanted xs before r after ys a counts long lowest made =
    by (eqb wanted 1 || eqb wanted 2) (ltb (length before) wanted) (lowest_pulling xs) counts long lowest
  where
    by : (c s : Bool) (o : Option ℕ) → c ≡ true → s ≡ false → o ≡ Some a
        → AlertChecked c s o (Refused AlertCounts before r after × (ys ≡ xs)) (Refused ShortBuffer before r after × (ys ≡ xs))
        (Refused NobodyPulls before r after × (ys ≡ xs))
        (λ a. Accepted wanted r × (after ≡ alert_reply a wanted ++ drop wanted before) × At a station.Answered xs ys)
    by true false (Some b) c s o =
        let e : b ≡ a = cc in subst (λ (k : ℕ). Accepted wanted r × (after ≡ alert_reply k wanted ++ drop wanted before) × At k station.Answered xs ys) (sym e) made
    by true false None c s o = absurd (both_ways false refl (ap is_some o))
    by true true o c s e = absurd (both_ways true s refl)
    by false s o c l e = absurd (both_ways false refl c)
