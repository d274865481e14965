-- How long a pull waits: from the places of the entries and from who answers, and from nothing else of a turn.
-- Assumes nothing.
use Rattle.std.proofs.Common.{◌≡◌, ℕ, ◌+◌, ◌<◌, ◌≤◌, Bool, true, false, not, ◌&&◌, eqb, ltb, List, [], ◌∷◌, ◌++◌, Some, None, Option, sym, refl, ap, ◌∙◌, subst, inl, inr, arith}
use Rattle.std.proofs.lemmas.Bool.{eqb-false, lt-ltb}
use Rattle.alert.specs.Entries.{Pulls, address_of, pulls}
use Rattle.alert.specs.declared.entries.Entry.{Entry}
use Rattle.segment.specs.Segments.{Each}
use Rattle.history.specs.Law.{Among, HowLong, Pulling, Unbroken, answers_by_others, entries_at, lower_pulling, lower_starts, one, other_answer, starts}
use Rattle.history.specs.Turns.{Moment, Turn, answered_by}
use Rattle.history.proofs.Places.{AnsweredLowest, ByLowest, SameAddress}

-- how many lower addresses than s pull before a turn and not after it
abbrev lower_ends : ℕ → List Entry → List Entry → ℕ
lower_ends s [] after = 0
lower_ends s (x ∷ before) [] = 0
lower_ends s (x ∷ before) (y ∷ after) = one (ltb (address_of x) s && (pulls x && not (pulls y))) + lower_ends s before after

-- at one place, what pulls before the turn or starts in it pulls after it or ends in it
one_place : (low before after : Bool) → one (low && before) + one (low && (after && not before)) ≡ one (low && after) + one (low && (before && not after))
one_place true true true = refl
one_place true true false = refl
one_place true false true = refl
one_place true false false = refl
one_place false before after = refl

-- and so at all of them
balance : (s : ℕ) (xs ys : List Entry) → Each SameAddress xs ys → lower_pulling s xs + lower_starts s xs ys ≡ lower_pulling s ys + lower_ends s xs ys
balance s [] [] each = refl
balance s [] (y ∷ ys) each = absurd each
balance s (x ∷ xs) [] each = absurd each
balance s (x ∷ xs) (y ∷ ys) each =
    let more = balance s xs ys each.1 in
    let here = one_place (ltb (address_of x) s) (pulls x) (pulls y) in
    let same : one (ltb (address_of y) s && pulls y) ≡ one (ltb (address_of x) s && pulls y) = ap (λ (a : ℕ). one (ltb a s && pulls y)) each.0 in
    omega (arith, more, here, same)

-- a lower address that pulls before a turn and not after it is one that ended
ended : (s a : ℕ) (xs ys : List Entry) → a < s → Each SameAddress xs ys → (e : Entry) → Among e xs → address_of e ≡ a → Pulls e
    → ((f : Entry) → Among f ys → address_of f ≡ a → pulls f ≡ false) → 1 ≤ lower_ends s xs ys
ended s a [] ys low each e among is pulling released = absurd among
ended s a (x ∷ xs) [] low each e among is pulling released = absurd each
ended s a (x ∷ xs) (y ∷ ys) low each e (inr among) is pulling released =
    let more = ended s a xs ys low each.1 e among is pulling (λ f at. released f (inr at)) in omega (arith, more)
ended s a (x ∷ xs) (y ∷ ys) low each e (inl same) is pulling released =
    let at : address_of x ≡ a = ap address_of (sym same) ∙ is in
    let lower : ltb (address_of x) s ≡ true = subst (λ (k : ℕ). ltb k s ≡ true) (sym at) (lt-ltb a s low) in
    let on : pulls x ≡ true = subst (λ (z : Entry). pulls z ≡ true) same pulling in
    let off : pulls y ≡ false = released y (inl refl) (each.0 ∙ at) in
    let here : one (ltb (address_of x) s && (pulls x && not (pulls y))) ≡ 1 = rw (lower, on, off) in
    omega (arith, here)

-- an answer by another, while s pulls, is by a lower address, of which a pull ends
answer_ends : (s : ℕ) (o : Option ℕ) (xs ys : List Entry) → Each SameAddress xs ys → ByLowest o xs ys
    → ((e : Entry) × (Among e xs × (address_of e ≡ s)) × Pulls e) → other_answer s o ≤ lower_ends s xs ys
answer_ends s None xs ys each lowest pulling = omega arith
answer_ends s (Some a) xs ys each lowest (e, (among, is), loud) = go (eqb a s) refl
  where
    go : (b : Bool) → eqb a s ≡ b → one (not (eqb a s)) ≤ lower_ends s xs ys
    go true same = let none : one (not (eqb a s)) ≡ 0 = ap (λ (b : Bool). one (not b)) same in omega (arith, none)
    go false other =
        let counted : one (not (eqb a s)) ≡ 1 = ap (λ (b : Bool). one (not b)) other in
        let least : a ≤ s = subst (λ (k : ℕ). a ≤ k) is (lowest.least e among loud) in
        let apart = eqb-false a s other in
        let low : a < s = omega arith in
        let (x, at, is', loud') = lowest.pulled in
        omega (arith, counted, ended s a xs ys low each x at is' loud' lowest.released)

module _ (built : Moment) where
  -- in each turn of h every station keeps its place, and an alert read is answered by the lowest address that pulls
  abbrev pub Orderly : List Turn → Type 0
  Orderly [] = Unit {0}
  Orderly (t ∷ h) = Orderly h × Each SameAddress (entries_at built h) t.after.entries × AnsweredLowest t (entries_at built h) t.after.entries

  -- what an unbroken pull is at its end
  at_end : (s : ℕ) (later p : List Turn) → Unbroken built s later p → Pulling built s (later ++ p)
  at_end s [] p unbroken = unbroken
  at_end s (t ∷ later) p unbroken = unbroken.0

  -- the answers by others and the lower pulls left are no more than the lower pulls at first and the starts
  paid : (s : ℕ) (later p : List Turn) → Orderly (later ++ p) → Unbroken built s later p
      → answers_by_others s later + lower_pulling s (entries_at built (later ++ p)) ≤ lower_pulling s (entries_at built p) + starts built s later p
  paid s [] p orderly unbroken = omega arith
  paid s (t ∷ later) p orderly unbroken =
      let before : List Entry = entries_at built (later ++ p) in
      let after : List Entry = t.after.entries in
      let earlier = paid s later p orderly.0 unbroken.1 in
      let even = balance s before after orderly.1 in
      let answer = answer_ends s (answered_by t) before after orderly.1 orderly.2 (at_end s later p unbroken.1) in
      omega (arith, earlier, even, answer)

  pub how_long : (h : List Turn) → Orderly h → HowLong built h
  how_long h orderly s later p lies unbroken = let all = paid s later p (subst Orderly lies orderly) unbroken in omega (arith, all)
