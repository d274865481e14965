-- What a turn makes of each entry, and a history that goes by such turns.
-- Assumes nothing.
use Rattle.std.proofs.Common.{◌≡◌, ℕ, false, cond, ◌⊎◌, ◌↔◌, List, [], ◌∷◌, ◌++◌, Some, None, Option, sym, refl, ap, ◌∙◌, subst, inl, inr, ⊎_elim}
use Rattle.alert.specs.Boxes.{armed_again}
use Rattle.alert.specs.Conditions.{Empty, Has}
use Rattle.alert.specs.Entries.{AsBuilt, Boxed, address_of, answered as answered_of, latched as latched_of, mask_of}
use Rattle.alert.specs.declared.entries.Entry.{Entry}
use Rattle.segment.specs.Segments.{All, Each, Unlike, some_pull}
use Rattle.smbus.specs.declared.address.Address.{Address}
use Rattle.history.specs.Law.{Answers, Stands, ends_at, entries_at}
use Rattle.history.specs.Turns.{Moment, Turn, clears_at, mask_written_at, reported_at}
use Rattle.history.proofs.Places.{AnsweredLowest, SameAddress, all_at, came_from, each_weaker, one_entry, unlike_stays}

-- the word of a write, else the one before
abbrev pub newest : Option ℕ → ℕ → ℕ
newest (Some w) before = w
newest None before = before

-- what the turn t makes of the entry x of the station s: what ends comes first, then an answer, then a raising, and the box rule last
pub record MovedAt (s : ℕ) (t : Turn) (x y : Entry) : Type 0 where
  pub address : y.address ≡ x.address
  pub latched : (c : ℕ) → Has c (latched_of y) ↔ (((ends_at s c t ≡ false) × Has c (latched_of x)) ⊎ Has c (reported_at s t))
  pub answered : (c : ℕ) → Has c (answered_of y) ↔ ((ends_at s c t ≡ false) × ((Answers s t × Has c (latched_of x)) ⊎ Has c (answered_of x)))
  pub mask : mask_of y ≡ newest (mask_written_at s t) (mask_of x)
  pub boxed : Boxed (cond (clears_at s t) (armed_again x.blackbox) x.blackbox) y ⊎ ((clears_at s t ≡ false) × (y ≡ x))

-- the same, of the station whose entry x is
abbrev pub Moved : Turn → Entry → Entry → Type 0
Moved t x y = MovedAt (address_of x) t x y

-- the history h goes by such turns from building on
abbrev pub Stepped : Moment → List Turn → Type 0
Stepped built [] = Unlike built.entries × All AsBuilt built.entries × (built.low ≡ some_pull built.entries)
Stepped built (t ∷ h) =
    Stepped built h × Each (Moved t) (entries_at built h) t.after.entries × AnsweredLowest t (entries_at built h) t.after.entries
    × (t.after.low ≡ some_pull t.after.entries)

-- an entry of which the turn neither cleared, raised, answered nor masked anything may stay as it is
pub unmoved : (s : ℕ) (t : Turn) (x : Entry) → clears_at s t ≡ false → Empty (reported_at s t) → ¬ (Answers s t) → mask_written_at s t ≡ None → MovedAt s t x x
unmoved s t x kept none silent unwritten = record {
  address = refl;
  latched = λ c. ((λ g. inl (kept, g)), ⊎_elim (λ old. old.1) (λ new. absurd (none c new)));
  answered = λ c. ((λ g. (kept, inr g)), λ w. ⊎_elim (λ new. absurd (silent new.0)) (λ g. g) w.1);
  mask = sym (ap (λ (o : Option ℕ). newest o (mask_of x)) unwritten);
  boxed = inr (kept, refl);
}

-- ---- what that says of a station

-- and so does each earlier part of it
pub stepped_before : (built : Moment) (later p : List Turn) → Stepped built (later ++ p) → Stepped built p
stepped_before built [] p run = run
stepped_before built (t ∷ later) p run = stepped_before built later p run.0

-- a turn leaves each station in its place
pub in_place : (t : Turn) (xs ys : List Entry) → Each (Moved t) xs ys → Each SameAddress xs ys
in_place t xs ys each = each_weaker (Moved t) SameAddress (λ x y moved. ap (λ (a : Address). a.byte) moved.address) xs ys each

-- no two stations have the same address
pub unlike : (built : Moment) (h : List Turn) → Stepped built h → Unlike (entries_at built h)
unlike built [] run = run.0
unlike built (t ∷ h) run =
    unlike_stays (entries_at built h) t.after.entries (in_place t (entries_at built h) t.after.entries run.1) (unlike built h run.0)

-- a station has one entry at a moment
pub same_entry : (built : Moment) (h : List Turn) → Stepped built h → (s : ℕ) (e f : Entry) → Stands built s e h → Stands built s f h → e ≡ f
same_entry built h run s e f a b = one_entry (entries_at built h) (unlike built h run) e f a.0 b.0 (a.1 ∙ sym b.1)

-- which is as built at building
pub as_built : (built : Moment) → Stepped built [] → (s : ℕ) (e : Entry) → Stands built s e [] → AsBuilt e
as_built built run s e at = all_at AsBuilt built.entries e run.1 at.0

-- and which the last turn has made of the one before
pub came : (built : Moment) (t : Turn) (h : List Turn) → Stepped built (t ∷ h) → (s : ℕ) (y : Entry) → Stands built s y (t ∷ h)
    → (x : Entry) × Stands built s x h × MovedAt s t x y
came built t h run s y at =
    let w = came_from (Moved t) (entries_at built h) t.after.entries y run.1 at.0 in
    let home : address_of w.0 ≡ s = sym (ap (λ (a : Address). a.byte) w.2.address) ∙ at.1 in
    (w.0, (w.1, home), subst (λ k. MovedAt k t w.0 y) home w.2)
