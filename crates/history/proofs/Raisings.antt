-- Who pulls: what the sets and the mask of a station say of its history, and the line.
-- Assumes nothing.
use Rattle.std.proofs.Common.{◌≡◌, ℕ, Bool, true, false, ◌⊎◌, ◌↔◌, List, [], ◌∷◌, ◌++◌, Some, None, Option, sym, refl, ap, ◌∙◌, subst, inl, inr, ⊎_elim}
use Rattle.std.proofs.lemmas.Bool.{both_ways, cases_Bool, or_cases, or_left, or_right}
use Rattle.alert.specs.Alerts.{covers}
use Rattle.alert.specs.Conditions.{Empty, Has, has}
use Rattle.alert.specs.Entries.{Pulls, address_of, answered, latched, mask_of, pulls}
use Rattle.alert.specs.declared.conditions.Conditions as k
use Rattle.alert.specs.declared.entries.Entry.{Entry}
use Rattle.alert.proofs.Pulling.{pulls_test, within}
use Rattle.segment.specs.Segments.{some_pull}
use Rattle.history.specs.Law.{Among, Answers, Counts, Ends, FirstRaising, Line, Mask, Raised, Stands, Waits, WhoPulls, ends_at, entries_at, shown_at}
use Rattle.history.specs.Turns.{Moment, Turn, mask_written_at, reported_at}
use Rattle.history.proofs.Endings.{empty_ends, heads, longer, no_return, tails}
use Rattle.history.proofs.Steps.{MovedAt, Stepped, as_built, came, newest, same_entry}

-- ---- the line

some_pulls : (xs : List Entry) → (some_pull xs ≡ true) ↔ ((e : Entry) × Among e xs × Pulls e)
some_pulls [] = ((λ t. absurd (both_ways false refl t)), λ w. absurd w.1)
some_pulls (x ∷ xs) = (
  (λ t. ⊎_elim (λ here. (x, inl refl, here)) (λ on. let w = (some_pulls xs).0 on in (w.0, inr w.1, w.2)) (or_cases (pulls x) (some_pull xs) t)),
  λ w. ⊎_elim (λ e. or_left (pulls x) (some_pull xs) (subst (λ z. pulls z ≡ true) e w.2)) (λ a. or_right (pulls x) (some_pull xs) ((some_pulls xs).1 (w.0, a, w.2))) w.1,
)

low_as_pulled : (built : Moment) (h : List Turn) → (shown_at built h).low ≡ some_pull (entries_at built h) → Line built h
low_as_pulled built h e = (
  (λ low. let w = (some_pulls (entries_at built h)).0 (sym e ∙ low) in (address_of w.0, (w.0, (w.1, refl), w.2))),
  λ w. e ∙ (some_pulls (entries_at built h)).1 (w.1.0, w.1.1.0, w.1.2),
)

pub line : (built : Moment) (h : List Turn) → Stepped built h → Line built h
line built [] run = low_as_pulled built [] run.2
line built (t ∷ h) run = low_as_pulled built (t ∷ h) run.3

-- ---- one turn more

-- a test that does not hold fails
off_by : (b : Bool) → ¬ (b ≡ true) → b ≡ false
off_by b never = ⊎_elim (λ e. absurd (never e)) (λ e. e) (cases_Bool b)

-- a turn that does not end what was raised
going_on : (s c : ℕ) (t : Turn) → ends_at s c t ≡ false → ¬ (Ends s c t)
going_on s c t = both_ways (ends_at s c t)

module _ (built : Moment) where
  -- a raising of c counts at the moment h
  abbrev Live : ℕ → ℕ → List Turn → Type 0
  Live s c h = (later p : List Turn) × Counts built s c h later p × Raised built s c p

  -- such a raising from before the turn t counts after it
  abbrev LiveOn : ℕ → ℕ → Turn → List Turn → Type 0
  LiveOn s c t h = (¬ (Ends s c t)) × Live s c h

  -- one of the two after the turn t, in the turn or before it
  abbrev LiveMore : ℕ → ℕ → Turn → List Turn → Type 0
  LiveMore s c t h = Raised built s c (t ∷ h) ⊎ LiveOn s c t h

  -- c is first raised in the turn t, or it waited before it and goes on waiting
  abbrev WaitsMore : ℕ → ℕ → Turn → List Turn → Type 0
  WaitsMore s c t h = (Raised built s c (t ∷ h) × (¬ (LiveOn s c t h))) ⊎ ((¬ (Ends s c t)) × (¬ (Answers s t)) × Waits built s c h)

  live_step : (s c : ℕ) (t : Turn) (h : List Turn) → Live s c (t ∷ h) ↔ LiveMore s c t h
  live_step s c t h = (to, from)
    where
      to : Live s c (t ∷ h) → LiveMore s c t h
      to ([], p, (e, never), r) = inl (subst (Raised built s c) (sym e) r)
      to (u ∷ l, p, (e, (kept, never)), r) = inr (subst (λ x. ¬ (Ends s c x)) (sym (heads e)) kept, (l, p, (tails e, never), r))

      from : LiveMore s c t h → Live s c (t ∷ h)
      from (inl r) = ([], t ∷ h, (refl, tt), r)
      from (inr (kept, (l, p, (e, never), r))) = (t ∷ l, p, (longer t e, (kept, never)), r)

  waits_step : (s c : ℕ) (t : Turn) (h : List Turn) → Waits built s c (t ∷ h) ↔ WaitsMore s c t h
  waits_step s c t h = (to, from)
    where
      -- no raising that counts comes before the first one
      fresh : FirstRaising built s c (t ∷ h) → ¬ (LiveOn s c t h)
      fresh (r, first) (kept, (l, q, (e, never), r')) =
          let again : q ≡ t ∷ h = first (t ∷ l) q (longer t e, (kept, never)) r' in no_return t l [] h (subst (λ x. h ≡ l ++ x) again e)

      to : Waits built s c (t ∷ h) → WaitsMore s c t h
      to ([], p, (e, never), first, silent) =
          let here : FirstRaising built s c (t ∷ h) = subst (FirstRaising built s c) (sym e) first in inl (here.0, fresh here)
      to (u ∷ l, p, (e, (kept, never)), first, (no_answer, silent)) =
          let kept' = subst (λ x. ¬ (Ends s c x)) (sym (heads e)) kept in
          let no_answer' = subst (λ x. ¬ (Answers s x)) (sym (heads e)) no_answer in
          inr (kept', no_answer', (l, p, (tails e, never), first, silent))

      first_now : ¬ (LiveOn s c t h) → (later q : List Turn) → Counts built s c (t ∷ h) later q → Raised built s c q → q ≡ t ∷ h
      first_now new [] q (e, never) r = sym e
      first_now new (u ∷ m) q (e, (kept, never)) r = absurd (new (subst (λ x. ¬ (Ends s c x)) (sym (heads e)) kept, (m, q, (tails e, never), r)))

      from : WaitsMore s c t h → Waits built s c (t ∷ h)
      from (inl (r, new)) = ([], t ∷ h, (refl, tt), (r, first_now new), tt)
      from (inr (kept, no_answer, (l, p, (e, never), first, silent))) = (t ∷ l, p, (longer t e, (kept, never)), first, (no_answer, silent))

  -- ---- the sets

  -- what the latched and the answered set of s say of its history
  record Sets (s : ℕ) (latched answered : k.Conditions) (h : List Turn) : Type 0 where
    live : (c : ℕ) → Has c latched ↔ Live s c h
    waiting : (c : ℕ) → (Has c latched × (has c answered ≡ false)) ↔ Waits built s c h

  module _ (s : ℕ) (t : Turn) (h : List Turn) (x y : Entry) (moved : MovedAt s t x y) (sets : Sets s (latched x) (answered x) h) where
    live_now : (c : ℕ) → Has c (latched y) ↔ Live s c (t ∷ h)
    live_now c = ((λ g. (live_step s c t h).1 (to ((moved.latched c).0 g))), λ w. (moved.latched c).1 (from ((live_step s c t h).0 w)))
      where
        to : ((ends_at s c t ≡ false) × Has c (latched x)) ⊎ Has c (reported_at s t) → LiveMore s c t h
        to (inl (off, old)) = inr (going_on s c t off, (sets.live c).0 old)
        to (inr new) = inl new

        from : LiveMore s c t h → ((ends_at s c t ≡ false) × Has c (latched x)) ⊎ Has c (reported_at s t)
        from (inl new) = inr new
        from (inr (kept, w)) = inl (off_by _ kept, (sets.live c).1 w)

    waits_now : (c : ℕ) → Has c (latched y) → has c (answered y) ≡ false → WaitsMore s c t h
    waits_now c g n = go (cases_Bool (ends_at s c t)) (cases_Bool (has c (latched x))) ((moved.latched c).0 g)
      where
        -- what is not answered after the turn was not so before it, nor in it
        not_before : ends_at s c t ≡ false → has c (answered x) ≡ false
        not_before off = off_by _ (λ was. both_ways _ n ((moved.answered c).1 (off, inr was)))

        not_in_it : ends_at s c t ≡ false → Has c (latched x) → ¬ (Answers s t)
        not_in_it off old answers = both_ways _ n ((moved.answered c).1 (off, inl (answers, old)))

        go : (ends_at s c t ≡ true) ⊎ (ends_at s c t ≡ false) → Has c (latched x) ⊎ (has c (latched x) ≡ false)
            → ((ends_at s c t ≡ false) × Has c (latched x)) ⊎ Has c (reported_at s t) → WaitsMore s c t h
        go (inr off) (inl old) either = inr (going_on s c t off, not_in_it off old, (sets.waiting c).0 (old, not_before off))
        go (inr off) (inr none) (inl (still, old)) = absurd (both_ways _ none old)
        go (inr off) (inr none) (inr new) = inl (new, λ (kept, w). both_ways _ none ((sets.live c).1 w))
        go (inl on) older (inl (off, old)) = absurd (both_ways _ off on)
        go (inl on) older (inr new) = inl (new, λ (kept, w). kept on)

    waited : (c : ℕ) → WaitsMore s c t h → Has c (latched y) × (has c (answered y) ≡ false)
    waited c (inl (r, new)) = ((moved.latched c).1 (inr r), off_by _ (λ g. old ((moved.answered c).0 g)))
      where
        old : (ends_at s c t ≡ false) × ((Answers s t × Has c (latched x)) ⊎ Has c (answered x)) → ⊥
        old (off, inl (answers, g)) = new (going_on s c t off, (sets.live c).0 g)
        old (off, inr g) = new (going_on s c t off, (sets.live c).0 (within x c g))
    waited c (inr (kept, no_answer, w)) =
        ((moved.latched c).1 (inl (off_by _ kept, ((sets.waiting c).1 w).0)), off_by _ (λ g. old ((moved.answered c).0 g)))
      where
        old : (ends_at s c t ≡ false) × ((Answers s t × Has c (latched x)) ⊎ Has c (answered x)) → ⊥
        old (off, inl (answers, g)) = no_answer answers
        old (off, inr g) = both_ways _ ((sets.waiting c).1 w).1 g

    sets_step : Sets s (latched y) (answered y) (t ∷ h)
    sets_step = record {
      live = live_now;
      waiting = λ c. ((λ (g, n). (waits_step s c t h).1 (waits_now c g n)), λ w. waited c ((waits_step s c t h).0 w));
    }

  sets_built : Stepped built [] → (s : ℕ) (e : Entry) → Stands built s e [] → Empty (answered e) → Sets s (latched e) (answered e) []
  sets_built run s e at none = record {
    live = λ c. ((λ g. ([], [], (refl, tt), (e, at, g))), λ (l, p, (lies, never), r). first_set c (subst (Raised built s c) (empty_ends l p lies) r));
    waiting = λ c. (
      (λ (g, n). ([], [], (refl, tt), ((e, at, g), λ later q counts r. empty_ends later q counts.0), tt)),
      λ (l, p, (lies, never), (r, first), silent). (first_set c (subst (Raised built s c) (empty_ends l p lies) r), off_by _ (λ g. none c g)),
    );
  }
    where
      first_set : (c : ℕ) → Raised built s c [] → Has c (latched e)
      first_set c (f, at_f, g) = subst (λ z. Has c (latched z)) (same_entry built [] run s f e at_f at) g

  sets_at : (h : List Turn) → Stepped built h → (s : ℕ) (e : Entry) → Stands built s e h → Sets s (latched e) (answered e) h
  sets_at [] run s e at = sets_built run s e at (as_built built run s e at).0
  sets_at (t ∷ h) run s e at = let (x, at_x, moved) = came built t h run s e at in sets_step s t h x e moved (sets_at h run.0 s x at_x)

  -- ---- the mask in force

  -- the mask after a turn that may have written a word
  abbrev MaskAfter : Option ℕ → ℕ → ℕ → List Turn → Type 0
  MaskAfter o s m h = elim o [ Some w ↦ w ≡ m | None ↦ Mask built s m h ]

  newest_mask : (s m before : ℕ) (h : List Turn) (o : Option ℕ) → Mask built s m h ↔ (before ≡ m) → MaskAfter o s m h ↔ (newest o before ≡ m)
  newest_mask s m before h (Some w) was = ((λ e. e), λ e. e)
  newest_mask s m before h None was = was

  mask_at : (h : List Turn) → Stepped built h → (s : ℕ) (e : Entry) → Stands built s e h → (m : ℕ) → Mask built s m h ↔ (mask_of e ≡ m)
  mask_at [] run s e at m = ((λ (f, at_f, is). ap mask_of (same_entry built [] run s e f at at_f) ∙ is), λ is. (e, at, is))
  mask_at (t ∷ h) run s e at m =
      let (x, at_x, moved) = came built t h run s e at in
      let here = newest_mask s m (mask_of x) h (mask_written_at s t) (mask_at h run.0 s x at_x m) in
      ((λ w. moved.mask ∙ here.0 w), λ is. here.1 (sym moved.mask ∙ is))

  -- ---- a station pulls when a condition waits that the mask does not cover

  pub who_pulls : (h : List Turn) → Stepped built h → WhoPulls built h
  who_pulls h run s e at = (to, from)
    where
      to : Pulls e → (c m : ℕ) × Waits built s c h × Mask built s m h × (covers m c ≡ false)
      to loud =
          let (c, has_c, new, bare) = (pulls_test e).0 loud in
          (c, mask_of e, ((sets_at h run s e at).waiting c).0 (has_c, new), (mask_at h run s e at (mask_of e)).1 refl, bare)

      from : ((c m : ℕ) × Waits built s c h × Mask built s m h × (covers m c ≡ false)) → Pulls e
      from (c, m, waits, mask, bare) =
          let both = ((sets_at h run s e at).waiting c).1 waits in
          (pulls_test e).1 (c, both.0, both.1, subst (λ w. covers w c ≡ false) (sym ((mask_at h run s e at m).0 mask)) bare)
