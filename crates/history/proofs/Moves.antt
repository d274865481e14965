-- What a station shows of a call is what a turn that did so makes of its entry.
-- Assumes nothing.
use Rattle.std.proofs.Common.{◌≡◌, ℕ, Bool, true, false, cond, ◌⊎◌, ◌↔◌, Some, None, Option, sym, refl, ap, ◌∙◌, subst, inl, inr, ⊎_elim}
use Rattle.std.proofs.lemmas.Bool.{both_ways}
use Rattle.alert.specs.Boxes.{armed_again}
use Rattle.alert.specs.Conditions.{Empty, Has}
use Rattle.alert.specs.Entries.{Boxed, answered as answered_of, latched as latched_of, mask_of}
use Rattle.alert.specs.declared.alerts.AlertRecord.{AlertRecord}
use Rattle.alert.specs.declared.conditions.Conditions.{Conditions}
use Rattle.alert.specs.declared.entries.Entry.{Entry}
use Rattle.request.specs.declared.requests.Request.{Request}
use Rattle.segment.specs.Faults.{no_conditions}
use Rattle.segment.specs.Requesting.{is_clear, mask_word}
use Rattle.segment.specs.Stations as station
use Rattle.segment.proofs.Empties.{none_in}
use Rattle.history.specs.Law.{Answers, ends_at}
use Rattle.history.specs.Turns.{Turn, clears_at, mask_written_at, reported_at}
use Rattle.history.proofs.Steps.{MovedAt, newest, unmoved}

-- what the turn t did at the address s: whether it cleared, the set that it reported, and the word that it wrote to the mask
pub record Did (s : ℕ) (t : Turn) (clear : Bool) (set : Conditions) (word : Option ℕ) : Type 0 where
  pub clears : clears_at s t ≡ clear
  pub reports : reported_at s t ≡ set
  pub writes : mask_written_at s t ≡ word

-- it did nothing there
abbrev pub DidNothing : ℕ → Turn → Type 0
DidNothing s t = Did s t false no_conditions None

-- the word of a write, else the one before: two ways to say it
newest_else : (o : Option ℕ) (before : ℕ) → station.else before o ≡ newest o before
newest_else None before = refl
newest_else (Some w) before = refl

module _ (s : ℕ) (t : Turn) (x y : Entry) where
  -- nothing is done to an entry that nothing happens to
  pub left : DidNothing s t → ¬ (Answers s t) → y ≡ x → MovedAt s t x y
  left did silent same =
      subst (MovedAt s t x) (sym same) (unmoved s t x did.clears (subst Empty (sym did.reports) none_in) silent did.writes)

  -- a set is raised
  pub raised : (set : Conditions) → Did s t false set None → ¬ (Answers s t) → station.Raised set x y → MovedAt s t x y
  raised set did silent shown = record {
    address = shown.address;
    latched = λ c. (
      (λ g. ⊎_elim (λ old. inl (did.clears, old)) (λ new. inr (subst (Has c) (sym did.reports) new)) ((shown.sets.0 c).0 g)),
      ⊎_elim (λ old. (shown.sets.0 c).1 (inl old.1)) (λ new. (shown.sets.0 c).1 (inr (subst (Has c) did.reports new))),
    );
    answered = λ c. (
      (λ g. (did.clears, inr (subst (Has c) shown.sets.1 g))),
      λ w. ⊎_elim (λ new. absurd (silent new.0)) (λ old. subst (Has c) (sym shown.sets.1) old) w.1,
    );
    mask = shown.mask ∙ ap (λ (o : Option ℕ). newest o (mask_of x)) (sym did.writes);
    boxed = inl (subst (λ (b : Bool). Boxed (cond b (armed_again x.blackbox) x.blackbox) y) (sym did.clears) shown.boxed);
  }

  -- an alert read is answered
  pub answers : DidNothing s t → Answers s t → station.Answered x y → MovedAt s t x y
  answers did replied shown = record {
    address = shown.address;
    latched = λ c. (
      (λ g. inl (did.clears, subst (Has c) shown.sets.0 g)),
      ⊎_elim (λ old. subst (Has c) (sym shown.sets.0) old.1) (λ new. absurd (none_in c (subst (Has c) did.reports new))),
    );
    answered = λ c. (
      (λ g. (did.clears, inl (replied, subst (Has c) shown.sets.1 g))),
      λ w. subst (Has c) (sym shown.sets.1) (⊎_elim (λ new. new.1) (λ old. x.alert.within c old) w.1),
    );
    mask = shown.mask ∙ ap (λ (o : Option ℕ). newest o (mask_of x)) (sym did.writes);
    boxed = inl (subst (λ (b : Bool). Boxed (cond b (armed_again x.blackbox) x.blackbox) y) (sym did.clears) shown.boxed);
  }

  -- a transfer is performed
  pub performed : (q : Request) (wanted : ℕ) (answer : ℕ × Conditions) → Did s t (is_clear q) answer.1 (mask_word q) → ¬ (Answers s t)
      → station.Performed q x wanted answer y → MovedAt s t x y
  performed q wanted answer did silent shown = record {
    address = shown.address;
    latched = λ c. (sets (is_clear q) did.clears shown.sets c).0;
    answered = λ c. (sets (is_clear q) did.clears shown.sets c).1;
    mask = shown.mask ∙ newest_else (mask_word q) (mask_of x) ∙ ap (λ (o : Option ℕ). newest o (mask_of x)) (sym did.writes);
    boxed = inl (subst (λ (b : Bool). Boxed (cond b (armed_again x.blackbox) x.blackbox) y) (sym did.clears) shown.boxed);
  }
    where
      empty : (c : ℕ) → ¬ (Has c (reported_at s t))
      empty c g = shown.silent c (subst (Has c) did.reports g)

      sets : (clear : Bool) → clears_at s t ≡ clear → station.AfterTransfer clear x.alert y.alert → (c : ℕ)
          → (Has c (latched_of y) ↔ (((ends_at s c t ≡ false) × Has c (latched_of x)) ⊎ Has c (reported_at s t)))
          × (Has c (answered_of y) ↔ ((ends_at s c t ≡ false) × ((Answers s t × Has c (latched_of x)) ⊎ Has c (answered_of x))))
      sets true on gone c = (
        ((λ g. absurd (gone.0 c g)), ⊎_elim (λ old. absurd (both_ways _ old.0 on)) (λ new. absurd (empty c new))),
        ((λ g. absurd (gone.1 c g)), λ w. absurd (both_ways _ w.0 on)),
      )
      sets false off same c = (
        (
          (λ g. inl (off, subst (λ (r : AlertRecord). Has c r.latched) same g)),
          ⊎_elim (λ old. subst (λ (r : AlertRecord). Has c r.latched) (sym same) old.1) (λ new. absurd (empty c new)),
        ),
        (
          (λ g. (off, inr (subst (λ (r : AlertRecord). Has c r.answered) same g))),
          λ w. ⊎_elim (λ new. absurd (silent new.0)) (λ old. subst (λ (r : AlertRecord). Has c r.answered) (sym same) old) w.1,
        ),
      )
