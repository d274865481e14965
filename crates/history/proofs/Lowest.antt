-- The lowest address that pulls: it has an entry that does, and none that does is lower.
-- Assumes nothing.
use Rattle.std.proofs.Common.{◌≡◌, ℕ, ◌<◌, ◌≤◌, min, Bool, true, false, cond, List, [], ◌∷◌, Some, None, Option, sym, refl, ap, ◌∙◌, subst, inl, inr, ⊎_elim, arith}
use Rattle.std.proofs.lemmas.Bool.{both_ways, cases_lt}
use Rattle.alert.specs.Entries.{Pulls, address_of, pulls}
use Rattle.alert.specs.declared.entries.Entry.{Entry}
use Rattle.segment.specs.Segments.{lower, lowest_pulling}
use Rattle.history.specs.Law.{Among}

-- what is so of the lowest address that pulls, if one does: one there pulls, and none that pulls is lower
abbrev pub Least : Option ℕ → List Entry → Type 0
Least None xs = (e : Entry) → Among e xs → ¬ (Pulls e)
Least (Some a) xs = ((e : Entry) × Among e xs × (address_of e ≡ a) × Pulls e) × ((e : Entry) → Among e xs → Pulls e → a ≤ address_of e)

pub lowest : (xs : List Entry) → Least (lowest_pulling xs) xs
lowest [] = λ e among. absurd among
lowest (x ∷ xs) = by (pulls x) refl (lowest_pulling xs) (lowest xs)
  where
    here : (a b : ℕ) → a ≤ b → b ≡ address_of x → (e : Entry) → e ≡ x → a ≤ address_of e
    here a b le is e same = subst (λ (k : ℕ). a ≤ k) (is ∙ sym (ap address_of same)) le

    both : (b : ℕ) → pulls x ≡ true → Least (Some b) xs → Least (Some (min (address_of x) b)) (x ∷ xs)
    both b loud (at, least) = (
      ⊎_elim (λ (low : address_of x < b). (x, inl refl, omega arith, loud)) (λ (le : b ≤ address_of x). (at.0, inr at.1, at.2 ∙ omega arith, at.3)) (cases_lt (address_of x) b),
      λ e among pulling. ⊎_elim (λ same. here (min (address_of x) b) (address_of x) (omega arith) refl e same) (λ more. let le = least e more pulling in omega arith) among,
    )

    by : (p : Bool) → pulls x ≡ p → (rest : Option ℕ) → Least rest xs → Least (lower (cond p (Some (address_of x)) None) rest) (x ∷ xs)
    by true loud None none = (
      (x, inl refl, refl, loud),
      λ e among pulling. ⊎_elim (λ same. here (address_of x) (address_of x) (omega arith) refl e same) (λ more. absurd (none e more pulling)) among,
    )
    by true loud (Some b) more = both b loud more
    by false off None none =
        λ e among pulling. ⊎_elim (λ same. both_ways (pulls x) off (subst Pulls same pulling)) (λ more. none e more pulling) among
    by false off (Some b) (at, least) = (
      (at.0, inr at.1, at.2, at.3),
      λ e among pulling. ⊎_elim (λ same. absurd (both_ways (pulls x) off (subst Pulls same pulling))) (λ more. least e more pulling) among,
    )
