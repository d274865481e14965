-- A sample to an address, as a turn.
-- Assumes nothing.
use Rattle.std.proofs.Common.{◌≡◌, ℕ, false, cond, eqb, List, None, Ok, Err, Result, sym, refl, ap, ◌∙◌, subst, inl, inr}
use Rattle.std.proofs.lemmas.Bool.{cond-false, cond-true, eq-eqb, ne_eqb}
use Rattle.alert.specs.Entries.{address_of}
use Rattle.alert.specs.declared.conditions.Conditions.{Conditions}
use Rattle.alert.specs.declared.entries.Entry.{Entry}
use Rattle.segment.specs.Faults.{OfSample, no_conditions, raised_by}
use Rattle.segment.specs.Segments.{Each, SampledAt, Unlike, up}
use Rattle.segment.specs.Segments as segment
use Rattle.segment.specs.Stations as station
use Rattle.segment.specs.declared.faults.SegmentFault.{SegmentFault}
use Rattle.segment.specs.declared.faults.SegmentFault.TheVariants.{Station}
use Rattle.segment.specs.declared.faults.StationFault.{StationFault}
use Rattle.segment.specs.declared.faults.StationFault.TheVariants.{UnknownCommand, WrongCounts, WrongCode, UnlawfulData, WordOutOfRange, MissingPin}
use Rattle.segment.specs.declared.samples.Sample.{Sample}
use Rattle.history.specs.Law.{Answers}
use Rattle.history.specs.Turns.{Moment, Turn, answered_by, clears_at, mask_written_at, reported, reported_at, sample}
use Rattle.history.specs.declared.calls.Answer.TheVariants.{Sampled}
use Rattle.history.proofs.Endings.{apart}
use Rattle.history.proofs.Moves.{Did, DidNothing, left, raised}
use Rattle.history.proofs.Steps.{Moved}
use Rattle.history.proofs.Touching.{Step, all_left, at_one, same_both, turn}

-- a refused sample raises nothing
nothing_raised : (fault : StationFault) → OfSample fault → raised_by fault ≡ no_conditions
nothing_raised (UnknownCommand set) kind = absurd kind
nothing_raised (WrongCounts set) kind = absurd kind
nothing_raised (WrongCode set) kind = absurd kind
nothing_raised (UnlawfulData set) kind = absurd kind
nothing_raised WordOutOfRange kind = refl
nothing_raised MissingPin kind = refl

module _ (a : ℕ) (w : Sample) (after : Moment) where
  abbrev sampling : Result Conditions SegmentFault → Turn
  sampling r = turn (sample a w) (Sampled r) after

  -- what a sample does at the address s: where s is a, it reports the answer's set, else nothing
  sample_did : (s : ℕ) (r : Result Conditions SegmentFault) (set : Conditions) → cond (eqb a s) (reported (Sampled r)) no_conditions ≡ set
      → Did s (sampling r) false set None
  unfolding clears_at reported_at mask_written_at
  sample_did s r set is = record { clears = refl; reports = is; writes = refl }

  sample_silent : (s : ℕ) (r : Result Conditions SegmentFault) → ¬ (Answers s (sampling r))
  unfolding answered_by
  sample_silent s r e = apart (cc)

  pub sample_step : (r : Result Conditions SegmentFault) (xs ys : List Entry) → Unlike xs → segment.Sampled a xs r ys → Step (sampling r) xs ys
  unfolding answered_by
  sample_step r xs ys differ (inl (none, missed, same)) =
      (subst (Each (Moved (sampling r)) xs) (sym same) (all_left (sampling r) nothing (λ s. sample_silent s r) xs), tt)
    where
      nothing : (s : ℕ) → DidNothing s (sampling r)
      nothing s = sample_did s r no_conditions (ap (λ (z : Result Conditions SegmentFault). cond (eqb a s) (reported (Sampled z)) no_conditions) missed ∙ same_both (eqb a s) no_conditions)
  sample_step r xs ys differ (inr at) = (at_one (sampling r) a away (SampledAt r) here xs ys differ at, tt)
    where
      away : (s : ℕ) → (s ≡ a → ⊥) → DidNothing s (sampling r) × (¬ (Answers s (sampling r)))
      away s off = (sample_did s r no_conditions (cond-false (eqb a s) _ _ (ne_eqb a s (λ e. off (sym e)))), sample_silent s r)

      at_it : (x y : Entry) → address_of x ≡ a → (q : Result Conditions StationFault) → station.Sampled x q y → Moved (sampling (up q)) x y
      at_it x y is (Ok set) shown =
          raised (address_of x) (sampling (Ok set)) x y set (sample_did (address_of x) (Ok set) set (cond-true (eqb a (address_of x)) _ _ (eq-eqb a (address_of x) (sym is))))
          (sample_silent (address_of x) (Ok set)) shown
      at_it x y is (Err fault) (kind, same) =
          left (address_of x) (sampling (Err (Station fault))) x y
          (sample_did (address_of x) (Err (Station fault)) no_conditions (ap (λ (z : Conditions). cond (eqb a (address_of x)) z no_conditions) (nothing_raised fault kind) ∙ same_both (eqb a (address_of x)) no_conditions))
          (sample_silent (address_of x) (Err (Station fault))) same

      here : (x y : Entry) → address_of x ≡ a → SampledAt r x y → Moved (sampling r) x y
      here x y is (q, answer, shown) = subst (λ (z : Result Conditions SegmentFault). Moved (sampling z) x y) (sym answer) (at_it x y is q shown)
