-- A transfer to an address, as a turn.
-- Assumes nothing.
use Rattle.std.proofs.Common.{◌≡◌, ℕ, Bool, true, false, cond, ◌&&◌, eqb, ltb, List, length, take, Some, None, Ok, Err, Option, Result, sym, refl, ap, ◌∙◌, subst, inl, inr}
use Rattle.std.proofs.lemmas.Bool.{and_from, and_left, and_right, cond-false, cond-true, eq-eqb, ne_eqb}
use Rattle.alert.specs.Entries.{address_of}
use Rattle.alert.specs.declared.conditions.Conditions.{Conditions}
use Rattle.alert.specs.declared.entries.Entry.{Entry}
use Rattle.request.specs.Requests.{taken_apart}
use Rattle.request.specs.declared.requests.Request.{Request}
use Rattle.segment.specs.Faults.{no_conditions, raised_by, segment_raised}
use Rattle.segment.specs.Requesting.{is_clear, mask_word}
use Rattle.segment.specs.Segments.{Checked, Each, JudgedAt, Refused, TransferredAt, Unlike, up}
use Rattle.segment.specs.Segments as segment
use Rattle.segment.specs.Stations as station
use Rattle.segment.specs.declared.faults.SegmentFault.{SegmentFault}
use Rattle.segment.specs.declared.faults.SegmentFault.TheVariants.{NoStation, NothingWritten, ShortBuffer, Station}
use Rattle.segment.specs.declared.faults.StationFault.{StationFault}
use Rattle.history.specs.Law.{Answers}
use Rattle.history.specs.Turns.{Moment, Turn, accepted, answered_by, clear_written, clears_at, mask_written, mask_written_at, reported_at, transfer}
use Rattle.history.specs.declared.calls.Answer.TheVariants.{Replied}
use Rattle.history.proofs.Endings.{apart}
use Rattle.history.proofs.Moves.{Did, DidNothing, left, performed, raised}
use Rattle.history.proofs.Steps.{Moved}
use Rattle.history.proofs.Touching.{Step, all_left, at_one, same_both, turn}

module _ (a : ℕ) (written : List ℕ) (wanted : ℕ) (after : Moment) where
  abbrev transferring : Result (ℕ × Conditions) SegmentFault → Turn
  transferring r = turn (transfer a written wanted) (Replied r) after

  transfer_silent : (s : ℕ) (r : Result (ℕ × Conditions) SegmentFault) → ¬ (Answers s (transferring r))
  unfolding answered_by
  transfer_silent s r e = apart (cc)

  -- away from a, it does nothing
  transfer_away : (s : ℕ) (r : Result (ℕ × Conditions) SegmentFault) → (s ≡ a → ⊥) → DidNothing s (transferring r)
  unfolding clears_at reported_at mask_written_at
  transfer_away s r off =
      let other : eqb a s ≡ false = ne_eqb a s (λ e. off (sym e)) in
      record {
        clears = and_left (eqb a s) _ other;
        reports = cond-false (eqb a s) _ _ other;
        writes = cond-false (eqb a s && accepted (Replied r)) _ _ (and_left (eqb a s) _ other);
      }

  -- refused, it does no more than report
  transfer_refused : (s : ℕ) (fault : SegmentFault) (set : Conditions) → cond (eqb a s) (segment_raised fault) no_conditions ≡ set
      → Did s (transferring (Err fault)) false set None
  unfolding clears_at reported_at mask_written_at
  transfer_refused s fault set is = record {
    clears = and_right (eqb a s) _ refl;
    reports = is;
    writes = cond-false (eqb a s && false) _ _ (and_right (eqb a s) false refl);
  }

  -- accepted, it does what the request says
  transfer_accepted : (s : ℕ) (answer : ℕ × Conditions) (q : Request) → a ≡ s → taken_apart written ≡ Some q
      → Did s (transferring (Ok answer)) (is_clear q) answer.1 (mask_word q)
  unfolding clears_at reported_at mask_written_at
  transfer_accepted s answer q here is =
      let on : eqb a s ≡ true = eq-eqb a s here in
      record {
        clears = ap (λ (b : Bool). b && clear_written (taken_apart written)) on ∙ ap clear_written is;
        reports = cond-true (eqb a s) _ _ on;
        writes = cond-true (eqb a s && true) _ _ (and_from (eqb a s) true on refl) ∙ ap mask_written is;
      }

  -- what the station made of it
  judged : (x y : Entry) (q : Request) (before part : List ℕ) → address_of x ≡ a → taken_apart written ≡ Some q → (s : Result (ℕ × Conditions) StationFault)
      → station.Effect q x before s part y → Moved (transferring (up s)) x y
  judged x y q before part at is (Ok answer) shown =
      performed (address_of x) (transferring (Ok answer)) x y q (length before) answer (transfer_accepted (address_of x) answer q (sym at) is)
      (transfer_silent (address_of x) (Ok answer)) shown
  judged x y q before part at is (Err fault) shown =
      raised (address_of x) (transferring (Err (Station fault))) x y (raised_by fault)
      (transfer_refused (address_of x) (Station fault) (raised_by fault) (cond-true (eqb a (address_of x)) _ _ (eq-eqb a (address_of x) (sym at))))
      (transfer_silent (address_of x) (Err (Station fault))) shown.raised

  -- refused by the segment, it changes nothing
  passed_over : (s : ℕ) (r : Result (ℕ × Conditions) SegmentFault) (fault : SegmentFault) → segment_raised fault ≡ no_conditions → r ≡ Err fault
      → DidNothing s (transferring r)
  passed_over s r fault none is =
      subst (λ (z : Result (ℕ × Conditions) SegmentFault). DidNothing s (transferring z)) (sym is)
      (transfer_refused s fault no_conditions (ap (λ (z : Conditions). cond (eqb a s) z no_conditions) none ∙ same_both (eqb a s) no_conditions))

  -- at the station that it reached
  reached_one : (r : Result (ℕ × Conditions) SegmentFault) (before : List ℕ) (x y : Entry) → address_of x ≡ a
      → TransferredAt written wanted before r after.reply x y → Moved (transferring r) x y
  reached_one r before x y at shown = go (taken_apart written) (ltb (length before) wanted) refl shown
    where
      still : (fault : SegmentFault) → segment_raised fault ≡ no_conditions → r ≡ Err fault → y ≡ x → Moved (transferring r) x y
      still fault none is same = left (address_of x) (transferring r) x y (passed_over (address_of x) r fault none is) (transfer_silent (address_of x) r) same

      go : (o : Option Request) (short : Bool) → taken_apart written ≡ o
          → Checked o short (Refused NothingWritten before r after.reply × (y ≡ x)) (Refused ShortBuffer before r after.reply × (y ≡ x))
          (λ q. JudgedAt q wanted before r after.reply x y) → Moved (transferring r) x y
      go None short is ((refused, kept), same) = still NothingWritten refl refused same
      go (Some q) true is ((refused, kept), same) = still ShortBuffer refl refused same
      go (Some q) false is (s, part, answer, made, reply) =
          subst (λ (z : Result (ℕ × Conditions) SegmentFault). Moved (transferring z) x y) (sym answer) (judged x y q (take wanted before) part at is s made.0)

  pub transfer_step : (r : Result (ℕ × Conditions) SegmentFault) (before : List ℕ) (xs ys : List Entry) → Unlike xs
      → segment.Transferred a written wanted xs before r after.reply ys → Step (transferring r) xs ys
  unfolding answered_by
  transfer_step r before xs ys differ (inl (none, (refused, kept), same)) =
      (subst (Each (Moved (transferring r)) xs) (sym same) (all_left (transferring r) (λ s. passed_over s r NoStation refl refused) (λ s. transfer_silent s r) xs), tt)
  transfer_step r before xs ys differ (inr at) = (
    at_one (transferring r) a (λ s off. (transfer_away s r off, transfer_silent s r)) (TransferredAt written wanted before r after.reply) (reached_one r before) xs ys differ at,
    tt,
  )
