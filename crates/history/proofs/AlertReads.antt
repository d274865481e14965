-- An alert read, as a turn: the lowest address that pulls answers it.
-- Assumes nothing.
use Rattle.std.proofs.Common.{◌≡◌, ℕ, ◌/◌, Bool, true, false, ◌||◌, eqb, ltb, List, ◌++◌, length, get_or, drop, Some, None, Ok, Err, Option, Result, sym, refl, ap, ◌∙◌, subst, inl, ⊎_elim, mul-div_cancel, lit<}
use Rattle.alert.specs.Conditions.{Has}
use Rattle.alert.specs.Entries.{address_of, pulls}
use Rattle.alert.specs.declared.conditions.Conditions.{Conditions}
use Rattle.alert.specs.declared.entries.Entry.{Entry}
use Rattle.segment.specs.Segments.{Accepted, AlertChecked, At, Each, Refused, Unlike, alert_reply, lowest_pulling}
use Rattle.segment.specs.Segments as segment
use Rattle.segment.specs.Stations as station
use Rattle.segment.specs.declared.faults.SegmentFault.{SegmentFault}
use Rattle.segment.specs.declared.faults.SegmentFault.TheVariants.{ShortBuffer, AlertCounts, NobodyPulls}
use Rattle.smbus.specs.declared.address.Address.{Address}
use Rattle.alert.proofs.Pulling.{silent}
use Rattle.segment.proofs.Empties.{none_in}
use Rattle.history.specs.Law.{Among, Answers}
use Rattle.history.specs.Turns.{Moment, Turn, alert_read, answered_by, clears_at, mask_written_at, reported_at}
use Rattle.history.specs.declared.calls.Answer.TheVariants.{Replied}
use Rattle.history.proofs.Endings.{apart}
use Rattle.history.proofs.Lowest.{Least, lowest}
use Rattle.history.proofs.Moves.{DidNothing, answers}
use Rattle.history.proofs.Places.{ByLowest, came_from}
use Rattle.history.proofs.Steps.{Moved}
use Rattle.history.proofs.Touching.{Step, all_left, at_one, turn}

module _ (wanted : ℕ) (after : Moment) where
  abbrev reading : Result (ℕ × Conditions) SegmentFault → Turn
  reading r = turn (alert_read wanted) (Replied r) after

  read_did : (s : ℕ) (r : Result (ℕ × Conditions) SegmentFault) → DidNothing s (reading r)
  unfolding clears_at reported_at mask_written_at
  read_did s r = record { clears = refl; reports = refl; writes = refl }

  -- refused, nobody answers it
  read_refused : (fault : SegmentFault) (r : Result (ℕ × Conditions) SegmentFault) (xs ys : List Entry) → r ≡ Err fault → ys ≡ xs → Step (reading r) xs ys
  unfolding answered_by
  read_refused fault r xs ys is same = subst (λ (z : Result (ℕ × Conditions) SegmentFault). Step (reading z) xs ys) (sym is) (
    subst (Each (Moved (reading (Err fault))) xs) (sym same) (all_left (reading (Err fault)) (λ s. read_did s (Err fault)) nobody xs),
    tt,
  )
    where
      nobody : (s : ℕ) → ¬ (Answers s (reading (Err fault)))
      nobody s e = apart (cc)

  -- accepted, it is answered by the address with which the reply begins
  read_by : (answer : ℕ × Conditions) (a : ℕ) (more : List ℕ) → after.reply ≡ alert_reply a wanted ++ more → answered_by (reading (Ok answer)) ≡ Some a
  unfolding answered_by
  read_by answer a more is = ap (λ (z : List ℕ). Some (get_or z 0 0 / 2)) is ∙ ap Some (mul-div_cancel a (lit< tt))

  read_answered : (answer : ℕ × Conditions) (a : ℕ) (xs ys : List Entry) → Unlike xs → Least (Some a) xs → answered_by (reading (Ok answer)) ≡ Some a
      → At a station.Answered xs ys → Step (reading (Ok answer)) xs ys
  read_answered answer a xs ys differ (pulled, least) by at =
      (each, subst (λ (o : Option ℕ). ByLowest o xs ys) (sym by) (record { pulled = pulled; least = least; released = released }))
    where
      t : Turn
      t = reading (Ok answer)

      away : (s : ℕ) → (s ≡ a → ⊥) → DidNothing s t × (¬ (Answers s t))
      away s off = (read_did s (Ok answer), λ e. off (let same : s ≡ a = cc in same))

      each : Each (Moved t) xs ys
      each = at_one t a away station.Answered (λ x y is shown. answers (address_of x) t x y (read_did (address_of x) (Ok answer)) (by ∙ ap Some (sym is)) shown) xs ys differ at

      released : (e : Entry) → Among e ys → address_of e ≡ a → pulls e ≡ false
      released e among is =
          let (x, there, moved) = came_from (Moved t) xs ys e each among in
          let home : address_of x ≡ a = sym (ap (λ (z : Address). z.byte) moved.address) ∙ is in
          let did = read_did (address_of x) (Ok answer) in
          let replied : Answers (address_of x) t = by ∙ ap Some (sym home) in
          silent e (λ c g.
          ⊎_elim (λ old. (moved.answered c).1 (old.0, inl (replied, old.1))) (λ new. absurd (none_in c (subst (Has c) did.reports new))) ((moved.latched c).0 g))

  pub read_step : (r : Result (ℕ × Conditions) SegmentFault) (before : List ℕ) (xs ys : List Entry) → Unlike xs
      → segment.ReadsAlert wanted xs before r after.reply ys → Step (reading r) xs ys
  read_step r before xs ys differ shown = go (eqb wanted 1 || eqb wanted 2) (ltb (length before) wanted) (lowest_pulling xs) (lowest xs) shown
    where
      passed : (r : Result (ℕ × Conditions) SegmentFault) (a : ℕ) → Least (Some a) xs → Accepted wanted r
          → after.reply ≡ alert_reply a wanted ++ drop wanted before → At a station.Answered xs ys → Step (reading r) xs ys
      passed (Ok answer) a least fit reply at = read_answered answer a xs ys differ least (read_by answer a (drop wanted before) reply) at
      passed (Err fault) a least fit reply at = absurd fit

      go : (counts short : Bool) (o : Option ℕ) → Least o xs
          → AlertChecked counts short o (Refused AlertCounts before r after.reply × (ys ≡ xs)) (Refused ShortBuffer before r after.reply × (ys ≡ xs))
          (Refused NobodyPulls before r after.reply × (ys ≡ xs))
          (λ a. Accepted wanted r × (after.reply ≡ alert_reply a wanted ++ drop wanted before) × At a station.Answered xs ys) → Step (reading r) xs ys
      go false short o least ((refused, kept), same) = read_refused AlertCounts r xs ys refused same
      go true true o least ((refused, kept), same) = read_refused ShortBuffer r xs ys refused same
      go true false None least ((refused, kept), same) = read_refused NobodyPulls r xs ys refused same
      go true false (Some a) least (fit, reply, at) = passed r a least fit reply at
