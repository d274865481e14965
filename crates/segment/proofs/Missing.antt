-- Which answers say that a call reached no station: none that a station gave.
-- Assumes nothing.
use Rattle.std.proofs.Common.{◌≡◌, ℕ, Bool, true, false, ◌&&◌, ltb, List, length, Some, None, Ok, Err, Option, Result, sym, refl, ap, ◌∙◌, subst, arith}
use Rattle.std.proofs.lemmas.Bool.{both_ways}
use Rattle.alert.specs.declared.conditions.Conditions.{Conditions}
use Rattle.alert.specs.declared.entries.Entry.{Entry}
use Rattle.request.specs.Requests.{taken_apart}
use Rattle.request.specs.declared.requests.Request.{Request}
use Rattle.segment.specs.Answers.{BySegment, is_missed}
use Rattle.segment.specs.Segments.{AnsweredAt, Checked, JudgedAt, Refused, SampledAt, TransferredAt, up}
use Rattle.segment.specs.declared.faults.SegmentFault.{SegmentFault}
use Rattle.segment.specs.declared.faults.SegmentFault.TheVariants.{NoStation, NothingWritten, ShortBuffer, AlertCounts, NobodyPulls, Station}
use Rattle.segment.specs.declared.faults.StationFault.{StationFault}

pub clash : ◌≡◌ {A = ℕ} 0 1 → ⊥
clash z = omega arith

module _ {A : Type 0} where
  pub missed_is : (r : Result A SegmentFault) → is_missed r ≡ true → r ≡ Err NoStation
  missed_is (Ok p) e = absurd (both_ways false refl e)
  missed_is (Err NoStation) e = refl
  missed_is (Err NothingWritten) e = absurd (both_ways false refl e)
  missed_is (Err ShortBuffer) e = absurd (both_ways false refl e)
  missed_is (Err AlertCounts) e = absurd (both_ways false refl e)
  missed_is (Err NobodyPulls) e = absurd (both_ways false refl e)
  missed_is (Err (Station f)) e = absurd (both_ways false refl e)

  pub missed_by : (r : Result A SegmentFault) → r ≡ Err NoStation → is_missed r ≡ true
  missed_by r e = ap (λ (z : Result A SegmentFault). is_missed z) e

  -- no answer is both accepted and refused
  pub ok_or_err : (r : Result A SegmentFault) {p : A} (f : SegmentFault) → r ≡ Ok p → r ≡ Err f → ⊥
  ok_or_err r f e e' = clash (cc)

  -- a station's own answer is none of them
  pub up_answers : (s : Result A StationFault) → up s ≡ Err NoStation → ⊥
  up_answers (Ok p) e = clash (cc)
  up_answers (Err f) e = clash (cc)

  -- whether a call goes on, taken apart
  pub goes_on : (both : Bool) (r : Result A SegmentFault) → (both && is_missed r) ≡ true → (both ≡ true) × (r ≡ Err NoStation)
  goes_on true r e = (refl, missed_is r e)
  goes_on false r e = absurd (both_ways false refl e)

  pub stays : (both : Bool) (r : Result A SegmentFault) → (both && is_missed r) ≡ false → both ≡ true → r ≡ Err NoStation → ⊥
  stays true r e joint m = both_ways (is_missed r) e (missed_by r m)
  stays false r e joint m = both_ways false refl joint

  -- a missed call is refused by the segment
  pub by_segment : (r : Result A SegmentFault) → r ≡ Err NoStation → BySegment r
  by_segment r e = subst (λ (z : Result A SegmentFault). BySegment z) (sym e) tt

pub sample_answers : (r : Result Conditions SegmentFault) → r ≡ Err NoStation → (x y : Entry) → SampledAt r x y → ⊥
sample_answers r e x y (s, is, shown) = up_answers s (sym is ∙ e)

pub transfer_answers : (written : List ℕ) (wanted : ℕ) (before : List ℕ) (r : Result (ℕ × Conditions) SegmentFault) (after : List ℕ)
    → r ≡ Err NoStation → (x y : Entry) → TransferredAt written wanted before r after x y → ⊥
transfer_answers written wanted before r after e x y at = checked (taken_apart written) (ltb (length before) wanted) at
  where
    checked : (q : Option Request) (short : Bool)
        → Checked q short (Refused NothingWritten before r after × (y ≡ x)) (Refused ShortBuffer before r after × (y ≡ x)) (λ q. JudgedAt q wanted before r after x y) → ⊥
    checked None short ((is, reply), same) = clash (cc)
    checked (Some q) true ((is, reply), same) = clash (cc)
    checked (Some q) false (s, part, is, shown, reply) = up_answers s (sym is ∙ e)

pub answer_answers : (r : Result (Unit {0}) SegmentFault) → r ≡ Err NoStation → (x y : Entry) → AnsweredAt r x y → ⊥
answer_answers r e x y (is, shown) = clash (cc)
