-- The left side answers, or it misses, leaves the reply buffer, and the right side answers.
use Rattle.std.proofs.Common.{◌≡◌, sym, refl, subst}
use Rattle.segment.specs.Segments.{Refused, Transferred, TransferredAt}
use Rattle.segment.specs.declared.faults.SegmentFault.TheVariants.{NoStation}
use Rattle.segment.proofs.Missing.{by_segment, goes_on, stays, transfer_answers}
use Rattle.segment_join.proofs.Sides.{answered_stands, missed_none, on_left, on_right, own_left, own_right, same_join}
use Rattle.segment_join.proofs.joins.transfer_sides.Goals as goal

pub returns-then-goes_on : goal.returns-then-goes_on
returns-then-goes_on g c =
    let s = c.args.join.now in
    let a = c.args.address in
    let both = s.both in
    let written = c.args.written.now in
    let wanted = c.args.wanted in
    let before = c.args.reply.now in
    let middle = c.transfer-answer.new.reply in
    let after = c.transfer.new.reply in
    let r = c.transfer-answer.result in
    let r' = c.transfer.result in
    let left = c.transfer-answer.ensures in
    let right = c.transfer.ensures in
    let on = goes_on both r (sym c.if-goes_on.ensures) in
    let AtLeft = TransferredAt written wanted before r middle in
    let misses = transfer_answers written wanted before r middle on.1 in
    let none = missed_none a _ _ (Refused NoStation before r middle) AtLeft misses left.effects in
    let kept : middle ≡ before = none.1.1 in
    let same = left.still (by_segment r on.1) in
    record {
      own = own_right _ both _ _ _ _ none.0 on.0
          (subst (λ buffer. g.R.Segment.transfers s.right a written wanted buffer r' after c.transfer.new.self) kept right.own) same;
      effects =
          on_right a both _ _ _ _ (Refused NoStation before r middle) (Refused NoStation before r' after) AtLeft (TransferredAt written wanted before r' after) on.0 misses left.effects
          (subst (λ buffer. Transferred a written wanted (g.R.Segment.entries s.right) buffer r' after (g.R.Segment.entries c.transfer.new.self)) kept right.effects);
      still = λ refused. same_join c.args.join.now _ _ same (right.still refused);
      joint = refl;
    }

pub returns : goal.returns
returns g c =
    let a = c.args.address in
    let both = c.args.join.now.both in
    let before = c.args.reply.now in
    let middle = c.transfer-answer.new.reply in
    let r = c.transfer-answer.result in
    let left = c.transfer-answer.ensures in
    let AtLeft = TransferredAt c.args.written.now c.args.wanted before r middle in
    let answers = stays both r (sym c.if-goes_on.ensures) in
    record {
      own = own_left _ both _ _ _ _ (λ joint. answered_stands a _ _ (Refused NoStation before r middle) AtLeft (λ m. answers joint m.0) left.effects) left.own refl;
      effects = on_left a both _ _ _ (Refused NoStation before r middle) AtLeft (λ joint m. answers joint m.0) left.effects;
      still = λ refused. same_join c.args.join.now _ _ (left.still refused) refl;
      joint = refl;
    }
