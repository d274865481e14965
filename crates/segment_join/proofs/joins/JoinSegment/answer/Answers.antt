-- The left side answers, or it misses and the right side does.
use Rattle.std.proofs.Common.{◌≡◌, Err, sym, refl}
use Rattle.segment.specs.Segments.{AnsweredAt}
use Rattle.segment.specs.declared.faults.SegmentFault.TheVariants.{NoStation}
use Rattle.segment.proofs.Missing.{by_segment, goes_on, answer_answers, stays}
use Rattle.segment_join.proofs.Sides.{answered_stands, missed_none, on_left, on_right, own_left, own_right, same_join}
use Rattle.segment_join.proofs.joins.JoinSegment.answer.Goals as goal

pub returns-then-goes_on : goal.returns-then-goes_on
returns-then-goes_on g c =
    let a = c.args.winner.address.byte in
    let both = c.args.self.now.both in
    let r = c.answer-answer.result in
    let left = c.answer-answer.ensures in
    let right = c.answer.ensures in
    let on = goes_on both r (sym c.if-goes_on.ensures) in
    let misses = answer_answers r on.1 in
    let none = missed_none a _ _ (r ≡ Err NoStation) (AnsweredAt r) misses left.effects in
    let same = left.still (by_segment r on.1) in
    record {
      own = own_right _ both _ _ _ _ none.0 on.0 right.own same;
      effects = on_right a both _ _ _ _ _ _ (AnsweredAt r) _ on.0 misses left.effects right.effects;
      still = λ refused. same_join c.args.self.now _ _ same (right.still refused);
      joint = refl;
    }

pub returns : goal.returns
returns g c =
    let a = c.args.winner.address.byte in
    let both = c.args.self.now.both in
    let r = c.answer-answer.result in
    let left = c.answer-answer.ensures in
    let answers = stays both r (sym c.if-goes_on.ensures) in
    record {
      own = own_left _ both _ _ _ _ (λ joint. answered_stands a _ _ (r ≡ Err NoStation) (AnsweredAt r) (answers joint) left.effects) left.own refl;
      effects = on_left a both _ _ _ _ (AnsweredAt r) answers left.effects;
      still = λ refused. same_join c.args.self.now _ _ (left.still refused) refl;
      joint = refl;
    }
