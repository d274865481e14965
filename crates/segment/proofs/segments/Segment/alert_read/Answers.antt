-- The lowest address that pulls stands on the segment, so it answers.
use Rattle.std.proofs.Common.{sym, refl, ap, ◌∙◌, subst, le-ltb}
use Rattle.smbus.specs.declared.address.Address.{Address}
use Rattle.segment.specs.Answers.{address_in}
use Rattle.segment.specs.Segments.{Answered}
use Rattle.segment.proofs.Missing.{ok_or_err}
use Rattle.segment.proofs.Pulling.{alert_made, winner_answers}
use Rattle.segment.proofs.segments.Segment.alert_read.Goals as goal

pub returns-in_err-answer : goal.returns-in_err-answer
returns-in_err-answer g c =
    let xs = g.Self.Segment.entries c.args.self.now in
    let a = c.in_ok-address.address.byte in
    let lowest = sym c.lowest_pulling.ensures ∙ ap address_in c.in_ok-address.ensures.ok_part in
    let won = c.answer.ensures.effects in
    let won' = subst (λ (k : Address). Answered k.byte xs c.answer.result (g.Self.Segment.entries c.answer.new.self)) c.new.ensures won in
    let answered = winner_answers xs _ a c.answer.result lowest won' in
    let was = c.in_err-answer.was in
    absurd (ok_or_err c.answer.result _ answered.0 was)

pub returns : goal.returns
returns g c =
    let xs = g.Self.Segment.entries c.args.self.now in
    let a = c.in_ok-address.address.byte in
    let lowest = sym c.lowest_pulling.ensures ∙ ap address_in c.in_ok-address.ensures.ok_part in
    let won = subst (λ (k : Address). Answered k.byte xs c.answer.result (g.Self.Segment.entries c.answer.new.self)) c.new.ensures c.answer.ensures.effects in
    let answered = winner_answers xs _ a c.answer.result lowest won in
    record {
      own = (a, lowest, subst (λ (k : Address). g.Self.Segment.answers c.args.self.now k.byte c.answer.new.self) c.new.ensures c.answer.ensures.own);
      effects = alert_made c.args.wanted xs _ _ _ _ a (sym c.if-not-is_alert_count.ensures) (le-ltb _ _ c.if-reply-wanted.false) lowest ((refl, c.empty.ensures), c.write_alert_reply.ensures, answered.1);
      joint = c.answer.ensures.joint;
    }
