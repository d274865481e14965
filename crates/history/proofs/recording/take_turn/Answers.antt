-- The call leaves as many entries as there were, so there is memory for them.
use Rattle.std.proofs.Common.{sym, refl, ◌∙◌}
use Rattle.history.specs.Recorded.{call_of}
use Rattle.history.proofs.Lengths.{made_length}
use Rattle.history.proofs.recording.take_turn.Goals as goal

pub show-requires : goal.show-requires
show-requires g c =
    let same = made_length _ (call_of c.args.call) c.make-answer.result _ _ _ _ c.make-answer.ensures.effects in
    (c.requires.0 ∙ sym same, c.requires.1 ∙ sym c.make-answer.auto.reply)

pub returns : goal.returns
returns g c = record {
  call = refl;
  taken = record { made = c.make-answer.ensures.effects; shown = c.show.ensures };
  own = c.make-answer.ensures.own;
  joint = c.make-answer.ensures.joint;
  count = made_length _ (call_of c.args.call) c.make-answer.result _ _ _ _ c.make-answer.ensures.effects;
}
