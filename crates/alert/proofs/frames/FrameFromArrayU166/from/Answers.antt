use Rattle.std.proofs.Common.{rules, ◌∙◌}
use Rattle.alert.proofs.FrameWords.{bytes_of_pairs}
use Rattle.alert.proofs.frames.FrameFromArrayU166.from.Goals as goal

pub returns : goal.returns
returns c =
    c.copy_from_slice.ensures.after ∙ c.as_flattened.ensures.value
    ∙ bytes_of_pairs c.args.words c.map.result (search rules) (λ k h. search rules)
