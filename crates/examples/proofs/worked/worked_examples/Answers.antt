use Rattle.std.proofs.Common.{◌∙◌}
use Rattle.direct.specs.declared.cards.CurrentLimit.TheVariants.{Vdd}
use Rattle.direct.specs.declared.cards.Kind.TheVariants.{Lm5056}
use Rattle.examples.proofs.Table.{worked}
use Rattle.examples.proofs.worked.worked_examples.Goals as goal

pub returns : goal.returns
returns c =
    record {
      table = worked;
      no_bytes = c.answers.ensures.no_bytes ∙ worked.code_of_no_bytes;
      clear = c.answers.ensures.clear ∙ worked.code_of_clear;
      vin = c.answers.ensures.vin ∙ worked.vin;
      iin = c.answers.ensures.iin ∙ worked.iin_of_zero;
      temperature = c.answers.ensures.temperature ∙ worked.temperature Lm5056 Vdd 1000;
    }
