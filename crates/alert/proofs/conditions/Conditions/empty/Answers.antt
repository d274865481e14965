use Rattle.alert.proofs.Sets.{none}
use Rattle.alert.proofs.conditions.Conditions.empty.Goals as goal

pub returns : goal.returns
returns c = none
