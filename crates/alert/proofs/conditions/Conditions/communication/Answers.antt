use Rattle.alert.proofs.Sets.{only}
use Rattle.alert.proofs.conditions.Conditions.communication.Goals as goal

pub returns : goal.returns
returns c = only 1
