use Rattle.alert.specs.Entries.{pulls}
use Rattle.alert.proofs.entries.Entry.pulls.Goals as goal

pub returns : goal.returns
unfolding pulls
returns c = c.asserts.ensures.value
