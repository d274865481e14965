use Rattle.std.proofs.Common.{rules}
use Rattle.alert.proofs.Pulling.{as_built}
use Rattle.alert.proofs.entries.Entry.new.Goals as goal

pub returns-clause-built : goal.returns-clause-built
returns-clause-built c = search (rules, as_built)
