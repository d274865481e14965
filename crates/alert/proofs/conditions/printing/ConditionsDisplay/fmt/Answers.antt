use Rattle.std.proofs.Common.{rules}
use Rattle.alert.proofs.HexDigits.{hex_five}
use Rattle.alert.proofs.conditions.printing.ConditionsDisplay.fmt.Goals as goal

pub returns-clause-writes : goal.returns-clause-writes
returns-clause-writes g c = search (rules, hex_five)
