use lib.Bits.{or_lt}
use Rattle.alert.proofs.Sets.{either}
use Rattle.alert.proofs.conditions.Conditions.union.Goals as goal

pub invariant_of-result : goal.invariant_of-result
invariant_of-result c = record { few = or_lt 17 c.args.self.bits c.args.other.bits c.args.self.few c.args.other.few }

pub returns : goal.returns
returns c = either c.args.self.bits c.args.other.bits
