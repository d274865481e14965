use Rattle.std.proofs.Common.{◌<◌, arith}
use Rattle.std.proofs.lemmas.Nat.{one_shl}
use Rattle.alert.proofs.Sets.{only}
use Rattle.alert.proofs.conditions.Conditions.only.Goals as goal

pub returns : goal.returns
returns c =
    let narrow : c.args.number < 32 = omega arith in
    (omega arith, (λ d. simp (one_shl c.args.number 32 narrow) (only c.args.number d)))
