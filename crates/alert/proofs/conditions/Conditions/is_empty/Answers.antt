use Rattle.std.proofs.Common.{◌≡◌, ℕ, true, subst}
use Rattle.std.proofs.lemmas.Bool.{eq-eqb, eqb-true}
use Rattle.alert.specs.Bits.{has_bit}
use Rattle.alert.proofs.Sets.{empty_zero, none}
use Rattle.alert.proofs.conditions.Conditions.is_empty.Goals as goal

pub returns : goal.returns
returns c = (
  (λ e d h. none d (subst (λ (n : ℕ). has_bit d n ≡ true) (eqb-true c.args.self.bits 0 e) h)),
  (λ e. eq-eqb c.args.self.bits 0 (empty_zero c.args.self e)),
)
