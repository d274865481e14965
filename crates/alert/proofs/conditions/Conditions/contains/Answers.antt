use Rattle.std.proofs.Common.{◌≡◌, ℕ, ◌/◌, ◌^◌, eqb, sym, ap, ◌∙◌, arith}
use Rattle.std.proofs.lemmas.Nat.{and_mask}
use Rattle.std.proofs.lemmas.Bool.{lt-ltb, ltb-true}
use lib.Bits.{bit_and}
use Rattle.alert.specs.Bits.{has_bit}
use Rattle.alert.proofs.Sets.{has_few}
use Rattle.alert.proofs.conditions.Conditions.contains.Goals as goal

-- the lowest bit of the shifted number is the bit that is looked for
lowest : (c n : ℕ) → eqb (bit_and (n / 2 ^ c) 1) 1 ≡ has_bit c n
unfolding has_bit
lowest c n = ap (λ (m : ℕ). eqb m 1) (and_mask (n / 2 ^ c) 1)

pub returns-then-number-lt-COUNT : goal.returns-then-number-lt-COUNT
returns-then-number-lt-COUNT c =
    let e = lowest c.args.number c.args.self.bits in
    ((λ h. sym e ∙ h), (λ h. e ∙ h))

pub returns-else-number-lt-COUNT : goal.returns-else-number-lt-COUNT
returns-else-number-lt-COUNT c = (
  (λ h. absurd (omega (arith, ltb-true c.args.number 17 h))),
  (λ h. lt-ltb c.args.number 17 (has_few c.args.number c.args.self h)),
)
