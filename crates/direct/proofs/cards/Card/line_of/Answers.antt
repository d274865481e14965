use Rattle.std.proofs.Common.{◌≡◌, ℕ, ◌^◌, nat_abs, ap, ◌∙◌, w8, w32, w64, SFits, to_z, of_z, rules}
use Rattle.std.proofs.lemmas.Int.{to_z-of_z}
use Rattle.direct.proofs.LineBounds.{numbers_made, numbers_bounded}
use Rattle.direct.proofs.cards.Card.line_of.Goals as goal

pub invariant_of-result : goal.invariant_of-result
invariant_of-result c =
    let k = c.coefficients_of-coefficients.result in
    let r_fits : SFits w8 k.r = search rules in
    let b_fits : SFits w32 k.b = search rules in
    let r_is : c.from.result ≡ nat_abs k.r = c.from.ensures ∙ c.unsigned_abs.ensures.value ∙ ap nat_abs (to_z-of_z w8 k.r r_fits) in
    let b_is : to_z w64 (of_z w64 c.from-3.result) ≡ k.b = to_z-of_z w64 c.from-3.result (record { sfits = c.from-3.type_inv }) ∙ c.from-3.ensures ∙ to_z-of_z w32 k.b b_fits in
    let is = numbers_made c.args.self.now c.args.quantity k c.coefficients_of-coefficients.ensures.sound c.coefficients_of-coefficients.ensures.value c.from-2.result c.from-sense.result c.units-factor.result c.pow-scale.result c.from-3.result
    c.from-2.ensures (c.from-sense.ensures ∙ c.in_ok-sense_of.ensures.1) c.units-factor.ensures (c.pow-scale.ensures ∙ ap (λ (n : ℕ). 10 ^ n) r_is) b_is in
    record { bounded = numbers_bounded c.args.self.now c.args.quantity _ _ _ is c.in_ok-sense_of.ensures.0 }
