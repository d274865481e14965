use Rattle.std.proofs.Common.{ℤ, neg_ℤ, nat_abs, ap, ◌∙◌, arith, w64}
use Rattle.std.proofs.lemmas.Nat.{mul-le}
use Rattle.std.proofs.lemmas.Int.{to_z-of_z, fits_signed_from_abs}
use Rattle.direct.specs.Nearest.{rounded}
use Rattle.direct.proofs.Integers.{abs_neg, sum_read}
use Rattle.direct.proofs.lines.Line.value_at.Goals as goal

pub returns : goal.returns
returns c =
    let l = c.args.self.now in
    let product = mul-le (nat_abs c.args.number) l.step 4096 1000000000000 c.requires l.bounded.step_small in
    let offset = ap neg_ℤ (to_z-of_z w64 l.offset (fits_signed_from_abs w64 _ (omega (arith, l.bounded.offset_small)))) in
    to_z-of_z w64 c.rounded_quotient.result (record { sfits = c.rounded_quotient.type_inv }) ∙ c.rounded_quotient.ensures ∙
    ap (λ (z : ℤ). rounded z l.slope)
    (sum_read c.args.number (neg_ℤ l.offset) _ l.step c.ranges.number offset (omega (arith, l.bounded.step_small)) (omega (arith, product)) (omega (arith, abs_neg l.offset, l.bounded.offset_small)))
