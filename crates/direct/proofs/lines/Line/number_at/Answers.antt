use Rattle.std.proofs.Common.{ℤ, nat_abs, ap, ◌∙◌, arith, w64}
use Rattle.std.proofs.lemmas.Nat.{mul-le}
use Rattle.std.proofs.lemmas.Int.{to_z-of_z, fits_signed_from_abs}
use Rattle.direct.specs.Nearest.{rounded}
use Rattle.direct.proofs.Integers.{sum_read}
use Rattle.direct.proofs.lines.Line.number_at.Goals as goal

pub returns : goal.returns
returns c =
    let l = c.args.self.now in
    let product = mul-le (nat_abs c.args.value) l.slope 4000000000 250000000 c.requires (omega (arith, l.bounded.slope_small)) in
    let offset = to_z-of_z w64 l.offset (fits_signed_from_abs w64 _ (omega (arith, l.bounded.offset_small))) in
    to_z-of_z w64 c.rounded_quotient.result (record { sfits = c.rounded_quotient.type_inv }) ∙ c.rounded_quotient.ensures ∙
    ap (λ (z : ℤ). rounded z l.step)
    (sum_read c.args.value l.offset _ l.slope c.ranges.value offset (omega (arith, l.bounded.slope_small)) (omega (arith, product)) (omega (arith, l.bounded.offset_small)))
