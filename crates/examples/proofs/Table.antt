-- The worked examples are computed.
-- Assumes nothing.
use Rattle.std.proofs.Common.{◌≡◌, ℕ, negsuc, Ok, refl}
use Rattle.direct.specs.Coefficients.{rows_of}
use Rattle.direct.specs.Conversions.{value_answer}
use Rattle.direct.specs.Nearest.{rounded}
use Rattle.direct.specs.declared.cards.CurrentLimit.{CurrentLimit}
use Rattle.direct.specs.declared.cards.Kind.{Kind}
use Rattle.direct.specs.declared.cards.Kind.TheVariants.{Lm25066, Lm5064, Lm5056}
use Rattle.direct.specs.declared.quantities.Quantity.TheVariants.{Temperature}
use Rattle.smbus.specs.PacketErrorCode.{byte_step}
use Rattle.examples.specs.Worked.{Worked, card}

below_zero : (k : Kind) (c : CurrentLimit) (s : ℕ) → value_answer (card k c s) Temperature 0xFFF0 ≡ Ok (negsuc 999999)
unfolding rows_of rounded
below_zero Lm25066 c s = refl
below_zero Lm5064 c s = refl
below_zero Lm5056 c s = refl

pub worked : Worked
unfolding byte_step rows_of rounded
worked = record { code_of_no_bytes = refl; code_of_clear = refl; vin = refl; iin_of_zero = refl; temperature = below_zero }
