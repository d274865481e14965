-- What a kind, a setting of the CL pin, a quantity and a limit register are called, in print and in what is read.
-- Assumes nothing.
use Rattle.std.specs.Prelude.{◌≡◌, ℕ, List, codes, Result, MatchResult}
use Rattle.direct.specs.declared.cards.Kind.{Kind}
use Rattle.direct.specs.declared.cards.Kind.TheVariants.{Lm25066, Lm5064, Lm5056}
use Rattle.direct.specs.declared.cards.CurrentLimit.{CurrentLimit}
use Rattle.direct.specs.declared.cards.CurrentLimit.TheVariants.{Vdd, Ground}
use Rattle.direct.specs.declared.quantities.Quantity.{Quantity}
use Rattle.direct.specs.declared.quantities.Quantity.TheVariants.{Vin, Vout, Vaux, Iin, Pin, Temperature}
use Rattle.direct.specs.declared.quantities.LimitRegister.{LimitRegister}
use Rattle.direct.specs.declared.quantities.LimitRegister.TheVariants.{VoutUv, VinOv, VinUv, IinOc, PinOp, OtWarn, OtFault}

-- the name of a kind
abbrev pub kind_name : Kind → List ℕ
kind_name Lm25066 = codes "LM25066"
kind_name Lm5064 = codes "LM5064"
kind_name Lm5056 = codes "LM5056"

-- what the CL pin is tied to
abbrev pub current_limit_name : CurrentLimit → List ℕ
current_limit_name Vdd = codes "VDD"
current_limit_name Ground = codes "GND"

-- the name of a quantity
abbrev pub quantity_name : Quantity → List ℕ
quantity_name Vin = codes "VIN"
quantity_name Vout = codes "VOUT"
quantity_name Vaux = codes "VAUX"
quantity_name Iin = codes "IIN"
quantity_name Pin = codes "PIN"
quantity_name Temperature = codes "TEMPERATURE"

-- the name of a register
abbrev pub register_name : LimitRegister → List ℕ
register_name VoutUv = codes "VOUT_UV"
register_name VinOv = codes "VIN_OV"
register_name VinUv = codes "VIN_UV"
register_name IinOc = codes "IIN_OC"
register_name PinOp = codes "PIN_OP"
register_name OtWarn = codes "OT_WARN"
register_name OtFault = codes "OT_FAULT"

-- r is that whose name the text is, or an error where the text is the name of none
abbrev pub ReadsName : {X E : Type 0} → (X → List ℕ) → List ℕ → Result X E → Type 0
ReadsName {X} name text r = MatchResult r (λ x. text ≡ name x) (λ _. (x : X) → ¬ (text ≡ name x))
