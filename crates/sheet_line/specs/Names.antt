-- The words of a line and what they mean.
use Rattle.std.specs.Prelude.{ℕ, List, [], ◌∷◌, codes}
use Rattle.direct.specs.declared.cards.Kind.{Kind}
use Rattle.direct.specs.declared.cards.Kind.TheVariants.{Lm25066, Lm5064, Lm5056}
use Rattle.direct.specs.declared.cards.CurrentLimit.{CurrentLimit}
use Rattle.direct.specs.declared.cards.CurrentLimit.TheVariants.{Vdd, Ground}
use Rattle.direct.specs.declared.quantities.LimitRegister.{LimitRegister}
use Rattle.direct.specs.declared.quantities.LimitRegister.TheVariants.{VoutUv, VinOv, VinUv, IinOc, PinOp, OtWarn, OtFault}
use Rattle.sheet_line.specs.declared.names.Blank.{Blank}
use Rattle.sheet_line.specs.declared.names.Keyword.{Keyword}
use Rattle.sheet_line.specs.declared.names.Keyword.TheVariants.{Card, Limit}

-- the words that a line begins with
abbrev pub keywords : List (List ℕ × Keyword)
keywords = (codes "card", Card) ∷ (codes "limit", Limit) ∷ []

-- a single blank
abbrev pub blank : List (List ℕ × Blank)
blank = (codes " ", record {}) ∷ []

-- the kinds of cards
abbrev pub kinds : List (List ℕ × Kind)
kinds = (codes "LM25066", Lm25066) ∷ (codes "LM5064", Lm5064) ∷ (codes "LM5056", Lm5056) ∷ []

-- what the CL pin is tied to: VEE is ground
abbrev pub current_limits : List (List ℕ × CurrentLimit)
current_limits = (codes "VDD", Vdd) ∷ (codes "GND", Ground) ∷ (codes "VEE", Ground) ∷ []

-- the limit registers
abbrev pub registers : List (List ℕ × LimitRegister)
registers =
    (codes "VOUT_UV", VoutUv) ∷ (codes "VIN_OV", VinOv) ∷ (codes "VIN_UV", VinUv) ∷ (codes "IIN_OC", IinOc) ∷ (codes "PIN_OP", PinOp)
    ∷ (codes "OT_WARN", OtWarn) ∷ (codes "OT_FAULT", OtFault) ∷ []
