-- The forms of a line.
use Rattle.std.specs.Prelude.{ℕ, ◌-◌, cond, List, [], ◌∷◌, length, Ok, Err, Result, ◌==◌}
use Rattle.direct.specs.declared.cards.Card.{Card}
use Rattle.direct.specs.declared.quantities.Quantity.{Quantity}
use Rattle.direct.specs.declared.quantities.Quantity.TheVariants.{Vin, Vout, Vaux, Iin, Pin, Temperature}
use Rattle.direct.specs.Registers.{register_quantity}
use Rattle.sheet_line.specs.Names.{keywords, blank, kinds, current_limits, registers}
use Rattle.sheet_line.specs.Numbers.{each, number_to_end, value_to_end}
use Rattle.sheet_line.specs.Pieces.{then, one_of, address_at}
use Rattle.sheet_line.specs.declared.expected.Expected.TheVariants.{Form, Blank, Kind, CurrentLimit, LimitName}
use Rattle.sheet_line.specs.declared.line.Line as l
use Rattle.sheet_line.specs.declared.line.Line.TheVariants as line
use Rattle.sheet_line.specs.declared.line.Misfit.{Misfit}
use Rattle.sheet_line.specs.declared.names.Keyword.{Keyword}
use Rattle.sheet_line.specs.declared.names.Keyword.TheVariants as keyword
use Rattle.sheet_line.specs.declared.pieces.Stop.{Stop}

-- how many decimals a value has: milliwatts for power, millionths otherwise
abbrev pub decimals : Quantity → ℕ
decimals Vin = 6
decimals Vout = 6
decimals Vaux = 6
decimals Iin = 6
decimals Pin = 3
decimals Temperature = 6

-- a kind, what its CL pin is tied to, and a resistor of 1 to 9 digits
abbrev pub settings : List ℕ → Result Card Stop
settings bs =
    then (one_of Kind kinds bs) (λ k bs. then (one_of Blank blank bs) (λ _ bs.
    then (one_of CurrentLimit current_limits bs) (λ c bs. then (one_of Blank blank bs) (λ _ bs.
    each (λ n. record { kind = k; current_limit = c; resistor = n }) (number_to_end 9 bs)))))

-- what follows `card` and a blank: an address, and the settings of the card there
abbrev pub card_form : List ℕ → Result l.Line Stop
card_form bs = then (address_at bs) (λ a bs. then (one_of Blank blank bs) (λ _ bs. each (λ c. line.Card a c) (settings bs)))

-- what follows `limit` and a blank: a register, and a value with the decimals of its quantity
abbrev pub limit_form : List ℕ → Result l.Line Stop
limit_form bs =
    then (one_of LimitName registers bs) (λ r bs. then (one_of Blank blank bs) (λ _ bs.
    each (λ v. line.Limit (record { register = r; value = v })) (value_to_end (decimals (register_quantity r)) bs)))

-- what follows a keyword and a blank
abbrev pub after_keyword : Keyword → List ℕ → Result l.Line Stop
after_keyword keyword.Card bs = card_form bs
after_keyword keyword.Limit bs = limit_form bs

-- a line that is no note
abbrev pub form : List ℕ → Result l.Line Stop
form bs = then (one_of Form keywords bs) (λ k bs. then (one_of Blank blank bs) (λ _ bs. after_keyword k bs))

-- a line of n bytes that was taken apart, or the place where it stops to fit
abbrev pub line_or_misfit : ℕ → Result l.Line Stop → Result l.Line Misfit
line_or_misfit n (Ok r) = Ok r
line_or_misfit n (Err s) = Err (record { place = n - s.left; expected = s.expected })

-- a line taken apart: it is a note where it is empty or starts with #
abbrev pub line_of : List ℕ → Result l.Line Misfit
line_of [] = Ok line.Note
line_of (b ∷ bs) = cond (b == 35) (Ok line.Note) (line_or_misfit (length (b ∷ bs)) (form (b ∷ bs)))
