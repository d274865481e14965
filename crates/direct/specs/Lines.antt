-- The line of a card and a quantity: step × Y = slope × X + offset, for the number Y of a word and the exact value X.
use Rattle.std.specs.Prelude.{◌≡◌, ◌*◌, pos, ◌*ℤ◌}
use Rattle.direct.specs.Conversions.{unit, sense, on, value_divisor, word_divisor}
use Rattle.direct.specs.declared.cards.Card.{Card}
use Rattle.direct.specs.declared.lines.Line.{Line}
use Rattle.direct.specs.declared.quantities.Quantity.{Quantity}

-- the line's numbers are D, b × U × 1000, and E
pub record LineOf (card : Card) (q : Quantity) (l : Line) : Type 0 where
  pub slope_is : l.slope ≡ value_divisor (on card q) (sense card q)
  pub offset_is : l.offset ≡ (on card q).b *ℤ pos (unit q * 1000)
  pub step_is : l.step ≡ word_divisor q (on card q)
