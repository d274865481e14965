-- What is answered to a request: the defined conversion, or its refusal.
-- Assumes nothing.
use Rattle.std.specs.Prelude.{ℕ, ℤ, Ok, Err, Result}
use Rattle.direct.specs.Conversions.{value_answer, word_answer}
use Rattle.direct.specs.declared.cards.Card.{Card}
use Rattle.direct.specs.declared.quantities.Quantity.{Quantity}
use Rattle.direct.specs.declared.refusals.ConversionRefusal.{ConversionRefusal}
use Rattle.conversion_vectors.specs.declared.requests.Answer.{Answer}
use Rattle.conversion_vectors.specs.declared.requests.Answer.TheVariants.{Value, Word}
use Rattle.conversion_vectors.specs.declared.requests.Asked.{Asked}
use Rattle.conversion_vectors.specs.declared.requests.Asked.TheVariants.{ValueOf, WordOf}
use Rattle.conversion_vectors.specs.declared.requests.Request.{Request}

-- the answer with the value, or the refusal
abbrev pub as_value : Result ℤ ConversionRefusal → Result Answer ConversionRefusal
as_value (Ok x) = Ok (Value x)
as_value (Err e) = Err e

-- the answer with the word, or the refusal
abbrev pub as_word : Result ℕ ConversionRefusal → Result Answer ConversionRefusal
as_word (Ok w) = Ok (Word w)
as_word (Err e) = Err e

-- the conversion that is asked for, of a quantity on a card
abbrev pub converted : Card → Quantity → Asked → Result Answer ConversionRefusal
converted card q (ValueOf w) = as_value (value_answer card q w)
converted card q (WordOf x) = as_word (word_answer card q x)

-- what is answered to a request
abbrev pub answered : Request → Result Answer ConversionRefusal
answered r = converted r.card r.quantity r.asked
