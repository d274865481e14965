-- What a line asks for: its first six words.
-- Assumes nothing.
use Rattle.std.specs.Prelude.{◌≡◌, ℕ, List, [], slice_index_or, codes, ◌==◌}
use Rattle.std.specs.List.{slice_split}
use Rattle.std.specs.Str.Parse.{digits_value, without_leading_plus, signed_digits_value}
use Rattle.direct.specs.Names.{kind_name, quantity_name, current_limit_name}
use Rattle.conversion_vectors.specs.declared.requests.Asked.{Asked}
use Rattle.conversion_vectors.specs.declared.requests.Asked.TheVariants.{ValueOf, WordOf}
use Rattle.conversion_vectors.specs.declared.requests.Request.{Request}

-- the words of a line, each ended by a blank or the line's end
abbrev pub words_of : List ℕ → List (List ℕ)
words_of line = slice_split (λ b. b == 32) line

-- what is asked for in that form: the value of a word in hexadecimal, or the word of a value in decimal
abbrev pub AsksIn : List ℕ → List ℕ → Asked → Type 0
AsksIn form number (ValueOf w) = (form ≡ codes "value") × (digits_value 16 (without_leading_plus number) ≡ w)
AsksIn form number (WordOf x) = (form ≡ codes "word") × (signed_digits_value 10 number ≡ x)

-- the words ask for the request: the form, the names, the resistor in decimal, and the word or value
pub record Asks (words : List (List ℕ)) (r : Request) : Type 0 where
  pub kind : slice_index_or words 1 [] ≡ kind_name r.card.kind
  pub quantity : slice_index_or words 2 [] ≡ quantity_name r.quantity
  pub current_limit : slice_index_or words 3 [] ≡ current_limit_name r.card.current_limit
  pub resistor : digits_value 10 (without_leading_plus (slice_index_or words 4 [])) ≡ r.card.resistor
  pub asked : AsksIn (slice_index_or words 0 []) (slice_index_or words 5 []) r.asked
