-- What a refused conversion is called: its number, and its words.
-- Assumes nothing.
use Rattle.std.specs.Prelude.{ℕ, List, codes}
use Rattle.direct.specs.declared.refusals.ConversionRefusal.{ConversionRefusal}
use Rattle.direct.specs.declared.refusals.ConversionRefusal.TheVariants.{Word, Resistor, Value}

-- the number that stands for a refusal
abbrev pub number_of : ConversionRefusal → ℕ
number_of Word = 8
number_of Resistor = 14
number_of Value = 15

-- why a conversion is refused
abbrev pub conversion_words : ConversionRefusal → List ℕ
conversion_words Word = codes "the word is out of range"
conversion_words Resistor = codes "the sense resistor is not 100 to 10000 uOhm"
conversion_words Value = codes "the value or its word is out of range"
