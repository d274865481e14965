-- What a refused address is called: its number, and its words.
-- Assumes nothing.
use Rattle.std.specs.Prelude.{ℕ, List, codes}
use Rattle.smbus.specs.declared.refusal.AddressRefusal.{AddressRefusal}
use Rattle.smbus.specs.declared.refusal.AddressRefusal.TheVariants.{Unlawful}

-- the number that stands for a refusal
abbrev pub number_of : AddressRefusal → ℕ
number_of Unlawful = 11

-- what is printed of a refusal
abbrev pub words_of : AddressRefusal → List ℕ
words_of Unlawful = codes "the address is not one of 08h to 77h without 0Ch"
