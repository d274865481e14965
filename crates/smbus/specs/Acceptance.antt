-- Which bytes become an address.
-- Assumes nothing.
use Rattle.std.specs.Prelude.{◌≡◌, ℕ, Result, MatchResult}
use Rattle.smbus.specs.Address.{Lawful}
use Rattle.smbus.specs.declared.address.Address.{Address}
use Rattle.smbus.specs.declared.refusal.AddressRefusal.{AddressRefusal}
use Rattle.smbus.specs.declared.refusal.AddressRefusal.TheVariants.{Unlawful}

-- the result is the address of the byte, which is lawful, or a refusal, and the byte is not lawful
abbrev pub Accepts : ℕ → Result Address AddressRefusal → Type 0
Accepts byte r = MatchResult r (λ a. (a.byte ≡ byte) × Lawful byte) (λ e. (e ≡ Unlawful) × (Lawful byte → ⊥))
