-- Text made of parts.
use Rattle.std.specs.Prelude.{ℕ, List}
use Rattle.std.specs.List.{flat_map}

-- texts one after the other
abbrev pub in_turn : List (List ℕ) → List ℕ
in_turn parts = flat_map (λ p. p) parts
