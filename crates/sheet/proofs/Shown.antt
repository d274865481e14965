-- What a format string writes.
use Rattle.std.proofs.Common.{◌≡◌, ℕ, List, Some, Option, Result, subst}
use Rattle.std.specs.Fmt.{DisplaysOnOk, WritesOnOk}
use Rattle.std.specs.declared.fmt.Error.{Error}
use Rattle.std.specs.declared.fmt.Formatter.{Formatter}

-- a format string whose pieces make up a text writes that text
pub writes_whole : {W : Type 0} (took : W → List ℕ → W → Type 0) (f g : Formatter W) (r : Result (Unit {0}) Error) (pieces : Option (List ℕ)) (text : List ℕ) → DisplaysOnOk took f r pieces g → pieces ≡ Some text → WritesOnOk took f r text g
writes_whole took f g r pieces text shown whole = subst (λ o. DisplaysOnOk took f r o g) whole shown
