-- A history that goes on: turns that follow one another, after those that did before.
-- Assumes nothing.
use Rattle.std.proofs.Common.{◌≡◌, List, [], ◌∷◌, ◌++◌, Option, sym, refl, subst}
use Rattle.segment.specs.declared.segments.JoinAnswer.{JoinAnswer}
use Rattle.history.specs.Histories.{Chain, Follows, History}
use Rattle.history.specs.Law.{shown_at}
use Rattle.history.specs.Turns.{Moment, Turn}

-- what shows after the turns k is what they show from where h ended
pub shown_more : (built : Moment) (h k : List Turn) → shown_at built (k ++ h) ≡ shown_at (shown_at built h) k
shown_more built h [] = refl
shown_more built h (t ∷ k) = refl

pub chain_more : (joining : Option JoinAnswer) (built : Moment) (h k : List Turn) → Chain joining built h → Chain joining (shown_at built h) k
    → Chain joining built (k ++ h)
chain_more joining built h [] before after = before
chain_more joining built h (t ∷ k) before after = (
  chain_more joining built h k before after.0,
  subst (λ (m : Moment). Follows joining m t) (sym (shown_more built h k)) after.1,
)

pub extended : (joining : Option JoinAnswer) (built : Moment) (h k : List Turn) → History joining built h → Chain joining (shown_at built h) k
    → History joining built (k ++ h)
extended joining built h k before after = (before.0, before.1, chain_more joining built h k before.2 after)
