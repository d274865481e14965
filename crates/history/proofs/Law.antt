-- The law of the alert line, of every history that goes by what the turns do.
-- Assumes nothing.
use Rattle.std.proofs.Common.{List, [], ◌∷◌, refl, ◌∙◌, subst}
use Rattle.history.specs.Law.{Law, Places, entries_at}
use Rattle.history.specs.Turns.{Moment, Turn}
use Rattle.history.proofs.BlackBoxes.{black_box}
use Rattle.history.proofs.Places.{addresses_stay}
use Rattle.history.proofs.Raisings.{line, who_pulls}
use Rattle.history.proofs.Steps.{Stepped, in_place, stepped_before}
use Rattle.history.proofs.Waiting.{Orderly, how_long}

places : (built : Moment) (h : List Turn) → Stepped built h → Places built h
places built [] run = refl
places built (t ∷ h) run =
    addresses_stay (entries_at built h) t.after.entries (in_place t (entries_at built h) t.after.entries run.1) ∙ places built h run.0

orderly : (built : Moment) (h : List Turn) → Stepped built h → Orderly built h
orderly built [] run = tt
orderly built (t ∷ h) run = (orderly built h run.0, in_place t (entries_at built h) t.after.entries run.1, run.2)

pub law : (built : Moment) (h : List Turn) → Stepped built h → Law built h
law built h run later p lies =
    let at : Stepped built p = stepped_before built later p (subst (Stepped built) lies run) in
    record {
      places = places built p at;
      who_pulls = who_pulls built p at;
      line = line built p at;
      how_long = how_long built p (orderly built p at);
      black_box = black_box built p at;
    }
