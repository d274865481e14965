use Rattle.std.proofs.Common.{◌≡◌, ℕ, ◌-◌, ◌<◌, max, length, length-take-le, refl, arith, drop, map, sym, ap, ◌∙◌, rules, tests}
use Rattle.std.specs.List.{AllWithin, HoldsAt, reduce}
use Rattle.std.specs.Option.{unwrap_or}
use Rattle.std.specs.Prelude.{MatchOption}
use Rattle.std.proofs.lemmas.Iterator.{YieldsList-from_slice, YieldsList-from_map, first_from_find}
use Rattle.std.proofs.lemmas.Iterator.Consumers.{YieldsList-at, max_from_yields_List}
use Rattle.std.proofs.lemmas.Iterator.Adapters.{option_map_id}
use Rattle.std.proofs.lemmas.List.{length-drop, take_all}
use Rattle.sheet_line.specs.Pieces.{named, nearest}
use Rattle.sheet_line.proofs.Choosing.{Yes, No, common, none_found, first_found, nearest_is}
use Rattle.sheet_line.proofs.pieces.one_of.Goals as goal
use Rattle.sheet_line.proofs.pieces.one_of.Goals.{After-find, After-max}

-- the word that was found is the first that stands at the front
chosen : (g : _) (c : After-find g) →
    MatchOption c.find.result (AllWithin (No c.args.rest.now) c.args.words.now 0 (length c.args.words.now))
    (λ x. Yes c.args.rest.now x.now × (i : ℕ) × (i < length c.args.words.now) × HoldsAt (λ y. y ≡ x.now) c.args.words.now i × AllWithin (No c.args.rest.now) c.args.words.now 0 i)
chosen g c =
    first_from_find _ _ _ (Yes c.args.rest.now) (No c.args.rest.now) c.find.ensures.ran (YieldsList-from_slice c.args.words.now cc) (λ w q k. search (rules, tests)) (λ w q k. search (rules, tests))

-- the greatest is that of the common lengths
greatest : (g : _) (c : After-max g) → c.max.result ≡ reduce max (map (common c.args.rest.now) c.args.words.now)
greatest g c =
    sym (option_map_id c.max.result)
    ∙ max_from_yields_List _ _ c.max.ensures.ran
    (YieldsList-from_map _ (common c.args.rest.now) (YieldsList-at c.map.ensures.source (YieldsList-from_slice c.args.words.now cc)) c.map.ensures.closure (λ x r q k. search rules))

pub returns-in-Some : goal.returns-in-Some
returns-in-Some g c =
    let bs = c.args.rest.now in
    let w = c.in-Some.word.now in
    let n = length w.text.now in
    let k = rw c.in-Some.is at (chosen g (goal.at.returns-in-Some g c).After-find) in
    rw (first_found bs c.args.words.now w k.1 k.0 k.2 k.3 k.4) (rw (take_all (length bs - n) (drop n bs) (omega (arith, length-drop n bs))) refl)

pub returns : goal.returns
returns g c =
    let bs = c.args.rest.now in
    let most = c.unwrap_or-nearest.result in
    let none = none_found bs c.args.words.now (rw c.in_default.is at (chosen g (goal.at.returns g c).After-find)) in
    let n : most ≡ nearest (map named c.args.words.now) bs =
    c.unwrap_or-nearest.ensures ∙ ap (λ r. unwrap_or r 0) (greatest g (goal.at.returns g c).After-max) ∙ nearest_is bs c.args.words.now in
    rw (none, ← n, c.at.ensures, length-take-le (length bs - most) (drop most bs) (omega (arith, length-drop most bs))) refl
