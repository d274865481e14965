-- An address on both sides clashes; where none below 80h is on both, none is.
use Rattle.std.proofs.Common.{◌&&◌, ◌∙◌, refl, rules, tests}
use Rattle.std.proofs.lemmas.Iterator.{YieldsList-from_range}
use Rattle.std.proofs.lemmas.Iterator.Search.{any_from_yields_List}
use Rattle.segment.specs.Segments.{stands}
use Rattle.segment_join.proofs.Clashing.{any_clash}
use Rattle.segment_join.proofs.joins.share_address.Goals as goal

pub returns : goal.returns
returns g c =
    let l = g.L.Segment.entries c.args.left.now in
    let r = g.R.Segment.entries c.args.right.now in
    any_from_yields_List (λ a. stands a l && stands a r) _ _ c.any.result c.any.ensures.ran (YieldsList-from_range 0 128 128 refl refl) (λ x b q k. search (rules, tests)) ∙ any_clash l r
