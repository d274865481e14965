use Rattle.std.proofs.Common.{◌≡◌, ◌≢◌, length, ap, ◌∙◌, rules, tests}
use Rattle.std.specs.Option.{unwrap_or}
use Rattle.std.proofs.lemmas.Iterator.{IsFirst-from_position, YieldsList-from_slice}
use Rattle.text.specs.Lines.{line_length}
use Rattle.text.proofs.Splitting.{ends_at_first, splits_at, splits_whole}
use Rattle.text.proofs.lines.split_line.Goals as goal
use Rattle.text.proofs.lines.split_line.Goals.{After-position}

-- where the line ends, by what `position` found
ends : (c : After-position) → line_length c.args.text.now ≡ unwrap_or c.position.result (length c.args.text.now)
ends c =
    ends_at_first _ _ (IsFirst-from_position _ _ _ (λ b. b ≡ 10) (λ b. b ≢ 10) c.position.ensures.ran (YieldsList-from_slice c.args.text.now cc) (λ b q k. search (rules, tests)) (λ b q k. search (rules, tests)))

pub returns-in-Some : goal.returns-in-Some
returns-in-Some c = splits_at _ _ c.requires (ends (goal.at.returns-in-Some c).After-position ∙ ap (λ r. unwrap_or r (length c.args.text.now)) c.in-Some.is)

pub returns-in-None : goal.returns-in-None
returns-in-None c = splits_whole _ c.requires (ends (goal.at.returns-in-None c).After-position ∙ ap (λ r. unwrap_or r (length c.args.text.now)) c.in-None.is)
