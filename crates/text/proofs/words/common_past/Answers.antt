use Rattle.std.proofs.Common.{take, sym, ap, ◌∙◌}
use Rattle.std.proofs.lemmas.List.{take_rest}
use Rattle.text.proofs.Comparing.{past}
use Rattle.text.proofs.words.common_past.Goals as goal

pub returns-clause-same : goal.returns-clause-same
returns-clause-same c =
    let text = c.args.text.now in
    let word = c.args.word.now in
    let n = c.same_at_front.result in
    past text word c.args.at n c.requires.agree (ap (λ l. take n l) (sym (take_rest text c.args.at)) ∙ c.same_at_front.ensures.same ∙ ap (λ l. take n l) (take_rest word c.args.at))
