use Rattle.std.proofs.Common.{◌≡◌, nat_eq, take, subst, sym, ◌∙◌, rules, tests}
use Rattle.std.specs.List.{common_prefix_len}
use Rattle.std.proofs.lemmas.Iterator.{YieldsList-from_slice, YieldsList-from_zip}
use Rattle.std.proofs.lemmas.Iterator.Consumers.{YieldsList-at, count_from_yields_List}
use Rattle.std.proofs.lemmas.Iterator.Search.{YieldsList-from_take_while}
use Rattle.text.proofs.Comparing.{same, length_in_common, same_beginning}
use Rattle.text.proofs.words.same_at_front.Goals as goal
use Rattle.text.proofs.words.same_at_front.Goals.{After-count}

counted : (c : After-count) → c.count.result ≡ common_prefix_len nat_eq c.args.text.now c.args.word.now
counted c =
    count_from_yields_List c.take_while.result _ c.count.ensures.ran
    (YieldsList-from_take_while _ same
    (YieldsList-at c.take_while.ensures.source (YieldsList-from_zip (YieldsList-from_slice c.args.text.now cc) (YieldsList-from_slice c.args.word.now cc)))
    c.take_while.ensures.closure c.take_while.ensures.done (λ x b q k. search (rules, tests)))
    ∙ length_in_common c.args.text.now c.args.word.now

pub returns-clause-value : goal.returns-clause-value
returns-clause-value c = counted (goal.at.returns-clause-value c).After-count

pub returns-clause-same : goal.returns-clause-same
returns-clause-same c =
    subst (λ n. take n c.args.text.now ≡ take n c.args.word.now) (sym (counted (goal.at.returns-clause-same c).After-count)) (same_beginning c.args.text.now c.args.word.now)
