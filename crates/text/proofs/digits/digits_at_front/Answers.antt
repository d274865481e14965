use Rattle.std.proofs.Common.{min, ap, ◌∙◌, rules, tests}
use Rattle.std.proofs.lemmas.Iterator.{YieldsList-from_slice, YieldsList-from_take}
use Rattle.std.proofs.lemmas.Iterator.Consumers.{YieldsList-at, count_from_yields_List}
use Rattle.std.proofs.lemmas.Iterator.Search.{YieldsList-from_take_while}
use Rattle.std.proofs.lemmas.List.{length-take}
use Rattle.std.proofs.lemmas.List.Folds.{length-prefix_len}
use Rattle.text.specs.Digits.{is_digit}
use Rattle.text.proofs.digits.digits_at_front.Goals as goal

pub returns : goal.returns
returns c =
    count_from_yields_List c.take.result _ c.count.ensures.ran
    (YieldsList-from_take _
    (YieldsList-at c.take.ensures.source
    (YieldsList-from_take_while _ is_digit (YieldsList-from_slice c.args.text.now cc) c.take_while.ensures.closure c.take_while.ensures.done (λ x b q k. search (rules, tests))))
    c.take.ensures.count)
    ∙ length-take _ _ ∙ ap (min c.args.most) (length-prefix_len is_digit c.args.text.now)
