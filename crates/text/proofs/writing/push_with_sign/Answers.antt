use Rattle.std.proofs.Common.{[], ◌∷◌, vec_items, ap, ◌∙◌, subst}
use Rattle.text.specs.Writing.{Appends, fixed}
use Rattle.text.proofs.Appending.{appends_then, appends_stops}
use Rattle.text.proofs.writing.push_with_sign.Goals as goal
use Rattle.text.proofs.writing.push_with_sign.Goals.{then-below_zero+in_ok-push_text, else-below_zero}

pub returns-in_err-push_text : goal.returns-in_err-push_text
returns-in_err-push_text c =
    rw c.if-below_zero.true (appends_stops _ _ (45 ∷ []) _ _ c.from_residual.ensures.0 c.in_err-push_text.ensures)

pub returns : goal.returns
returns c =
    let text = fixed c.args.decimals c.args.n in
    elim c.if-below_zero.branch [
      | then-below_zero+in_ok-push_text w ↦
          rw w.if-below_zero.true (appends_then _ _ (45 ∷ []) text _ _ (ap vec_items w.out-is ∙ w.in_ok-push_text.ensures) c.push_scaled.ensures)
      | else-below_zero w ↦
          rw w.if-below_zero.false (subst (λ v. Appends c.push_scaled.result (vec_items v) text (vec_items c.push_scaled.new.out)) w.out-is c.push_scaled.ensures)
    ]
