use Rattle.std.proofs.Common.{◌≡◌, ℕ, ℤ, Ok, sym, ap, ◌∙◌, arith, w64, SFits, to_z, of_z, rules}
use Rattle.std.proofs.lemmas.Int.{to_z-of_z}
use Rattle.direct.proofs.cards.Card.read_back.Goals as goal

pub returns-in_err-again : goal.returns-in_err-again
returns-in_err-again c =
    let fits : SFits w64 c.in_ok-value.value = search rules in
    let through : to_z w64 (of_z w64 c.in_ok-value.value) ≡ c.in_ok-value.value = to_z-of_z w64 c.in_ok-value.value fits in
    let back = c.in_err-again.ensures.comes_back c.args.word c.ranges.word.fits (sym c.in_ok-value.ensures.answer ∙ ap (λ (x : ℤ). Ok x) (sym through)) in
    absurd (let apart : ◌≡◌ {A = ℕ} 0 1 = cc in omega arith)
