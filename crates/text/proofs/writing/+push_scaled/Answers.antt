use Rattle.std.proofs.Common.{◌≡◌, ℕ, suc, ◌+◌, ◌-◌, ◌/◌, ◌%◌, [], ◌∷◌, ◌++◌, decimal, ap, ◌∙◌, arith}
use Rattle.text.specs.Writing.{fixed}
use Rattle.text.proofs.Appending.{appends_then, appends_stops, fixed_more, fixed_none}
use Rattle.text.proofs.writing.+push_scaled.Goals as goal

none : (k n : ℕ) → k ≡ 0 → fixed k n ≡ decimal n ++ 46 ∷ []
none k n e = ap (λ j. fixed j n) e ∙ fixed_none n

some : (k n : ℕ) → (k ≡ 0 → ⊥) → fixed k n ≡ fixed (k - 1) (n / 10) ++ (48 + n % 10) ∷ []
some k n h = let e : k ≡ suc (k - 1) = omega arith in ap (λ j. fixed j n) e ∙ fixed_more (k - 1) n

pub returns-in_err-push_decimal : goal.returns-in_err-push_decimal
returns-in_err-push_decimal t c =
    rw (none c.args.decimals c.args.n c.if-decimals-eq0.true) (appends_stops _ _ _ _ _ c.from_residual.ensures.0 c.in_err-push_decimal.ensures.appends)

pub returns-then-decimals-eq0 : goal.returns-then-decimals-eq0
returns-then-decimals-eq0 t c =
    rw (none c.args.decimals c.args.n c.if-decimals-eq0.true) (appends_then _ _ _ _ _ _ c.in_ok-push_decimal.ensures.appends c.push_text.ensures)

pub returns-in_err-push_scaled : goal.returns-in_err-push_scaled
returns-in_err-push_scaled t c =
    rw (some c.args.decimals c.args.n c.if-decimals-eq0.false) (appends_stops _ _ _ _ _ c.from_residual-in_err-push_scaled.ensures.0 c.in_err-push_scaled.ensures)

pub returns : goal.returns
returns t c =
    rw (some c.args.decimals c.args.n c.if-decimals-eq0.false) (appends_then _ _ _ _ _ _ c.in_ok-push_scaled.ensures c.push_text-2.ensures)
