-- No call changes the number of entries; what fills a buffer of its own length is all that it then holds.
-- Assumes nothing.
use Rattle.std.proofs.Common.{◌≡◌, ℕ, suc, Bool, true, false, ◌||◌, eqb, ltb, List, [], ◌∷◌, length, Some, None, Option, refl, ap, inl, inr}
use Rattle.alert.specs.declared.entries.Entry.{Entry}
use Rattle.segment.specs.Segments.{AlertChecked, At, CallAt, Each, lowest_pulling}
use Rattle.segment.specs.Stations.{Answered}
use Rattle.segment.specs.declared.segments.JoinAnswer.{JoinAnswer}
use Rattle.history.specs.Histories.{Made}
use Rattle.history.specs.Turns.{Called, alert_read, ask, sample, transfer}
use Rattle.history.specs.declared.calls.Answer.{Answer}

each_length : (R : Entry → Entry → Type 0) (xs ys : List Entry) → Each R xs ys → length ys ≡ length xs
each_length R [] [] each = refl
each_length R [] (y ∷ ys) each = absurd each
each_length R (x ∷ xs) [] each = absurd each
each_length R (x ∷ xs) (y ∷ ys) each = ap suc (each_length R xs ys each.1)

module _ (a : ℕ) (R : Entry → Entry → Type 0) where
  at_length : (xs ys : List Entry) → At a R xs ys → length ys ≡ length xs
  at_length [] ys at = absurd at
  at_length (x ∷ xs) [] at = absurd at
  at_length (x ∷ xs) (y ∷ ys) (inl (here, changed, rest)) = ap suc (each_length _ xs ys rest)
  at_length (x ∷ xs) (y ∷ ys) (inr (away, same, at)) = ap suc (at_length xs ys at)

  call_length : (Missed : Type 0) (xs ys : List Entry) → CallAt a Missed R xs ys → length ys ≡ length xs
  call_length Missed xs ys (inl (none, missed, same)) = ap length same
  call_length Missed xs ys (inr at) = at_length xs ys at

-- where a list stays or changes at an address
alert_length : (counts short : Bool) (lowest : Option ℕ) (C S N : Type 0) (P : ℕ → Type 0) (xs ys : List Entry) → (C → ys ≡ xs) → (S → ys ≡ xs) → (N → ys ≡ xs)
    → ((k : ℕ) → P k → length ys ≡ length xs) → AlertChecked counts short lowest C S N P → length ys ≡ length xs
alert_length false short lowest C S N P xs ys c s n p refused = ap length (c refused)
alert_length true true lowest C S N P xs ys c s n p refused = ap length (s refused)
alert_length true false None C S N P xs ys c s n p refused = ap length (n refused)
alert_length true false (Some k) C S N P xs ys c s n p made = p k made

-- a call leaves as many entries as there were
pub made_length : (joining : Option JoinAnswer) (call : Called) (answer : Answer) (xs : List Entry) (before after : List ℕ) (ys : List Entry)
    → Made joining call answer xs before after ys → length ys ≡ length xs
made_length joining (sample a w) answer xs before after ys (r, is, effect, same) = call_length a _ _ xs ys effect
made_length joining (transfer a written wanted) answer xs before after ys (r, is, effect) = call_length a _ _ xs ys effect
made_length joining (alert_read wanted) answer xs before after ys (r, is, effect) =
    alert_length (eqb wanted 1 || eqb wanted 2) (ltb (length before) wanted) (lowest_pulling xs) _ _ _ _ xs ys (λ p. p.1) (λ p. p.1) (λ p. p.1) (λ k p. at_length k Answered xs ys p.2) effect
made_length joining (ask q) answer xs before after ys (is, same, kept) = ap length same
