-- The lines of a sheet, one line on.
use Rattle.std.proofs.Common.{◌≡◌, ℕ, ◌+◌, ◌≤◌, Bool, List, [], ◌∷◌, ◌++◌, None, Ok, Err, Option, Result, sym, ap, ◌∙◌, append_assoc, append-nil, arith}
use Rattle.sheet.specs.Answers.{answer_of, next_card}
use Rattle.sheet_line.specs.Forms.{line_of}
use Rattle.sheet.specs.Printing.{printed}
use Rattle.sheet.specs.Sheet.{answers, printed_from, one_if, how_many, is_set, is_refused, is_misfit, tally_line, last_line}
use Rattle.sheet.specs.declared.answers.Answer.{Answer}
use Rattle.sheet.specs.declared.answers.Answer.TheVariants as answer
use Rattle.sheet.specs.declared.answers.PlacedCard.{PlacedCard}
use Rattle.sheet.specs.declared.answers.Refusal.{Refusal}
use Rattle.sheet.specs.declared.answers.Refusal.TheVariants as refusal

-- the count so far and what is left make up the whole
abbrev pub Counts : (Result Answer Refusal → Bool) → ℕ → List (Result Answer Refusal) → List (Result Answer Refusal) → Type 0
Counts p n left all = n + how_many p left ≡ how_many p all

-- n lines are printed, `text` is what was printed of them, and the lines `rest` are left; `set`, `refused` and `misfits` are the tally
pub record Sofar (all rest : List (List ℕ)) (text : List ℕ) (n : ℕ) (p : Option PlacedCard) (set refused misfits : ℕ) : Type 0 where
  pub small : set + refused + misfits ≤ n
  pub prints : text ++ printed_from (n + 1) p rest ≡ printed_from 1 None all
  pub sets : Counts is_set set (answers p rest) (answers None all)
  pub refuses : Counts is_refused refused (answers p rest) (answers None all)
  pub misses : Counts is_misfit misfits (answers p rest) (answers None all)

-- no answer counts twice
once : (a : Result Answer Refusal) → one_if (is_set a) + one_if (is_refused a) + one_if (is_misfit a) ≤ 1
once (Ok answer.Note) = omega arith
once (Ok (answer.Card p)) = omega arith
once (Ok (answer.Limit s)) = omega arith
once (Err (refusal.Card e)) = omega arith
once (Err (refusal.Limit l e)) = omega arith
once (Err (refusal.Misfit m)) = omega arith

module _ {all rest : List (List ℕ)} {text : List ℕ} {n : ℕ} {p : Option PlacedCard} {set refused misfits : ℕ} (old : Sofar all rest text n p set refused misfits) where
  -- one line more is printed, and its answer is counted
  module _ (line : List ℕ) (after : List (List ℕ)) (split : rest ≡ line ∷ after) (answer : Result Answer Refusal) (is : answer ≡ answer_of (line_of line) p) where
    counts_more : (t : Result Answer Refusal → Bool) (k k' : ℕ) → k' ≡ k + one_if (t answer) → Counts t k (answers p rest) (answers None all) → Counts t k' (answers (next_card (line_of line) p) after) (answers None all)
    counts_more t k k' more before = omega (arith, ap (λ a. one_if (t a)) is, ap (λ ls. how_many t (answers p ls)) split)

    pub one_more : (shown new : List ℕ) (next : Option PlacedCard) (n' s r m : ℕ) → shown ≡ printed (n + 1) line answer → new ≡ text ++ shown → next ≡ next_card (line_of line) p → n' ≡ n + 1 → s ≡ set + one_if (is_set answer) → r ≡ refused + one_if (is_refused answer) → m ≡ misfits + one_if (is_misfit answer) → Sofar all after new n' next s r m
    one_more shown new next n' s r m prints joins card counts sets refuses misses =
        let left = printed_from (n + 1 + 1) (next_card (line_of line) p) after in
        rw (counts, card) (record {
          small = omega (arith, old.small, once answer, sets, refuses, misses);
          prints =
              ap (λ t. t ++ left) (joins ∙ ap (λ t. text ++ t) (prints ∙ ap (printed (n + 1) line) is)) ∙ append_assoc text (printed (n + 1) line (answer_of (line_of line) p)) left
              ∙ ap (λ t. text ++ t) (sym (ap (printed_from (n + 1) p) split)) ∙ old.prints;
          sets = counts_more is_set set s sets old.sets;
          refuses = counts_more is_refused refused r refuses old.refuses;
          misses = counts_more is_misfit misfits m misses old.misses;
        })

  -- no line is left: all is printed, and the tally is that of all answers
  module _ (none : rest ≡ []) where
    all_printed : text ≡ printed_from 1 None all
    all_printed = sym (append-nil text) ∙ ap (λ t. text ++ t) (sym (ap (printed_from (n + 1) p) none)) ∙ old.prints

    total : (t : Result Answer Refusal → Bool) (k : ℕ) → Counts t k (answers p rest) (answers None all) → k ≡ how_many t (answers None all)
    total t k so_far = omega (arith, so_far, ap (λ ls. how_many t (answers p ls)) none)

    pub finished : (last new : List ℕ) → new ≡ text ++ last → last ≡ last_line set refused misfits → new ≡ printed_from 1 None all ++ tally_line (answers None all)
    finished last new joins tally =
        joins ∙ rw (tally, all_printed, total is_set set old.sets, total is_refused refused old.refuses, total is_misfit misfits old.misses)
