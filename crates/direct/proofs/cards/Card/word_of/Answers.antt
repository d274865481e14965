use Rattle.std.proofs.Common.{◌≡◌, ℕ, ◌<◌, true, ℤ, pos, ◌+ℤ◌, ◌*ℤ◌, Ok, sym, ap, ◌∙◌, subst, arith, w16, w64, to_z, of_z, rules}
use Rattle.std.proofs.lemmas.Bool.{and_from}
use Rattle.std.proofs.lemmas.Int.{to_z-of_z}
use Rattle.direct.specs.Conversions.{askable, in_range, on, sense, word_numerator, word_divisor, exact_word}
use Rattle.direct.specs.Nearest.{Nearest, rounded}
use Rattle.direct.proofs.RoundTrip.{line_number, word_back, word_found, in_range_small}
use Rattle.direct.proofs.Rounding.{rounded_nearest}
use Rattle.direct.proofs.cards.Card.word_of.Goals as goal

pub returns : goal.returns
returns c =
    let card = c.args.self.now in
    let q = c.args.quantity in
    let line = c.in_ok-line.line in
    let lawful = c.in_ok-line.ensures.0 in
    let is = c.in_ok-line.ensures.1 in
    let n : ℤ = to_z w64 (of_z w64 c.number_at-number.result) in
    let number : n ≡ exact_word card q c.args.value =
    to_z-of_z w64 c.number_at-number.result (record { sfits = c.number_at-number.type_inv }) ∙ c.number_at-number.ensures ∙
    ap (λ (x : ℤ). rounded ((x *ℤ pos line.slope) +ℤ line.offset) line.step) (to_z-of_z w64 c.args.value c.ranges.value) ∙ line_number card q line is c.args.value in
    let range : in_range q n ≡ true = sym c.if-not-number_in_range.ensures in
    let asked : askable c.args.value ≡ true = sym (c.if-not-value_in_range.ensures ∙ ap askable (to_z-of_z w64 c.args.value c.ranges.value)) in
    let through : to_z w16 (of_z w16 n) ≡ n = to_z-of_z w16 n (in_range_small q n range).1 in
    let word : c.cast_unsigned.result ≡ of_z w16 n = c.cast_unsigned.ensures ∙ ap (of_z w16) through in
    let answer = ap (λ (w : ℕ). Ok w) (word ∙ ap (of_z w16) number) ∙ sym (word_found card q c.args.value true lawful (and_from _ _ asked (ap (in_range q) (sym number) ∙ range))) in
    record {
      answer = answer;
      comes_back = λ w fits h. answer ∙ word_back card q w c.args.value fits h;
      nearest =
          subst (λ (x : ℤ). Nearest (word_numerator q (on card q) (sense card q) c.args.value) (word_divisor q (on card q)) x) (sym (ap (to_z w16) word ∙ through ∙ number))
          (rounded_nearest (word_numerator q (on card q) (sense card q) c.args.value) (word_divisor q (on card q)) (subst (λ (m : ℕ). 0 < m) is.step_is (omega (arith, line.bounded.coarse))));
    }

pub returns-then-not-value_in_range-clause-answer : goal.returns-then-not-value_in_range-clause-answer
returns-then-not-value_in_range-clause-answer c = search rules

pub returns-then-not-value_in_range-clause-comes_back : goal.returns-then-not-value_in_range-clause-comes_back
returns-then-not-value_in_range-clause-comes_back c = λ w fits h. returns-then-not-value_in_range-clause-answer c ∙ word_back c.args.self.now c.args.quantity w c.args.value fits h

pub returns-then-not-number_in_range-clause-answer : goal.returns-then-not-number_in_range-clause-answer
returns-then-not-number_in_range-clause-answer c = search rules

pub returns-then-not-number_in_range-clause-comes_back : goal.returns-then-not-number_in_range-clause-comes_back
returns-then-not-number_in_range-clause-comes_back c = λ w fits h. returns-then-not-number_in_range-clause-answer c ∙ word_back c.args.self.now c.args.quantity w c.args.value fits h
