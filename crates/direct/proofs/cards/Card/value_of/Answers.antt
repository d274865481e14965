use Rattle.std.proofs.Common.{◌≡◌, ℕ, ◌<◌, true, ℤ, pos, ◌-ℤ◌, ◌*ℤ◌, Ok, sym, ap, ◌∙◌, subst, w16, w64, to_z, of_z}
use Rattle.std.proofs.lemmas.Int.{to_z-of_z}
use Rattle.direct.specs.Conversions.{in_range, word_number, on, sense, value_numerator, value_divisor, exact_value}
use Rattle.direct.specs.Nearest.{Nearest, rounded}
use Rattle.direct.proofs.RoundTrip.{line_value, value_found}
use Rattle.direct.proofs.Rounding.{rounded_nearest}
use Rattle.direct.proofs.cards.Card.value_of.Goals as goal

pub returns : goal.returns
returns c =
    let card = c.args.self.now in
    let q = c.args.quantity in
    let line = c.in_ok-line.line in
    let lawful = c.in_ok-line.ensures.0 in
    let is = c.in_ok-line.ensures.1 in
    let number : to_z w64 (of_z w64 c.from-number.result) ≡ word_number c.args.word =
    to_z-of_z w64 c.from-number.result (record { sfits = c.from-number.type_inv }) ∙ c.from-number.ensures ∙
    to_z-of_z w16 c.cast_signed.result (record { sfits = c.cast_signed.type_inv }) ∙ c.cast_signed.ensures in
    let range : in_range q (word_number c.args.word) ≡ true = sym (c.if-not-number_in_range.ensures ∙ ap (in_range q) number) in
    let value : to_z w64 (of_z w64 c.value_at.result) ≡ exact_value card q (word_number c.args.word) =
    to_z-of_z w64 c.value_at.result (record { sfits = c.value_at.type_inv }) ∙ c.value_at.ensures ∙
    ap (λ (y : ℤ). rounded ((y *ℤ pos line.step) -ℤ line.offset) line.slope) number ∙ line_value card q line is (word_number c.args.word) in
    record {
      answer = ap (λ (x : ℤ). Ok x) value ∙ sym (value_found card q c.args.word range lawful);
      nearest =
          subst (λ (x : ℤ). Nearest (value_numerator q (on card q) (word_number c.args.word)) (value_divisor (on card q) (sense card q)) x) (sym value)
          (rounded_nearest (value_numerator q (on card q) (word_number c.args.word)) (value_divisor (on card q) (sense card q)) (subst (λ (n : ℕ). 0 < n) is.slope_is line.bounded.rises));
    }
