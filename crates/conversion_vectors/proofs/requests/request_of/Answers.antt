use Rattle.std.proofs.Common.{◌≡◌, ℕ, List, [], ◌∷◌, slice_index_or, ap, ◌∙◌, lit<, rules}
use Rattle.std.specs.Str.Parse.{digits_value, without_leading_plus}
use Rattle.std.proofs.lemmas.Iterator.Splits.{YieldsList-from_str_split}
use Rattle.direct.specs.Names.{kind_name, quantity_name, current_limit_name}
use Rattle.conversion_vectors.specs.Requests.{words_of, AsksIn}
use Rattle.conversion_vectors.proofs.Words.{first_of, name_read, number_read}
use Rattle.conversion_vectors.proofs.requests.request_of.Goals as goal

pub returns : goal.returns
returns c =
    let form = c.in_ok-form.form.now in
    let kind = c.in_ok-next.field-0.now in
    let quantity = c.in_ok-next-2.field-0.now in
    let setting = c.in_ok-next-3.field-0.now in
    let resistor = c.in_ok-next-4.field-0.now in
    let number = c.in_ok-next-5.field-0.now in
    let split = YieldsList-from_str_split 32 c.args.line.now (lit< tt) c.split-words.ensures.text c.split-words.ensures.has_more c.split-words.ensures.pattern in
    let first = first_of c.in_ok-form.form _ split c.in_ok-form.ensures.steps in
    let second = first_of c.in_ok-next.field-0 _ first.2 c.in_ok-next.ensures.steps in
    let third = first_of c.in_ok-next-2.field-0 _ second.2 c.in_ok-next-2.ensures.steps in
    let fourth = first_of c.in_ok-next-3.field-0 _ third.2 c.in_ok-next-3.ensures.steps in
    let fifth = first_of c.in_ok-next-4.field-0 _ fourth.2 c.in_ok-next-4.ensures.steps in
    let sixth = first_of {j = c.next-6.new.self} c.in_ok-next-5.field-0 _ fifth.2 c.in_ok-next-5.ensures.steps in
    let all : words_of c.args.line.now ≡ form ∷ kind ∷ quantity ∷ setting ∷ resistor ∷ number ∷ sixth.0 =
    first.1 ∙ ap (λ (ws : List (List ℕ)). form ∷ ws) (second.1 ∙ ap (λ (ws : List (List ℕ)). kind ∷ ws) (third.1 ∙ ap (λ (ws : List (List ℕ)). quantity ∷ ws)
    (fourth.1 ∙ ap (λ (ws : List (List ℕ)). setting ∷ ws) (fifth.1 ∙ ap (λ (ws : List (List ℕ)). resistor ∷ ws) sixth.1)))) in
    let kind_is : kind ≡ kind_name c.in_ok-kind.kind = name_read kind_name kind c.parse.result _ c.in_ok-kind.ensures.value c.parse.ensures.value in
    let quantity_is : quantity ≡ quantity_name c.in_ok-quantity.quantity = name_read quantity_name quantity c.parse-2.result _ c.in_ok-quantity.ensures.value c.parse-2.ensures.value in
    let setting_is : setting ≡ current_limit_name c.in_ok-current_limit.current_limit = name_read current_limit_name setting c.parse-3.result _ c.in_ok-current_limit.ensures.value c.parse-3.ensures.value in
    let resistor_is : digits_value 10 (without_leading_plus resistor) ≡ c.in_ok-resistor.resistor = number_read _ _ c.parse-4.result _ c.in_ok-resistor.ensures.value c.parse-4.ensures.value.0 in
    let asked_is : AsksIn form number c.in_ok-asked.asked = search rules in
    let word : (k : ℕ) → slice_index_or (words_of c.args.line.now) k [] ≡ slice_index_or (form ∷ kind ∷ quantity ∷ setting ∷ resistor ∷ number ∷ sixth.0) k [] = λ k. ap (λ (ws : List (List ℕ)). slice_index_or ws k []) all in
    record {
      kind = word 1 ∙ kind_is;
      quantity = word 2 ∙ quantity_is;
      current_limit = word 3 ∙ setting_is;
      resistor = ap (λ (w : List ℕ). digits_value 10 (without_leading_plus w)) (word 4) ∙ resistor_is;
      asked = rw (word 0, word 5) asked_is;
    }
