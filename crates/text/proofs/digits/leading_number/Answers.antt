use Rattle.std.proofs.Common.{◌≡◌, ◌≤◌, ◌<◌, ◌^◌, length, take, sym, subst, arith, ap, ◌∙◌, length-take, length-take-le}
use Rattle.std.specs.List.{prefix_len}
use Rattle.std.proofs.lemmas.List.Sums.{prefix_len-le-length}
use Rattle.text.specs.Digits.{is_digit, digits_at_front}
use Rattle.text.proofs.Counting.{all_digits}
use Rattle.text.proofs.digits.leading_number.Goals as goal
use Rattle.text.proofs.digits.leading_number.Goals.{After-digits_at_front-length}

-- the run is part of the text
within : (c : After-digits_at_front-length) → (c.digits_at_front-length.result ≤ prefix_len is_digit c.args.text.now) × (length (take c.digits_at_front-length.result c.args.text.now) ≡ c.digits_at_front-length.result)
within c =
    let run : c.digits_at_front-length.result ≤ prefix_len is_digit c.args.text.now = rw c.digits_at_front-length.ensures (omega arith) in
    (run, length-take-le _ c.args.text.now (omega (arith, run, prefix_len-le-length is_digit c.args.text.now)))

pub slice_bounds-number_of-end : goal.slice_bounds-number_of-end
slice_bounds-number_of-end c = sym (within (goal.at.slice_bounds-number_of-end c).After-digits_at_front-length).1

pub number_of-requires-clause-all : goal.number_of-requires-clause-all
number_of-requires-clause-all c = all_digits c.args.text.now c.digits_at_front-length.result (within (goal.at.number_of-requires-clause-all c).After-digits_at_front-length).0

pub returns-clause-leads : goal.returns-clause-leads
returns-clause-leads c =
    let n = c.digits_at_front-length.result in
    let within = within (goal.at.returns-clause-leads c).After-digits_at_front-length in
    record {
      longest = c.digits_at_front-length.ensures ∙ ap (λ m. digits_at_front m c.args.text.now) c.min.ensures;
      number = c.number_of.ensures.value;
      few = omega (arith, c.digits_at_front-length.ensures, c.min.ensures);
      within = omega (arith, within.1, length-take n c.args.text.now);
      bound = subst (λ k. c.number_of.result < 10 ^ k) within.1 c.number_of.ensures.bound;
    }
