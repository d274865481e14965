-- The line of a card gives the defined conversions, and every lawful word comes back as itself.
-- Assumes nothing.
use Rattle.std.proofs.Common.{◌≡◌, ℕ, ◌*◌, ◌^◌, ◌<◌, ◌≤◌, Bool, true, false, cond, ◌&&◌, T, ℤ, pos, negsuc, ◌+ℤ◌, ◌-ℤ◌, ◌*ℤ◌, neg_ℤ, nat_abs, ◌≤ℤ◌, Ok, Err, sym, refl, ap, ◌∙◌, subst, le_refl, mul_comm, arith, w16, SFits, of_z}
use lib.Signed.{le_z, le_z_yes}
use Rattle.std.proofs.lemmas.Nat.{mul-le}
use Rattle.std.proofs.lemmas.Bool.{and_from, and_parts}
use Rattle.std.proofs.lemmas.Int.{ints, by_lt_z, of_z-to_z, unsigned_abs-mul}
use Rattle.direct.specs.Conversions.{unit, sense, scale, on, least, in_range, askable, resistor_lawful, value_divisor, word_divisor, exact_value, exact_word, word_number, value_answer, word_answer}
use Rattle.direct.specs.Lines.{LineOf}
use Rattle.direct.specs.Nearest.{rounded}
use Rattle.direct.specs.declared.cards.Card.{Card}
use Rattle.direct.specs.declared.lines.Line.{Line}
use Rattle.direct.specs.declared.quantities.Quantity.{Quantity}
use Rattle.direct.specs.declared.quantities.Quantity.TheVariants.{Vin, Vout, Vaux, Iin, Pin, Temperature}
use Rattle.direct.specs.declared.refusals.ConversionRefusal.TheVariants.{Word, Resistor, Value}
use Rattle.direct.proofs.Integers.{times_times, times_less, sum_times, neg_times, abs_sum, abs_neg, abs_above, abs_below}
use Rattle.direct.proofs.LineBounds.{line_on}
use Rattle.direct.proofs.Rounding.{WithinHalf, rounded_within, within_one}

-- (y × t - b) × v is y × (v × t) - b × v
numerator_is : (y b : ℤ) (t v : ℕ) → ((y *ℤ pos t) -ℤ b) *ℤ pos v ≡ (y *ℤ pos (v * t)) -ℤ (b *ℤ pos v)
numerator_is y b t v =
    sum_times (y *ℤ pos t) (neg_ℤ b) v ∙
    ap (λ (z : ℤ). z +ℤ (neg_ℤ b *ℤ pos v)) (times_times y t v ∙ ap (λ (n : ℕ). y *ℤ pos n) (mul_comm t v)) ∙
    ap (λ (z : ℤ). (y *ℤ pos (v * t)) +ℤ z) (neg_times b v)

-- what the line has at a number and at a value is what is defined
pub line_value : (card : Card) (q : Quantity) (l : Line) → LineOf card q l → (y : ℤ) → rounded ((y *ℤ pos l.step) -ℤ l.offset) l.slope ≡ exact_value card q y
line_value card q l is y =
    ap (λ (n : ℕ). rounded ((y *ℤ pos l.step) -ℤ l.offset) n) is.slope_is ∙
    ap (λ (z : ℤ). rounded z (value_divisor (on card q) (sense card q)))
    (ap (λ (n : ℕ). (y *ℤ pos n) -ℤ l.offset) is.step_is ∙ ap (λ (z : ℤ). (y *ℤ pos (word_divisor q (on card q))) -ℤ z) is.offset_is ∙
    sym (numerator_is y (on card q).b (scale (on card q)) (unit q * 1000)))

pub line_number : (card : Card) (q : Quantity) (l : Line) → LineOf card q l → (x : ℤ) → rounded ((x *ℤ pos l.slope) +ℤ l.offset) l.step ≡ exact_word card q x
line_number card q l is x =
    ap (λ (n : ℕ). rounded ((x *ℤ pos l.slope) +ℤ l.offset) n) is.step_is ∙
    ap (λ (z : ℤ). rounded z (word_divisor q (on card q)))
    (ap (λ (n : ℕ). (x *ℤ pos n) +ℤ l.offset) is.slope_is ∙ ap (λ (z : ℤ). (x *ℤ pos (value_divisor (on card q) (sense card q))) +ℤ z) is.offset_is)

-- a line comes back: the number at the value at y is y, since one step of the word is more than one step of the value
pub comes_back : (slope step : ℕ) (offset y : ℤ) → 0 < slope → slope < step → rounded ((rounded ((y *ℤ pos step) -ℤ offset) slope *ℤ pos slope) +ℤ offset) step ≡ y
comes_back slope step offset y some coarse =
    let x = rounded ((y *ℤ pos step) -ℤ offset) slope in
    let there = rounded_within ((y *ℤ pos step) -ℤ offset) slope some in
    let back = rounded_within ((x *ℤ pos slope) +ℤ offset) step (omega arith) in
    let here : WithinHalf ((x *ℤ pos slope) +ℤ offset) step y = record { low = omega (arith, ints, there.high); high = omega (arith, ints, there.low) } in
    within_one ((x *ℤ pos slope) +ℤ offset) step (rounded ((x *ℤ pos slope) +ℤ offset) step) y back here

-- a quotient between -m and m rounds to a number between them
pub rounded_between : (n : ℤ) (d m : ℕ) → 0 < d → nat_abs n ≤ m * d → (neg_ℤ (pos m) ≤ℤ rounded n d) × (rounded n d ≤ℤ pos m)
rounded_between n d m some h =
    let w = rounded_within n d some in (
      by_lt_z (rounded n d) (neg_ℤ (pos m))
          (λ k. absurd (omega (arith, ints, times_less (rounded n d) (neg_ℤ (pos m)) d k, neg_times (pos m) d, w.high, abs_below n)))
          (λ k. k),
      by_lt_z (pos m) (rounded n d)
          (λ k. absurd (omega (arith, ints, times_less (pos m) (rounded n d) d k, w.low, abs_above n)))
          (λ k. k),
    )

-- the answer of a conversion, from what its checks found
pub value_found : (card : Card) (q : Quantity) (w : ℕ) → in_range q (word_number w) ≡ true → resistor_lawful card q ≡ true → value_answer card q w ≡ Ok (exact_value card q (word_number w))
value_found card q w e f =
    ap (λ (b : Bool). cond b (cond (resistor_lawful card q) (Ok (exact_value card q (word_number w))) (Err Resistor)) (Err Word)) e ∙
    ap (λ (b : Bool). cond b (Ok (exact_value card q (word_number w))) (Err Resistor)) f

pub word_found : (card : Card) (q : Quantity) (x : ℤ) (b : Bool) → resistor_lawful card q ≡ true → (askable x && in_range q (exact_word card q x)) ≡ b →
    word_answer card q x ≡ cond b (Ok (of_z w16 (exact_word card q x))) (Err Value)
word_found card q x b e f =
    ap (λ (d : Bool). cond d (cond (askable x && in_range q (exact_word card q x)) (Ok (of_z w16 (exact_word card q x))) (Err Value)) (Err Resistor)) e ∙
    ap (λ (d : Bool). cond d (Ok (of_z w16 (exact_word card q x))) (Err Value)) f

at_most : (a b : ℤ) → le_z a b ≡ true → a ≤ℤ b
at_most a b e = record { le = subst T (sym e) tt }

at_most_true : (a b : ℤ) → a ≤ℤ b → le_z a b ≡ true
at_most_true a b h = T→true (le_z a b) h.le
  where
    T→true : (d : Bool) → T d → d ≡ true
    T→true true t = refl
    T→true false t = absurd t

least_above : (q : Quantity) → negsuc 4095 ≤ℤ least q
least_above Vin = le_z_yes tt
least_above Vout = le_z_yes tt
least_above Vaux = le_z_yes tt
least_above Iin = le_z_yes tt
least_above Pin = le_z_yes tt
least_above Temperature = le_z_yes tt

-- a number in range is small, and fits 16 bits
pub in_range_small : (q : Quantity) (y : ℤ) → in_range q y ≡ true → (nat_abs y ≤ 4096) × SFits w16 y
in_range_small q y h =
    let parts = and_parts (le_z (least q) y) (le_z y (pos 4095)) h in
    small y (omega (arith, ints, at_most (least q) y parts.0, least_above q)) (at_most y (pos 4095) parts.1)
  where
    small : (z : ℤ) → negsuc 4095 ≤ℤ z → z ≤ℤ pos 4095 → (nat_abs z ≤ 4096) × SFits w16 z
    small (pos n) l m = (omega (arith, ints), record { sfits = omega (arith, ints) })
    small (negsuc n) l m = (omega (arith, ints), record { sfits = omega (arith, ints) })

-- the value of every number in range can be asked for, and has that number's word
pub value_back : (card : Card) (q : Quantity) (l : Line) → LineOf card q l → (y : ℤ) → in_range q y ≡ true →
    (askable (exact_value card q y) ≡ true) × (exact_word card q (exact_value card q y) ≡ y)
value_back card q l is y h =
    let bounds = l.bounded in
    let size : nat_abs ((y *ℤ pos l.step) -ℤ l.offset) ≤ 4000000000 * l.slope =
    omega (arith, abs_sum (y *ℤ pos l.step) (neg_ℤ l.offset), unsigned_abs-mul y (pos l.step), abs_neg l.offset, mul-le (nat_abs y) l.step 4096 l.step (in_range_small q y h).0 (le_refl l.step), bounds.near) in
    let between = rounded_between ((y *ℤ pos l.step) -ℤ l.offset) l.slope 4000000000 bounds.rises size in
    let value = line_value card q l is y in (
      subst (λ (x : ℤ). askable x ≡ true) value (and_from _ _ (at_most_true _ _ between.0) (at_most_true _ _ between.1)),
      ap (exact_word card q) (sym value) ∙ sym (line_number card q l is _) ∙ comes_back l.slope l.step l.offset y bounds.rises bounds.coarse,
    )

-- every word that has a value is the word of that value
pub word_back : (card : Card) (q : Quantity) (w : ℕ) (v : ℤ) → w < 2 ^ 16 → value_answer card q w ≡ Ok v → word_answer card q v ≡ Ok w
word_back card q w v fits h =
    let found = parts (in_range q (word_number w)) (resistor_lawful card q) (exact_value card q (word_number w)) h in
    let back = value_back card q (line_on card q found.1) (record { slope_is = refl; offset_is = refl; step_is = refl }) (word_number w) found.0 in
    let number : exact_word card q v ≡ word_number w = ap (exact_word card q) (sym found.2) ∙ back.1 in
    let asked : askable v ≡ true = subst (λ (x : ℤ). askable x ≡ true) found.2 back.0 in
    let range : in_range q (exact_word card q v) ≡ true = ap (in_range q) number ∙ found.0 in
    word_found card q v true found.1 (and_from _ _ asked range) ∙ ap (λ (z : ℤ). Ok (of_z w16 z)) number ∙ ap (λ (n : ℕ). Ok n) (of_z-to_z w16 w fits)
  where
    parts : (a b : Bool) (x : ℤ) → cond a (cond b (Ok x) (Err Resistor)) (Err Word) ≡ Ok v → (a ≡ true) × (b ≡ true) × (x ≡ v)
    parts true true x e = (refl, refl, cc)
    parts true false x e = let z : ◌≡◌ {A = ℕ} 0 1 = cc in absurd (omega arith)
    parts false b x e = let z : ◌≡◌ {A = ℕ} 0 1 = cc in absurd (omega arith)
