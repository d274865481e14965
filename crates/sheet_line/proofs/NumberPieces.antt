-- The address and the numbers as pieces of a line.
-- Assumes nothing.
use Rattle.std.proofs.Common.{◌≡◌, ℕ, zero, suc, ◌+◌, ◌-◌, ◌*◌, ◌^◌, ◌<◌, ◌≤◌, true, false, eqb, ltb, ◌⊎◌, List, [], ◌∷◌, ◌++◌, length, take, drop, pos, neg_ℤ, Some, None, Ok, Option, sym, refl, ap, ◌∙◌, subst, inl, inr, ⊎_elim, append_assoc, append-nil, arith, length-append}
use Rattle.std.proofs.Math.Seq.{drop-append_seam}
use Rattle.std.proofs.lemmas.List.{nil_from_length}
use Rattle.std.proofs.lemmas.Bool.{eqb-true, ltb-true, ne_eqb, cases_Bool}
use Rattle.std.proofs.lemmas.Bool.Decides.{nat_tests}
use Rattle.text.specs.Digits.{is_digit, hex_digit, digits_at_front, number_of}
use Rattle.sheet_line.specs.Fitting.{Address, EveryDigit, Digits, Magnitude, Value, SameNext}
use Rattle.sheet_line.specs.Numbers.{each, number_to_end, fraction_to_end, point_or_end, magnitude_to_end, value_to_end, after_digits, after_whole}
use Rattle.sheet_line.specs.Pieces.{Given, then, stop, hex_at, digit_or_stop, address_at}
use Rattle.sheet_line.specs.declared.expected.Expected.{Expected}
use Rattle.sheet_line.specs.declared.expected.Expected.TheVariants.{HexDigit, Digit, DigitOrMinus}
use Rattle.sheet_line.proofs.Sequences.{Piece, PieceStops, PieceDecided, Ending, Stops, Decided, each_decided}

-- ---- digits

-- the longest run of at most `most` digits at the front: no text that goes on from it with digits has the same next byte
pub record Run (most : ℕ) (bs : List ℕ) : Type 0 where
  pub front : List ℕ
  pub back : List ℕ
  pub split : bs ≡ front ++ back
  pub count : length front ≡ digits_at_front most bs
  pub digits : EveryDigit front
  pub few : length front ≤ most
  pub longest : (u : List ℕ) → EveryDigit (front ++ u) → length (front ++ u) ≤ most → SameNext back u → u ≡ []

run : (most : ℕ) (bs : List ℕ) → Run most bs
run most [] = record { front = []; back = []; split = refl; count = omega arith; digits = tt; few = omega arith; longest = λ u d f s. none u s }
  where
    none : (u : List ℕ) → SameNext [] u → u ≡ []
    none [] s = refl
    none (y ∷ ys) s = absurd s
run zero (x ∷ xs) = record { front = []; back = x ∷ xs; split = refl; count = omega arith; digits = tt; few = omega arith; longest = λ u d f s. none u f s }
  where
    none : (u : List ℕ) → length u ≤ 0 → SameNext (x ∷ xs) u → u ≡ []
    none [] f s = absurd s
    none (y ∷ ys) f s = absurd (omega arith)
run (suc m) (x ∷ xs) =
    let k = run m xs in
    ⊎_elim
    (λ (e : is_digit x ≡ true). record {
      front = x ∷ k.front;
      back = k.back;
      split = ap (λ (l : List ℕ). x ∷ l) k.split;
      count = rw e (omega (arith, k.count));
      digits = (e, k.digits);
      few = omega (arith, k.few);
      longest = λ u d f s. k.longest u d.1 (omega arith) s;
    })
    (λ (e : is_digit x ≡ false). record { front = []; back = x ∷ xs; split = refl; count = rw e (omega arith); digits = tt; few = omega arith; longest = λ u d f s. none e u d s })
    (cases_Bool (is_digit x))
  where
    none : is_digit x ≡ false → (u : List ℕ) → EveryDigit u → SameNext (x ∷ xs) u → u ≡ []
    none e [] d s = absurd s
    none e (y ∷ ys) d s = let z : true ≡ false = sym d.0 ∙ ap is_digit (sym s) ∙ e in absurd cc

-- where nothing goes on, and the next byte is the same, the text ends
next_nil : (back u : List ℕ) → u ≡ [] → SameNext back u → back ≡ []
next_nil back u e s = at_nil back (subst (SameNext back) e s)
  where
    at_nil : (b : List ℕ) → SameNext b [] → b ≡ []
    at_nil [] s = refl
    at_nil (x ∷ xs) s = absurd s

-- 1 to `most` digits end a line
module _ (most : ℕ) (some : 1 ≤ most) where
  stopped : (bs : List ℕ) (left : ℕ) → left ≡ length bs - digits_at_front most bs → (digits_at_front most bs ≡ 0) ⊎ (digits_at_front most bs < length bs) → Stops (Digits most) bs left
  stopped bs left is why =
      let k = run most bs in
      record {
        front = k.front;
        back = k.back;
        split = k.split;
        count = omega (arith, is, k.count, simp length-append at (ap length k.split));
        goes_on = begun k.front k.digits k.few;
        no_other = λ u d s. never k u d (k.longest u d.0 d.2 s) (next_nil k.back u (k.longest u d.0 d.2 s) s);
      }
    where
      begun : (front : List ℕ) → EveryDigit front → length front ≤ most → (u : List ℕ) × Digits most (front ++ u)
      begun [] d f = (48 ∷ [], ((refl, tt), omega arith, some))
      begun (x ∷ xs) d f = ([], subst (Digits most) (sym (append-nil (x ∷ xs))) (d, omega arith, f))

      never : (k : Run most bs) (u : List ℕ) → Digits most (k.front ++ u) → u ≡ [] → k.back ≡ [] → ⊥
      never k u d e f =
          let long : 1 ≤ length k.front = omega (arith, d.1, ap length (ap (λ (x : List ℕ). k.front ++ x) e ∙ append-nil k.front)) in
          let all : length bs ≡ length k.front = ap length (k.split ∙ ap (λ (x : List ℕ). k.front ++ x) f ∙ append-nil k.front) in
          ⊎_elim (λ z. omega (arith, k.count, z, long)) (λ z. omega (arith, k.count, z, all)) why

  number_fits : (bs : List ℕ) → 1 ≤ digits_at_front most bs → length bs ≤ digits_at_front most bs → Digits most bs
  number_fits bs n m =
      let k = run most bs in
      let l : length k.back ≡ 0 = omega (arith, k.count, m, simp length-append at (ap length k.split)) in
      let all : bs ≡ k.front = k.split ∙ rw (nil_from_length k.back l) (append-nil k.front) in
      subst (Digits most) (sym all) (k.digits, omega (arith, k.count, n), k.few)

  pub number_ending : Ending (number_to_end most) (Digits most)
  number_ending =
      record {
        decides = λ bs.
            let n = digits_at_front most bs in
            ⊎_elim
            (λ (e : eqb n 0 ≡ true). inr (record { left = length bs; expected = Digit }, rw e refl, stopped bs (length bs) (grind (arith, nat_tests)) (inl (eqb-true n 0 e))))
            (λ (e : eqb n 0 ≡ false). ⊎_elim
            (λ (f : ltb n (length bs) ≡ true). inr (record { left = length bs - n; expected = after_digits most n }, rw (e, f) refl, stopped bs (length bs - n) refl (inr (ltb-true n (length bs) f))))
            (λ (f : ltb n (length bs) ≡ false). inl (number_of bs, rw (e, f) refl, number_fits bs (grind (arith, nat_tests)) (grind (arith, nat_tests))))
            (cases_Bool (ltb n (length bs))))
            (cases_Bool (eqb n 0));
        some = (48 ∷ [], ((refl, tt), omega arith, some));
      }

-- ---- a value: digits, a point, a sign

-- no digit is a point or a minus
point_no_digit : is_digit 46 ≡ true → ⊥
point_no_digit e = cc

minus_no_digit : is_digit 45 ≡ true → ⊥
minus_no_digit e = cc

digits_right : (xs ys : List ℕ) → EveryDigit (xs ++ ys) → EveryDigit ys
digits_right [] ys d = d
digits_right (x ∷ xs) ys d = digits_right xs ys d.1

-- digits and a point, where other digits and a byte stand: the digits are the same, or the first go on past that byte
pointed : (w f front ms : List ℕ) (c : ℕ) → EveryDigit front → w ++ 46 ∷ f ≡ front ++ c ∷ ms → ((w ≡ front) × (46 ≡ c) × (f ≡ ms)) ⊎ ((more : List ℕ) × (w ≡ front ++ c ∷ more))
pointed [] f [] ms c d e = inl (refl, cc, cc)
pointed [] f (y ∷ ys) ms c d e = let h : 46 ≡ y = cc in absurd (point_no_digit (ap is_digit h ∙ d.0))
pointed (x ∷ w) f [] ms c d e = let h : x ≡ c = cc in inr (w, ap (λ (z : ℕ). z ∷ w) h)
pointed (x ∷ w) f (y ∷ ys) ms c d e =
    let h : x ≡ y = cc in
    let tails : w ++ 46 ∷ f ≡ ys ++ c ∷ ms = cc in
    ⊎_elim
    (λ k. inl (ap (λ (l : List ℕ). x ∷ l) k.0 ∙ ap (λ (z : ℕ). z ∷ ys) h, k.1, k.2))
    (λ k. inr (k.0, ap (λ (l : List ℕ). x ∷ l) k.1 ∙ ap (λ (z : ℕ). z ∷ (ys ++ c ∷ k.0)) h))
    (pointed w f ys ms c d.1 tails)

module _ (k : ℕ) (some : 1 ≤ k) where
  zero_magnitude : Magnitude k (48 ∷ [])
  zero_magnitude = (48 ∷ [], ((refl, tt), omega arith, omega arith), inl refl)

  -- no digit stands where one has to
  none_stops : (bs : List ℕ) → digits_at_front 12 bs ≡ 0 → Stops (Magnitude k) bs (length bs)
  none_stops bs z =
      record { front = []; back = bs; split = refl; count = refl; goes_on = (48 ∷ [], zero_magnitude); no_other = λ u m s. other u m s (run 12 bs) }
    where
      first : (u w f : List ℕ) → Digits 12 w → (u ≡ w) ⊎ ((f : List ℕ) × Digits k f × (u ≡ w ++ 46 ∷ f)) → (y : ℕ) × (r : List ℕ) × (u ≡ y ∷ r) × (is_digit y ≡ true)
      first u [] f d e = absurd (omega (arith, d.1))
      first u (y ∷ w) f d (inl e) = (y, w, e, d.0.0)
      first u (y ∷ w) f d (inr e) = (y, w ++ 46 ∷ e.0, e.2, d.0.0)

      other : (u : List ℕ) → Magnitude k u → SameNext bs u → Run 12 bs → ⊥
      other u (w, d, e) s r =
          let got = first u w [] d e in
          let empty : r.front ≡ [] = nil_from_length r.front (r.count ∙ z) in
          let back : bs ≡ r.back = r.split ∙ ap (λ (l : List ℕ). l ++ r.back) empty in
          let one : SameNext r.back (got.0 ∷ []) = next got.0 got.1 r.back (subst (λ (l : List ℕ). SameNext l (got.0 ∷ got.1)) back (subst (SameNext bs) got.2 s)) in
          let digits : EveryDigit (r.front ++ got.0 ∷ []) = subst (λ (l : List ℕ). EveryDigit (l ++ got.0 ∷ [])) (sym empty) (got.3, tt) in
          let few : length (r.front ++ got.0 ∷ []) ≤ 12 = subst (λ (l : List ℕ). length (l ++ got.0 ∷ []) ≤ 12) (sym empty) (omega arith) in
          absurd (not_nil (r.longest (got.0 ∷ []) digits few one))
        where
          next : (y : ℕ) (ys b : List ℕ) → SameNext b (y ∷ ys) → SameNext b (y ∷ [])
          next y ys [] s = s
          next y ys (x ∷ xs) s = s

          not_nil : {y : ℕ} → (y ∷ []) ≡ [] → ⊥
          not_nil e = cc

  module _ (bs : List ℕ) (r : Run 12 bs) (long : 1 ≤ length r.front) where
    -- what follows the digits is neither a digit that may come nor a point
    whole_stops : (c : ℕ) (cs : List ℕ) → r.back ≡ c ∷ cs → (c ≡ 46 → ⊥) → Stops (Magnitude k) bs (length r.back)
    whole_stops c cs is no_point =
        record {
          front = r.front;
          back = r.back;
          split = r.split;
          count = refl;
          goes_on = ([], subst (Magnitude k) (sym (append-nil r.front)) (r.front, (r.digits, long, r.few), inl refl));
          no_other = λ u m s. other u m s;
        }
      where
        begins : (u : List ℕ) → SameNext r.back u → (ms : List ℕ) × (u ≡ c ∷ ms)
        begins u s = at u (subst (λ (l : List ℕ). SameNext l u) is s)
          where
            at : (u : List ℕ) → SameNext (c ∷ cs) u → (ms : List ℕ) × (u ≡ c ∷ ms)
            at [] s = absurd s
            at (y ∷ ys) s = (ys, ap (λ (z : ℕ). z ∷ ys) (sym s))

        -- digits that go on past the run
        past : (ms : List ℕ) → EveryDigit (r.front ++ c ∷ ms) → length (r.front ++ c ∷ ms) ≤ 12 → ⊥
        past ms d f =
            let e : (c ∷ ms) ≡ [] = r.longest (c ∷ ms) d f (subst (λ (l : List ℕ). SameNext l (c ∷ ms)) (sym is) refl) in
            cc

        other : (u : List ℕ) → Magnitude k (r.front ++ u) → SameNext r.back u → ⊥
        other u (w, d, inl e) s =
            let b = begins u s in
            let is' : w ≡ r.front ++ c ∷ b.0 = sym e ∙ ap (λ (l : List ℕ). r.front ++ l) b.1 in
            past b.0 (subst EveryDigit is' d.0) (subst (λ (l : List ℕ). length l ≤ 12) is' d.2)
        other u (w, d, inr e) s =
            let b = begins u s in
            let lists : w ++ 46 ∷ e.0 ≡ r.front ++ c ∷ b.0 = sym e.2 ∙ ap (λ (l : List ℕ). r.front ++ l) b.1 in
            ⊎_elim (λ t. no_point (sym t.1))
            (λ t. past t.0 (subst EveryDigit t.1 d.0) (subst (λ (l : List ℕ). length l ≤ 12) t.1 d.2))
            (pointed w e.0 r.front b.0 c r.digits lists)

    -- what follows the point stops
    fraction_stops : (cs : List ℕ) (left : ℕ) → r.back ≡ 46 ∷ cs → Stops (Digits k) cs left → Stops (Magnitude k) bs left
    fraction_stops cs left is j =
        record {
          front = r.front ++ 46 ∷ j.front;
          back = j.back;
          split = r.split ∙ ap (λ (l : List ℕ). r.front ++ l) (is ∙ ap (λ (l : List ℕ). 46 ∷ l) j.split) ∙ sym (append_assoc r.front (46 ∷ j.front) j.back);
          count = j.count;
          goes_on = (j.goes_on.0, (r.front, (r.digits, long, r.few), inr (j.front ++ j.goes_on.0, j.goes_on.1, append_assoc r.front (46 ∷ j.front) j.goes_on.0)));
          no_other = λ u m s. other u m s;
        }
      where
        other : (u : List ℕ) → Magnitude k ((r.front ++ 46 ∷ j.front) ++ u) → SameNext j.back u → ⊥
        other u (w, d, inl e) s =
            let all : w ≡ r.front ++ 46 ∷ (j.front ++ u) = sym e ∙ append_assoc r.front (46 ∷ j.front) u in
            point_no_digit (digits_right r.front (46 ∷ (j.front ++ u)) (subst EveryDigit all d.0)).0
        other u (w, d, inr e) s =
            let lists : w ++ 46 ∷ e.0 ≡ r.front ++ 46 ∷ (j.front ++ u) = sym e.2 ∙ append_assoc r.front (46 ∷ j.front) u in
            ⊎_elim (λ t. j.no_other u (subst (Digits k) t.2 e.1) s)
            (λ t. point_no_digit (digits_right r.front (46 ∷ t.0) (subst EveryDigit t.1 d.0)).0)
            (pointed w e.0 r.front (j.front ++ u) 46 r.digits lists)

  -- the digits after a point; how they are scaled depends on how many there are
  fraction_decided : (bs : List ℕ) → Decided (fraction_to_end k bs) (Digits k) bs
  fraction_decided bs = each_decided (λ n. n * 10 ^ (k - length bs)) ((number_ending k some).decides bs)

  -- what follows the digits before a point
  rest_decided : (bs : List ℕ) (r : Run 12 bs) → 1 ≤ length r.front → (n v : ℕ) (b : List ℕ) → b ≡ r.back → Decided (point_or_end k n v b) (Magnitude k) bs
  rest_decided bs r long n v [] is = inl (v * 10 ^ k, refl, (r.front, (r.digits, long, r.few), inl (r.split ∙ rw (← is) (append-nil r.front))))
  rest_decided bs r long n v (c ∷ cs) is =
      let more : eqb (length (c ∷ cs)) 0 ≡ false = ne_eqb _ _ (λ e. omega arith) in
      ⊎_elim
      (λ (e : eqb c 46 ≡ true).
      let back : r.back ≡ 46 ∷ cs = sym is ∙ ap (λ (z : ℕ). z ∷ cs) (eqb-true c 46 e) in
      ⊎_elim
      (λ y. inl (v * 10 ^ k + y.0, rw (more, e) (ap (each (λ f. v * 10 ^ k + f)) y.1), (r.front, (r.digits, long, r.few), inr (cs, y.2, r.split ∙ ap (λ (l : List ℕ). r.front ++ l) back))))
      (λ s. inr (s.0, rw (more, e) (ap (each (λ f. v * 10 ^ k + f)) s.1), fraction_stops bs r long cs s.0.left back s.2))
      (fraction_decided cs))
      (λ (e : eqb c 46 ≡ false).
      inr (record { left = length (c ∷ cs); expected = after_whole n }, rw (more, e) refl, subst (λ (l : List ℕ). Stops (Magnitude k) bs (length l)) (sym is) (whole_stops bs r long c cs (sym is) (λ i. absurd (grind (arith, nat_tests))))))
      (cases_Bool (eqb c 46))

  magnitude_decided : (first : Expected) (bs : List ℕ) → Decided (magnitude_to_end k first bs) (Magnitude k) bs
  magnitude_decided first bs =
      let n = digits_at_front 12 bs in
      let r = run 12 bs in
      let rest : drop n bs ≡ r.back = ap (λ (n : ℕ). drop n bs) (sym r.count) ∙ ap (drop (length r.front)) r.split ∙ drop-append_seam r.front r.back in
      ⊎_elim
      (λ (e : eqb n 0 ≡ true). inr (record { left = length bs; expected = first }, rw e refl, none_stops bs (eqb-true n 0 e)))
      (λ (e : eqb n 0 ≡ false). rw e (rest_decided bs r (let c = r.count in grind (arith, nat_tests)) n (number_of (take n bs)) (drop n bs) rest))
      (cases_Bool (eqb n 0))

  -- a magnitude does not begin with a minus
  no_minus : (m : List ℕ) → Magnitude k (45 ∷ m) → ⊥
  no_minus m ([], d, e) = omega (arith, d.1)
  no_minus m (y ∷ w, d, inl e) = let h : 45 ≡ y = cc in minus_no_digit (ap is_digit h ∙ d.0.0)
  no_minus m (y ∷ w, d, inr e) = let f = e.2 in let h : 45 ≡ y = cc in minus_no_digit (ap is_digit h ∙ d.0.0)

  -- after a minus
  signed_stops : (cs : List ℕ) (left : ℕ) → Stops (Magnitude k) cs left → Stops (Value k) (45 ∷ cs) left
  signed_stops cs left j =
      record {
        front = 45 ∷ j.front;
        back = j.back;
        split = ap (λ (l : List ℕ). 45 ∷ l) j.split;
        count = j.count;
        goes_on = (j.goes_on.0, inl (j.front ++ j.goes_on.0, j.goes_on.1, refl));
        no_other = λ u v s. other u v s;
      }
    where
      other : (u : List ℕ) → Value k (45 ∷ (j.front ++ u)) → SameNext j.back u → ⊥
      other u (inl (m, w, e)) s = let h : m ≡ j.front ++ u = cc in j.no_other u (subst (Magnitude k) h w) s
      other u (inr w) s = no_minus (j.front ++ u) w

  -- without one
  plain_stops : (bs : List ℕ) (left : ℕ) → ((m : List ℕ) → bs ≡ 45 ∷ m → ⊥) → Stops (Magnitude k) bs left → Stops (Value k) bs left
  plain_stops bs left no_sign j =
      record {
        front = j.front;
        back = j.back;
        split = j.split;
        count = j.count;
        goes_on = (j.goes_on.0, inr j.goes_on.1);
        no_other = λ u v s. other u v s;
      }
    where
      minus_first : (front back u m : List ℕ) → bs ≡ front ++ back → front ++ u ≡ 45 ∷ m → SameNext back u → ⊥
      minus_first [] [] (y ∷ ys) m b e s = s
      minus_first [] [] [] m b e s = cc
      minus_first [] (x ∷ xs) [] m b e s = s
      minus_first [] (x ∷ xs) (y ∷ ys) m b e s = let h : y ≡ 45 = cc in no_sign xs (b ∙ ap (λ (z : ℕ). z ∷ xs) (s ∙ h))
      minus_first (x ∷ xs) back u m b e s = let h : x ≡ 45 = cc in no_sign (xs ++ back) (b ∙ ap (λ (z : ℕ). z ∷ (xs ++ back)) h)

      other : (u : List ℕ) → Value k (j.front ++ u) → SameNext j.back u → ⊥
      other u (inl (m, w, e)) s = minus_first j.front j.back u m j.split e s
      other u (inr w) s = j.no_other u w s

  -- no minus stands at the front
  plain_decided : (bs : List ℕ) → ((m : List ℕ) → bs ≡ 45 ∷ m → ⊥) → Decided (each pos (magnitude_to_end k DigitOrMinus bs)) (Value k) bs
  plain_decided bs no_sign = ⊎_elim (λ y. inl (y.0, y.1, inr y.2)) (λ n. inr (n.0, n.1, plain_stops bs n.0.left no_sign n.2)) (each_decided pos (magnitude_decided DigitOrMinus bs))

  value_decided : (bs : List ℕ) → Decided (value_to_end k bs) (Value k) bs
  value_decided [] = plain_decided [] (λ m e. cc)
  value_decided (c ∷ cs) =
      ⊎_elim
      (λ (e : eqb c 45 ≡ true).
      let is : (c ∷ cs) ≡ 45 ∷ cs = ap (λ (z : ℕ). z ∷ cs) (eqb-true c 45 e) in
      rw e (⊎_elim (λ y. inl (y.0, y.1, inl (cs, y.2, is))) (λ n. inr (n.0, n.1, subst (λ (l : List ℕ). Stops (Value k) l n.0.left) (sym is) (signed_stops cs n.0.left n.2)))
      (each_decided (λ n. neg_ℤ (pos n)) (magnitude_decided Digit cs))))
      (λ (e : eqb c 45 ≡ false). rw e (plain_decided (c ∷ cs) (λ m f. let is : c ≡ 45 = cc in absurd (grind (arith, nat_tests)))))
      (cases_Bool (eqb c 45))

  pub value_ending : Ending (value_to_end k) (Value k)
  value_ending = record { decides = value_decided; some = (48 ∷ [], inr zero_magnitude) }

-- ---- the address

pub zero_address : Address 0 (48 ∷ 48 ∷ [])
zero_address = (48, 48, 0, 0, refl, refl, refl, refl)

-- a hexadecimal digit, or none
hex_case : (b : ℕ) → ((d : ℕ) × (hex_digit b ≡ Some d)) ⊎ (hex_digit b ≡ None)
hex_case b = at (hex_digit b) refl
  where
    at : (o : Option ℕ) → hex_digit b ≡ o → ((d : ℕ) × (hex_digit b ≡ Some d)) ⊎ (hex_digit b ≡ None)
    at (Some d) e = inl (d, e)
    at None e = inr e

-- the second digit, and both, as they are read
abbrev second_read : ℕ → Option ℕ → List ℕ → Given ℕ
second_read h o rest = then (digit_or_stop o rest) (λ low rest. Ok (16 * h + low, rest))

abbrev first_read : Option ℕ → List ℕ → Given ℕ
first_read o rest = then (digit_or_stop o rest) (λ high rest. then (hex_at rest) (λ low rest. Ok (16 * high + low, rest)))

-- no digit comes next
abbrev NoDigit : List ℕ → Type 0
NoDigit back = (y d : ℕ) (ys : List ℕ) → hex_digit y ≡ Some d → SameNext back (y ∷ ys) → ⊥

no_digit_end : NoDigit []
no_digit_end y d ys e s = s

no_digit_at : (x : ℕ) (xs : List ℕ) → hex_digit x ≡ None → NoDigit (x ∷ xs)
no_digit_at x xs none y d ys e s = let z : ◌≡◌ {A = Option ℕ} None (Some d) = sym none ∙ ap hex_digit s ∙ e in cc

-- the first digit is missing, or the second
no_first : (back : List ℕ) → NoDigit back → PieceStops Address back (length back)
no_first back no_digit =
    record { front = []; back = back; split = refl; count = refl; goes_on = (0, 48 ∷ 48 ∷ [], zero_address); no_other = λ a t rest u l e s. other a t rest u l e s }
  where
    other : (a : ℕ) (t rest u : List ℕ) → Address a t → t ++ rest ≡ u → SameNext back u → ⊥
    other a t rest u (x, y, h, l, e, f, g, i) is s =
        no_digit x h (y ∷ rest) e (subst (SameNext back) (sym is ∙ ap (λ (z : List ℕ). z ++ rest) i) s)

no_second : (x h : ℕ) (back : List ℕ) → hex_digit x ≡ Some h → NoDigit back → PieceStops Address (x ∷ back) (length back)
no_second x h back digit no_digit =
    record {
      front = x ∷ [];
      back = back;
      split = refl;
      count = refl;
      goes_on = (16 * h + 0, 48 ∷ [], (x, 48, h, 0, digit, refl, refl, refl));
      no_other = λ a t rest u l e s. other a t rest u l e s;
    }
  where
    other : (a : ℕ) (t rest u : List ℕ) → Address a t → t ++ rest ≡ x ∷ u → SameNext back u → ⊥
    other a t rest u (x', y, h', l, e, f, g, i) is s =
        let lists : x' ∷ (y ∷ rest) ≡ x ∷ u = sym (ap (λ (z : List ℕ). z ++ rest) i) ∙ is in
        let tails : u ≡ y ∷ rest = cc in
        no_digit y l rest f (subst (SameNext back) tails s)

-- what an address is read as, digit by digit
read_none : (x : ℕ) (xs : List ℕ) → hex_digit x ≡ None → address_at (x ∷ xs) ≡ stop (suc (length xs)) HexDigit
read_none x xs e = ap (λ (o : Option ℕ). first_read o xs) e

read_one : (x h : ℕ) → hex_digit x ≡ Some h → address_at (x ∷ []) ≡ stop 0 HexDigit
read_one x h e = ap (λ (o : Option ℕ). first_read o []) e

read_first : (x y h : ℕ) (r : List ℕ) → hex_digit x ≡ Some h → hex_digit y ≡ None → address_at (x ∷ y ∷ r) ≡ stop (suc (length r)) HexDigit
read_first x y h r e f = ap (λ (o : Option ℕ). first_read o (y ∷ r)) e ∙ ap (λ (o : Option ℕ). second_read h o r) f

read_both : (x y h l : ℕ) (r : List ℕ) → hex_digit x ≡ Some h → hex_digit y ≡ Some l → address_at (x ∷ y ∷ r) ≡ Ok (16 * h + l, r)
read_both x y h l r e f = ap (λ (o : Option ℕ). first_read o (y ∷ r)) e ∙ ap (λ (o : Option ℕ). second_read h o r) f

address_decided : (bs : List ℕ) → PieceDecided (address_at bs) Address bs
address_decided [] = inr (record { left = 0; expected = HexDigit }, refl, no_first [] no_digit_end)
address_decided (x ∷ []) =
    ⊎_elim (λ d. inr (record { left = 0; expected = HexDigit }, read_one x d.0 d.1, no_second x d.0 [] d.1 no_digit_end))
    (λ e. inr (record { left = 1; expected = HexDigit }, read_none x [] e, no_first (x ∷ []) (no_digit_at x [] e))) (hex_case x)
address_decided (x ∷ y ∷ r) =
    ⊎_elim
    (λ d. ⊎_elim
    (λ l. inl (16 * d.0 + l.0, x ∷ y ∷ [], r, read_both x y d.0 l.0 r d.1 l.1, (x, y, d.0, l.0, d.1, l.1, refl, refl), refl))
    (λ f. inr (record { left = suc (length r); expected = HexDigit }, read_first x y d.0 r d.1 f, no_second x d.0 (y ∷ r) d.1 (no_digit_at y r f))) (hex_case y))
    (λ e. inr (record { left = suc (suc (length r)); expected = HexDigit }, read_none x (y ∷ r) e, no_first (x ∷ y ∷ r) (no_digit_at x (y ∷ r) e))) (hex_case x)

pub address_piece : Piece address_at Address
address_piece = record { reads = reads; decides = address_decided }
  where
    reads : (a : ℕ) (t rest : List ℕ) → Address a t → address_at (t ++ rest) ≡ Ok (a, rest)
    reads a t rest (x, y, h, l, e, f, g, i) = ap (λ (z : List ℕ). address_at (z ++ rest)) i ∙ read_both x y h l rest e f ∙ ap (λ (n : ℕ). Ok (n, rest)) (sym g)
