-- The words and the address as pieces of a line.
-- Assumes nothing.
use Rattle.std.proofs.Common.{◌≡◌, ℕ, ◌-◌, ◌<◌, ◌≤◌, Bool, true, false, ◌&&◌, T, eqb, ltb, ◌⊎◌, List, [], ◌∷◌, ◌++◌, length, drop, Some, None, Option, sym, refl, ap, ◌∙◌, subst, inl, inr, ⊎_elim, append_assoc, append-nil, arith, ltb→lt, length-append}
use Rattle.std.specs.List.{common_prefix_len}
use Rattle.std.proofs.Math.Seq.{drop-append_seam}
use Rattle.std.proofs.lemmas.List.{nil_from_length, append_cancel_left}
use Rattle.std.proofs.lemmas.List.Sums.{common_prefix_len-le}
use Rattle.std.proofs.lemmas.Option.{none-some}
use Rattle.std.proofs.lemmas.Bool.{eq-eqb, eqb-true, ne_eqb, cases_lt, cases_Bool}
use Rattle.std.proofs.lemmas.Bool.Decides.{nat_tests}
use Rattle.sheet_line.specs.Fitting.{Word, SameNext}
use Rattle.sheet_line.specs.Pieces.{stands, found, nearest, found_or_stop, one_of}
use Rattle.sheet_line.specs.declared.expected.Expected.{Expected}
use Rattle.sheet_line.proofs.Sequences.{Piece, PieceStops}

true_not_false : true ≡ false → ⊥
true_not_false e = cc

-- a text that is split where it stops to have a beginning in common with a word
pub record Parts (bs word : List ℕ) : Type 0 where
  pub same : List ℕ
  pub back : List ℕ
  pub left : List ℕ
  pub text : bs ≡ same ++ back
  pub rest : word ≡ same ++ left
  pub count : length same ≡ common_prefix_len eqb bs word
  pub apart : SameNext back left → (back ≡ []) × (left ≡ [])

parts : (bs word : List ℕ) → Parts bs word
parts [] word = record { same = []; back = []; left = word; text = refl; rest = refl; count = refl; apart = ends word }
  where
    ends : (w : List ℕ) → SameNext [] w → (◌≡◌ {A = List ℕ} [] []) × (w ≡ [])
    ends [] s = (refl, refl)
    ends (y ∷ ys) s = absurd s
parts (x ∷ xs) [] = record { same = []; back = x ∷ xs; left = []; text = refl; rest = refl; count = refl; apart = λ s. absurd s }
parts (x ∷ xs) (y ∷ ys) =
    let k = parts xs ys in
    ⊎_elim
    (λ (e : eqb x y ≡ true). record {
      same = x ∷ k.same;
      back = k.back;
      left = k.left;
      text = ap (λ (l : List ℕ). x ∷ l) k.text;
      rest = ap (λ (l : List ℕ). y ∷ l) k.rest ∙ ap (λ (z : ℕ). z ∷ (k.same ++ k.left)) (sym (eqb-true x y e));
      count = rw e (omega (arith, k.count));
      apart = k.apart;
    })
    (λ (e : eqb x y ≡ false). record { same = []; back = x ∷ xs; left = y ∷ ys; text = refl; rest = refl; count = rw e refl; apart = λ s. absurd (grind (arith, nat_tests)) })
    (cases_Bool (eqb x y))

-- a word that is wholly in common with the text stands at its front
whole : (w bs : List ℕ) (k : Parts bs w) → k.left ≡ [] → stands w bs ≡ true
whole w bs k e = eq-eqb _ _ (sym k.count ∙ sym (ap length (k.rest ∙ rw e (append-nil k.same))))

-- a word that stands at the front is the front
standing : (w bs : List ℕ) → stands w bs ≡ true → bs ≡ w ++ drop (length w) bs
standing w bs e =
    let k = parts bs w in
    let l : length k.left ≡ 0 = omega (arith, k.count, eqb-true _ _ e, simp length-append at (ap length k.rest)) in
    let is : w ≡ k.same = k.rest ∙ rw (nil_from_length k.left l) (append-nil k.same) in
    let text : bs ≡ w ++ k.back = k.text ∙ ap (λ (r : List ℕ). r ++ k.back) (sym is) in
    text ∙ ap (λ (r : List ℕ). w ++ r) (sym (ap (drop (length w)) text ∙ drop-append_seam w k.back))

self_common : (t rest : List ℕ) → common_prefix_len eqb (t ++ rest) t ≡ length t
self_common [] rest = omega (arith, (common_prefix_len-le eqb rest []).1)
self_common (x ∷ t) rest = rw (eq-eqb x x refl) (omega (arith, self_common t rest))

common_append : (v w rest : List ℕ) → common_prefix_len eqb v w < length v → common_prefix_len eqb (v ++ rest) w ≡ common_prefix_len eqb v w
common_append [] w rest h = absurd (omega arith)
common_append (x ∷ xs) [] rest h = refl
common_append (x ∷ xs) (y ∷ ys) rest h =
    ⊎_elim
    (λ (e : eqb x y ≡ true). let i = rw e at h in rw e (omega (arith, common_append xs ys rest (omega (arith, i)))))
    (λ (e : eqb x y ≡ false). rw e refl)
    (cases_Bool (eqb x y))

-- no word begins another: a test
abbrev apart_from : {A : Type 0} → List ℕ → List (List ℕ × A) → Bool
apart_from w [] = true
apart_from w (v ∷ vs) = (ltb (common_prefix_len eqb v.0 w) (length v.0) && ltb (common_prefix_len eqb v.0 w) (length w)) && apart_from w vs

abbrev pub apart_words : {A : Type 0} → List (List ℕ × A) → Bool
apart_words [] = true
apart_words (w ∷ ws) = apart_from w.0 ws && apart_words ws

both : (a b : Bool) → T (a && b) → T a × T b
both true b t = (tt, t)
both false b t = absurd t

not_standing : {A : Type 0} (w : List ℕ) (ws : List (List ℕ × A)) → T (apart_from w ws) → (a : A) (t rest : List ℕ) → Word ws a t → stands w (t ++ rest) ≡ false
not_standing w [] h a t rest k = absurd k
not_standing w (v ∷ vs) h a t rest (inl (e, f)) =
    let n = common_prefix_len eqb v.0 w in
    let tests = both (ltb n (length v.0) && ltb n (length w)) (apart_from w vs) h in
    let few = both (ltb n (length v.0)) (ltb n (length w)) tests.0 in
    let below : n < length v.0 = ltb→lt n (length v.0) few.0 in
    let short : n < length w = ltb→lt n (length w) few.1 in
    let longer' : common_prefix_len eqb (v.0 ++ rest) w ≡ length w → ⊥ = λ m. omega (arith, common_append v.0 w rest below, short, m) in
    rw (← e) (ne_eqb _ _ longer')
not_standing w (v ∷ vs) h a t rest (inr k) = not_standing w vs (both _ _ h).1 a t rest k

module _ {A : Type 0} where
  -- one of the words stands at the front, or none
  word_decided : (ws : List (List ℕ × A)) (bs : List ℕ) → ((a : A) × (t : List ℕ) × (rest : List ℕ) × (found ws bs ≡ Some (a, rest)) × Word ws a t × (bs ≡ t ++ rest)) ⊎ (found ws bs ≡ None)
  word_decided [] bs = inr refl
  word_decided (w ∷ ws) bs =
      ⊎_elim
      (λ (f : stands w.0 bs ≡ true). inl (w.1, w.0, drop (length w.0) bs, rw f refl, inl (refl, refl), standing w.0 bs f))
      (λ (f : stands w.0 bs ≡ false). ⊎_elim (λ y. inl (y.0, y.1, y.2, rw f y.3, inr y.4, y.5)) (λ n. inr (rw f n)) (word_decided ws bs))
      (cases_Bool (stands w.0 bs))

  word_reads : (ws : List (List ℕ × A)) → T (apart_words ws) → (a : A) (t rest : List ℕ) → Word ws a t → found ws (t ++ rest) ≡ Some (a, rest)
  word_reads [] h a t rest k = absurd k
  word_reads (w ∷ ws) h a t rest (inl (e, f)) =
      let yes : stands w.0 (t ++ rest) ≡ true = rw e (eq-eqb _ _ (self_common t rest)) in
      rw yes (rw (e, f, drop-append_seam t rest) refl)
  word_reads (w ∷ ws) h a t rest (inr k) = rw (not_standing w.0 ws (both _ _ h).0 a t rest k) (word_reads ws (both _ _ h).1 a t rest k)

  -- none of the words stands at the front, and none has more in common with it than the nearest
  word_missed : (ws : List (List ℕ × A)) (bs : List ℕ) → found ws bs ≡ None → (a : A) (t : List ℕ) → Word ws a t → (stands t bs ≡ false) × (common_prefix_len eqb bs t ≤ nearest ws bs)
  word_missed [] bs e a t k = absurd k
  word_missed (w ∷ ws) bs e a t k =
      ⊎_elim
      (λ (f : stands w.0 bs ≡ true). absurd (none-some _ (sym (rw f at e))))
      (λ (f : stands w.0 bs ≡ false). ⊎_elim
      (λ i. (rw (← i.0) f, rw (← i.0) (omega arith)))
      (λ m. let got = word_missed ws bs (rw f at e) a t m in (got.0, omega (arith, got.1))) k)
      (cases_Bool (stands w.0 bs))

  -- some word is the nearest
  word_nearest : (w : List ℕ × A) (ws : List (List ℕ × A)) (bs : List ℕ) → (a : A) × (t : List ℕ) × Word (w ∷ ws) a t × (common_prefix_len eqb bs t ≡ nearest (w ∷ ws) bs)
  word_nearest w [] bs = (w.1, w.0, inl (refl, refl), omega arith)
  word_nearest w (v ∷ vs) bs =
      let k = word_nearest v vs bs in
      ⊎_elim
      (λ (h : common_prefix_len eqb bs w.0 < nearest (v ∷ vs) bs). (k.0, k.1, inr k.2, omega (arith, k.3)))
      (λ (h : nearest (v ∷ vs) bs ≤ common_prefix_len eqb bs w.0). (w.1, w.0, inl (refl, refl), omega arith))
      (cases_lt (common_prefix_len eqb bs w.0) (nearest (v ∷ vs) bs))

-- of two fronts of one text, the longer goes on from the shorter
longer : (s b f c : List ℕ) → s ++ b ≡ f ++ c → length s ≤ length f → (more : List ℕ) × (f ≡ s ++ more) × (b ≡ more ++ c)
longer [] b f c e h = (f, refl, e)
longer (x ∷ s) b [] c e h = absurd (omega arith)
longer (x ∷ s) b (y ∷ f) c e h =
    let tails : s ++ b ≡ f ++ c = cc in
    let k = longer s b f c tails (omega arith) in
    let is : y ≡ x = cc in
    (k.0, ap (λ (l : List ℕ). y ∷ l) k.1 ∙ ap (λ (z : ℕ). z ∷ (s ++ k.0)) is, k.2)

-- what is left of a word that does not stand at the front, against what is left of the text
next_differs : (back left more c u rest : List ℕ) → (left ≡ [] → ⊥) → back ≡ more ++ c → left ++ rest ≡ more ++ u → SameNext c u → SameNext back left
next_differs back [] more c u rest some b l s = absurd (some refl)
next_differs back (z ∷ zs) [] c [] rest some b l s = absurd cc
next_differs back (z ∷ zs) [] [] (v ∷ vs) rest some b l s = absurd s
next_differs back (z ∷ zs) [] (d ∷ ds) (v ∷ vs) rest some b l s = subst (λ (x : List ℕ). SameNext x (z ∷ zs)) (sym b) (let h : z ≡ v = cc in s ∙ sym h)
next_differs back (z ∷ zs) (m ∷ ms) c u rest some b l s = subst (λ (x : List ℕ). SameNext x (z ∷ zs)) (sym b) (let h : z ≡ m = cc in sym h)

module _ {A : Type 0} (w : List ℕ × A) (ws : List (List ℕ × A)) (free : T (apart_words (w ∷ ws))) (e : Expected) where
  stops : (bs : List ℕ) → found (w ∷ ws) bs ≡ None → PieceStops (Word (w ∷ ws)) bs (length bs - nearest (w ∷ ws) bs)
  stops bs none =
      let near = word_nearest w ws bs in
      let k = parts bs near.1 in
      let n : length k.same ≡ nearest (w ∷ ws) bs = k.count ∙ near.3 in
      record {
        front = k.same;
        back = k.back;
        split = k.text;
        count = omega (arith, n, simp length-append at (ap length k.text));
        goes_on = (near.0, k.left, subst (λ (t : List ℕ). Word (w ∷ ws) near.0 t) k.rest near.2);
        no_other = λ a t rest u l is same. other bs none k.same k.back k.text n a t rest u l is same;
      }
    where
      other : (bs : List ℕ) → found (w ∷ ws) bs ≡ None → (front back : List ℕ) → bs ≡ front ++ back → length front ≡ nearest (w ∷ ws) bs →
          (a : A) (t rest u : List ℕ) → Word (w ∷ ws) a t → t ++ rest ≡ front ++ u → SameNext back u → ⊥
      other bs none front back split n a t rest u l is same =
          let missed = word_missed (w ∷ ws) bs none a t l in
          let j = parts bs t in
          let go = longer j.same j.back front back (sym j.text ∙ split) (omega (arith, j.count, missed.1, n)) in
          let lists : j.left ++ rest ≡ go.0 ++ u =
          append_cancel_left j.same (j.left ++ rest) (go.0 ++ u)
          (sym (append_assoc j.same j.left rest) ∙ ap (λ (x : List ℕ). x ++ rest) (sym j.rest) ∙ is ∙ ap (λ (x : List ℕ). x ++ u) go.1 ∙ append_assoc j.same go.0 u) in
          let part : j.left ≡ [] → ⊥ = λ z. absurd (true_not_false (sym (whole t bs j z) ∙ missed.0)) in
          part (j.apart (next_differs j.back j.left go.0 back u rest part go.2 lists same)).1

  -- one of some words, none of which begins another, is a piece
  pub word_piece : Piece (one_of e (w ∷ ws)) (Word (w ∷ ws))
  word_piece =
      record {
        reads = λ a t rest l. ap (λ (o : Option (A × List ℕ)). found_or_stop o (length (t ++ rest) - nearest (w ∷ ws) (t ++ rest)) e) (word_reads (w ∷ ws) free a t rest l);
        decides = λ bs.
            let answer = λ (o : Option (A × List ℕ)). found_or_stop o (length bs - nearest (w ∷ ws) bs) e in
            ⊎_elim (λ y. inl (y.0, y.1, y.2, ap answer y.3, y.4, y.5)) (λ none. inr (record { left = length bs - nearest (w ∷ ws) bs; expected = e }, ap answer none, stops bs none)) (word_decided (w ∷ ws) bs);
      }

-- words, and a test that there are some and that none begins another
abbrev pub good_words : {A : Type 0} → List (List ℕ × A) → Bool
good_words [] = false
good_words (w ∷ ws) = apart_words (w ∷ ws)

pub words_piece : {A : Type 0} (words : List (List ℕ × A)) → T (good_words words) → (e : Expected) → Piece (one_of e words) (Word words)
words_piece [] h e = absurd h
words_piece (w ∷ ws) h e = word_piece w ws h e

pub words_some : {A : Type 0} (words : List (List ℕ × A)) → T (good_words words) → (a : A) × (t : List ℕ) × Word words a t
words_some [] h = absurd h
words_some (w ∷ ws) h = (w.1, w.0, inl (refl, refl))
