-- A line taken apart fits, and a misfit has the place of the first byte that fits nothing.
-- Assumes nothing.
use Rattle.std.proofs.Common.{◌≡◌, ℕ, ◌+◌, ◌-◌, ◌≤◌, true, false, T, eqb, List, [], ◌∷◌, ◌++◌, length, take, drop, Result, sym, ap, ◌∙◌, subst, inl, inr, ⊎_elim, arith, length-append}
use Rattle.direct.specs.Registers.{register_quantity}
use Rattle.direct.specs.declared.quantities.Quantity.{Quantity}
use Rattle.direct.specs.declared.quantities.Quantity.TheVariants.{Vin, Vout, Vaux, Iin, Pin, Temperature}
use Rattle.std.proofs.Math.Seq.{take-append_seam, drop-append_seam}
use Rattle.std.proofs.lemmas.Bool.{eqb-true, cases_Bool}
use Rattle.std.proofs.lemmas.Bool.Decides.{nat_tests}
use Rattle.sheet_line.specs.Fitting.{After, Word, Settings, Tail, Formed, Fits, SameNext, FirstMisfit, Placed}
use Rattle.sheet_line.specs.Forms.{decimals, settings, after_keyword, form, line_of}
use Rattle.sheet_line.specs.Names.{keywords, blank, kinds, current_limits, registers}
use Rattle.sheet_line.specs.Pieces.{then, one_of}
use Rattle.sheet_line.specs.declared.expected.Expected.{Expected}
use Rattle.sheet_line.specs.declared.expected.Expected.TheVariants.{Form, Blank, Kind, CurrentLimit, LimitName}
use Rattle.sheet_line.specs.declared.names.Keyword.{Keyword}
use Rattle.sheet_line.specs.declared.names.Keyword.TheVariants as keyword
use Rattle.sheet_line.specs.declared.pieces.Stop.{Stop}
use Rattle.sheet_line.proofs.NumberPieces.{address_piece, number_ending, value_ending, zero_address}
use Rattle.sheet_line.proofs.Sequences.{Ending, Stops, each_ending, after_ending}
use Rattle.sheet_line.proofs.WordPieces.{good_words, words_piece, words_some}

-- one of some words and then an end of the line
word_ending : {A B : Type 0} (words : List (List ℕ × A)) → T (good_words words) → (e : Expected) {f : A → List ℕ → Result B Stop} {M : A → List ℕ → Type 0} → ((a : A) → Ending (f a) (M a)) →
    Ending (λ bs. then (one_of e words bs) f) (After (Word words) M)
word_ending words good e ends = after_ending (words_piece words good e) ends (words_some words good)

blank_ending : {B : Type 0} {q : List ℕ → Result B Stop} {M : List ℕ → Type 0} → Ending q M → Ending (λ bs. then (one_of Blank blank bs) (λ _ bs. q bs)) (After (Word blank) (λ _. M))
blank_ending e = word_ending blank tt Blank (λ _. e)

some_decimals : (q : Quantity) → 1 ≤ decimals q
some_decimals Vin = omega arith
some_decimals Vout = omega arith
some_decimals Vaux = omega arith
some_decimals Iin = omega arith
some_decimals Pin = omega arith
some_decimals Temperature = omega arith

settings_ending : Ending settings Settings
settings_ending = word_ending kinds tt Kind (λ k. blank_ending (word_ending current_limits tt CurrentLimit (λ c. blank_ending (each_ending _ (number_ending 9 (omega arith))))))

tail_ending : (k : Keyword) → Ending (after_keyword k) (Tail k)
tail_ending keyword.Card = after_ending address_piece (λ a. blank_ending (each_ending _ settings_ending)) (0, _, zero_address)
tail_ending keyword.Limit = word_ending registers tt LimitName (λ r. blank_ending (each_ending _ (value_ending (decimals (register_quantity r)) (some_decimals (register_quantity r)))))

form_ending : Ending form Formed
form_ending = word_ending keywords tt Form (λ k. blank_ending (tail_ending k))

-- a line that is no note, where it stops to have a form
misfit : (b : ℕ) (bs : List ℕ) (left : ℕ) → (b ≡ 35 → ⊥) → Stops Formed (b ∷ bs) left → FirstMisfit (b ∷ bs) (length (b ∷ bs) - left)
misfit b bs left no_note j =
    let whole : length (b ∷ bs) ≡ length j.front + length j.back = simp length-append at (ap length j.split) in
    let place : length (b ∷ bs) - left ≡ length j.front = omega (arith, whole, j.count) in
    let before : take (length (b ∷ bs) - left) (b ∷ bs) ≡ j.front = ap (λ (n : ℕ). take n (b ∷ bs)) place ∙ ap (take (length j.front)) j.split ∙ take-append_seam j.front j.back in
    let past : drop (length (b ∷ bs) - left) (b ∷ bs) ≡ j.back = ap (λ (n : ℕ). drop n (b ∷ bs)) place ∙ ap (drop (length j.front)) j.split ∙ drop-append_seam j.front j.back in
    record {
      within = omega (arith, whole, place);
      goes_on = (j.goes_on.0, inr (subst (λ (t : List ℕ). Formed (t ++ j.goes_on.0)) (sym before) j.goes_on.1));
      no_other = λ u f s. other j.front j.back j.split j.no_other u (subst (λ (t : List ℕ). Fits (t ++ u)) before f) (subst (λ (t : List ℕ). SameNext t u) past s);
    }
  where
    other : (front back : List ℕ) → (b ∷ bs) ≡ front ++ back → ((u : List ℕ) → Formed (front ++ u) → SameNext back u → ⊥) → (u : List ℕ) → Fits (front ++ u) → SameNext back u → ⊥
    other front back e apart u (inr f) s = apart u f s
    other [] [] e apart u (inl n) s = cc
    other [] (x ∷ xs) e apart [] (inl n) s = s
    other [] (x ∷ xs) e apart (y ∷ ys) (inl n) s = let h : b ≡ x = cc in no_note (h ∙ s ∙ n)
    other (x ∷ xs) back e apart u (inl n) s = let h : b ≡ x = cc in no_note (h ∙ n)

pub line_placed : (bs : List ℕ) → Placed bs (line_of bs)
line_placed [] = inl tt
line_placed (b ∷ bs) =
    ⊎_elim
    (λ (e : eqb b 35 ≡ true). rw e (inl (eqb-true b 35 e)))
    (λ (e : eqb b 35 ≡ false). rw e
    (⊎_elim (λ y. rw y.1 (inr y.2)) (λ n. rw n.1 (misfit b bs n.0.left (λ i. absurd (grind (arith, nat_tests))) n.2)) (form_ending.decides (b ∷ bs))))
    (cases_Bool (eqb b 35))
