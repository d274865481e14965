-- A text and its first line.
use Rattle.std.proofs.Common.{◌≡◌, ◌≢◌, ℕ, suc, ◌+◌, ◌-◌, ◌<◌, ◌≤◌, Bool, true, false, cond, not, eqb, List, [], ◌∷◌, length, take, drop, Option, MatchOption, sym, refl, ap, ◌∙◌, add-one, one-add, arith, eq-eqb, ne_eqb, length-drop}
use Rattle.std.specs.List.{AllWithin, HoldsAt}
use Rattle.std.specs.Option.{unwrap_or}
use Rattle.std.proofs.lemmas.Iterator.{index_from_first}
use Rattle.std.proofs.lemmas.List.{drop_all, take_all, take_rest}
use Rattle.text.specs.Lines.{line_length, lines_of, onto_first, Splits}

-- a byte in front of a first line of n bytes
longer : (b n : ℕ) (bs : List ℕ) → (b ∷ take n bs) ∷ lines_of (drop (n + 1) bs) ≡ take (1 + n) (b ∷ bs) ∷ lines_of (drop (1 + n + 1) (b ∷ bs))
longer b n bs = rw (one-add n, add-one (suc n), add-one n)

-- a byte in front of a text whose lines are known
first_byte : (b : ℕ) (bs : List ℕ) (ends : Bool) → (0 < length bs → lines_of bs ≡ take (line_length bs) bs ∷ lines_of (drop (line_length bs + 1) bs))
    → cond ends ([] ∷ lines_of bs) (onto_first b (lines_of bs)) ≡ take (cond (not ends) (1 + line_length bs) 0) (b ∷ bs) ∷ lines_of (drop (cond (not ends) (1 + line_length bs) 0 + 1) (b ∷ bs))
first_byte b bs true split = refl
first_byte b [] false split = refl
first_byte b (d ∷ bs) false split = ap (onto_first b) (split (omega arith)) ∙ longer b (line_length (d ∷ bs)) (d ∷ bs)

-- the lines of a text that has a byte are its first line and the lines of what follows
pub lines_split : (bs : List ℕ) → 0 < length bs → lines_of bs ≡ take (line_length bs) bs ∷ lines_of (drop (line_length bs + 1) bs)
lines_split [] h = absurd (omega arith)
lines_split (b ∷ bs) h = first_byte b bs (eqb b 10) (lines_split bs)

-- the first line ends where the first line end stands, or where the text ends
pub ends_at_first : (bs : List ℕ) (r : Option ℕ) → MatchOption r (AllWithin (λ b. b ≢ 10) bs 0 (length bs)) (λ i. (i < length bs) × HoldsAt (λ b. b ≡ 10) bs i × AllWithin (λ b. b ≢ 10) bs 0 i)
    → line_length bs ≡ unwrap_or r (length bs)
ends_at_first =
    index_from_first line_length (λ b. b ≡ 10) (λ b. b ≢ 10) refl
    (λ b bs e. ap (λ t. cond (not t) (1 + line_length bs) 0) (eq-eqb b 10 e))
    (λ b bs e. ap (λ t. cond (not t) (1 + line_length bs) 0) (ne_eqb b 10 e) ∙ sym (omega arith))

-- a text that is cut at its first line end
pub splits_at : (bs : List ℕ) (i : ℕ) → 0 < length bs → line_length bs ≡ i → Splits bs (take i bs) (take (length bs - (i + 1)) (drop (i + 1) bs))
splits_at bs i some e =
    rw (take_rest bs (i + 1), sym e) (record { lines = lines_split bs some; front = refl; back = refl; shorter = rw (length-drop (line_length bs + 1) bs) (omega arith) })

-- a text with no line end is one line
pub splits_whole : (bs : List ℕ) → 0 < length bs → line_length bs ≡ length bs → Splits bs bs []
splits_whole bs some e =
    let front : take (line_length bs) bs ≡ bs = take_all (line_length bs) bs (omega (arith, e)) in
    let back : drop (line_length bs + 1) bs ≡ [] = drop_all (line_length bs + 1) bs (omega (arith, e)) in
    record { lines = lines_split bs some ∙ ap (λ l. l ∷ lines_of (drop (line_length bs + 1) bs)) front ∙ ap (λ l. bs ∷ lines_of l) back; front = sym front; back = sym back; shorter = some }

-- a byte in front makes at most one line more
one_more : (b : ℕ) (bs : List ℕ) (ends : Bool) → length (cond ends ([] ∷ lines_of bs) (onto_first b (lines_of bs))) ≤ length (lines_of bs) + 1
one_more b bs true = omega arith
one_more b bs false = onto (lines_of bs)
  where
    onto : (ls : List (List ℕ)) → length (onto_first b ls) ≤ length ls + 1
    onto [] = omega arith
    onto (l ∷ ls) = omega arith

-- a text has no more lines than bytes
pub few_lines : (bs : List ℕ) → length (lines_of bs) ≤ length bs
few_lines [] = omega arith
few_lines (b ∷ bs) = omega (arith, one_more b bs (eqb b 10), few_lines bs)
