-- Entries written over the first places of a buffer: one, none, and those of one list after those of another.
-- Assumes nothing.
use Rattle.std.proofs.Common.{◌≡◌, ℕ, suc, ◌-◌, ◌<◌, ◌≤◌, min, List, [], ◌∷◌, ◌++◌, length, take, drop, set, sym, refl, ap, ◌∙◌, subst, append-nil, not-suc-le-zero, arith, length-drop}
use native.Mathlib.Nat.{min-zero, suc-min-suc, zero-min}
use lib.Seq.{drop-nil, take-nil}
use Rattle.alert.specs.declared.entries.Entry.{Entry}
use Rattle.segment.specs.Segments.{written_over}
use borrow.Rule.Slice.PartMut.{put_mid}
use Rattle.std.proofs.lemmas.List.{drop_all, take_rest}

-- no entries leave the buffer as it is
pub over_nothing : (buffer : List Entry) → written_over [] buffer ≡ buffer
over_nothing buffer = ap (λ (front : List Entry). front ++ buffer) (take-nil (length buffer))

-- an empty buffer stays empty
pub over_empty : (xs : List Entry) → written_over xs [] ≡ []
over_empty xs = drop-nil (length xs)

-- the buffer keeps its length
pub over_length : (xs buffer : List Entry) → length (written_over xs buffer) ≡ length buffer
over_length [] buffer = ap length (over_nothing buffer)
over_length (x ∷ xs) [] = refl
over_length (x ∷ xs) (b ∷ buffer) = ap suc (over_length xs buffer)

-- one entry, where there is a place for it
pub over_one : (e : Entry) (buffer : List Entry) → 0 < length buffer → set buffer 0 e ≡ written_over (e ∷ []) buffer
over_one e [] h = absurd (not-suc-le-zero h)
over_one e (b ∷ buffer) h = ap (λ (rest : List Entry). e ∷ rest) (sym (over_nothing buffer))

-- the entries of l, then those of r over what is left, with the number of places that l takes
over_then : (l r buffer : List Entry) (start : ℕ) → start ≡ min (length l) (length buffer)
    → take start (written_over l buffer) ++ written_over r (drop start (written_over l buffer)) ≡ written_over (l ++ r) buffer
over_then [] r buffer start s =
    ap (λ (n : ℕ). take n (written_over [] buffer) ++ written_over r (drop n (written_over [] buffer))) (s ∙ zero-min (length buffer)) ∙ ap (written_over r) (over_nothing buffer)
over_then (x ∷ l) r [] start s =
    ap (λ (n : ℕ). take n [] ++ written_over r (drop n [])) (s ∙ min-zero (suc (length l))) ∙ over_empty r
over_then (x ∷ l) r (b ∷ buffer) start s =
    ap (λ (n : ℕ). take n (x ∷ written_over l buffer) ++ written_over r (drop n (x ∷ written_over l buffer))) (s ∙ suc-min-suc (length l) (length buffer))
    ∙ ap (λ (rest : List Entry). x ∷ rest) (over_then l r buffer (min (length l) (length buffer)) refl)

-- nothing lies after the part that goes to the buffer's end
nothing_after : (xs : List Entry) (start : ℕ) → drop (length xs - start) (drop start xs) ≡ []
nothing_after xs start = drop_all (length xs - start) (drop start xs) (subst (λ (n : ℕ). n ≤ length xs - start) (sym (length-drop start xs)) (omega arith))

-- the part from a place to the buffer's end is all that lies from that place on
pub rest_whole : (middle : List Entry) (start : ℕ) → take (length middle - start) (drop start middle) ≡ drop start middle
rest_whole middle start = take_rest middle start

-- the entries of l over the buffer, then those of r over the places after them
pub over_join : (l r buffer middle after : List Entry) (start : ℕ) → start ≡ min (length l) (length buffer) → middle ≡ written_over l buffer
    → after ≡ written_over r (drop start middle) → put_mid start (length middle - start) middle after ≡ written_over (l ++ r) buffer
over_join l r buffer middle after start s m a =
    ap (λ (end : List Entry). take start middle ++ (after ++ end)) (nothing_after middle start)
    ∙ ap (λ (rest : List Entry). take start middle ++ rest) (append-nil after ∙ a)
    ∙ ap (λ (held : List Entry). take start held ++ written_over r (drop start held)) m
    ∙ over_then l r buffer start s

-- the same, where the part is held with its length
pub over_join_part : (l r buffer middle after : List Entry) (start : ℕ) → start ≡ min (length l) (length buffer) → middle ≡ written_over l buffer
    → after ≡ written_over r (take (length middle - start) (drop start middle)) → put_mid start (length middle - start) middle after ≡ written_over (l ++ r) buffer
over_join_part l r buffer middle after start s m a = over_join l r buffer middle after start s m (a ∙ ap (written_over r) (rest_whole middle start))
