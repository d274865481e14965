-- One piece of a line after another: where the whole stops to fit, from where its parts do.
-- Assumes nothing.
use Rattle.std.proofs.Common.{◌≡◌, ℕ, ◌⊎◌, List, ◌++◌, length, Ok, Err, Result, sym, refl, ap, ◌∙◌, subst, inl, inr, ⊎_elim, append_assoc}
use Rattle.sheet_line.specs.Fitting.{After, SameNext}
use Rattle.sheet_line.specs.Numbers.{each}
use Rattle.sheet_line.specs.Pieces.{Given, then}
use Rattle.sheet_line.specs.declared.pieces.Stop.{Stop}

-- a text that does not fit, with so many bytes left at its first misfit
pub record Stops (M : List ℕ → Type 0) (bs : List ℕ) (left : ℕ) : Type 0 where
  pub front : List ℕ
  pub back : List ℕ
  pub split : bs ≡ front ++ back
  pub count : length back ≡ left
  pub goes_on : (u : List ℕ) × M (front ++ u)
  pub no_other : (u : List ℕ) → M (front ++ u) → SameNext back u → ⊥

-- the same of a piece that more may follow
pub record PieceStops {A : Type 0} (L : A → List ℕ → Type 0) (bs : List ℕ) (left : ℕ) : Type 0 where
  pub front : List ℕ
  pub back : List ℕ
  pub split : bs ≡ front ++ back
  pub count : length back ≡ left
  pub goes_on : (a : A) × (u : List ℕ) × L a (front ++ u)
  pub no_other : (a : A) (t rest u : List ℕ) → L a t → t ++ rest ≡ front ++ u → SameNext back u → ⊥

-- an answer: the text begins with a piece, or has none
abbrev pub PieceDecided : {A : Type 0} → Given A → (A → List ℕ → Type 0) → List ℕ → Type 0
PieceDecided {A} r L bs =
    ((a : A) × (t : List ℕ) × (rest : List ℕ) × (r ≡ Ok (a, rest)) × L a t × (bs ≡ t ++ rest)) ⊎ ((s : Stop) × (r ≡ Err s) × PieceStops L bs s.left)

-- an answer: the text fits, or does not
abbrev pub Decided : {B : Type 0} → Result B Stop → (List ℕ → Type 0) → List ℕ → Type 0
Decided {B} r M bs = ((b : B) × (r ≡ Ok b) × M bs) ⊎ ((s : Stop) × (r ≡ Err s) × Stops M bs s.left)

-- a reader of a piece, and the texts of the piece with their meanings
pub record Piece {A : Type 0} (p : List ℕ → Given A) (L : A → List ℕ → Type 0) : Type 0 where
  pub reads : (a : A) (t rest : List ℕ) → L a t → p (t ++ rest) ≡ Ok (a, rest)
  pub decides : (bs : List ℕ) → PieceDecided (p bs) L bs

-- a reader of what ends a line, and its texts
pub record Ending {B : Type 0} (q : List ℕ → Result B Stop) (M : List ℕ → Type 0) : Type 0 where
  pub decides : (bs : List ℕ) → Decided (q bs) M bs
  pub some : (m : List ℕ) × M m

-- an answer taken further
pub each_decided : {A B : Type 0} (g : A → B) {r : Result A Stop} {M : List ℕ → Type 0} {bs : List ℕ} → Decided r M bs → Decided (each g r) M bs
each_decided g d = ⊎_elim (λ y. inl (g y.0, ap (each g) y.1, y.2)) (λ n. inr (n.0, ap (each g) n.1, n.2)) d

pub each_ending : {A B : Type 0} (g : A → B) {q : List ℕ → Result A Stop} {M : List ℕ → Type 0} → Ending q M → Ending (λ bs. each g (q bs)) M
each_ending g e = record { decides = λ bs. each_decided g (e.decides bs); some = e.some }

module _ {A B : Type 0} {p : List ℕ → Given A} {L : A → List ℕ → Type 0} {f : A → List ℕ → Result B Stop} {M : A → List ℕ → Type 0} (piece : Piece p L) (ends : (a : A) → Ending (f a) (M a)) where
  -- the first part stops
  at_first : (bs : List ℕ) (left : ℕ) → PieceStops L bs left → Stops (After L M) bs left
  at_first bs left k =
      let a = k.goes_on.0 in
      let u = k.goes_on.1 in
      let m = (ends a).some in
      record {
        front = k.front;
        back = k.back;
        split = k.split;
        count = k.count;
        goes_on = (u ++ m.0, (a, k.front ++ u, m.0, k.goes_on.2, m.1, sym (append_assoc k.front u m.0)));
        no_other = λ more w same. k.no_other w.0 w.1 w.2 more w.3 (sym w.5) same;
      }

  -- the second part stops
  at_second : (a : A) (t rest : List ℕ) (left : ℕ) → L a t → Stops (M a) rest left → Stops (After L M) (t ++ rest) left
  at_second a t rest left l k =
      record {
        front = t ++ k.front;
        back = k.back;
        split = ap (λ r. t ++ r) k.split ∙ sym (append_assoc t k.front k.back);
        count = k.count;
        goes_on = (k.goes_on.0, (a, t, k.front ++ k.goes_on.0, l, k.goes_on.1, append_assoc t k.front k.goes_on.0));
        no_other = λ more w same. other k.front more w (λ m. k.no_other more m same);
      }
    where
      other : (front more : List ℕ) → After L M ((t ++ front) ++ more) → (M a (front ++ more) → ⊥) → ⊥
      other front more (a', t', m', l', w, e) no' =
          let lists : t ++ (front ++ more) ≡ t' ++ m' = sym (append_assoc t front more) ∙ e in
          let both : ◌≡◌ {A = Given A} (Ok (a', m')) (Ok (a, front ++ more)) = sym (piece.reads a' t' m' l') ∙ ap p (sym lists) ∙ piece.reads a t (front ++ more) l in
          let same : ◌≡◌ {A = A × List ℕ} (a', m') (a, front ++ more) = cc in
          no' (subst (λ (x : A × List ℕ). M x.0 x.1) same w)

  -- a piece and then what ends the line
  pub after_ending : (a : A) × (t : List ℕ) × L a t → Ending (λ bs. then (p bs) f) (After L M)
  after_ending first =
      record {
        decides = λ bs. ⊎_elim
            (λ y. ⊎_elim
            (λ z. inl (z.0, ap (λ r. then r f) y.3 ∙ z.1, (y.0, y.1, y.2, y.4, z.2, y.5)))
            (λ n. inr (n.0, ap (λ r. then r f) y.3 ∙ n.1, subst (λ (t : List ℕ). Stops (After L M) t n.0.left) (sym y.5) (at_second y.0 y.1 y.2 n.0.left y.4 n.2)))
            ((ends y.0).decides y.2))
            (λ n. inr (n.0, ap (λ r. then r f) n.1, at_first bs n.0.left n.2)) (piece.decides bs);
        some = let m = (ends first.0).some in (first.1 ++ m.0, (first.0, first.1, m.0, first.2, m.1, refl));
      }
