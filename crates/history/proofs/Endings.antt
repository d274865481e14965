-- Lists that end alike: moments of one history.
-- Assumes nothing.
use Rattle.std.proofs.Common.{◌≡◌, ℕ, ◌⊎◌, List, [], ◌∷◌, ◌++◌, length, sym, ap, subst, inl, inr, arith, length-append}

-- 0 is not 1: what `cc` makes of two lists of which one is empty
pub apart : ◌≡◌ {A = ℕ} 0 1 → ⊥
apart z = omega arith

module _ {A : Type 0} where
  pub heads : {t u : A} {h k : List A} → t ∷ h ≡ u ∷ k → t ≡ u
  heads e = cc

  pub tails : {t u : A} {h k : List A} → t ∷ h ≡ u ∷ k → h ≡ k
  tails e = cc

  pub longer : (t : A) {h k : List A} → h ≡ k → t ∷ h ≡ t ∷ k
  longer t e = cc

  -- the empty list has no end but itself
  pub empty_ends : (later p : List A) → [] ≡ later ++ p → p ≡ []
  empty_ends [] p e = sym e
  empty_ends (t ∷ later) p e = absurd (apart (cc))

  -- no list goes on to itself by one element or more
  pub no_return : (t : A) (l m h : List A) → h ≡ l ++ (t ∷ (m ++ h)) → ⊥
  no_return t l m h e =
      let whole = ap length e in
      let outer = length-append l (t ∷ (m ++ h)) in
      let inner = length-append m h in
      omega arith

  -- two lists of which each ends in the other are one
  pub one_end : (q r m n : List A) → q ≡ m ++ r → r ≡ n ++ q → q ≡ r
  one_end q r [] n e f = e
  one_end q r (t ∷ m) n e f = absurd (no_return t n m r (subst (λ x. r ≡ n ++ x) e f))

  -- of two ends of one list, one ends in the other
  pub either_end : (l m p q : List A) → l ++ p ≡ m ++ q → ((k : List A) × (p ≡ k ++ q)) ⊎ ((k : List A) × (q ≡ k ++ p))
  either_end [] m p q e = inl (m, e)
  either_end (t ∷ l) [] p q e = inr (t ∷ l, sym e)
  either_end (t ∷ l) (u ∷ m) p q e = either_end l m p q (tails e)
