-- Three plausible mistakes, each with a small history in which the law forbids it.
-- Assumes nothing.
use Rattle.std.proofs.Common.{◌≡◌, ℕ, false, List, [], ◌∷◌, ◌++◌, sym, refl, subst}
use Rattle.alert.specs.Alerts.{covers}
use Rattle.alert.specs.Entries.{Pulls, box_of, frame_of}
use Rattle.alert.specs.declared.entries.Entry.{Entry}
use Rattle.history.specs.Law.{Answers, Arms, Clears, Counts, Ends, FirstAfter, FirstPull, Followed, Law, Mask, Pulling, Raised, Stands}
use Rattle.history.specs.Turns.{Moment, Turn}
use Rattle.history.proofs.BlackBoxes.{latest}
use Rattle.history.proofs.Endings.{empty_ends, tails}

module _ (built : Moment) (s : ℕ) (e : Entry) where
  -- The alert as a live signal. The turn t raises c, which building did not, and u neither ends it nor answers: s still pulls,
  -- whatever u reported.
  live_signal : (t u : Turn) (c m : ℕ) → Law built (u ∷ t ∷ []) → Stands built s e (u ∷ t ∷ [])
      → ¬ (Raised built s c []) → Raised built s c (t ∷ []) → ¬ (Ends s c u) → ¬ (Answers s u)
      → Mask built s m (u ∷ t ∷ []) → covers m c ≡ false → Pulls e
  live_signal t u c m law at none raised going silent mask bare =
      ((law [] (u ∷ t ∷ []) refl).who_pulls s e at).1 (c, m, (u ∷ [], t ∷ [], (refl, (going, tt)), (raised, first), (silent, tt)), mask, bare)
    where
      first : (later q : List Turn) → Counts built s c (t ∷ []) later q → Raised built s c q → q ≡ t ∷ []
      first [] q (lies, never) r = sym lies
      first (v ∷ later) q (lies, never) r = absurd (none (subst (Raised built s c) (empty_ends later q (tails lies)) r))

  -- One answer for all that a station may raise. However often s has answered before, the turn t raises a condition that none
  -- raised before it: s pulls.
  one_answer : (t : Turn) (h : List Turn) (c m : ℕ) → Law built (t ∷ h) → Stands built s e (t ∷ h)
      → ((later q : List Turn) → h ≡ later ++ q → ¬ (Raised built s c q)) → Raised built s c (t ∷ h)
      → Mask built s m (t ∷ h) → covers m c ≡ false → Pulls e
  one_answer t h c m law at none raised mask bare =
      ((law [] (t ∷ h) refl).who_pulls s e at).1 (c, m, ([], t ∷ h, (refl, tt), (raised, first), tt), mask, bare)
    where
      first : (later q : List Turn) → Counts built s c (t ∷ h) later q → Raised built s c q → q ≡ t ∷ h
      first [] q (lies, never) r = sym lies
      first (v ∷ later) q (lies, never) r = absurd (none later q (tails lies) r)

  -- A box that keeps the newest trigger. s first pulls at the end of t, with the entry f, and no turn is a clear: two turns on,
  -- whether s pulls anew or not, its box has the frame of f.
  newest_trigger : (t u v : Turn) (f : Entry) → Law built (v ∷ u ∷ t ∷ []) → Stands built s e (v ∷ u ∷ t ∷ [])
      → ¬ (Pulling built s []) → Stands built s f (t ∷ []) → Pulls f
      → ¬ (Clears s t) → ¬ (Clears s u) → ¬ (Clears s v) → box_of e ≡ frame_of f
  newest_trigger t u v f law at none at_f loud a b c = ((law [] (v ∷ u ∷ t ∷ []) refl).black_box s e at).0 f pull
    where
      last : (later r : List Turn) → v ∷ u ∷ t ∷ [] ≡ later ++ r → Arms built s r → Followed built s (v ∷ u ∷ t ∷ []) r → (mid : List Turn) × ([] ≡ mid ++ r)
      last later r lies arms followed = latest built s (v ∷ u ∷ t ∷ []) [] later r (c, (b, (a, tt))) lies arms

      first : FirstAfter built s (t ∷ []) []
      first [] n is pulling = sym is
      first (w ∷ more) n is pulling = absurd (none (subst (λ z. Pulling built s (z ++ [])) (empty_ends more n (tails is)) pulling))

      pull : FirstPull built s (v ∷ u ∷ t ∷ []) f
      pull = (v ∷ u ∷ [], t ∷ [], [], refl, (tt, (v ∷ u ∷ [], t ∷ [], refl, (f, at_f, loud)), last), at_f, loud, first)
