-- What a black box holds: what its state says of the history, and the one pull that the law names.
-- Assumes nothing.
use Rattle.std.proofs.Common.{◌≡◌, ℕ, Bool, true, false, cond, ◌⊎◌, List, [], ◌∷◌, ◌++◌, replicate, sym, refl, ap, ◌∙◌, subst, inl, inr, append_assoc}
use Rattle.std.proofs.lemmas.List.{append_cancel_right}
use Rattle.std.proofs.lemmas.Bool.{both_ways}
use Rattle.alert.specs.Boxes.{armed_again, new_box, noted}
use Rattle.alert.specs.Entries.{Boxed, Pulls, box_of, frame_of, pulls}
use Rattle.alert.specs.declared.boxes.BlackBox.{BlackBox}
use Rattle.alert.specs.declared.boxes.BoxState.{BoxState}
use Rattle.alert.specs.declared.boxes.BoxState.TheVariants.{Armed, Taken}
use Rattle.alert.specs.declared.entries.Entry.{Entry}
use Rattle.history.specs.Law.{Arms, BlackBoxHolds, Clears, FirstAfter, FirstPull, Followed, Never, NeverPulled, Pulling, Stands}
use Rattle.history.specs.Turns.{Moment, Turn, clears_at}
use Rattle.history.proofs.Endings.{either_end, empty_ends, longer, one_end, tails}
use Rattle.history.proofs.Steps.{MovedAt, Stepped, as_built, came, same_entry, stepped_before}

-- a box of these parts
abbrev box : BoxState → List ℕ → BlackBox
box state bytes = record { state = state; bytes = bytes }

module _ (built : Moment) where
  -- s has not pulled since its latest arming, before the moment h itself
  abbrev Unpulled : ℕ → List Turn → Type 0
  Unpulled s h = (later q : List Turn) × (h ≡ later ++ q) × Arms built s q × Never (Clears s) later × FirstAfter built s later q

  -- the bytes are the frame of the first pull of s since its latest arming
  abbrev Caught : ℕ → List Turn → List ℕ → Type 0
  Caught s h bytes =
      (later mid q : List Turn) × (f : Entry) × (h ≡ later ++ (mid ++ q)) × Arms built s q × Never (Clears s) (later ++ mid)
      × Stands built s f (mid ++ q) × Pulls f × FirstAfter built s mid q × (bytes ≡ frame_of f)

  -- the bytes are what the law says
  abbrev Lawful : ℕ → List Turn → List ℕ → Type 0
  Lawful s h bytes = (NeverPulled built s h × (bytes ≡ replicate 12 0)) ⊎ ((f : Entry) × FirstPull built s h f × (bytes ≡ frame_of f))

  -- what the state says before the box rule at the moment h, and after it
  abbrev SaysBefore : BoxState → ℕ → List Turn → List ℕ → Type 0
  SaysBefore Armed s h bytes = Unpulled s h
  SaysBefore Taken s h bytes = Caught s h bytes

  abbrev Says : BoxState → ℕ → List Turn → List ℕ → Type 0
  Says Armed s h bytes = Unpulled s h × (¬ (Pulling built s h))
  Says Taken s h bytes = Caught s h bytes

  record Before (s : ℕ) (b : BlackBox) (h : List Turn) : Type 0 where
    lawful : ¬ (Pulling built s h) → Lawful s h b.bytes
    says : SaysBefore b.state s h b.bytes

  record Boxes (s : ℕ) (b : BlackBox) (h : List Turn) : Type 0 where
    lawful : Lawful s h b.bytes
    says : Says b.state s h b.bytes

  -- ---- the latest arming

  -- after an arming that no clear has followed there is none
  pub latest : (s : ℕ) (later q l r : List Turn) → Never (Clears s) later → later ++ q ≡ l ++ r → Arms built s r → (m : List Turn) × (q ≡ m ++ r)
  latest s [] q l r never e arms = (l, e)
  latest s (t ∷ later) q [] r never e arms = absurd (never.0 (subst (Arms built s) (sym e) arms))
  latest s (t ∷ later) q (u ∷ l) r never e arms = latest s later q l r never.1 (tails e) arms

  caught_lawful : (s : ℕ) (h : List Turn) (bytes : List ℕ) → Caught s h bytes → Lawful s h bytes
  caught_lawful s h bytes (later, mid, q, f, e, arms, never, at, loud, first, is) =
      inr (f, (later, mid, q, e, (arms, (later, mid, e, (f, at, loud)), last), at, loud, first), is)
    where
      last : (l r : List Turn) → h ≡ l ++ r → Arms built s r → Followed built s h r → (m : List Turn) × (q ≡ m ++ r)
      last l r e' arms' followed = latest s (later ++ mid) q l r never (append_assoc later mid q ∙ sym e ∙ e') arms'

  -- ---- one turn more

  -- a moment without a pull changes nothing of what the law says
  lawful_on : (s : ℕ) (t : Turn) (h : List Turn) (bytes : List ℕ) → ¬ (Pulling built s (t ∷ h)) → Lawful s h bytes → Lawful s (t ∷ h) bytes
  lawful_on s t h bytes still (inl (never, zeros)) = inl (never', zeros)
    where
      never' : NeverPulled built s (t ∷ h)
      never' [] p e pulling = still (subst (Pulling built s) (sym e) pulling)
      never' (u ∷ l) p e pulling = never l p (tails e) pulling
  lawful_on s t h bytes still (inr (f, (later, mid, q, e, (arms, (l, m, e', pulling), last), at, loud, first), is)) =
      inr (f, (t ∷ later, mid, q, longer t e, (arms, (t ∷ l, m, longer t e', pulling), last'), at, loud, first), is)
    where
      last' : (l r : List Turn) → t ∷ h ≡ l ++ r → Arms built s r → Followed built s (t ∷ h) r → (m : List Turn) × (q ≡ m ++ r)
      last' l r lies arms' ([], n, e, pulling) = absurd (still (subst (Pulling built s) (sym e) pulling))
      last' l r lies arms' (u ∷ k, n, e, pulling) = last (k ++ n) r (tails e ∙ sym (append_assoc k n r)) arms' (k, n, tails e, pulling)

  unpulled_on : (s : ℕ) (t : Turn) (h : List Turn) → ¬ (Clears s t) → ¬ (Pulling built s h) → Unpulled s h → Unpulled s (t ∷ h)
  unpulled_on s t h kept still (later, q, e, arms, never, first) = (t ∷ later, q, longer t e, arms, (kept, never), first')
    where
      first' : FirstAfter built s (t ∷ later) q
      first' [] n e' pulling = sym e'
      first' (u ∷ m) n e' pulling =
          absurd (still (subst (Pulling built s) (ap (λ (z : List Turn). z ++ q) (first m n (tails e') pulling) ∙ sym e) pulling))

  -- at its own arming nothing comes before
  unpulled_armed : (s : ℕ) (q : List Turn) → Arms built s q → Unpulled s q
  unpulled_armed s q arms = ([], q, refl, arms, tt, λ more n e pulling. empty_ends more n e)

  caught_on : (s : ℕ) (t : Turn) (h : List Turn) (bytes : List ℕ) → ¬ (Clears s t) → Caught s h bytes → Caught s (t ∷ h) bytes
  caught_on s t h bytes kept (later, mid, q, f, e, arms, never, at, loud, first, is) =
      (t ∷ later, mid, q, f, longer t e, arms, (kept, never), at, loud, first, is)

  -- what is known before the rule: at building, after a clear, and after any other turn
  before_built : (s : ℕ) → Before s new_box []
  before_built s = record {
    lawful = λ still. inl ((λ l p e pulling. still (subst (Pulling built s) (empty_ends l p e) pulling)), refl);
    says = unpulled_armed s [] tt;
  }

  before_clear : (s : ℕ) (t : Turn) (h : List Turn) (b : BlackBox) → Clears s t → Boxes s b h → Before s (armed_again b) (t ∷ h)
  before_clear s t h b clears k = record { lawful = λ still. lawful_on s t h b.bytes still k.lawful; says = unpulled_armed s (t ∷ h) clears }

  before_other : (s : ℕ) (t : Turn) (h : List Turn) (b : BlackBox) → ¬ (Clears s t) → Boxes s b h → Before s b (t ∷ h)
  before_other s t h b kept k = record { lawful = λ still. lawful_on s t h b.bytes still k.lawful; says = go b.state k.says }
    where
      go : (state : BoxState) → Says state s h b.bytes → SaysBefore state s (t ∷ h) b.bytes
      go Armed (unpulled, still) = unpulled_on s t h kept still unpulled
      go Taken caught = caught_on s t h b.bytes kept caught

  -- ---- the box rule

  not_pulling : (h : List Turn) → Stepped built h → (s : ℕ) (y : Entry) → Stands built s y h → pulls y ≡ false → ¬ (Pulling built s h)
  not_pulling h run s y at off (f, at', loud) = both_ways (pulls f) (subst (λ z. pulls z ≡ false) (same_entry built h run s y f at at') off) loud

  ruled : (h : List Turn) → Stepped built h → (s : ℕ) (y : Entry) → Stands built s y h → (b : BlackBox) → Before s b h
      → Boxes s (noted b (pulls y) (frame_of y)) h
  ruled h run s y at b before = go b.state (pulls y) refl before.says
    where
      go : (state : BoxState) (pulling : Bool) → pulls y ≡ pulling → SaysBefore state s h b.bytes
          → Boxes s (noted (box state b.bytes) pulling (frame_of y)) h
      go Armed true loud (later, q, e, arms, never, first) =
          let here : Stands built s y (later ++ q) = subst (Stands built s y) e at in
          let caught : Caught s h (frame_of y) = ([], later, q, y, e, arms, never, here, loud, first, refl) in
          record { lawful = caught_lawful s h (frame_of y) caught; says = caught }
      go Armed false off unpulled = let still = not_pulling h run s y at off in record { lawful = before.lawful still; says = (unpulled, still) }
      go Taken true is caught = record { lawful = caught_lawful s h b.bytes caught; says = caught }
      go Taken false is caught = record { lawful = caught_lawful s h b.bytes caught; says = caught }

  -- an entry that a turn left alone is as the rule would leave it
  left_alone : (s : ℕ) (h : List Turn) (x y : Entry) → Stands built s x h → Boxes s x.blackbox h → y ≡ x → Boxed x.blackbox y
  left_alone s h x y at k same = go x.blackbox.state (pulls y) refl refl k.says
    where
      unchanged : (state : BoxState) → x.blackbox.state ≡ state → y.blackbox ≡ box state (box_of x)
      unchanged state is = ap (λ (z : Entry). z.blackbox) same ∙ ap (λ (z : BoxState). box z (box_of x)) is

      go : (state : BoxState) (pulling : Bool) → x.blackbox.state ≡ state → pulls y ≡ pulling → Says state s h (box_of x)
          → y.blackbox ≡ noted (box state (box_of x)) pulling (frame_of y)
      go Armed true is loud (unpulled, still) = absurd (still (x, at, subst Pulls same loud))
      go Armed false is off says = unchanged Armed is
      go Taken true is loud says = unchanged Taken is
      go Taken false is off says = unchanged Taken is

  boxes_step : (t : Turn) (h : List Turn) → Stepped built (t ∷ h) → (s : ℕ) (x y : Entry) → Stands built s x h → Stands built s y (t ∷ h)
      → MovedAt s t x y → Boxes s x.blackbox h → Boxes s y.blackbox (t ∷ h)
  boxes_step t h run s x y at_x at moved k = go moved.boxed
    where
      by : (b : BlackBox) → Before s b (t ∷ h) → Boxed b y → Boxes s y.blackbox (t ∷ h)
      by b before boxed = subst (λ z. Boxes s z (t ∷ h)) (sym boxed) (ruled (t ∷ h) run s y at b before)

      rule : (clears : Bool) → clears_at s t ≡ clears → Boxed (cond clears (armed_again x.blackbox) x.blackbox) y → Boxes s y.blackbox (t ∷ h)
      rule true on boxed = by (armed_again x.blackbox) (before_clear s t h x.blackbox on k) boxed
      rule false off boxed = by x.blackbox (before_other s t h x.blackbox (both_ways (clears_at s t) off) k) boxed

      go : Boxed (cond (clears_at s t) (armed_again x.blackbox) x.blackbox) y ⊎ ((clears_at s t ≡ false) × (y ≡ x)) → Boxes s y.blackbox (t ∷ h)
      go (inl boxed) = rule (clears_at s t) refl boxed
      go (inr (off, same)) = rule false off (left_alone s h x y at_x k same)

  boxes_at : (h : List Turn) → Stepped built h → (s : ℕ) (e : Entry) → Stands built s e h → Boxes s e.blackbox h
  boxes_at [] run s e at = subst (λ z. Boxes s z []) (sym (as_built built run s e at).1) (ruled [] run s e at new_box (before_built s))
  boxes_at (t ∷ h) run s e at = let (x, at_x, moved) = came built t h run s e at in boxes_step t h run s x e at_x at moved (boxes_at h run.0 s x at_x)

  -- ---- the law names one pull at most

  one_mid : (s : ℕ) (q later mid later' mid' : List Turn) → later ++ (mid ++ q) ≡ later' ++ (mid' ++ q)
      → Pulling built s (mid ++ q) → FirstAfter built s mid q → Pulling built s (mid' ++ q) → FirstAfter built s mid' q → mid ≡ mid'
  one_mid s q later mid later' mid' e pulling first pulling' first' = go (either_end later later' (mid ++ q) (mid' ++ q) e)
    where
      go : ((k : List Turn) × (mid ++ q ≡ k ++ (mid' ++ q))) ⊎ ((k : List Turn) × (mid' ++ q ≡ k ++ (mid ++ q))) → mid ≡ mid'
      go (inl (k, e)) = sym (first k mid' (append_cancel_right mid (k ++ mid') q (e ∙ sym (append_assoc k mid' q))) pulling')
      go (inr (k, e)) = first' k mid (append_cancel_right mid' (k ++ mid) q (e ∙ sym (append_assoc k mid q))) pulling

  abbrev PullSince : ℕ → List Turn → Entry → List Turn → Type 0
  PullSince s h f q = (later mid : List Turn) × (h ≡ later ++ (mid ++ q)) × Stands built s f (mid ++ q) × Pulls f × FirstAfter built s mid q

  one_pull : (h : List Turn) → Stepped built h → (s : ℕ) (f g : Entry) (q : List Turn) → PullSince s h f q → PullSince s h g q → f ≡ g
  one_pull h run s f g q (later, mid, e, at, loud, first) (later', mid', e', at', loud', first') =
      let mids : mid ≡ mid' = one_mid s q later mid later' mid' (sym e ∙ e') (f, at, loud) first (g, at', loud') first' in
      let then : Stepped built (mid ++ q) = stepped_before built later (mid ++ q) (subst (Stepped built) e run) in
      same_entry built (mid ++ q) then s f g at (subst (λ m. Stands built s g (m ++ q)) (sym mids) at')

  one_first : (h : List Turn) → Stepped built h → (s : ℕ) (f g : Entry) → FirstPull built s h f → FirstPull built s h g → f ≡ g
  one_first h run s f g (later, mid, q, e, (arms, followed, last), at, loud, first) (later', mid', q', e', (arms', followed', last'), at', loud', first') =
      let after = last (later' ++ mid') q' (e' ∙ sym (append_assoc later' mid' q')) arms' followed' in
      let after' = last' (later ++ mid) q (e ∙ sym (append_assoc later mid q)) arms followed in
      let same : q ≡ q' = one_end q q' after.0 after'.0 after.1 after'.1 in
      one_pull h run s f g q (later, mid, e, at, loud, first) (subst (PullSince s h g) (sym same) (later', mid', e', at', loud', first'))

  pub black_box : (h : List Turn) → Stepped built h → BlackBoxHolds built h
  black_box h run s e at = go (boxes_at h run s e at).lawful
    where
      pulled : (f : Entry) → FirstPull built s h f → ¬ (NeverPulled built s h)
      pulled f (later, mid, q, e, last, at, loud, first) never = never later (mid ++ q) e (f, at, loud)

      go : Lawful s h (box_of e)
          → ((f : Entry) → FirstPull built s h f → box_of e ≡ frame_of f)
          × (NeverPulled built s h → box_of e ≡ replicate 12 0)
          × (((f : Entry) × FirstPull built s h f) ⊎ NeverPulled built s h)
      go (inl (never, zeros)) = ((λ f pull. absurd (pulled f pull never)), (λ n. zeros), inr never)
      go (inr (f, pull, is)) = ((λ g pull'. is ∙ ap frame_of (one_first h run s f g pull pull')), (λ never. absurd (pulled f pull never)), inl (f, pull))
