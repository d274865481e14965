-- The law of the alert line: who pulls, how long a pull waits, and what a black box holds, at every moment of a history.
-- Assumes nothing.
use Rattle.std.specs.Prelude.{◌≡◌, ℕ, ◌+◌, ◌≤◌, Bool, true, false, cond, not, ◌&&◌, ◌⊎◌, ◌↔◌, List, [], ◌∷◌, ◌++◌, map, replicate, Some, None, Option, ◌==◌, nat_lt}
use Rattle.alert.specs.Alerts.{covers}
use Rattle.alert.specs.Conditions.{Has}
use Rattle.alert.specs.Entries.{Pulls, address_of, box_of, frame_of, latched, mask_of, pulls}
use Rattle.alert.specs.declared.entries.Entry.{Entry}
use Rattle.history.specs.Turns.{Moment, Turn, answered_by, clears_at, mask_written_at, reported_at}

-- A history is a list of turns, the newest first. A moment is building, or the end of a turn, and is named by the history up to it:
-- [] is building, and h ≡ later ++ p says that the moment p lies in h and that the turns `later` came after it.

-- x stands in the list
abbrev pub Among : {A : Type 0} → A → List A → Type 0
Among x [] = ⊥
Among x (y ∷ more) = (x ≡ y) ⊎ Among x more

-- no turn of the list has the property
abbrev pub Never : (Turn → Type 0) → List Turn → Type 0
Never P [] = Unit {0}
Never P (t ∷ more) = (¬ (P t)) × Never P more

-- the turn is an accepted clear at s
abbrev pub Clears : ℕ → Turn → Type 0
Clears s t = clears_at s t ≡ true

-- whether the turn ends what was raised before it of the condition c at s: an accepted clear does
abbrev pub ends_at : ℕ → ℕ → Turn → Bool
ends_at s c t = clears_at s t

-- the turn ends what was raised before it of the condition c at s
abbrev pub Ends : ℕ → ℕ → Turn → Type 0
Ends s c t = ends_at s c t ≡ true

-- the turn is an alert read that s answered
abbrev pub Answers : ℕ → Turn → Type 0
Answers s t = answered_by t ≡ Some s

-- ---- what is counted

-- 1 for what is so, 0 for what is not
abbrev pub one : Bool → ℕ
one b = cond b 1 0

-- 1 where an alert read was answered, and by another than s
abbrev pub other_answer : ℕ → Option ℕ → ℕ
other_answer s (Some a) = one (not (a == s))
other_answer s None = 0

-- how many alert reads others than s answered in the turns
abbrev pub answers_by_others : ℕ → List Turn → ℕ
answers_by_others s [] = 0
answers_by_others s (t ∷ later) = other_answer s (answered_by t) + answers_by_others s later

-- how many of the entries have a lower address than s and pull
abbrev pub lower_pulling : ℕ → List Entry → ℕ
lower_pulling s [] = 0
lower_pulling s (x ∷ more) = one (nat_lt (address_of x) s && pulls x) + lower_pulling s more

-- how many lower addresses than s start: they pull after a turn and did not before it, place by place
abbrev pub lower_starts : ℕ → List Entry → List Entry → ℕ
lower_starts s [] after = 0
lower_starts s (x ∷ before) [] = 0
lower_starts s (x ∷ before) (y ∷ after) = one (nat_lt (address_of x) s && (pulls y && not (pulls x))) + lower_starts s before after

module _ (built : Moment) where
  -- ---- moments and stations

  -- what shows at a moment
  abbrev pub shown_at : List Turn → Moment
  shown_at [] = built
  shown_at (t ∷ h) = t.after

  -- the entries of all stations at a moment
  abbrev pub entries_at : List Turn → List Entry
  entries_at h = (shown_at h).entries

  -- e is the entry of the station s at the moment h
  abbrev pub Stands : ℕ → Entry → List Turn → Type 0
  Stands s e h = Among e (entries_at h) × (address_of e ≡ s)

  -- the station s pulls at the moment h
  abbrev pub Pulling : ℕ → List Turn → Type 0
  Pulling s h = (e : Entry) × Stands s e h × Pulls e

  -- each station keeps its place in the list of entries, and none comes or goes
  abbrev pub Places : List Turn → Type 0
  Places h = map address_of (entries_at h) ≡ map address_of (entries_at [])

  -- ---- who pulls

  -- the condition c is raised at s at the moment h: by the first latched set at building, or by the set that the turn reported there
  abbrev pub Raised : ℕ → ℕ → List Turn → Type 0
  Raised s c [] = (e : Entry) × Stands s e [] × Has c (latched e)
  Raised s c (t ∷ h) = Has c (reported_at s t)

  -- what was raised of the condition c at s at the moment p still counts at h: none of the turns since has ended it
  abbrev pub Counts : ℕ → ℕ → List Turn → List Turn → List Turn → Type 0
  Counts s c h later p = (h ≡ later ++ p) × Never (Ends s c) later

  -- c is raised at p, and no raising of it at an earlier moment still counts there
  abbrev pub FirstRaising : ℕ → ℕ → List Turn → Type 0
  FirstRaising s c p = Raised s c p × ((later q : List Turn) → Counts s c p later q → Raised s c q → q ≡ p)

  -- c waits to be answered: since the first of its raisings that count at h, s has answered no alert read
  abbrev pub Waits : ℕ → ℕ → List Turn → Type 0
  Waits s c h = (later p : List Turn) × Counts s c h later p × FirstRaising s c p × Never (Answers s) later

  -- m is the mask in force at s: the word of the last accepted mask write there, else the built one
  abbrev pub Mask : ℕ → ℕ → List Turn → Type 0
  Mask s m [] = (e : Entry) × Stands s e [] × (mask_of e ≡ m)
  Mask s m (t ∷ h) = elim (mask_written_at s t) [ Some w ↦ w ≡ m | None ↦ Mask s m h ]

  -- a station pulls exactly when some condition waits there that the mask in force does not cover
  abbrev pub WhoPulls : List Turn → Type 0
  WhoPulls h =
      (s : ℕ) (e : Entry) → Stands s e h
      → (Pulls e ↔ ((c m : ℕ) × Waits s c h × Mask s m h × (covers m c ≡ false)))

  -- the line is low exactly when some station pulls
  abbrev pub Line : List Turn → Type 0
  Line h = ((shown_at h).low ≡ true) ↔ ((s : ℕ) × Pulling s h)

  -- ---- how long a pull waits

  -- s pulls at p and at the end of each turn since
  abbrev pub Unbroken : ℕ → List Turn → List Turn → Type 0
  Unbroken s [] p = Pulling s p
  Unbroken s (t ∷ later) p = Pulling s (t ∷ (later ++ p)) × Unbroken s later p

  -- how many starts by lower addresses than s the turns `later` had, after the moment p
  abbrev pub starts : ℕ → List Turn → List Turn → ℕ
  starts s [] p = 0
  starts s (t ∷ later) p = lower_starts s (entries_at (later ++ p)) t.after.entries + starts s later p

  -- while s pulls without a break from p on, others answer at most as many alert reads as lower addresses pulled at p or started since
  abbrev pub HowLong : List Turn → Type 0
  HowLong h =
      (s : ℕ) (later p : List Turn) → h ≡ later ++ p → Unbroken s later p
      → answers_by_others s later ≤ lower_pulling s (entries_at p) + starts s later p

  -- ---- what the black box holds

  -- the box of s is armed at the moment q: building, or an accepted clear there
  abbrev pub Arms : ℕ → List Turn → Type 0
  Arms s [] = Unit {0}
  Arms s (t ∷ q) = Clears s t

  -- by the moment h a pull of s has followed the moment q, at q itself or later
  abbrev pub Followed : ℕ → List Turn → List Turn → Type 0
  Followed s h q = (later mid : List Turn) × (h ≡ later ++ (mid ++ q)) × Pulling s (mid ++ q)

  -- q is the latest arming of s that a pull has followed by the moment h: every other such arming lies before it
  abbrev pub LatestArming : ℕ → List Turn → List Turn → Type 0
  LatestArming s h q =
      Arms s q × Followed s h q
      × ((later r : List Turn) → h ≡ later ++ r → Arms s r → Followed s h r → (mid : List Turn) × (q ≡ mid ++ r))

  -- from the moment q on, s pulls at no moment before mid ++ q
  abbrev pub FirstAfter : ℕ → List Turn → List Turn → Type 0
  FirstAfter s mid q = (more n : List Turn) → mid ≡ more ++ n → Pulling s (n ++ q) → n ≡ mid

  -- f is the entry of s at its first pull after the latest arming that a pull has followed by the moment h
  abbrev pub FirstPull : ℕ → List Turn → Entry → Type 0
  FirstPull s h f =
      (later mid q : List Turn) × (h ≡ later ++ (mid ++ q)) × LatestArming s h q
      × Stands s f (mid ++ q) × Pulls f × FirstAfter s mid q

  -- s has pulled at no moment of h, and so no arming of it has been followed by a pull
  abbrev pub NeverPulled : ℕ → List Turn → Type 0
  NeverPulled s h = (later p : List Turn) → h ≡ later ++ p → ¬ (Pulling s p)

  -- the box holds the frame of that first pull, else twelve zero bytes, and one of the two is always the case
  abbrev pub BlackBoxHolds : List Turn → Type 0
  BlackBoxHolds h =
      (s : ℕ) (e : Entry) → Stands s e h
      → ((f : Entry) → FirstPull s h f → box_of e ≡ frame_of f)
      × (NeverPulled s h → box_of e ≡ replicate 12 0)
      × (((f : Entry) × FirstPull s h f) ⊎ NeverPulled s h)

  -- ---- the law

  -- the law at the moment h
  pub record LawAt (h : List Turn) : Type 0 where
    pub places : Places h
    pub who_pulls : WhoPulls h
    pub line : Line h
    pub how_long : HowLong h
    pub black_box : BlackBoxHolds h

  -- the law of the history h: it holds at every moment of it
  abbrev pub Law : List Turn → Type 0
  Law h = (later p : List Turn) → h ≡ later ++ p → LawAt p
