-- Entries place by place: stations that keep their places, and the one that answers an alert read.
-- Assumes nothing.
use Rattle.std.proofs.Common.{◌≡◌, ℕ, ◌≤◌, true, false, eqb, List, [], ◌∷◌, map, Some, None, Option, sym, refl, ap, ◌∙◌, subst, inl, inr}
use Rattle.std.proofs.lemmas.Bool.{both_ways, eq-eqb, or_left, or_right}
use Rattle.alert.specs.Entries.{Pulls, address_of, pulls}
use Rattle.alert.specs.declared.entries.Entry.{Entry}
use Rattle.segment.specs.Segments.{All, Each, Unlike, stands}
use Rattle.history.specs.Law.{Among}
use Rattle.history.specs.Turns.{Turn, answered_by}

-- the two are entries of one station
abbrev pub SameAddress : Entry → Entry → Type 0
SameAddress x y = address_of y ≡ address_of x

-- the address a answers an alert read: it pulls before it, it is the lowest that does, and after it it does not pull
pub record Lowest (a : ℕ) (before after : List Entry) : Type 0 where
  pub pulled : (e : Entry) × Among e before × (address_of e ≡ a) × Pulls e
  pub least : (e : Entry) → Among e before → Pulls e → a ≤ address_of e
  pub released : (e : Entry) → Among e after → address_of e ≡ a → pulls e ≡ false

-- so does the one that answered, if any did
abbrev pub ByLowest : Option ℕ → List Entry → List Entry → Type 0
ByLowest (Some a) before after = Lowest a before after
ByLowest None before after = Unit {0}

-- an alert read in the turn is answered by the lowest address that pulls
abbrev pub AnsweredLowest : Turn → List Entry → List Entry → Type 0
AnsweredLowest t before after = ByLowest (answered_by t) before after

-- ---- what holds at each place

-- a weaker relation
pub each_weaker : (R S : Entry → Entry → Type 0) → ((x y : Entry) → R x y → S x y) → (xs ys : List Entry) → Each R xs ys → Each S xs ys
each_weaker R S weaker [] [] each = tt
each_weaker R S weaker [] (y ∷ ys) each = absurd each
each_weaker R S weaker (x ∷ xs) [] each = absurd each
each_weaker R S weaker (x ∷ xs) (y ∷ ys) each = (weaker x y each.0, each_weaker R S weaker xs ys each.1)

-- an entry after the turn stands where one stood before it
pub came_from : (R : Entry → Entry → Type 0) (xs ys : List Entry) (y : Entry) → Each R xs ys → Among y ys → (x : Entry) × Among x xs × R x y
came_from R [] [] y each among = absurd among
came_from R [] (z ∷ ys) y each among = absurd each
came_from R (x ∷ xs) [] y each among = absurd each
came_from R (x ∷ xs) (z ∷ ys) y each (inl same) = (x, inl refl, subst (R x) (sym same) each.0)
came_from R (x ∷ xs) (z ∷ ys) y each (inr among) = let w = came_from R xs ys y each.1 among in (w.0, inr w.1, w.2)

-- what holds of each entry holds of one
pub all_at : (P : Entry → Type 0) (xs : List Entry) (e : Entry) → All P xs → Among e xs → P e
all_at P [] e all among = absurd among
all_at P (x ∷ xs) e all (inl same) = subst P (sym same) all.0
all_at P (x ∷ xs) e all (inr among) = all_at P xs e all.1 among

-- ---- stations that keep their places

-- the addresses are the same, in the same order
pub addresses_stay : (xs ys : List Entry) → Each SameAddress xs ys → map address_of ys ≡ map address_of xs
addresses_stay [] [] each = refl
addresses_stay [] (y ∷ ys) each = absurd each
addresses_stay (x ∷ xs) [] each = absurd each
addresses_stay (x ∷ xs) (y ∷ ys) each = let here = each.0 in let more = addresses_stay xs ys each.1 in cc

stands_stay : (a : ℕ) (xs ys : List Entry) → Each SameAddress xs ys → stands a ys ≡ stands a xs
stands_stay a [] [] each = refl
stands_stay a [] (y ∷ ys) each = absurd each
stands_stay a (x ∷ xs) [] each = absurd each
stands_stay a (x ∷ xs) (y ∷ ys) each = let here = each.0 in let more = stands_stay a xs ys each.1 in cc

-- and they stay unlike
pub unlike_stays : (xs ys : List Entry) → Each SameAddress xs ys → Unlike xs → Unlike ys
unlike_stays [] [] each all = tt
unlike_stays [] (y ∷ ys) each all = absurd each
unlike_stays (x ∷ xs) [] each all = absurd each
unlike_stays (x ∷ xs) (y ∷ ys) each all = (
  subst (λ (a : ℕ). stands a ys ≡ false) (sym each.0) (stands_stay (address_of x) xs ys each.1 ∙ all.0),
  unlike_stays xs ys each.1 all.1,
)

-- an address that has an entry stands
pub stands_among : (a : ℕ) (xs : List Entry) (e : Entry) → Among e xs → address_of e ≡ a → stands a xs ≡ true
stands_among a [] e among is = absurd among
stands_among a (x ∷ xs) e (inl same) is = or_left (eqb (address_of x) a) (stands a xs) (eq-eqb (address_of x) a (ap address_of (sym same) ∙ is))
stands_among a (x ∷ xs) e (inr among) is = or_right (eqb (address_of x) a) (stands a xs) (stands_among a xs e among is)

-- where no two are alike, an address has one entry
pub one_entry : (xs : List Entry) → Unlike xs → (e f : Entry) → Among e xs → Among f xs → address_of e ≡ address_of f → e ≡ f
one_entry [] all e f a b same = absurd a
one_entry (x ∷ xs) all e f (inl p) (inl q) same = p ∙ sym q
one_entry (x ∷ xs) all e f (inl p) (inr b) same = absurd (both_ways _ all.0 (stands_among (address_of x) xs f b (sym same ∙ ap address_of p)))
one_entry (x ∷ xs) all e f (inr a) (inl q) same = absurd (both_ways _ all.0 (stands_among (address_of x) xs e a (same ∙ ap address_of q)))
one_entry (x ∷ xs) all e f (inr a) (inr b) same = one_entry xs all.1 e f a b same
