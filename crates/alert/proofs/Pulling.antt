-- When a station pulls the alert line.
-- Assumes nothing.
use Rattle.std.proofs.Common.{◌≡◌, ℕ, true, false, ◌↔◌, sym, refl, subst, ⊎_elim}
use Rattle.std.proofs.lemmas.Bool.{both_ways, cases_Bool}
use Rattle.alert.specs.Alerts.{Asserts}
use Rattle.alert.specs.Boxes.{new_box, noted}
use Rattle.alert.specs.Conditions.{Empty, Has, has}
use Rattle.alert.specs.Entries.{AsBuilt, Boxed, answered, frame_of, latched, pulls, with_box}
use Rattle.alert.specs.declared.boxes.BlackBox.{BlackBox}
use Rattle.alert.specs.declared.entries.Entry.{Entry}
use Rattle.alert.proofs.Asserting.{asserts_test}

-- a station pulls exactly when its record asserts under its mask
pub pulls_test : (e : Entry) → (pulls e ≡ true) ↔ Asserts e.alert e.mask
unfolding pulls
pulls_test e = asserts_test e.alert e.mask

-- a station of which every latched condition is answered does not pull
pub silent : (e : Entry) → ((c : ℕ) → Has c (latched e) → Has c (answered e)) → pulls e ≡ false
silent e all = ⊎_elim refuse (λ h. h) (cases_Bool (pulls e))
  where
    refuse : pulls e ≡ true → pulls e ≡ false
    refuse p =
        let found = (pulls_test e).0 p in
        absurd (both_ways (has found.0 (answered e)) found.2 (all found.0 found.1))

-- each answered condition is latched
pub within : (e : Entry) (c : ℕ) → Has c (answered e) → Has c (latched e)
within e = e.alert.within

-- after the box rule, the box is what the rule makes of it: the rule changes neither whether the station pulls nor its frame
pub boxed : (before e : Entry) → e ≡ with_box before (noted before.blackbox (pulls before) (frame_of before)) → Boxed before.blackbox e
unfolding pulls
boxed before e is = subst (Boxed before.blackbox) (sym is) refl

-- an entry of which nothing is answered, with a new box, is after the box rule as one is built
pub as_built : (before e : Entry) → Empty (answered before) → before.blackbox ≡ new_box
    → e ≡ with_box before (noted before.blackbox (pulls before) (frame_of before)) → AsBuilt e
as_built before e empty fresh is =
    (subst (λ (x : Entry). Empty (answered x)) (sym is) empty, subst (λ (b : BlackBox). Boxed b e) fresh (boxed before e is))
