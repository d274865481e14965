-- Every record of the tables is sound: one test, computed over all kinds, quantities and CL settings.
-- Assumes nothing.
use Rattle.std.proofs.Common.{◌+◌, ◌*◌, Bool, true, false, ◌&&◌, T, ltb, leb, nat_abs, ltb→lt, leb→le}
use Rattle.direct.specs.Coefficients.{rows_of, coefficients_of}
use Rattle.direct.specs.Conversions.{unit, scale}
use Rattle.direct.specs.Sound.{Sound, least_sense, greatest_sense}
use Rattle.direct.specs.declared.cards.Kind.{Kind}
use Rattle.direct.specs.declared.cards.Kind.TheVariants.{Lm25066, Lm5064, Lm5056}
use Rattle.direct.specs.declared.cards.CurrentLimit.{CurrentLimit}
use Rattle.direct.specs.declared.cards.CurrentLimit.TheVariants.{Vdd, Ground}
use Rattle.direct.specs.declared.quantities.Quantity.{Quantity}
use Rattle.direct.specs.declared.quantities.Quantity.TheVariants.{Vin, Vout, Vaux, Iin, Pin, Temperature}
use Rattle.direct.specs.declared.tables.Coefficients.{Coefficients}

left : (a b : Bool) → T (a && b) → T a
left true b t = tt
left false b t = absurd t

right : (a b : Bool) → T (a && b) → T b
right true b t = t
right false b t = absurd t

-- the test of one record
abbrev sound_test : Quantity → Coefficients → Bool
sound_test q c =
    ltb 0 c.m && (ltb c.m 25000 && (ltb (nat_abs c.b) 32768 && (leb (nat_abs c.r) 3 &&
    (ltb (c.m * greatest_sense q) (unit q * 1000 * scale c) &&
    leb ((4096 * scale c + nat_abs c.b) * (unit q * 1000)) (4000000000 * (c.m * least_sense q))))))

from_test : (q : Quantity) (c : Coefficients) → T (sound_test q c) → Sound q c
from_test q c t =
    let t1 = right _ _ t in
    let t2 = right _ _ t1 in
    let t3 = right _ _ t2 in
    let t4 = right _ _ t3 in
    record {
      some = ltb→lt _ _ (left _ _ t);
      m_small = ltb→lt _ _ (left _ _ t1);
      b_small = ltb→lt _ _ (left _ _ t2);
      r_small = leb→le _ _ (left _ _ t3);
      coarse = ltb→lt _ _ (left _ _ t4);
      near = leb→le _ _ (right _ _ t4);
    }

-- a test passes for every kind, every quantity, every CL setting
abbrev every_kind : (Kind → Bool) → Bool
every_kind f = f Lm25066 && (f Lm5064 && f Lm5056)

abbrev every_quantity : (Quantity → Bool) → Bool
every_quantity f = f Vin && (f Vout && (f Vaux && (f Iin && (f Pin && f Temperature))))

abbrev every_setting : (CurrentLimit → Bool) → Bool
every_setting f = f Vdd && f Ground

at_kind : (f : Kind → Bool) → T (every_kind f) → (k : Kind) → T (f k)
at_kind f t Lm25066 = left _ _ t
at_kind f t Lm5064 = left _ _ (right (f Lm25066) _ t)
at_kind f t Lm5056 = right _ _ (right (f Lm25066) _ t)

at_quantity : (f : Quantity → Bool) → T (every_quantity f) → (q : Quantity) → T (f q)
at_quantity f t Vin = left _ _ t
at_quantity f t Vout = left _ _ (right (f Vin) _ t)
at_quantity f t Vaux = left _ _ (right (f Vout) _ (right (f Vin) _ t))
at_quantity f t Iin = left _ _ (right (f Vaux) _ (right (f Vout) _ (right (f Vin) _ t)))
at_quantity f t Pin = left _ _ (right (f Iin) _ (right (f Vaux) _ (right (f Vout) _ (right (f Vin) _ t))))
at_quantity f t Temperature = right _ _ (right (f Iin) _ (right (f Vaux) _ (right (f Vout) _ (right (f Vin) _ t))))

at_setting : (f : CurrentLimit → Bool) → T (every_setting f) → (c : CurrentLimit) → T (f c)
at_setting f t Vdd = left _ _ t
at_setting f t Ground = right _ _ t

abbrev tested : Kind → Quantity → CurrentLimit → Bool
tested k q c = sound_test q (coefficients_of k q c)

-- the test, computed once over the tables
all_tested : T (every_kind (λ k. every_quantity (λ q. every_setting (λ c. tested k q c))))
unfolding rows_of
all_tested = tt

pub sound_rows : (k : Kind) (q : Quantity) (c : CurrentLimit) → Sound q (coefficients_of k q c)
sound_rows k q c =
    from_test q (coefficients_of k q c)
    (at_setting (tested k q) (at_quantity (λ p. every_setting (tested k p)) (at_kind (λ j. every_quantity (λ p. every_setting (tested j p))) all_tested k) q) c)
