-- A line made of a card's coefficients keeps to its bounds, since every record of the tables is sound.
-- Assumes nothing.
use Rattle.std.proofs.Common.{◌≡◌, ℕ, zero, suc, ◌+◌, ◌*◌, ◌^◌, ◌<◌, ◌≤◌, true, ℤ, pos, ◌*ℤ◌, nat_abs, refl, ap, ◌∙◌, mul_assoc, mul_comm, add-mul, arith, lit≤, sym, subst, w64, SFits, to_z, of_z}
use Rattle.std.proofs.lemmas.Nat.{mul-le}
use Rattle.std.proofs.lemmas.Int.{to_z-of_z, to_z_pos, unsigned_abs-mul, fits_signed_from_abs}
use Rattle.std.proofs.lemmas.Bool.Decides.{nat_tests}
use Rattle.direct.specs.Conversions.{unit, sense, scale, on, resistor_lawful, value_divisor, word_divisor}
use Rattle.direct.specs.Bounds.{Bounded}
use Rattle.direct.specs.Sound.{Sound, least_sense, greatest_sense}
use Rattle.direct.specs.declared.cards.Card.{Card}
use Rattle.direct.specs.declared.lines.Line.{Line}
use Rattle.direct.specs.declared.tables.Coefficients.{Coefficients}
use Rattle.direct.specs.declared.quantities.Quantity.{Quantity}
use Rattle.direct.specs.declared.quantities.Quantity.TheVariants.{Vin, Vout, Vaux, Iin, Pin, Temperature}
use Rattle.direct.proofs.SoundRows.{sound_rows}

pub unit_small : (q : Quantity) → unit q ≤ 1000000
unit_small Vin = lit≤ tt
unit_small Vout = lit≤ tt
unit_small Vaux = lit≤ tt
unit_small Iin = lit≤ tt
unit_small Pin = lit≤ tt
unit_small Temperature = lit≤ tt

sense_bounds : (card : Card) (q : Quantity) → resistor_lawful card q ≡ true → (least_sense q ≤ sense card q) × (sense card q ≤ greatest_sense q)
sense_bounds card Vin h = (lit≤ tt, lit≤ tt)
sense_bounds card Vout h = (lit≤ tt, lit≤ tt)
sense_bounds card Vaux h = (lit≤ tt, lit≤ tt)
sense_bounds card Iin h = (grind (arith, nat_tests), grind (arith, nat_tests))
sense_bounds card Pin h = (grind (arith, nat_tests), grind (arith, nat_tests))
sense_bounds card Temperature h = (lit≤ tt, lit≤ tt)

pub ten_small : (k : ℕ) → k ≤ 3 → 10 ^ k ≤ 1000
ten_small zero h = lit≤ tt
ten_small (suc zero) h = lit≤ tt
ten_small (suc (suc zero)) h = lit≤ tt
ten_small (suc (suc (suc zero))) h = lit≤ tt
ten_small (suc (suc (suc (suc k)))) h = absurd (omega arith)

-- the numbers of a line, from those of its coefficients: m, S, U × 1000, 10^(-R) and the size of b
bounds_from : (m s g least v t b slope step offset : ℕ) → slope ≡ m * s → step ≡ v * t → offset ≡ b * v →
    0 < m → m < 25000 → b < 32768 → t ≤ 1000 → v ≤ 1000000000 → 0 < least → least ≤ s → s ≤ g → g ≤ 10000 →
    m * g < v * t → (4096 * t + b) * v ≤ 4000000000 * (m * least) →
    (0 < slope) × (slope < step) × (slope < 250000000) × (offset < 32768000000000) × (step ≤ 1000000000000) × (4096 * step + offset ≤ 4000000000 * slope)
bounds_from m s g least v t b slope step offset slope_is step_is offset_is some m_small b_small t_small v_small least_some s_least s_most g_small coarse near =
    let above = mul-le 1 1 m s (omega arith) (omega arith) in
    let most = mul-le m s m g (omega arith) s_most in
    let small = mul-le m s 24999 10000 (omega arith) (omega arith) in
    let off = mul-le b v 32767 1000000000 (omega arith) v_small in
    let steps = mul-le v t 1000000000 1000 v_small t_small in
    let low = mul-le m least m s (omega arith) s_least in
    let apart : (4096 * t + b) * v ≡ 4096 * (v * t) + b * v = add-mul (4096 * t) b v ∙ ap (λ (n : ℕ). n + b * v) (mul_assoc 4096 t v ∙ ap (λ (n : ℕ). 4096 * n) (mul_comm t v)) in
    (omega arith, omega arith, omega arith, omega arith, omega arith, omega arith)

greatest_small : (q : Quantity) → (greatest_sense q ≤ 10000) × (0 < least_sense q)
greatest_small Vin = (lit≤ tt, lit≤ tt)
greatest_small Vout = (lit≤ tt, lit≤ tt)
greatest_small Vaux = (lit≤ tt, lit≤ tt)
greatest_small Iin = (lit≤ tt, lit≤ tt)
greatest_small Pin = (lit≤ tt, lit≤ tt)
greatest_small Temperature = (lit≤ tt, lit≤ tt)

-- the numbers that the line of a quantity on a card is made of are bounded
pub line_bounded : (card : Card) (q : Quantity) → resistor_lawful card q ≡ true →
    Bounded (value_divisor (on card q) (sense card q)) ((on card q).b *ℤ pos (unit q * 1000)) (word_divisor q (on card q))
line_bounded card q lawful =
    let sound = sound_rows card.kind q card.current_limit in
    let senses = sense_bounds card q lawful in
    let unit_most : unit q * 1000 ≤ 1000000000 = omega (arith, unit_small q) in
    let all =
    bounds_from (on card q).m (sense card q) (greatest_sense q) (least_sense q) (unit q * 1000) (scale (on card q)) (nat_abs (on card q).b)
    (value_divisor (on card q) (sense card q)) (word_divisor q (on card q)) (nat_abs ((on card q).b *ℤ pos (unit q * 1000)))
    refl refl (unsigned_abs-mul (on card q).b (pos (unit q * 1000)))
    sound.some sound.m_small sound.b_small (ten_small (nat_abs (on card q).r) sound.r_small) unit_most
    (greatest_small q).1 senses.0 senses.1 (greatest_small q).0 sound.coarse sound.near in
    record {
      rises = all.0;
      coarse = all.1;
      slope_small = all.2;
      offset_small = all.3;
      step_small = all.4;
      near = all.5;
    }

-- the line of a quantity on a card
abbrev pub line_on : (card : Card) (q : Quantity) → resistor_lawful card q ≡ true → Line
line_on card q lawful =
    record {
      slope = value_divisor (on card q) (sense card q);
      offset = (on card q).b *ℤ pos (unit q * 1000);
      step = word_divisor q (on card q);
      bounded = line_bounded card q lawful;
    }

-- the offset fits 64 bits
pub offset_fits : (b : ℤ) (u : ℕ) → nat_abs b < 32768 → u ≤ 1000000 → SFits w64 (b *ℤ pos (u * 1000))
offset_fits b u h k =
    fits_signed_from_abs w64 (b *ℤ pos (u * 1000))
    (let e = unsigned_abs-mul b (pos (u * 1000)) in let m = mul-le (nat_abs b) (u * 1000) 32767 1000000000 (omega arith) (omega arith) in omega arith)

-- the three numbers of the line of a quantity on a card
pub record LineNumbers (card : Card) (q : Quantity) (slope : ℕ) (offset : ℤ) (step : ℕ) : Type 0 where
  pub slope_is : slope ≡ value_divisor (on card q) (sense card q)
  pub offset_is : offset ≡ (on card q).b *ℤ pos (unit q * 1000)
  pub step_is : step ≡ word_divisor q (on card q)

-- the numbers as the code makes them, of m, S, the unit, 10^(-R) and b
pub numbers_made : (card : Card) (q : Quantity) (k : Coefficients) → Sound q k → k ≡ on card q → (m s u t : ℕ) (b : ℤ) →
    m ≡ k.m → s ≡ sense card q → u ≡ unit q → t ≡ scale k → to_z w64 (of_z w64 b) ≡ k.b →
    LineNumbers card q (m * s) (to_z w64 (of_z w64 (to_z w64 (of_z w64 b) *ℤ to_z w64 (u * 1000)))) (u * 1000 * t)
numbers_made card q k sound value m s u t b m_is s_is u_is t_is b_is =
    let small : u ≤ 1000000 = omega (arith, u_is, unit_small q) in
    let unit_read : to_z w64 (u * 1000) ≡ pos (u * 1000) = to_z_pos w64 (u * 1000) (omega (arith, small)) in
    let product : to_z w64 (of_z w64 b) *ℤ to_z w64 (u * 1000) ≡ k.b *ℤ pos (u * 1000) = cc in
    let fits = subst (λ (z : ℤ). SFits w64 z) (sym product) (offset_fits k.b u sound.b_small small) in
    record {
      slope_is = cc (m_is, s_is, ap (λ (j : Coefficients). j.m) value);
      offset_is = to_z-of_z w64 _ fits ∙ product ∙ cc (u_is, ap (λ (j : Coefficients). j.b) value);
      step_is = cc (u_is, t_is, ap scale value);
    }

pub numbers_bounded : (card : Card) (q : Quantity) (slope : ℕ) (offset : ℤ) (step : ℕ) → LineNumbers card q slope offset step → resistor_lawful card q ≡ true → Bounded slope offset step
numbers_bounded card q slope offset step is lawful =
    let bounds = line_bounded card q lawful in
    subst (λ (n : ℕ). Bounded slope offset n) (sym is.step_is)
    (subst (λ (z : ℤ). Bounded slope z (word_divisor q (on card q))) (sym is.offset_is)
    (subst (λ (n : ℕ). Bounded n ((on card q).b *ℤ pos (unit q * 1000)) (word_divisor q (on card q))) (sym is.slope_is) bounds))
