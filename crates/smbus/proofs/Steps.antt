-- The steps of the packet error code: no two remainders come together in one, and a byte equal to the remainder leaves 0.
-- Assumes nothing.
use Rattle.std.proofs.Common.{◌≡◌, ℕ, zero, suc, ◌*◌, ◌%◌, ◌^◌, ◌<◌, ◌≤◌, ltb, get_or, sym, ap, ◌∙◌, ⊎_elim, arith}
use lib.Bits.{bit_xor, xor_assoc, xor_comm, xor_lt, xor_mod, xor_self, xor_zero_r}
use Rattle.std.proofs.lemmas.List.FromFn.{get_or-map-range_with_len}
use Rattle.std.proofs.lemmas.Bool.{cases_lt, cond-false, cond-true, le-ltb, lt-ltb}
use Rattle.smbus.specs.PacketErrorCode.{bit_step, byte_step, remainders, times}

xor_back : (a b : ℕ) → bit_xor (bit_xor a b) b ≡ a
xor_back a b = xor_assoc a b b ∙ ap (bit_xor a) (xor_self b) ∙ xor_zero_r a

xor_same : (a b c : ℕ) → bit_xor a c ≡ bit_xor b c → a ≡ b
xor_same a b c e = sym (xor_back a c) ∙ ap (λ (n : ℕ). bit_xor n c) e ∙ xor_back b c

-- a step that leaves the divisor out gives an even number
bit_low : (x : ℕ) → x < 128 → bit_step x ≡ x * 2
bit_low x h = cond-true (ltb x 128) (x * 2) (bit_xor (x * 2) 0x107) (lt-ltb x 128 h)

-- a step that takes the divisor off gives an odd number
bit_high : (x : ℕ) → 128 ≤ x → bit_step x ≡ bit_xor (x * 2) 0x107
bit_high x h = cond-false (ltb x 128) (x * 2) (bit_xor (x * 2) 0x107) (le-ltb x 128 h)

odd : (x : ℕ) → bit_xor (x * 2) 0x107 % 2 ≡ 1
odd x =
    let even : x * 2 % 2 ≡ 0 = omega arith in
    xor_mod (x * 2) 0x107 1 ∙ ap (λ (n : ℕ). bit_xor n 1) even

bit_apart : (x y : ℕ) → x < 128 → 128 ≤ y → bit_step x ≡ bit_step y → ⊥
bit_apart x y h k e = omega (arith, odd y, sym (bit_low x h) ∙ e ∙ bit_high y k)

bit_step_same : (x y : ℕ) → bit_step x ≡ bit_step y → x ≡ y
bit_step_same x y e =
    ⊎_elim
    (λ h. ⊎_elim (λ k. omega (arith, sym (bit_low x h) ∙ e ∙ bit_low y k)) (λ k. absurd (bit_apart x y h k e)) (cases_lt y 128))
    (λ h. ⊎_elim (λ k. absurd (bit_apart y x k h (sym e)))
    (λ k. omega (arith, xor_same (x * 2) (y * 2) 0x107 (sym (bit_high x h) ∙ e ∙ bit_high y k))) (cases_lt y 128))
    (cases_lt x 128)

times_same : (n x y : ℕ) → times n bit_step x ≡ times n bit_step y → x ≡ y
times_same zero x y e = e
times_same (suc n) x y e = times_same n x y (bit_step_same (times n bit_step x) (times n bit_step y) e)

-- two running codes that a byte takes to one are one
pub same_running : (c d b : ℕ) → byte_step c b ≡ byte_step d b → c ≡ d
unfolding byte_step
same_running c d b e = xor_same c d b (times_same 8 (bit_xor c b) (bit_xor d b) e)

-- two bytes that take a running code to one are one
pub same_byte : (c a b : ℕ) → byte_step c a ≡ byte_step c b → a ≡ b
unfolding byte_step
same_byte c a b e = xor_same a b c (xor_comm a c ∙ times_same 8 (bit_xor c a) (bit_xor c b) e ∙ xor_comm c b)

-- a byte equal to the running code takes it to 0
pub step_self : (c : ℕ) → byte_step c c ≡ 0
unfolding byte_step
step_self c = ap (times 8 bit_step) (xor_self c)

-- the step of bytes by a table of what eight bits make of 0 to 255
pub step_of_table : (c b : ℕ) → c < 2 ^ 8 → b < 2 ^ 8 → get_or remainders (bit_xor c b) 0 ≡ byte_step c b
unfolding byte_step
step_of_table c b h k = get_or-map-range_with_len (times 8 bit_step) 0 256 (bit_xor c b) (bit_xor c b) 0 (xor_lt 8 c b h k) (omega arith)
