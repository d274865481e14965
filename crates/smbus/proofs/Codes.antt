-- The packet error code of lists: of one list after another, of a list and then its code, and of lists that differ in one byte.
-- Assumes nothing.
use Rattle.std.proofs.Common.{◌≡◌, ℕ, ◌+◌, ◌-◌, ◌<◌, ◌≤◌, List, [], ◌∷◌, ◌++◌, length, get_or, take, sym, refl, ap, ◌∙◌, arith}
use Rattle.std.proofs.lemmas.List.{take_all, take_more}
use Rattle.smbus.specs.PacketErrorCode.{EndsInCode, OneByteChanged, byte_step, code_from, code_of}
use Rattle.smbus.proofs.Steps.{same_byte, same_running, step_self}

-- the code of one list after another goes on from that of the first
pub code_from_append : (c : ℕ) (xs ys : List ℕ) → code_from c (xs ++ ys) ≡ code_from (code_from c xs) ys
code_from_append c [] ys = refl
code_from_append c (x ∷ xs) ys = code_from_append (byte_step c x) xs ys

-- two running codes from which the same bytes lead to one code are one
pub code_from_same : (c d : ℕ) (xs : List ℕ) → code_from c xs ≡ code_from d xs → c ≡ d
code_from_same c d [] e = e
code_from_same c d (x ∷ xs) e = same_running c d x (code_from_same (byte_step c x) (byte_step d x) xs e)

-- the code goes on from that of the front
pub code_joined : (start : ℕ) (front bytes : List ℕ) (c : ℕ) → code_from start front ≡ c → code_from start (front ++ bytes) ≡ code_from c bytes
code_joined start front bytes c e = code_from_append start front bytes ∙ ap (λ (n : ℕ). code_from n bytes) e

-- bytes and then the code after them lead to 0
pub code_zero : (c : ℕ) (bytes : List ℕ) (r : ℕ) → r ≡ code_from c bytes → code_from c (bytes ++ r ∷ []) ≡ 0
code_zero c bytes r e = code_joined c bytes (r ∷ []) r (sym e) ∙ step_self r

-- a list with one byte changed to another leads to another code
pub code_caught : (c : ℕ) (given changed : List ℕ) (r : ℕ) → OneByteChanged given changed → r ≡ code_from c given → code_from c changed ≡ r → ⊥
code_caught c given changed r d v e =
    let k = code_from c d.before in
    let one = code_from_append c d.before (d.new ∷ d.after) in
    let other = code_from_append c d.before (d.old ∷ d.after) in
    let met = sym one ∙ sym (ap (code_from c) d.becomes) ∙ e ∙ v ∙ ap (code_from c) d.was ∙ other in
    let stepped = code_from_same (byte_step k d.new) (byte_step k d.old) d.after met in
    d.differs (sym (same_byte k d.new d.old stepped))

-- a list that ends in its code has the code 0
ends_zero : (packet : List ℕ) → EndsInCode packet → code_of packet ≡ 0
ends_zero packet e =
    let n = length packet - 1 in
    let end : length packet ≤ n + 1 = omega arith in
    let within : n < length packet = omega (arith, e.0) in
    let split = sym (take_all (n + 1) packet end) ∙ take_more packet n 0 within in
    ap code_of split ∙ code_zero 0 (take n packet) (get_or packet n 0) e.1

-- a list that ends in its code, with one byte changed to another, does not
pub ends_caught : (given changed : List ℕ) → OneByteChanged given changed → EndsInCode given → EndsInCode changed → ⊥
ends_caught given changed d e f = code_caught 0 given changed 0 d (sym (ends_zero given e)) (ends_zero changed f)
