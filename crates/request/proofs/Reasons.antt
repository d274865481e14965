-- Why a judgement is what it is: an access fits and has no wrong code, a refusal by code fits and has one, a refusal by counts does not fit.
-- Assumes nothing.
use Rattle.std.proofs.Common.{◌≡◌, ℕ, ◌+◌, eqb, ◌↔◌, List, [], ◌∷◌, Ok, Err, sym, refl, subst, arith}
use Rattle.std.proofs.lemmas.Bool.{cond_both, eqb-false, eqb-true}
use Rattle.std.proofs.lemmas.Bool.Decides.{Decides-eqb, Decides-or, not_from_Decides}
use Rattle.smbus.specs.PacketErrorCode.{code_of, write_message}
use Rattle.request.specs.Forms.{Fits, Whole, is_whole}
use Rattle.request.specs.Judging.{Judgement, HasWrongCode, coded, judged, read, unless_wanted, word}
use Rattle.request.specs.declared.forms.Form.{Form}
use Rattle.request.specs.declared.forms.Form.TheVariants.{SendByte, ReadByte, ReadWord, ByteRegister, WordRegister, BlockRead}
use Rattle.request.specs.declared.judging.Access.{Access}
use Rattle.request.specs.declared.judging.Access.TheVariants.{Send, Read, WriteByte, WriteWord}
use Rattle.request.specs.declared.refusals.RequestRefusal.TheVariants.{Counts, Code}
use Rattle.request.specs.declared.requests.DataBytes.{DataBytes}
use Rattle.request.specs.declared.requests.DataBytes.TheVariants.{Nothing, One, Two, Three, Longer}
use Rattle.request.specs.declared.requests.Request.{Request}

-- what a judgement says of the counts and of the code
abbrev pub Reason : Form → ℕ → Request → ℕ → Judgement → Type 0
Reason form address r wanted (Ok x) = Fits form r.data_bytes wanted × (HasWrongCode form address r → ⊥)
Reason form address r wanted (Err Counts) = Fits form r.data_bytes wanted → ⊥
Reason form address r wanted (Err Code) = Fits form r.data_bytes wanted × HasWrongCode form address r

-- a read of a size: the whole reply is wanted, or it is not
reading : (size wanted : ℕ) (P : Judgement → Type 0) → (Whole size wanted → P (Ok Read)) → ((Whole size wanted → ⊥) → P (Err Counts)) → P (read size Nothing wanted)
reading size wanted P met unmet =
    let whole = Decides-or (eqb wanted size) (eqb wanted (size + 1)) (Decides-eqb wanted size) (Decides-eqb wanted (size + 1)) in
    cond_both (is_whole size wanted) (Ok Read) (Err Counts) P (λ e. met (whole.0 e)) (λ e. unmet (not_from_Decides (is_whole size wanted) whole e))

-- a send or a write: nothing is wanted, or something is
writing : (wanted : ℕ) (j : Judgement) (P : Judgement → Type 0) → (wanted ≡ 0 → P j) → ((wanted ≡ 0 → ⊥) → P (Err Counts)) → P (unless_wanted wanted j)
writing wanted j P met unmet =
    cond_both (eqb wanted 0) j (Err Counts) P (λ e. met (eqb-true wanted 0 e)) (λ e. unmet (eqb-false wanted 0 e))

-- a written code: it is that of the bytes before it, or it is not
coding : (address : ℕ) (before : List ℕ) (code : ℕ) (x : Access) (P : Judgement → Type 0) → (code ≡ code_of (write_message address before) → P (Ok x)) → ((code ≡ code_of (write_message address before) → ⊥) → P (Err Code)) → P (coded address before code x)
coding address before code x P right wrong =
    let c = code_of (write_message address before) in
    cond_both (eqb code c) (Ok x) (Err Code) P (λ e. right (eqb-true code c e)) (λ e. wrong (eqb-false code c e))

-- what a judgement of a command with its data says
abbrev Of : Form → ℕ → ℕ → DataBytes → ℕ → Judgement → Type 0
Of form a c d w = Reason form a (record { command = c; data_bytes = d }) w

-- the reason of each judgement
by_data : (form : Form) (a c : ℕ) (d : DataBytes) (w : ℕ) → Of form a c d w (judged form a (record { command = c; data_bytes = d }) w)
by_data ReadByte a c Nothing w = reading 1 w (Of ReadByte a c Nothing w) (λ h. grind arith) (λ h. grind arith)
by_data ReadByte a c (One x) w = grind arith
by_data ReadByte a c (Two x y) w = grind arith
by_data ReadByte a c (Three x y z) w = grind arith
by_data ReadByte a c Longer w = grind arith
by_data ReadWord a c Nothing w = reading 2 w (Of ReadWord a c Nothing w) (λ h. grind arith) (λ h. grind arith)
by_data ReadWord a c (One x) w = grind arith
by_data ReadWord a c (Two x y) w = grind arith
by_data ReadWord a c (Three x y z) w = grind arith
by_data ReadWord a c Longer w = grind arith
by_data (BlockRead n) a c Nothing w = reading (n + 1) w (Of (BlockRead n) a c Nothing w) (λ h. grind arith) (λ h. grind arith)
by_data (BlockRead n) a c (One x) w = grind arith
by_data (BlockRead n) a c (Two x y) w = grind arith
by_data (BlockRead n) a c (Three x y z) w = grind arith
by_data (BlockRead n) a c Longer w = grind arith
by_data SendByte a c Nothing w = writing w (Ok Send) (Of SendByte a c Nothing w) (λ h. grind arith) (λ h. grind arith)
by_data SendByte a c (One x) w =
    writing w (coded a (c ∷ []) x Send) (Of SendByte a c (One x) w)
    (λ h. coding a (c ∷ []) x Send (Of SendByte a c (One x) w) (λ k. grind arith) (λ k. grind arith)) (λ h. grind arith)
by_data SendByte a c (Two x y) w = writing w (Err Counts) (Of SendByte a c (Two x y) w) (λ h. grind arith) (λ h. grind arith)
by_data SendByte a c (Three x y z) w = writing w (Err Counts) (Of SendByte a c (Three x y z) w) (λ h. grind arith) (λ h. grind arith)
by_data SendByte a c Longer w = writing w (Err Counts) (Of SendByte a c Longer w) (λ h. grind arith) (λ h. grind arith)
by_data ByteRegister a c Nothing w = reading 1 w (Of ByteRegister a c Nothing w) (λ h. grind arith) (λ h. grind arith)
by_data ByteRegister a c (One x) w = writing w (Ok (WriteByte x)) (Of ByteRegister a c (One x) w) (λ h. grind arith) (λ h. grind arith)
by_data ByteRegister a c (Two x y) w =
    writing w (coded a (c ∷ x ∷ []) y (WriteByte x)) (Of ByteRegister a c (Two x y) w)
    (λ h. coding a (c ∷ x ∷ []) y (WriteByte x) (Of ByteRegister a c (Two x y) w) (λ k. grind arith) (λ k. grind arith)) (λ h. grind arith)
by_data ByteRegister a c (Three x y z) w = writing w (Err Counts) (Of ByteRegister a c (Three x y z) w) (λ h. grind arith) (λ h. grind arith)
by_data ByteRegister a c Longer w = writing w (Err Counts) (Of ByteRegister a c Longer w) (λ h. grind arith) (λ h. grind arith)
by_data WordRegister a c Nothing w = reading 2 w (Of WordRegister a c Nothing w) (λ h. grind arith) (λ h. grind arith)
by_data WordRegister a c (One x) w = writing w (Err Counts) (Of WordRegister a c (One x) w) (λ h. grind arith) (λ h. grind arith)
by_data WordRegister a c (Two x y) w = writing w (Ok (WriteWord (word x y))) (Of WordRegister a c (Two x y) w) (λ h. grind arith) (λ h. grind arith)
by_data WordRegister a c (Three x y z) w =
    writing w (coded a (c ∷ x ∷ y ∷ []) z (WriteWord (word x y))) (Of WordRegister a c (Three x y z) w)
    (λ h. coding a (c ∷ x ∷ y ∷ []) z (WriteWord (word x y)) (Of WordRegister a c (Three x y z) w) (λ k. grind arith) (λ k. grind arith)) (λ h. grind arith)
by_data WordRegister a c Longer w = writing w (Err Counts) (Of WordRegister a c Longer w) (λ h. grind arith) (λ h. grind arith)

-- the reason of what is judged
pub reason : (form : Form) (address : ℕ) (r : Request) (wanted : ℕ) (j : Judgement) → j ≡ judged form address r wanted → Reason form address r wanted j
reason form address r wanted j e = subst (Reason form address r wanted) (sym e) (by_data form address r.command r.data_bytes wanted)

module _ (form : Form) (address : ℕ) (r : Request) (wanted : ℕ) where
  -- a refusal by counts is exactly that they do not fit
  pub counts_exact : (j : Judgement) → Reason form address r wanted j → (j ≡ Err Counts) ↔ (Fits form r.data_bytes wanted → ⊥)
  counts_exact (Ok x) h = (λ e. grind arith, λ unfit. absurd (unfit h.0))
  counts_exact (Err Counts) h = (λ _. h, λ _. refl)
  counts_exact (Err Code) h = (λ e. grind arith, λ unfit. absurd (unfit h.0))

  -- a refusal by code is exactly that the counts fit and the code is wrong
  pub code_exact : (j : Judgement) → Reason form address r wanted j → (j ≡ Err Code) ↔ (Fits form r.data_bytes wanted × HasWrongCode form address r)
  code_exact (Ok x) h = (λ e. grind arith, λ both. absurd (h.1 both.1))
  code_exact (Err Counts) h = (λ e. grind arith, λ both. absurd (h both.0))
  code_exact (Err Code) h = (λ _. h, λ _. refl)

  -- the same of what is judged
  pub counts_judged : (j : Judgement) → j ≡ judged form address r wanted → (j ≡ Err Counts) ↔ (Fits form r.data_bytes wanted → ⊥)
  counts_judged j e = counts_exact j (reason form address r wanted j e)

  pub code_judged : (j : Judgement) → j ≡ judged form address r wanted → (j ≡ Err Code) ↔ (Fits form r.data_bytes wanted × HasWrongCode form address r)
  code_judged j e = code_exact j (reason form address r wanted j e)
