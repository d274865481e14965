-- The commands by their numbers, and what a request of each is judged to ask for.
-- Assumes nothing.
use Rattle.std.proofs.Common.{◌≡◌, ℕ, true, false, eqb, Some, Ok, Err, sym, refl, subst, ⊎_elim}
use Rattle.std.proofs.lemmas.Bool.{cases_Bool, cond_both, eqb-true}
use Rattle.request.specs.Forms.{is_whole}
use Rattle.request.specs.Judging.{Judgement, judged, unless_wanted}
use Rattle.request.specs.declared.forms.Form.TheVariants.{SendByte, WordRegister, BlockRead}
use Rattle.request.specs.declared.judging.Access.TheVariants.{Send, Read, WriteWord}
use Rattle.request.specs.declared.refusals.RequestRefusal.{RequestRefusal}
use Rattle.request.specs.declared.refusals.RequestRefusal.TheVariants.{Counts, Code}
use Rattle.request.specs.declared.requests.DataBytes.{DataBytes}
use Rattle.request.specs.declared.requests.DataBytes.TheVariants.{Nothing, One, Two, Three, Longer}
use Rattle.request.specs.declared.requests.Request.{Request}
use Rattle.segment.specs.Requesting.{word_of_data}

-- the request of a command with its data
abbrev pub request_of : ℕ → DataBytes → Request
request_of k d = record { command = k; data_bytes = d }

-- a command is one of the three, or none of them
pub by_command : (P : ℕ → Type 0) → P 0x03 → P 0xd8 → P 0xe0
    → ((k : ℕ) → eqb k 0x03 ≡ false → eqb k 0xd8 ≡ false → eqb k 0xe0 ≡ false → P k) → (k : ℕ) → P k
by_command P clear mask box other k =
    ⊎_elim (λ e. at 0x03 e clear) (λ no3. ⊎_elim (λ e. at 0xd8 e mask) (λ nod8. ⊎_elim (λ e. at 0xe0 e box) (other k no3 nod8) (cases_Bool (eqb k 0xe0))) (cases_Bool (eqb k 0xd8))) (cases_Bool (eqb k 0x03))
  where
    at : (n : ℕ) → eqb k n ≡ true → P n → P k
    at n e p = subst P (sym (eqb-true k n e)) p

module _ (a k wanted : ℕ) (P : Judgement → Type 0) (refused : (e : RequestRefusal) → P (Err e)) where
  -- a send or a write is refused where something is wanted
  unless : (j : Judgement) → P j → P (unless_wanted wanted j)
  unless j p = cond_both (eqb wanted 0) j (Err Counts) P (λ e. p) (λ e. refused Counts)

  -- a request in the form of the clear sends, or is refused
  pub judged_send : (d : DataBytes) → P (Ok Send) → P (judged SendByte a (request_of k d) wanted)
  judged_send Nothing sends = unless _ sends
  judged_send (One code) sends = unless _ (cond_both _ (Ok Send) (Err Code) P (λ e. sends) (λ e. refused Code))
  judged_send (Two x y) sends = unless _ (refused Counts)
  judged_send (Three x y z) sends = unless _ (refused Counts)
  judged_send Longer sends = unless _ (refused Counts)

  -- a request in the form of the mask reads without data, writes the word of its data, or is refused
  pub judged_word : (d : DataBytes) → (d ≡ Nothing → is_whole 2 wanted ≡ true → P (Ok Read))
      → ((w : ℕ) → word_of_data d ≡ Some w → P (Ok (WriteWord w))) → P (judged WordRegister a (request_of k d) wanted)
  judged_word Nothing reads writes = cond_both (is_whole 2 wanted) (Ok Read) (Err Counts) P (λ e. reads refl e) (λ e. refused Counts)
  judged_word (One x) reads writes = unless _ (refused Counts)
  judged_word (Two x y) reads writes = unless _ (writes _ refl)
  judged_word (Three x y z) reads writes = unless _ (cond_both _ (Ok (WriteWord _)) (Err Code) P (λ e. writes _ refl) (λ e. refused Code))
  judged_word Longer reads writes = unless _ (refused Counts)

  -- a request in the form of the black box reads, or is refused
  pub judged_block : (d : DataBytes) → (is_whole 13 wanted ≡ true → P (Ok Read)) → P (judged (BlockRead 12) a (request_of k d) wanted)
  judged_block Nothing reads = cond_both (is_whole 13 wanted) (Ok Read) (Err Counts) P reads (λ e. refused Counts)
  judged_block (One x) reads = refused Counts
  judged_block (Two x y) reads = refused Counts
  judged_block (Three x y z) reads = refused Counts
  judged_block Longer reads = refused Counts
