-- What is done is what was asked for: a read that is accepted has a reply buffer of the right length.
-- Assumes nothing.
use Rattle.std.proofs.Common.{◌≡◌, ℕ, true, false, eqb, Some, Ok, Option, arith}
use Rattle.request.specs.Forms.{is_whole}
use Rattle.request.specs.Judging.{Judgement}
use Rattle.request.specs.declared.judging.Access.TheVariants.{Read}
use Rattle.request.specs.declared.requests.DataBytes.{DataBytes}
use Rattle.request.specs.declared.requests.Request.{Request}
use Rattle.practice.specs.Practice.{asked, body_size}
use Rattle.practice.proofs.Judgements.{by_command, judged_block, judged_send, judged_word, request_of}

module _ (a wanted : ℕ) where
  -- a read is accepted only where the whole reply is wanted
  abbrev WholeRead : ℕ → Option Judgement → Type 0
  WholeRead k o = o ≡ Some (Ok Read) → is_whole (body_size k) wanted ≡ true

  abbrev OfCommand : ℕ → Type 0
  OfCommand k = (d : DataBytes) → WholeRead k (asked (request_of k d) a wanted)

  at_other : (k : ℕ) → eqb k 0x03 ≡ false → eqb k 0xd8 ≡ false → eqb k 0xe0 ≡ false → OfCommand k
  at_other k no3 nod8 noe0 d = rw (no3, nod8, noe0) (λ never. grind arith)

  whole_read_at : (k : ℕ) → OfCommand k
  whole_read_at =
      by_command OfCommand
      (λ d. judged_send a 0x03 wanted (λ j. WholeRead 0x03 (Some j)) (λ refusal never. grind arith) d (λ never. grind arith))
      (λ d. judged_word a 0xd8 wanted (λ j. WholeRead 0xd8 (Some j)) (λ refusal never. grind arith) d (λ none whole is. whole) (λ w word never. grind arith))
      (λ d. judged_block a 0xe0 wanted (λ j. WholeRead 0xe0 (Some j)) (λ refusal never. grind arith) d (λ whole is. whole))
      at_other

  pub whole_read : (q : Request) → asked q a wanted ≡ Some (Ok Read) → is_whole (body_size q.command) wanted ≡ true
  whole_read q is = whole_read_at q.command q.data_bytes is
