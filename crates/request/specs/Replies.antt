-- The reply to a read, and what the reply buffer then holds.
-- Assumes nothing.
use Rattle.std.specs.Prelude.{ℕ, cond, List, [], ◌∷◌, ◌++◌, length, ◌==◌}
use Rattle.smbus.specs.PacketErrorCode.{code_of, read_message}
use Rattle.request.specs.Forms.{is_whole}

-- the body, and after it the packet error code of the read
abbrev pub coded_reply : ℕ → ℕ → List ℕ → List ℕ
coded_reply address command body = body ++ code_of (read_message address (command ∷ []) body) ∷ []

-- the reply to a read of so many bytes: the body, with its code where one byte more is wanted
abbrev pub read_reply : ℕ → ℕ → List ℕ → ℕ → List ℕ
read_reply address command body wanted = cond (wanted == length body) body (coded_reply address command body)

-- what the reply buffer holds after the reply: as it was where its length fits neither
abbrev pub replied : ℕ → ℕ → List ℕ → List ℕ → List ℕ
replied address command body buffer =
    cond (is_whole (length body) (length buffer)) (read_reply address command body (length buffer)) buffer
