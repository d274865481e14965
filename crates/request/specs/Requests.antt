-- What the host wrote, taken apart: the first byte is the command, and the rest are its data.
-- Assumes nothing.
use Rattle.std.specs.Prelude.{ℕ, List, [], ◌∷◌, Some, None, Option}
use Rattle.request.specs.declared.requests.DataBytes.{DataBytes}
use Rattle.request.specs.declared.requests.DataBytes.TheVariants.{Nothing, One, Two, Three, Longer}
use Rattle.request.specs.declared.requests.Request.{Request}

-- the bytes after the command: up to three are kept, since no form takes more
abbrev pub data_of : List ℕ → DataBytes
data_of [] = Nothing
data_of (x ∷ []) = One x
data_of (x ∷ y ∷ []) = Two x y
data_of (x ∷ y ∷ z ∷ []) = Three x y z
data_of (x ∷ y ∷ z ∷ more ∷ rest) = Longer

-- the request that the written bytes are; where nothing is written there is none
abbrev pub taken_apart : List ℕ → Option Request
taken_apart [] = None
taken_apart (command ∷ rest) = Some (record { command = command; data_bytes = data_of rest })

-- the data bytes as they were written, where they are kept
abbrev pub kept_bytes : DataBytes → List ℕ
kept_bytes Nothing = []
kept_bytes (One x) = x ∷ []
kept_bytes (Two x y) = x ∷ y ∷ []
kept_bytes (Three x y z) = x ∷ y ∷ z ∷ []
kept_bytes Longer = []

-- the written bytes of a request whose data bytes are kept
abbrev pub written_bytes : Request → List ℕ
written_bytes r = r.command ∷ kept_bytes r.data_bytes
