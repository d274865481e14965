-- The addresses that a device may have, and the two bytes that begin a message to one.
-- Assumes nothing.
use Rattle.std.specs.Prelude.{ℕ, ◌+◌, ◌*◌, ◌≤◌, ◌≢◌}

-- a lawful address: 08h to 77h, and not 0Ch, the alert response address
abbrev pub Lawful : ℕ → Type 0
Lawful a = (0x08 ≤ a) × (a ≤ 0x77) × (a ≢ 0x0c)

-- the byte that begins a write: the seven bits of the address, then a bit 0
abbrev pub write_byte : ℕ → ℕ
write_byte a = a * 2

-- the byte that begins a read: the seven bits of the address, then a bit 1
abbrev pub read_byte : ℕ → ℕ
read_byte a = a * 2 + 1
