-- The address register (01, "ROM", "State ranges"; 004's term): Load Address, Read Byte, Read and Branch.
use Rattle.std.specs.Prelude.{Bool, ◌&&◌, List, ℕ, ◌+◌, ◌*◌, ◌/◌, ◌%◌, ◌^◌, leb, ltb}
use Rattle.base.specs.Bytes.{byte_at}
use Rattle.address.specs.declared.AddressRegister.{AddressRegister}

-- the position's greatest value
abbrev pub position_limit : ℕ
position_limit = 2097152

-- bytes of one ROM chip
abbrev pub rom_size : ℕ
rom_size = 16384

-- bytes that an address reaches
abbrev pub address_limit : ℕ
address_limit = 262144

-- the nibbles of an address
abbrev pub nibbles : ℕ
nibbles = 5

-- power-up: position 0, the lowest nibble next
abbrev pub power_up_address : AddressRegister
power_up_address = record { position = 0; next_nibble = 0 }

-- the address a with nibble i set to v, lowest nibble first; modulo 262,144, so that of the fifth only the two low bits count
abbrev pub with_nibble : ℕ → ℕ → ℕ → ℕ
with_nibble a i v = (a / (16 * 16 ^ i) * (16 * 16 ^ i) + v * 16 ^ i + a % 16 ^ i) % address_limit

-- Load Address puts a nibble into the byte address (position / 8, modulo 262,144); the position becomes that byte's first bit.
-- After the fifth load the next nibble is again the lowest
abbrev pub loaded : AddressRegister → ℕ → AddressRegister
loaded p v = record {
  position = 8 * with_nibble (p.position / 8 % address_limit) p.next_nibble v;
  next_nibble = (p.next_nibble + 1) % nibbles;
}

-- Read Byte takes the next eight bits, and restarts the nibble
abbrev pub past_byte : AddressRegister → AddressRegister
past_byte p = record { position = p.position + 8; next_nibble = 0 }

-- the word at byte address a, first byte low; its low 14 bits become the address's
abbrev pub branch_address : List ℕ → ℕ → ℕ
branch_address image a = a / rom_size * rom_size + (byte_at image a + 256 * byte_at image (a + 1)) % rom_size

-- Read and Branch, from the byte holding the position
abbrev pub branched : List ℕ → AddressRegister → AddressRegister
branched image p = record { position = 8 * branch_address image (p.position / 8); next_nibble = 0 }

-- Speak restarts the nibble and keeps the position
abbrev pub restarted : AddressRegister → AddressRegister
restarted p = record { position = p.position; next_nibble = 0 }

-- speech from ROM moves the position and keeps the nibble
abbrev pub moved_to : ℕ → AddressRegister → AddressRegister
moved_to n p = record { position = n; next_nibble = p.next_nibble }

-- next nibble 0..4, position 0..2,097,152
abbrev pub address_valid : AddressRegister → Bool
address_valid p = leb p.position position_limit && ltb p.next_nibble nibbles
