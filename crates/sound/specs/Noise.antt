-- The noise register (01, "Sound"): it becomes twice itself plus a new bit, modulo 8192.
use Rattle.std.specs.Prelude.{◌≡◌, ℕ, ◌+◌, ◌*◌, ◌-◌, ◌/◌, ◌%◌, ◌^◌}
use Rattle.std.specs.Int.Bits.{bit_xor}

-- the register has 13 bits
abbrev pub noise_limit : ℕ
noise_limit = 8192

-- the most that it can be, 8191
abbrev pub noise_max : ℕ
noise_max = noise_limit - 1

-- bit k of the register n
abbrev pub bit_of : ℕ → ℕ → ℕ
bit_of n k = n / 2 ^ k % 2

-- the new bit is 1 when an odd number of its bits 12, 3, 2, 0 are set
unfoldable pub noise_bit : ℕ → ℕ
noise_bit n = (bit_of n 12 + bit_of n 3 + bit_of n 2 + bit_of n 0) % 2

-- the chain of exclusive-ors in the gate drawing (02, §7)
unfoldable pub tap_chain : ℕ → ℕ
tap_chain n = bit_xor (bit_xor (bit_xor (bit_of n 12) (bit_of n 3)) (bit_of n 2)) (bit_of n 0)

-- the chain is the new bit, for every register
abbrev pub TapsAgree : Type 0
TapsAgree = (n : ℕ) → tap_chain n ≡ noise_bit n

-- twice itself plus the new bit, modulo 8192
unfoldable pub next_noise : ℕ → ℕ
unfolding noise_bit
next_noise n = (2 * n + noise_bit n) % noise_limit
