-- The chain of exclusive-ors over the taps is the parity of their count; the noise register never becomes 0.
-- Assumes nothing.
use mathlib.Core.Path.{◌≡◌}
use Prim.Native.Nat.{ℕ, ◌+◌, ◌*◌, ◌%◌, ◌≤◌, ◌<◌}
use native.Mathlib.Omega.{arith}
use native.Mathlib.Decide.{ℕ_discrete}
use lib.Bits.{bit_xor, xor_add_and, xor_lt}
use lib.Dec.{lit≤}
use Rattle.sound.specs.Noise.{bit_of, noise_bit, tap_chain, TapsAgree, next_noise}

-- a gate of the chain: what comes in is the parity of the taps so far, what goes out of those and one more
gate : {x : ℕ} (taps b : ℕ) → x ≡ taps % 2 → b < 2 → bit_xor x b ≡ (taps + b) % 2
gate {x} taps b e h = omega (arith, xor_add_and x b, xor_lt 1 x b (omega arith) h)

pub taps_agree : TapsAgree
unfolding tap_chain noise_bit
taps_agree n =
    let first = gate {x = bit_of n 12} (bit_of n 12) (bit_of n 3) (omega arith) (omega arith) in
    let second = gate (bit_of n 12 + bit_of n 3) (bit_of n 2) first (omega arith) in
    gate (bit_of n 12 + bit_of n 3 + bit_of n 2) (bit_of n 0) second (omega arith)

-- only 4096 would shift out to 0, and its new bit is 1
pub noise_range : (n : ℕ) → 1 ≤ n → n ≤ 8191 → (1 ≤ next_noise n) × (next_noise n ≤ 8191)
unfolding next_noise
noise_range n l h = (nonzero (ℕ_discrete n 4096), omega arith)
  where
    shifted : (b : ℕ) → b < 2 → (n ≡ 4096 → ⊥) → 1 ≤ (2 * n + b) % 8192
    shifted b k ne = omega arith

    nonzero : Dec (n ≡ 4096) → 1 ≤ next_noise n
    nonzero (yes e) = rw e (lit≤ tt)
    nonzero (no ne) = shifted (noise_bit n) (omega arith) ne
