-- The numbers of a chip, part by part, in the order of the line `C` of a trace.
use Rattle.std.specs.Prelude.{List, [], ◌∷◌, ◌++◌, map, ℕ, ℤ, pos, get_or}
use Rattle.control.specs.Device.{rate_of}
use Rattle.chip_numbers.specs.Types.{Clock, Control, Params, Chip}
use Rattle.chip_numbers.specs.Numbers.{flag, mode_number, kind_number, order_number}

-- 1..8: mode, position, next nibble, data pending, data byte, interrupt, FIFO level, used bits of the oldest byte
abbrev pub control_numbers : Control → List ℕ
control_numbers c =
    mode_number c.mode
    ∷ c.address.position
    ∷ c.address.next_nibble
    ∷ flag c.port.pending
    ∷ c.port.«data»
    ∷ flag c.port.interrupt
    ∷ c.fifo.level
    ∷ c.fifo.used_bits
    ∷ []

-- 25..29: sounding, sample, interval, noise register, pulse place
abbrev pub clock_numbers : Clock → ℕ → ℕ → List ℕ
clock_numbers c noise pulse = flag c.sounding ∷ c.sample.0 ∷ c.interval.0 ∷ noise ∷ pulse ∷ []

-- 64..69, those of document 02: device; v and rr, 0 on the TMS5220; whether the frame holds; the order of the FIFO's bits; busy samples
abbrev pub later_numbers : Chip → List ℕ
later_numbers c =
    let d = c.control.device in
    kind_number d ∷ (rate_of d).v ∷ (rate_of d).rr ∷ flag c.sound.hold ∷ order_number c.control.fifo.order ∷ c.control.port.busy.0 ∷ []

-- energy, pitch, K1..K10
abbrev pub param_numbers : Params → List ℤ
param_numbers v = v.energy ∷ v.pitch ∷ v.k

-- number i, counted from 0
abbrev pub nth : List ℤ → ℕ → ℤ
nth s i = get_or s i (pos 0)

-- all 69, the natural ones written as w says: 9..24 are the FIFO's bytes, oldest first; 30..41 the currents, 42..53 the targets, 54..63 the
-- filter memory
unfoldable pub numbers_by : (ℕ → ℤ) → Chip → List ℤ
numbers_by w c =
    map w (control_numbers c.control)
    ++ (map w c.control.fifo.bytes
    ++ (map w (clock_numbers c.control.clock c.sound.noise c.sound.pulse)
    ++ (param_numbers c.sound.current
    ++ (param_numbers c.sound.target
    ++ (c.sound.memory
    ++ map w (later_numbers c))))))
