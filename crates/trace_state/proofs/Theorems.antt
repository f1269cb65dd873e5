-- The laws of specs/Laws.antt.
-- Assumes nothing.
use mathlib.Core.Path.{◌≡◌, refl, sym, ap, ◌∙◌}
use mathlib.Core.Bool.{cond}
use mathlib.Core.List.{List, ◌++◌, map}
use Prim.Native.Nat.{ℕ, ◌+◌, ◌≤◌}
use native.Mathlib.Omega.{arith}
use lib.IntN.{ℤ}
use lib.ListN.{take, drop, length-map}
use lib.Seq.{take_at, drop-drop}
use Rattle.control.specs.Device.{rate_of}
use Rattle.chip_numbers.specs.Types.{BitOrder, LeastFirst, MostFirst, Clock, Device, Tms5220, Tms5220C, Params, Chip}
use Rattle.chip_numbers.specs.Numbers.{kind_number, order_number}
use Rattle.chip_numbers.specs.Fields.{later_numbers, param_numbers, nth, numbers_by}
use Rattle.chip_numbers.proofs.Places.{place, bytes_at, clock_at_lem, current_at, target_at, memory_at, later_at, state_length_lem}
use Rattle.trace_state.specs.Numbers.{wide, natural, flag_of, order_of}
use Rattle.trace_state.specs.Fields.{state_numbers, address_of, fifo_of, port_of, clock_of, device_of, params_of, sound_of, chip_of}
use Rattle.trace_state.specs.Laws.{StateLength, ParamsInFormat, InFormat, ComesBack}
use Rattle.trace_state.proofs.Signed.{natural_back, naturals_back, shorts_back, level_back, flag_back, mode_back}

params_back : (s ys : List ℤ) (m : ℕ) (v : Params) → drop m s ≡ param_numbers v ++ ys → ParamsInFormat v → params_of s m ≡ v
params_back s ys m v e f =
    rw (
      place s (param_numbers v ++ ys) m 0 m (omega arith) e,
      place s (param_numbers v ++ ys) m 1 (m + 1) refl e,
      sym (drop-drop 2 m s) ∙ ap (drop 2) e,
      take_at v.k ys 10 f.k.ten,
      level_back f.energy,
      level_back f.pitch,
      shorts_back v.k f.k.shorts,
    )

kind_back : (d : Device) → (rate_of d).v ≤ 255 → (rate_of d).rr ≤ 255
    → cond (flag_of (wide (kind_number d))) (Tms5220C (record { v = natural 255 (wide (rate_of d).v); rr = natural 255 (wide (rate_of d).rr) })) Tms5220 ≡ d
kind_back Tms5220 v r = refl
kind_back (Tms5220C q) v r = rw (natural_back 255 q.v v (omega arith), natural_back 255 q.rr r (omega arith))

order_back : (o : BitOrder) → order_of (wide (order_number o)) ≡ o
order_back LeastFirst = refl
order_back MostFirst = refl

module _ (c : Chip) (f : InFormat c) where
  abbrev s : List ℤ
  s = state_numbers c

  abbrev k : Clock
  k = c.control.clock

  clock_back : clock_of s ≡ k
  clock_back =
      let e = clock_at_lem wide c f.sixteen in
      rw (
        place s _ 24 0 24 refl e,
        place s _ 24 1 25 refl e,
        place s _ 24 2 26 refl e,
        flag_back k.sounding,
        natural_back 255 k.sample.0 f.sample (omega arith),
        natural_back 255 k.interval.0 f.interval (omega arith),
      )

  -- what stands from number 64 on
  later : drop 63 s ≡ map wide (later_numbers c)
  later = later_at wide c f.sixteen f.current.k.ten f.target.k.ten f.memory.ten

  sound_back : sound_of s ≡ c.sound
  sound_back =
      let e = clock_at_lem wide c f.sixteen in
      let l = f.current.k.ten in
      rw (
        params_back s _ 29 c.sound.current (current_at wide c f.sixteen) f.current,
        params_back s _ 41 c.sound.target (target_at wide c f.sixteen l) f.target,
        memory_at wide c f.sixteen l f.target.k.ten,
        take_at c.sound.memory _ 10 f.memory.ten,
        shorts_back c.sound.memory f.memory.shorts,
        place s _ 24 3 27 refl e,
        place s _ 24 4 28 refl e,
        place s _ 63 3 66 refl later,
        flag_back c.sound.hold,
        natural_back 32767 c.sound.noise f.noise (omega arith),
        natural_back 32767 c.sound.pulse f.pulse (omega arith),
      )

  bytes_back : map (natural 255) (take 16 (drop 8 s)) ≡ c.control.fifo.bytes
  bytes_back =
      ap (λ l. map (natural 255) (take 16 l)) (bytes_at wide c)
      ∙ ap (map (natural 255)) (take_at (map wide c.control.fifo.bytes) _ 16 (length-map c.control.fifo.bytes wide ∙ f.sixteen))
      ∙ naturals_back 255 c.control.fifo.bytes f.bytes (omega arith)

  order_is : order_of (nth s 67) ≡ c.control.fifo.order
  order_is = rw (place s _ 63 4 67 refl later) (order_back c.control.fifo.order)

  fifo_back : fifo_of s ≡ c.control.fifo
  unfolding numbers_by
  fifo_back =
      let g = c.control.fifo in
      rw (bytes_back, natural_back 255 g.level f.level (omega arith), natural_back 255 g.used_bits f.used_bits (omega arith), order_is)

  address_back : address_of s ≡ c.control.address
  unfolding numbers_by
  address_back =
      let p = c.control.address in
      rw (natural_back 4294967295 p.position (omega (arith, f.position)) (omega arith), natural_back 255 p.next_nibble f.next_nibble (omega arith))

  busy_is : natural 255 (nth s 68) ≡ c.control.port.busy.0
  busy_is = rw (place s _ 63 5 68 refl later) (natural_back 255 c.control.port.busy.0 f.busy (omega arith))

  port_back : port_of s ≡ c.control.port
  unfolding numbers_by
  port_back =
      let p = c.control.port in
      rw (flag_back p.pending, natural_back 255 p.«data» f.«data» (omega arith), flag_back p.interrupt, busy_is)

  device_back : device_of s ≡ c.control.device
  device_back =
      let e = later in
      rw (place s _ 63 0 63 refl e, place s _ 63 1 64 refl e, place s _ 63 2 65 refl e) (kind_back c.control.device f.v f.rr)

pub state_length_is : StateLength
state_length_is c f = state_length_lem wide c f.sixteen f.current.k.ten f.target.k.ten f.memory.ten

pub comes_back : ComesBack
unfolding chip_of numbers_by
comes_back c f =
    rw (mode_back c.control.mode, address_back c f, fifo_back c f, port_back c f, clock_back c f, device_back c f, sound_back c f)
