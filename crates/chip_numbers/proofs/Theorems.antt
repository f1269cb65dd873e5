-- The laws of specs/Laws.antt.
-- Assumes nothing.
use mathlib.Core.Path.{◌≡◌, refl, sym, ap, subst, ◌∙◌}
use mathlib.Core.Bool.{Bool, true, false, not, ◌&&◌, ◌||◌}
use mathlib.Core.List.{List, [], ◌∷◌, ◌++◌, map}
use Prim.Native.Nat.{ℕ, suc, ◌+◌, ◌≤◌, ◌<◌}
use native.Mathlib.Omega.{arith}
use lib.Dec.{leb}
use borrow.Author.Tests.{leb-true}
use lib.IntN.{ℤ, pos}
use lib.ListN.{length, get_or, take, drop, replicate, length-map, length-drop, take-append-drop, drop_of_length-le, get_or-replicate}
use lib.Seq.{take_at, drop-drop, drop-cons, get_or-drop, get_or-take, length-take-le}
use Rattle.base.specs.Range.{Between, pos_part, inside}
use Rattle.base.proofs.Booleans.{both_true, AllTrue, all_true, cond_true, cond_false, either_way}
use Rattle.base.proofs.Range.{tested}
use Rattle.control.specs.Device.{rate_of, device_valid}
use Rattle.control.specs.State.{branch_time, is_busy}
use Rattle.control.specs.Validity.{is_idle}
use Rattle.control.proofs.Ranges.{ModeRanges, mode_ranges, port_ranges}
use Rattle.sound.proofs.Validity.{ranges}
use Rattle.chip.specs.Validity.{valid}
use Rattle.chip.proofs.Ranges.{chip_ranges, valid_address, valid_clock}
use Rattle.chip_numbers.specs.Types.{Device, Tms5220, Tms5220C, Mode, Idle, Rom, Waiting, External, Fifo, Control, Params, Chip}
use Rattle.chip_numbers.specs.Numbers.{flag, mode_number, order_number, number, byte_of, flag_of, mode_of}
use Rattle.chip_numbers.specs.Fields.{later_numbers, param_numbers, nth, numbers_by}
use Rattle.chip_numbers.specs.Chips.{chip_length, chip_numbers, any, byte, bit, control_limits, held_limits, clock_limits, later_limits, within, rate_fits, fits, level_of, fifo_of, port_of, params_of, sound_of, clock_of, device_of, chip_of}
use Rattle.chip_numbers.specs.Laws.{OfBytes, ValidFits, ComesBack, NumbersStay, UnfitInvalid}
use Rattle.chip_numbers.proofs.Places.{place, bytes_at, clock_at_lem, current_at, target_at, memory_at, later_at}
use Rattle.chip_numbers.proofs.Single.{natural_back, byte_back, bytes_back, flag_back, mode_back, order_back, device_back, number_fits, flag_fits, mode_fits, kind_fits, order_fits, rate_fits_lem, bytes_fit, natural_stays, byte_stays, flag_stays, mode_stays, order_stays, bytes_stay, DeviceStays, device_stays, each_inside}

both : {a b : Bool} → a ≡ true → b ≡ true → (a && b) ≡ true
both {a} {b} x y = rw (x, y)

-- ---- what a valid chip's fields are

-- naturals of 31 bits, bytes, and arrays of their lengths
record InFields (c : Chip) : Type 0 where
  position : c.control.address.position ≤ 2147483647
  nibble : c.control.address.next_nibble ≤ 255
  «data» : c.control.port.«data» ≤ 255
  busy : c.control.port.busy.0 ≤ 2147483647
  level : c.control.fifo.level ≤ 255
  used : c.control.fifo.used_bits ≤ 255
  sixteen : length c.control.fifo.bytes ≡ 16
  bytes : (i : ℕ) → get_or c.control.fifo.bytes i 0 ≤ 255
  sample : c.control.clock.sample.0 ≤ 2147483647
  interval : c.control.clock.interval.0 ≤ 2147483647
  v : (rate_of c.control.device).v ≤ 255
  rr : (rate_of c.control.device).rr ≤ 255
  noise : c.sound.noise ≤ 2147483647
  pulse : c.sound.pulse ≤ 2147483647
  current : length c.sound.current.k ≡ 10
  target : length c.sound.target.k ≡ 10
  memory : length c.sound.memory ≡ 10

levels : (m : Mode) (f : Fifo) → ModeRanges m f → (f.level ≤ 16) × (f.used_bits ≤ 7)
levels Idle f r = (omega (arith, r.at_most), omega (arith, r.used_bits))
levels Rom f r = (omega (arith, r.at_most), omega (arith, r.used_bits))
levels Waiting f r = (omega (arith, r.at_most), omega (arith, r.used_bits))
levels External f r = (omega (arith, r.at_most), omega (arith, r.used_bits))

rates : (d : Device) → device_valid d ≡ true → ((rate_of d).v ≤ 255) × ((rate_of d).rr ≤ 255)
rates Tms5220 e = (omega arith, omega arith)
rates (Tms5220C r) e =
    let t = both_true (leb r.v 1) (leb r.rr 3) e in
    (omega (arith, leb-true r.v 1 t.0), omega (arith, leb-true r.rr 3 t.1))

in_fields : (c : Chip) → OfBytes c → valid c ≡ true → InFields c
in_fields c o v =
    let k = (chip_ranges c v).control in
    let s = ranges c.sound (chip_ranges c v).sound in
    let f = mode_ranges c.control.mode c.control.fifo k.fifo in
    let n = levels c.control.mode c.control.fifo f in
    let d = rates c.control.device k.device in
    let q = c.control.port in
    let p = port_ranges c.control.mode q k.port in
    record {
      position = omega (arith, (valid_address c v).0);
      nibble = omega (arith, (valid_address c v).1);
      «data» = o.«data»;
      busy = omega (arith, leb-true q.busy.0 branch_time (both_true (leb q.busy.0 branch_time) (not (is_busy q) || is_idle c.control.mode) p.busy).0);
      level = omega (arith, n.0);
      used = omega (arith, n.1);
      sixteen = f.size;
      bytes = o.bytes;
      sample = omega (arith, (valid_clock c v).0);
      interval = omega (arith, (valid_clock c v).1);
      v = d.0;
      rr = d.1;
      noise = omega (arith, s.noise_high);
      pulse = omega (arith, s.pulse);
      current = s.current.k.size;
      target = s.target.k.size;
      memory = s.memory.size;
    }

-- ---- it fits, and comes back

params_back : (s ys : List ℤ) (m : ℕ) (v : Params) → drop m s ≡ param_numbers v ++ ys → length v.k ≡ 10 → params_of s m ≡ v
params_back s ys m v e l =
    rw (
      place s (param_numbers v ++ ys) m 0 m (omega arith) e,
      place s (param_numbers v ++ ys) m 1 (m + 1) refl e,
      sym (drop-drop 2 m s) ∙ ap (drop 2) e,
      take_at v.k ys 10 l,
    )

module _ (c : Chip) (f : InFields c) where
  abbrev s : List ℤ
  s = chip_numbers c

  abbrev k : Control
  k = c.control

  -- what stands from number 64 on
  later : drop 63 s ≡ map number (later_numbers c)
  later = later_at number c f.sixteen f.current f.target f.memory

  counters_fit : within clock_limits (drop 24 s) ≡ true
  counters_fit =
      let t = k.clock in
      rw (clock_at_lem number c f.sixteen)
      (both (flag_fits t.sounding)
      (both (number_fits t.sample.0 2147483647 f.sample)
      (both (number_fits t.interval.0 2147483647 f.interval)
      (both (number_fits c.sound.noise 2147483647 f.noise)
      (both (number_fits c.sound.pulse 2147483647 f.pulse) refl)))))

  bytes_within : within held_limits (drop 8 s) ≡ true
  bytes_within =
      rw (bytes_at number c, ← clock_at_lem number c f.sixteen)
      (subst (λ (n : ℕ). within (replicate n byte) (map number k.fifo.bytes ++ drop 24 s) ≡ true) f.sixteen
      (bytes_fit k.fifo.bytes (drop 24 s) f.bytes))

  first_fit : within control_limits s ≡ true
  unfolding numbers_by
  first_fit =
      both (mode_fits k.mode)
      (both (number_fits k.address.position 2147483647 f.position)
      (both (number_fits k.address.next_nibble 255 f.nibble)
      (both (flag_fits k.port.pending)
      (both (number_fits k.port.«data» 255 f.«data»)
      (both (flag_fits k.port.interrupt)
      (both (number_fits k.fifo.level 255 f.level)
      (both (number_fits k.fifo.used_bits 255 f.used) refl)))))))

  later_fit : within later_limits (drop 63 s) ≡ true
  later_fit =
      rw later
      (both (kind_fits k.device)
      (both (number_fits (rate_of k.device).v 255 f.v)
      (both (number_fits (rate_of k.device).rr 255 f.rr)
      (both (flag_fits c.sound.hold)
      (both (order_fits k.fifo.order)
      (both (number_fits k.port.busy.0 2147483647 f.busy) refl))))))

  rate_fit : rate_fits s ≡ true
  rate_fit =
      rw (place s _ 63 0 63 refl later, sym (drop-drop 1 63 s) ∙ ap (drop 1) later)
      (rate_fits_lem k.device (map number (flag c.sound.hold ∷ order_number k.fifo.order ∷ k.port.busy.0 ∷ [])))

  all_fit : fits s ≡ true
  unfolding fits
  all_fit = both (both (both (both first_fit bytes_within) counters_fit) later_fit) rate_fit

  clock_back : clock_of s ≡ k.clock
  clock_back =
      let e = clock_at_lem number c f.sixteen in
      let t = k.clock in
      rw (
        place s _ 24 0 24 refl e,
        place s _ 24 1 25 refl e,
        place s _ 24 2 26 refl e,
        flag_back t.sounding,
        natural_back t.sample.0 (omega (arith, f.sample)),
        natural_back t.interval.0 (omega (arith, f.interval)),
      )

  sound_back : sound_of s ≡ c.sound
  sound_back =
      let e = clock_at_lem number c f.sixteen in
      rw (
        params_back s _ 29 c.sound.current (current_at number c f.sixteen) f.current,
        params_back s _ 41 c.sound.target (target_at number c f.sixteen f.current) f.target,
        memory_at number c f.sixteen f.current f.target,
        take_at c.sound.memory _ 10 f.memory,
        place s _ 24 3 27 refl e,
        place s _ 24 4 28 refl e,
        place s _ 63 3 66 refl later,
        natural_back c.sound.noise (omega (arith, f.noise)),
        natural_back c.sound.pulse (omega (arith, f.pulse)),
        flag_back c.sound.hold,
      )

  held_back : map byte_of (take 16 (drop 8 s)) ≡ k.fifo.bytes
  held_back =
      ap (λ l. map byte_of (take 16 l)) (bytes_at number c)
      ∙ ap (map byte_of) (take_at (map number k.fifo.bytes) _ 16 (length-map k.fifo.bytes number ∙ f.sixteen))
      ∙ bytes_back k.fifo.bytes f.bytes

  level_back : level_of s ≡ k.fifo.level
  unfolding numbers_by
  level_back = cond_true (fits s) (byte_of (nth s 6)) 255 all_fit ∙ byte_back k.fifo.level f.level

  fifo_back : fifo_of s ≡ k.fifo
  unfolding numbers_by
  fifo_back =
      rw (held_back, level_back, place s _ 63 4 67 refl later, order_back k.fifo.order, byte_back k.fifo.used_bits f.used)

  port_back : port_of s ≡ k.port
  unfolding numbers_by
  port_back =
      let p = k.port in
      rw (place s _ 63 5 68 refl later, natural_back p.busy.0 (omega (arith, f.busy)), flag_back p.pending, byte_back p.«data» f.«data», flag_back p.interrupt)

  kind_back : device_of s ≡ k.device
  kind_back = rw (place s _ 63 0 63 refl later, place s _ 63 1 64 refl later, place s _ 63 2 65 refl later) (device_back k.device f.v f.rr)

  back : chip_of s ≡ c
  unfolding chip_of numbers_by
  back =
      rw (
        fifo_back,
        port_back,
        clock_back,
        kind_back,
        sound_back,
        mode_back k.mode,
        natural_back k.address.position (omega (arith, f.position)),
        byte_back k.address.next_nibble f.nibble,
      )

pub comes_back : ComesBack
comes_back c o v = back c (in_fields c o v)

pub valid_fits : ValidFits
valid_fits c o v = all_fit c (in_fields c o v)

-- ---- numbers that fit

module _ (s : List ℤ) (n : length s ≡ chip_length) where
  cons_is : (i : ℕ) → i < chip_length → nth s i ∷ drop (suc i) s ≡ drop i s
  cons_is i h = sym (drop-cons s i (pos 0) (omega arith))

  part_is : (m k : ℕ) → take k (drop m s) ++ drop (m + k) s ≡ drop m s
  part_is m k = ap (λ (r : List ℤ). take k (drop m s) ++ r) (sym (drop-drop k m s)) ∙ take-append-drop k (drop m s)

  params_is : (m : ℕ) → m ≤ 51 → nth s m ∷ nth s (m + 1) ∷ (take 10 (drop (m + 2) s) ++ drop (m + 2 + 10) s) ≡ drop m s
  params_is m h =
      let e : suc m ≡ m + 1 = omega arith in
      let f : suc (m + 1) ≡ m + 2 = omega arith in
      ap (λ (r : List ℤ). nth s m ∷ nth s (m + 1) ∷ r) (part_is (m + 2) 10 ∙ sym (ap (λ (i : ℕ). drop i s) f))
      ∙ ap (λ (r : List ℤ). nth s m ∷ r) (cons_is (m + 1) (omega arith) ∙ sym (ap (λ (i : ℕ). drop i s) e))
      ∙ cons_is m (omega arith)

  module _ (f : fits s ≡ true) where
    tests : AllTrue (within control_limits s ∷ within held_limits (drop 8 s) ∷ within clock_limits (drop 24 s) ∷ within later_limits (drop 63 s) ∷ rate_fits s ∷ [])
    unfolding fits
    tests = all_true (within control_limits s ∷ within held_limits (drop 8 s) ∷ within clock_limits (drop 24 s) ∷ within later_limits (drop 63 s) ∷ rate_fits s ∷ []) f

    part_fits : (m : ℕ) (ms : List ℤ) → within ms (drop m s) ≡ true → (i : ℕ) → i < length ms
        → inside (pos 0) (get_or ms i (pos 0)) (nth s (m + i)) ≡ true
    part_fits m ms e i h = rw (get_or-drop m s i (pos 0)) at (each_inside ms (drop m s) e i h)

    fit_at : (i : ℕ) → i < 8 → inside (pos 0) (get_or control_limits i (pos 0)) (nth s i) ≡ true
    fit_at i h = each_inside control_limits s tests.0 i h

    clock_fit_at : (i : ℕ) → i < 5 → inside (pos 0) (get_or clock_limits i (pos 0)) (nth s (24 + i)) ≡ true
    clock_fit_at = part_fits 24 clock_limits tests.1.1.0

    later_fit_at : (i : ℕ) → i < 6 → inside (pos 0) (get_or later_limits i (pos 0)) (nth s (63 + i)) ≡ true
    later_fit_at = part_fits 63 later_limits tests.1.1.1.0

    natural_at : (i : ℕ) → inside (pos 0) any (nth s i) ≡ true → number (pos_part (nth s i)) ≡ nth s i
    natural_at i e = natural_stays (tested 0 2147483647 (nth s i) e)

    byte_at : (i : ℕ) → inside (pos 0) byte (nth s i) ≡ true → number (byte_of (nth s i)) ≡ nth s i
    byte_at i e = byte_stays (tested 0 255 (nth s i) e)

    flag_at : (i : ℕ) → inside (pos 0) bit (nth s i) ≡ true → number (flag (flag_of (nth s i))) ≡ nth s i
    flag_at i e = flag_stays (tested 0 1 (nth s i) e)

    mode_at : number (mode_number (mode_of (nth s 0))) ≡ nth s 0
    mode_at = mode_stays (tested 0 3 (nth s 0) (fit_at 0 (omega arith)))

    held_between : (i : ℕ) → i < 16 → Between 0 255 (get_or (take 16 (drop 8 s)) i (pos 0))
    held_between i h =
        rw (get_or-take 16 (drop 8 s) i (pos 0) h ∙ get_or-drop 8 s i (pos 0))
        (tested 0 255 (nth s (8 + i)) (rw (get_or-replicate 16 i byte (pos 0) h) at (part_fits 8 held_limits tests.1.0 i h)))

    held_stay : map number (map byte_of (take 16 (drop 8 s))) ≡ take 16 (drop 8 s)
    held_stay =
        let l : length (take 16 (drop 8 s)) ≡ 16 = length-take-le 16 (drop 8 s) (simp length-drop (omega arith)) in
        bytes_stay (take 16 (drop 8 s)) (λ i h. held_between i (omega arith))

    level_stays : number (level_of s) ≡ nth s 6
    level_stays = ap number (cond_true (fits s) (byte_of (nth s 6)) 255 f) ∙ byte_at 6 (fit_at 6 (omega arith))

    last_is : nth s 68 ∷ [] ≡ drop 68 s
    last_is = ap (λ (r : List ℤ). nth s 68 ∷ r) (sym (drop_of_length-le s {i = 69} (omega arith))) ∙ cons_is 68 (omega arith)

    device : DeviceStays (nth s 63) (nth s 64) (nth s 65)
    device =
        let e : drop 64 s ≡ nth s 64 ∷ nth s 65 ∷ drop 66 s =
        sym (ap (λ (r : List ℤ). nth s 64 ∷ r) (cons_is 65 (omega arith)) ∙ cons_is 64 (omega arith)) in
        device_stays (drop 66 s) (tested 0 1 (nth s 63) (later_fit_at 0 (omega arith))) (tested 0 255 (nth s 64) (later_fit_at 1 (omega arith)))
        (tested 0 255 (nth s 65) (later_fit_at 2 (omega arith))) (rw e at tests.1.1.1.1.0)

    stay : chip_numbers (chip_of s) ≡ s
    unfolding numbers_by chip_of
    stay =
        rw (
          mode_at,
          natural_at 1 (fit_at 1 (omega arith)),
          byte_at 2 (fit_at 2 (omega arith)),
          flag_at 3 (fit_at 3 (omega arith)),
          byte_at 4 (fit_at 4 (omega arith)),
          flag_at 5 (fit_at 5 (omega arith)),
          level_stays,
          byte_at 7 (fit_at 7 (omega arith)),
          held_stay,
          flag_at 24 (clock_fit_at 0 (omega arith)),
          natural_at 25 (clock_fit_at 1 (omega arith)),
          natural_at 26 (clock_fit_at 2 (omega arith)),
          natural_at 27 (clock_fit_at 3 (omega arith)),
          natural_at 28 (clock_fit_at 4 (omega arith)),
          device.kind,
          device.first,
          device.second,
          flag_at 66 (later_fit_at 3 (omega arith)),
          order_stays (tested 0 1 (nth s 67) (later_fit_at 4 (omega arith))),
          natural_at 68 (later_fit_at 5 (omega arith)),
          last_is,
          cons_is 67 (omega arith),
          cons_is 66 (omega arith),
          cons_is 65 (omega arith),
          cons_is 64 (omega arith),
          cons_is 63 (omega arith),
          part_is 53 10,
          params_is 41 (omega arith),
          params_is 29 (omega arith),
          cons_is 28 (omega arith),
          cons_is 27 (omega arith),
          cons_is 26 (omega arith),
          cons_is 25 (omega arith),
          cons_is 24 (omega arith),
          part_is 8 16,
          cons_is 7 (omega arith),
          cons_is 6 (omega arith),
          cons_is 5 (omega arith),
          cons_is 4 (omega arith),
          cons_is 3 (omega arith),
          cons_is 2 (omega arith),
          cons_is 1 (omega arith),
          cons_is 0 (omega arith),
        )

pub numbers_stay : NumbersStay
numbers_stay = stay

-- ---- numbers that do not fit

no_level : (s : List ℤ) → fits s ≡ false → (chip_of s).control.fifo.level ≡ 255
unfolding chip_of
no_level s e = cond_false (fits s) (byte_of (nth s 6)) 255 e

pub unfit_invalid : UnfitInvalid
unfit_invalid s e =
    let c = chip_of s in
    either_way (valid c)
    (λ v.
    let k = (chip_ranges c v).control in
    let n = levels c.control.mode c.control.fifo (mode_ranges c.control.mode c.control.fifo k.fifo) in
    absurd (omega (arith, n.0, no_level s e)))
    (λ v. v)
