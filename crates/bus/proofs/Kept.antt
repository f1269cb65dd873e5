-- What a taken byte finds and does: a valid control stays valid under it, a device stays of its kind, and a sound that is not put at
-- rest sounds on or stays silent.
-- Assumes nothing.
use mathlib.Core.Path.{◌≡◌, sym, ap, ◌∙◌, refl, subst}
use mathlib.Core.Bool.{true, false, true≢false}
use mathlib.Core.List.{List}
use Prim.Native.Nat.{ℕ, ◌≤◌, ◌<◌, ◌+◌, ◌*◌, ◌/◌, ◌%◌}
use native.Mathlib.Omega.{arith}
use borrow.Author.Tests.{eqb-false, leb-true, eqb-true, not-false}
use lib.Dec.{eqb}
use lib.ListN.{length, drop, length-set}
use lib.Seq.{drop-drop, drop-set-lt}
use Rattle.fifo.specs.Buffer.{fifo_size, appended}
use Rattle.control.specs.Device.{device_valid, at_power_up, loaded_rate, SameKind}
use Rattle.control.specs.Validity.{most_level, control_valid, speaks, least_level, most_used, fifo_valid, port_valid}
use Rattle.control.specs.Commands.{waits, waits_now, command_of, beyond_at, beyond}
use Rattle.control.proofs.Ranges.{control_ranges, mode_ranges, ControlRanges, control_in_ranges, power_up_device, loaded_device}
use Rattle.control.proofs.Busy.{not_busy}
use Rattle.base.proofs.Booleans.{by_test}
use Rattle.rom.specs.Bits.{image_limit}
use Rattle.rom.proofs.Checks.{valid_length}
use Rattle.address.specs.Addresses.{position_limit, address_limit, nibbles, with_nibble}
use Rattle.address.proofs.Ranges.{address_ranges, address_in_range}
use Rattle.clock.specs.Counters.{clock_valid}
use Rattle.fifo.proofs.Ranges.{fifo_in_range, zero_from}
use Rattle.control.specs.State.{start_level}
use Rattle.bus.specs.Types.{Mode, Idle, Rom, Waiting, External, Control, Command, Accepted, Device, Tms5220, Tms5220C, Fifo, LoadFrameRate, ReadByte, ReadAndBranch, LoadAddress, Speak, SpeakExternal, Reset}
use Rattle.bus.specs.Accept.{accepted_in, accepted, buffered}
use Rattle.bus.specs.Commands.{obeyed, reset}
use Rattle.bus.specs.Laws.{AcceptKeepsValid, KindKept, SoundingKept}

room_in : (m : Mode) (level : ℕ) (c : Command) → level ≤ most_level m → waits m level c ≡ false → level < fifo_size
room_in Idle level c h w = omega arith
room_in Rom level c h w = omega arith
room_in Waiting level c h w = omega arith
room_in External level c h w = let d = eqb-false level fifo_size w in omega (arith, d)

-- where a byte does not wait, the FIFO has room
pub room : (k : Control) (c : Command) → control_valid k ≡ true → waits_now k c ≡ false → k.fifo.level < fifo_size
room k c v w = room_in k.mode k.fifo.level c (mode_ranges k.mode k.fifo (control_ranges k v).fifo).at_most (not_busy k c w).1

pub in_mode : (image : List ℕ) (k : Control) (b : ℕ) {m : Mode} {r : Accepted} → k.mode ≡ m → r ≡ accepted_in m image k b → r ≡ accepted image k b
unfolding accepted
in_mode image k b e r = r ∙ ap (λ (m : Mode). accepted_in m image k b) (sym e)

reset_ranges : (k : Control) → ControlRanges (reset k).control
reset_ranges k = record { address = refl; fifo = refl; port = refl; clock = refl; device = power_up_device k.device }

-- ---- the commands

nibble_small : (a i v : ℕ) → with_nibble a i v < address_limit
nibble_small a i v = omega arith

module _ (image : List ℕ) (small : length image ≤ image_limit) (k : Control) (r : ControlRanges k) (idle : k.mode ≡ Idle)
    (none : k.port.busy.0 ≡ 0) where
  ranges : (k.address.position ≤ position_limit) × (k.address.next_nibble < nibbles)
  ranges = address_ranges k.address r.address

  -- what a command leaves is valid part by part
  moved : {d : Control} → (d.address.position ≤ position_limit) × (d.address.next_nibble < nibbles) → fifo_valid d.mode d.fifo ≡ true
      → port_valid d.mode d.port ≡ true → clock_valid (speaks d.mode) d.clock ≡ true → device_valid d.device ≡ true → ControlRanges d
  moved {d} l f q t v = record { address = address_in_range d.address l.0 l.1; fifo = f; port = q; clock = t; device = v }

  empty : fifo_valid Idle k.fifo ≡ true
  empty = subst (λ (m : Mode). fifo_valid m k.fifo ≡ true) idle r.fifo

  -- the empty FIFO is valid in waiting too
  waiting : fifo_valid Waiting k.fifo ≡ true
  waiting =
      let f = mode_ranges Idle k.fifo empty in
      fifo_in_range _ _ _ k.fifo (record { at_least = f.at_least; at_most = omega (arith, f.at_most); used_bits = f.used_bits; size = f.size; clear = f.clear })

  obeyed_ranges : (b : ℕ) (c : Command) → beyond_at image k.address.position c ≡ false → ControlRanges (obeyed image k b c).control
  obeyed_ranges b LoadFrameRate h = moved ranges r.fifo (rw none) r.clock (loaded_device k.device b)
  obeyed_ranges b ReadByte h =
      let e = leb-true (k.address.position + 8) (8 * length image) (not-false _ h) in
      moved (omega (arith, e)) r.fifo (rw (idle, none)) r.clock r.device
  obeyed_ranges b ReadAndBranch h =
      let e = leb-true (k.address.position / 8 + 2) (length image) (not-false _ h) in
      moved (omega (arith, e)) r.fifo (rw idle) r.clock r.device
  obeyed_ranges b LoadAddress h =
      moved (omega (arith, nibble_small (k.address.position / 8 % address_limit) k.address.next_nibble (b % 16))) r.fifo (rw none) r.clock r.device
  obeyed_ranges b Speak h = moved (omega (arith, ranges)) empty (rw none) refl r.device
  obeyed_ranges b SpeakExternal h =
      moved (omega (arith, ranges)) waiting (rw none) (subst (λ (m : Mode). clock_valid (speaks m) k.clock ≡ true) idle r.clock) r.device
  obeyed_ranges b Reset h = reset_ranges k

-- ---- bytes for the FIFO

appended_valid : (m m' : Mode) (f : Fifo) (b : ℕ) → fifo_valid m f ≡ true
    → least_level m' ≤ f.level + 1 → f.level + 1 ≤ most_level m' → most_used m ≤ most_used m' → fifo_valid m' (appended f b) ≡ true
appended_valid m m' f b h l u v =
    let r = mode_ranges m f h in
    fifo_in_range _ _ _ (appended f b) (record {
      at_least = l;
      at_most = u;
      used_bits = omega (arith, r.used_bits);
      size = simp length-set r.size;
      clear = rw (drop-set-lt (f.level + 1) f.bytes f.level b (omega arith), ← drop-drop 1 f.level f.bytes) (zero_from (drop f.level f.bytes) 1 r.clear);
    })

-- ---- a taken byte

module _ (image : List ℕ) (small : length image ≤ image_limit) (k : Control) (r : ControlRanges k) (none : k.port.busy.0 ≡ 0) (b : ℕ) where
  buffered_ranges : fifo_valid k.mode (appended k.fifo b) ≡ true → ControlRanges (buffered k b)
  buffered_ranges h = record { address = r.address; fifo = h; port = r.port; clock = r.clock; device = r.device }

  accepted_ranges : (m : Mode) → k.mode ≡ m → k.fifo.level < fifo_size → beyond m image k.address.position (command_of b) ≡ false
      → ControlRanges (accepted_in m image k b).control
  accepted_ranges Idle e l h = obeyed_ranges image small k r e none b (command_of b) h
  accepted_ranges Rom e l h = reset_ranges k
  accepted_ranges Waiting e l h =
      let held : fifo_valid Waiting k.fifo ≡ true = subst (λ (m : Mode). fifo_valid m k.fifo ≡ true) e r.fifo in
      by_test (λ (a : Accepted). ControlRanges a.control) (eqb (k.fifo.level + 1) start_level)
      (λ t.
      let n = eqb-true (k.fifo.level + 1) start_level t in
      record {
        address = r.address;
        fifo = appended_valid Waiting External k.fifo b held (omega arith) (omega arith) (omega arith);
        port = subst (λ (m : Mode). port_valid m k.port ≡ true) e r.port;
        clock = refl;
        device = r.device;
      })
      (λ t.
      let n = eqb-false (k.fifo.level + 1) start_level t in
      let u = (mode_ranges Waiting k.fifo held).at_most in
      buffered_ranges (rw e (appended_valid Waiting Waiting k.fifo b held (omega arith) (omega (arith, n, u)) (omega arith))))
  accepted_ranges External e l h =
      buffered_ranges (rw e (appended_valid External External k.fifo b (subst (λ (m : Mode). fifo_valid m k.fifo ≡ true) e r.fifo) (omega arith) (omega arith) (omega arith)))

pub accept_keeps_valid : AcceptKeepsValid
unfolding accepted
accept_keeps_valid image k b i v w h =
    control_in_ranges _ (accepted_ranges image (valid_length image i).1 k (control_ranges k v) (not_busy k (command_of b) w).0 b k.mode refl (room k (command_of b) v w) h)

-- ---- the device

loaded_kind : (d : Device) (b : ℕ) → SameKind (loaded_rate d b) d
loaded_kind Tms5220 b = refl
loaded_kind (Tms5220C r) b = refl

reset_kind : (d : Device) → SameKind (at_power_up d) d
reset_kind Tms5220 = refl
reset_kind (Tms5220C r) = refl

module _ (image : List ℕ) (k : Control) (b : ℕ) where
  obeyed_kind : (c : Command) → SameKind (obeyed image k b c).control.device k.device
  obeyed_kind LoadFrameRate = loaded_kind k.device b
  obeyed_kind ReadByte = refl
  obeyed_kind ReadAndBranch = refl
  obeyed_kind LoadAddress = refl
  obeyed_kind Speak = refl
  obeyed_kind SpeakExternal = refl
  obeyed_kind Reset = reset_kind k.device

  accepted_kind : (m : Mode) → SameKind (accepted_in m image k b).control.device k.device
  accepted_kind Idle = obeyed_kind (command_of b)
  accepted_kind Rom = reset_kind k.device
  accepted_kind Waiting =
      by_test (λ (a : Accepted). SameKind a.control.device k.device) (eqb (k.fifo.level + 1) start_level) (λ t. refl) (λ t. refl)
  accepted_kind External = refl

pub kind_kept : KindKept
unfolding accepted
kind_kept image k b = accepted_kind image k b k.mode

-- ---- whether the chip sounds

-- where the sound does not go to rest
abbrev SameSounding : Control → Accepted → Type 0
SameSounding k a = a.rests ≡ false → a.control.clock.sounding ≡ k.clock.sounding

module _ (image : List ℕ) (k : Control) (b : ℕ) where
  obeyed_sounding : (c : Command) → SameSounding k (obeyed image k b c)
  obeyed_sounding LoadFrameRate h = refl
  obeyed_sounding ReadByte h = refl
  obeyed_sounding ReadAndBranch h = refl
  obeyed_sounding LoadAddress h = refl
  obeyed_sounding Speak h = absurd (true≢false h)
  obeyed_sounding SpeakExternal h = refl
  obeyed_sounding Reset h = absurd (true≢false h)

  accepted_sounding : (m : Mode) → SameSounding k (accepted_in m image k b)
  accepted_sounding Idle = obeyed_sounding (command_of b)
  accepted_sounding Rom = λ h. absurd (true≢false h)
  accepted_sounding Waiting = by_test (SameSounding k) (eqb (k.fifo.level + 1) start_level) (λ t h. absurd (true≢false h)) (λ t h. refl)
  accepted_sounding External = λ h. refl

pub sounding_kept : SoundingKept
unfolding accepted
sounding_kept image k b = accepted_sounding image k b k.mode
