-- A valid control steps to a valid control of the same device, and begins no frame that is not one of the table.
-- Assumes nothing.
use mathlib.Core.Path.{◌≡◌, refl, ap, subst}
use mathlib.Core.Bool.{Bool, true, false, not, ◌||◌}
use mathlib.Core.List.{List, [], ◌∷◌, ◌++◌}
use Prim.Native.Nat.{ℕ, zero, suc, ◌+◌, ◌-◌, ◌*◌, ◌/◌, ◌%◌, ◌≤◌, ◌<◌}
use native.Mathlib.Omega.{arith}
use borrow.Author.Tests.{le-leb, ltb-true}
use lib.Dec.{eqb, leb, ltb}
use lib.ListN.{length, drop, replicate, length-append, length-drop, length-replicate}
use lib.Seq.{drop-drop}
use Rattle.base.specs.Units.{intervals_per_frame}
use Rattle.base.proofs.Booleans.{both_true, either_way, by_test}
use Rattle.rom.specs.Bits.{image_limit, Begins}
use Rattle.rom.specs.Frames.{Proper, is_stop}
use Rattle.rom.specs.Items.{ItemAnswer, whole, cut}
use Rattle.rom.proofs.Encoding.{begins_room}
use Rattle.rom.proofs.Prefixed.{prefixed_law}
use Rattle.address.specs.Addresses.{position_limit, nibbles, moved_to}
use Rattle.address.proofs.Ranges.{address_ranges, address_in_range}
use Rattle.clock.specs.Counters.{clock_valid, stopped, begun, counted, interval_begins, frame_begins}
use Rattle.clock.proofs.Ranges.{clock_ranges}
use Rattle.fifo.specs.Buffer.{all_zero, emptied, used_up, held_bytes}
use Rattle.fifo.proofs.Ranges.{fifo_in_range, zero_from}
use Rattle.rates.specs.Rates.{skipped_with}
use Rattle.rates.specs.Form.{Item, item_code, read_item}
use Rattle.rates.proofs.Rates.{rate_keeps}
use Rattle.reports.specs.Reports.{Playable, no_details}
use Rattle.control.specs.Device.{rate_of}
use Rattle.control.specs.State.{with_clock, branch_time, is_busy, less_busy}
use Rattle.control.specs.Validity.{speaks, is_idle, fifo_valid, port_valid}
use Rattle.control.specs.Status.{raised_port}
use Rattle.control.proofs.Ranges.{ControlRanges, mode_ranges, port_ranges, port_in_ranges}
use Rattle.control.proofs.Busy.{less_ranges}
use Rattle.speech.specs.Types.{Mode, Idle, Rom, Waiting, External, Fifo, Port, Clock, Control, Details, NoReport, Action, Silent, Rest, Begin, Interpolate, Continue, Moved}
use Rattle.speech.specs.Advance.{within, raises, changed, frame_begun, ran_out, from_rom, from_fifo, form_of, rested, boundary_in, advanced_from, advanced}

-- ---- the FIFO with bits gone

zero_append : (xs ys : List ℕ) (n : ℕ) → all_zero (drop n xs) ≡ true → all_zero ys ≡ true → all_zero (drop n (xs ++ ys)) ≡ true
zero_append [] ys n h g = zero_from ys n g
zero_append (x ∷ xs) ys zero h g =
    let b = both_true (eqb x 0) (all_zero xs) h in
    rw (b.0, zero_append xs ys zero b.1 g)
zero_append (x ∷ xs) ys (suc n) h g = zero_append xs ys n h g

zeros : (n : ℕ) → all_zero (replicate n 0) ≡ true
zeros zero = refl
zeros (suc n) = zeros n

used_up_valid : (f : Fifo) (u : ℕ) → fifo_valid External f ≡ true → u < 8 * f.level → fifo_valid External (used_up f u) ≡ true
used_up_valid f u h l =
    let r = mode_ranges External f h in
    let whole : u / 8 + (f.level - u / 8) ≡ f.level = omega arith in
    fifo_in_range _ _ _ (used_up f u) (record {
      at_least = omega arith;
      at_most = omega (arith, r.at_most);
      used_bits = omega arith;
      size = simp (length-append, length-drop, length-replicate) (omega (arith, r.size, r.at_most));
      clear =
          zero_append (drop (u / 8) f.bytes) (replicate (u / 8) 0) (f.level - u / 8)
          (rw (drop-drop (f.level - u / 8) (u / 8) f.bytes, whole) r.clear) (zeros (u / 8));
    })

-- ---- the clock and the port

counted_valid : (speaks : Bool) (t : Clock) → t.sounding ≡ true → clock_valid speaks (counted t) ≡ true
counted_valid speaks t on =
    rw (le-leb ((t.sample.0 + 1) % 25) 24 (omega arith), le-leb ((t.interval.0 + (t.sample.0 + 1) / 25) % 8) 7 (omega arith), on)

only_where : (b x y : Bool) → (not b || x) ≡ true → (x ≡ true → y ≡ true) → (not b || y) ≡ true
only_where true x y h f = f h
only_where false x y h f = refl

-- the port stays valid where an idle mode stays idle
port_valid_lem : (m m' : Mode) (p : Port) (i : Bool) → port_valid m p ≡ true → (is_idle m ≡ true → is_idle m' ≡ true)
    → port_valid m' (raised_port i p) ≡ true
port_valid_lem m m' p i h idle =
    let r = port_ranges m p h in
    port_in_ranges m' (raised_port i p) (record {
      pending = only_where p.pending (is_idle m) (is_idle m') r.pending idle;
      byte = r.byte;
      busy =
          let b = both_true (leb p.busy.0 branch_time) (not (is_busy p) || is_idle m) r.busy in
          rw (b.0, only_where (is_busy p) (is_idle m) (is_idle m') b.1 idle);
    })

-- ---- a step

-- whether the chip sounds after the step, by what it asks of the sound
abbrev pub Sounds : Bool → Bool → Action → Type 0
Sounds before after Silent = after ≡ before
Sounds before after Rest = after ≡ false
Sounds before after (Begin f i) = after ≡ true
Sounds before after (Interpolate i) = after ≡ true
Sounds before after Continue = after ≡ true

pub record Kept (P : ℕ) (k : Control) (d : Moved) : Type 0 where
  pub control : ControlRanges d.control
  pub sounds : Sounds k.clock.sounding d.control.clock.sounding d.action
  pub playable : Playable P d.action
  pub device : d.control.device ≡ k.device

module _ (P : ℕ) (image : List ℕ) (small : length image ≤ image_limit) (k : Control) (r : ControlRanges k) where
  address : (k.address.position ≤ position_limit) × (k.address.next_nibble < nibbles)
  address = address_ranges k.address r.address

  interval : k.clock.interval.0 < intervals_per_frame
  interval = omega (arith, (clock_ranges (speaks k.mode) k.clock r.clock).1)

  changed_ranges : (m : Mode) (p : ℕ) (f : Fifo) (t : Clock) → p ≤ position_limit → (is_idle k.mode ≡ true → is_idle m ≡ true)
      → fifo_valid m f ≡ true → clock_valid (speaks m) t ≡ true → ControlRanges (changed k m p f t)
  changed_ranges m p f t l idle g h =
      record {
        address = address_in_range (moved_to p k.address) l address.1;
        fifo = g;
        port = port_valid_lem k.mode m k.port (raises k m f) r.port idle;
        clock = h;
        device = r.device;
      }

  out_kept : (p : ℕ) (f : Fifo) (d : Details) → p ≤ position_limit → fifo_valid Idle f ≡ true → Kept P k (ran_out k p f d)
  out_kept p f d l h = record { control = changed_ranges Idle p f (stopped k.clock) l (λ i. refl) h refl; sounds = refl; playable = tt; device = refl }

  rest_kept : speaks k.mode ≡ false → Kept P k (rested k)
  rest_kept e = record { control = record { address = r.address; fifo = r.fifo; port = r.port; clock = rw e; device = r.device }; sounds = refl; playable = tt; device = refl }

  -- what the reader returns is an item that stands there
  read_law : (s : List ℕ) (at : ℕ) (i : Item) (next : ℕ) → read_item (form_of P k) s at ≡ whole i next
      → (item_code (form_of P k)).Proper i × Begins s at ((item_code (form_of P k)).bits i) × (next ≡ at + length ((item_code (form_of P k)).bits i))
  read_law s at i next e = ((prefixed_law (form_of P k).prefix P s).law at i next).0 e

  module _ (on : k.clock.sounding ≡ true) where
    begun_kept : (i : Item) (p : ℕ) (g : Fifo) (e : Details) → Proper P i.1 → p ≤ position_limit → (is_stop i.1 ≡ false → fifo_valid k.mode g ≡ true)
        → Kept P k (frame_begun k i p g e)
    begun_kept (q, f) p g e proper l h =
        let t = begun (skipped_with (rate_of k.device) q) k.clock in
        record {
          control =
              either_way (is_stop f)
              (λ s. rw s (changed_ranges Idle p (emptied g) (counted t) l (λ i. refl) refl (counted_valid false t on)))
              (λ s. rw s (changed_ranges k.mode p g (counted t) l (λ i. i) (h s) (counted_valid (speaks k.mode) t on)));
          sounds = on;
          playable = (proper, rate_keeps (rate_of k.device) P q);
          device = refl;
        }

    rom_kept : k.mode ≡ Rom → (x : ItemAnswer Item) → read_item (form_of P k) image k.address.position ≡ x → Kept P k (from_rom image k x)
    rom_kept m (whole i next) a =
        let w = read_law image k.address.position i next a in
        begun_kept i next k.fifo _ w.0.1 (omega (arith, begins_room image k.address.position ((item_code (form_of P k)).bits i) w.1, w.2)) (λ n. r.fifo)
    rom_kept m (cut h) a = out_kept _ k.fifo _ (omega (arith, address)) (subst (λ (m : Mode). fifo_valid m k.fifo ≡ true) m r.fifo)

    fifo_kept : k.mode ≡ External → (x : ItemAnswer Item) → read_item (form_of P k) (held_bytes k.fifo) k.fifo.used_bits ≡ x → Kept P k (from_fifo k x)
    fifo_kept m (whole i next) a =
        let external = subst (λ (m : Mode). fifo_valid m k.fifo ≡ true) m r.fifo in
        by_test (Kept P k) (is_stop i.1 || ltb next (8 * k.fifo.level))
        (λ t.
        begun_kept i k.address.position (used_up k.fifo next) _ (read_law (held_bytes k.fifo) k.fifo.used_bits i next a).0.1 address.0
        (λ n. rw m (used_up_valid k.fifo next external (ltb-true _ _ (rw n at t)))))
        (λ t. out_kept k.address.position (emptied k.fifo) _ address.0 refl)
    fifo_kept m (cut h) a = out_kept k.address.position (emptied k.fifo) _ address.0 refl

    boundary_kept : (m : Mode) → k.mode ≡ m → Kept P k (boundary_in P m image k)
    boundary_kept Idle e = rest_kept (ap speaks e)
    boundary_kept Rom e = rom_kept e _ refl
    boundary_kept Waiting e = rest_kept (ap speaks e)
    boundary_kept External e = fifo_kept e _ refl

    within_kept : Kept P k (record { control = with_clock (counted k.clock) k; action = within k.clock; report = NoReport; details = no_details })
    within_kept = record {
      control = record { address = r.address; fifo = r.fifo; port = r.port; clock = counted_valid (speaks k.mode) k.clock on; device = r.device };
      sounds = by_test (Sounds k.clock.sounding k.clock.sounding) (interval_begins k.clock) (λ e. on) (λ e. on);
      playable = by_test (Playable P) (interval_begins k.clock) (λ e. interval) (λ e. tt);
      device = refl;
    }

  from_kept : Kept P k (advanced_from P image k)
  unfolding advanced_from
  from_kept =
      by_test (Kept P k) k.clock.sounding
      (λ s. by_test (Kept P k) (frame_begins k.clock) (λ b. boundary_kept s k.mode refl) (λ b. within_kept s))
      (λ s. record { control = r; sounds = refl; playable = tt; device = refl })

pub advanced_kept : (P : ℕ) (image : List ℕ) → length image ≤ image_limit → (k : Control) → ControlRanges k → Kept P k (advanced P image k)
advanced_kept P image small k r =
    let w = from_kept P image small (less_busy 1 k) (less_ranges 1 k r) in
    record { control = w.control; sounds = w.sounds; playable = w.playable; device = w.device }
