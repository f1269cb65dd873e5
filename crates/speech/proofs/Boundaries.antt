-- What the control does at a frame boundary, by what the reader returns, and the frame that a boundary in external speech takes.
-- Assumes nothing.
use mathlib.Core.Path.{◌≡◌, sym, ap, ◌∙◌, subst, refl}
use mathlib.Core.Bool.{true, false}
use mathlib.Core.List.{List}
use Prim.Native.Nat.{ℕ, ◌≤◌, ◌<◌}
use Rattle.base.proofs.Booleans.{either_way, cond_true, cond_false}
use Rattle.rom.specs.Items.{ItemAnswer, whole, cut}
use Rattle.clock.specs.Counters.{counted, frame_begins}
use Rattle.fifo.specs.Buffer.{fifo_size}
use Rattle.reports.specs.Reports.{no_details, out_of_rom}
use Rattle.rates.specs.Rates.{prefix_bits}
use Rattle.rates.specs.Form.{Item, read_item, short_at}
use Rattle.reports.proofs.RanOut.{nothing_not_out, frame_not_out}
use Rattle.rom.proofs.Prefixed.{prefixed_cut}
use Rattle.control.specs.Device.{rate_of}
use Rattle.control.specs.State.{with_clock, less_busy}
use Rattle.control.specs.Validity.{fifo_valid, control_valid}
use Rattle.control.proofs.Ranges.{control_ranges, mode_ranges, valid_fits}
use Rattle.fifo.proofs.Held.{held_frame, held_cut}
use Rattle.speech.specs.Types.{Mode, Idle, Rom, Waiting, External, Control, NoReport, RanOut, Action, Silent, Moved}
use Rattle.speech.specs.Advance.{within, from_rom, from_fifo, form_of, boundary_in, advanced_from}
use Rattle.speech.specs.Laws.{FifoFrame, FifoEnds, RomEnds}

module _ (P : ℕ) (image : List ℕ) (k : Control) where
  -- a step of the control
  pub advanced_silent : {r : Moved} → k.clock.sounding ≡ false → r ≡ record { control = k; action = Silent; report = NoReport; details = no_details }
      → r ≡ advanced_from P image k
  unfolding advanced_from
  advanced_silent s r = r ∙ sym (cond_false _ _ _ s)

  pub advanced_boundary : {r : Moved} → k.clock.sounding ≡ true → frame_begins k.clock ≡ true → r ≡ boundary_in P k.mode image k → r ≡ advanced_from P image k
  unfolding advanced_from
  advanced_boundary s t r = r ∙ sym (cond_true _ _ _ s ∙ cond_true _ _ _ t)

  pub advanced_within : {r : Moved} {d : Control} {a : Action} → k.clock.sounding ≡ true → frame_begins k.clock ≡ false → d ≡ with_clock (counted k.clock) k
      → a ≡ within k.clock → r ≡ record { control = d; action = a; report = NoReport; details = no_details } → r ≡ advanced_from P image k
  unfolding advanced_from
  advanced_within s t d a r = r ∙ rw (d, a) (sym (cond_true _ _ _ s ∙ cond_false _ _ _ t))

-- the FIFO of external speech
pub external_fifo : (k : Control) → k.mode ≡ External → control_valid k ≡ true
    → (0 < k.fifo.level) × (k.fifo.level ≤ fifo_size) × (k.fifo.used_bits ≤ 7)
external_fifo k m v =
    let r = mode_ranges External k.fifo (subst (λ (m : Mode). fifo_valid m k.fifo ≡ true) m (control_ranges k v).fifo) in
    (r.at_least, r.at_most, r.used_bits)

pub fifo_frame : FifoFrame
fifo_frame P image k i v h = ap (from_fifo k) ((held_frame _ P k.fifo i _ (valid_fits External k.fifo v)).1 (h.0, h.1, refl))

pub fifo_ends : FifoEnds
fifo_ends P image k v none = ap (from_fifo k) ((held_cut _ P k.fifo (valid_fits External k.fifo v)).1 (λ i p b. none i (p, b)))

-- how short the image is where a step runs out, by what is read and by the mode
module _ (P : ℕ) (image : List ℕ) (k : Control) where
  abbrev Tells : Moved → Type 0
  Tells d = d.report ≡ RanOut → d.details ≡ out_of_rom (short_at (form_of P k) image k.address.position)

  tells_read : (x : ItemAnswer Item) → read_item (form_of P k) image k.address.position ≡ x → Tells (from_rom image k x)
  tells_read (whole (q, f) next) w e = absurd (frame_not_out f e)
  tells_read (cut h) w e = ap out_of_rom (prefixed_cut (prefix_bits (rate_of k.device)) P image k.address.position w)

  tells_boundary : (m : Mode) → (m ≡ External → ⊥) → Tells (boundary_in P m image k)
  tells_boundary Idle n e = absurd (nothing_not_out e)
  tells_boundary Rom n e = tells_read (read_item (form_of P k) image k.address.position) refl e
  tells_boundary Waiting n e = absurd (nothing_not_out e)
  tells_boundary External n e = absurd (n refl)

  tells_advanced : (k.mode ≡ External → ⊥) → Tells (advanced_from P image k)
  unfolding advanced_from
  tells_advanced n =
      either_way k.clock.sounding
      (λ o. either_way (frame_begins k.clock)
      (λ b. subst Tells (sym (cond_true _ _ _ o ∙ cond_true _ _ _ b)) (tells_boundary k.mode n))
      (λ b. subst Tells (sym (cond_true _ _ _ o ∙ cond_false _ _ _ b)) (λ e. absurd (nothing_not_out e))))
      (λ o. subst Tells (sym (cond_false _ _ _ o)) (λ e. absurd (nothing_not_out e)))

pub rom_ends : RomEnds
rom_ends P image k n = tells_advanced P image (less_busy 1 k) n
