-- A step of the chip's control, of a chip that speaks from ROM or is idle, is a step of speech from ROM.
-- Assumes nothing.
use mathlib.Core.Path.{◌≡◌, refl, sym, ap, ◌∙◌, subst, subst₂}
use mathlib.Core.Bool.{true, false}
use mathlib.Core.List.{List}
use Prim.Native.Nat.{ℕ}
use native.Mathlib.Omega.{arith}
use Rattle.base.proofs.Booleans.{either_way, cond_true, cond_false}
use Rattle.rom.specs.Frames.{pitch_width, is_stop}
use Rattle.rom.specs.Items.{ItemAnswer, whole, cut}
use Rattle.clock.specs.Counters.{frame_begins}
use Rattle.rates.specs.Form.{Form, Item, read_item}
use Rattle.rates.specs.declared.rate.FrameRate.{FrameRate}
use Rattle.schedule.specs.Types.{tells_rated, Speech, Spoken}
use Rattle.schedule.specs.Speech.{by_answer, spoken}
use Rattle.schedule.proofs.Keeping.{spoken_silent, spoken_within, spoken_rests, spoken_reads}
use Rattle.control.specs.Device.{rate_of}
use Rattle.control.specs.State.{less_busy}
use Rattle.control.specs.Validity.{speaks}
use Rattle.control.specs.declared.state.Mode.{Mode}
use Rattle.control.specs.declared.state.Mode.TheVariants.{Idle, Rom, Waiting, External}
use Rattle.control.specs.declared.state.Control.{Control}
use Rattle.control.specs.declared.state.Port.{Port}
use Rattle.speech.specs.Advance.{from_rom, form_of, rested, boundary_in, advanced_from, advanced}
use Rattle.speech.specs.declared.advance.Moved.{Moved}
use Rattle.claims.specs.Device.{rated_form, mode_of}

-- what the control has of speech
abbrev pub speech_of : Control → Speech
speech_of k = record { talking = speaks k.mode; position = k.address.position; clock = k.clock }

-- neither external mode, no byte held, no data pending, not busy, and frames at the rate r
pub record Calm (r : FrameRate) (k : Control) : Type 0 where
  pub mode : k.mode ≡ mode_of (speaks k.mode)
  pub level : k.fifo.level ≡ 0
  pub pending : k.port.pending ≡ false
  pub busy : k.port.busy.0 ≡ 0
  pub rate : rate_of k.device ≡ r

pub not_external : {r : FrameRate} (k : Control) → Calm r k → k.mode ≡ External → ⊥
not_external k h e =
    let z : External ≡ Rom = sym e ∙ h.mode ∙ ap (λ (m : Mode). mode_of (speaks m)) e in
    let y : ◌≡◌ {A = ℕ} 0 1 = cc in
    absurd (omega arith)

-- the two agree, and the control stays calm
pub record Same (r : FrameRate) (d : Moved) (e : Spoken) : Type 0 where
  pub calm : Calm r d.control
  pub speech : speech_of d.control ≡ e.speech
  pub told : tells_rated d.details.rate d.report ≡ e.told

module _ (image : List ℕ) (r : FrameRate) (k : Control) (h : Calm r k) where
  -- the form of the device's frames
  abbrev form : Form
  form = form_of pitch_width k

  abbrev Moves : Type 0
  Moves = Same r (advanced_from pitch_width image k) (spoken form image (speech_of k))

  -- only the clock moves
  counts : {d : Moved} {e : Spoken} → advanced_from pitch_width image k ≡ d → spoken form image (speech_of k) ≡ e
      → k.mode ≡ d.control.mode → k.fifo.level ≡ d.control.fifo.level → k.port ≡ d.control.port
      → k.device ≡ d.control.device → speech_of d.control ≡ e.speech → tells_rated d.details.rate d.report ≡ e.told → Moves
  counts a b m l p v s t =
      subst₂ (Same r) (sym a) (sym b)
      (record {
        calm = record {
          mode = sym m ∙ h.mode ∙ ap (λ (x : Mode). mode_of (speaks x)) m;
          level = sym l ∙ h.level;
          pending = ap (λ (q : Port). q.pending) (sym p) ∙ h.pending;
          busy = ap (λ (q : Port). q.busy.0) (sym p) ∙ h.busy;
          rate = ap rate_of (sym v) ∙ h.rate;
        };
        speech = s;
        told = t;
      })

  by_answer_lem : k.mode ≡ Rom → (x : ItemAnswer Item) → Same r (from_rom image k x) (by_answer form image (speech_of k) x)
  by_answer_lem m (whole (q, f) next) =
      either_way (is_stop f)
      (λ e. record { calm = record { mode = rw e; level = rw e; pending = h.pending; busy = h.busy; rate = h.rate }; speech = rw e; told = refl })
      (λ e. record {
        calm = record { mode = rw (e, m); level = rw e h.level; pending = h.pending; busy = h.busy; rate = h.rate };
        speech = rw (e, m);
        told = refl;
      })
  by_answer_lem m (cut x) = record { calm = record { mode = refl; level = h.level; pending = h.pending; busy = h.busy; rate = h.rate }; speech = refl; told = refl }

  -- at a boundary, by the mode
  module _ (o : k.clock.sounding ≡ true) (b : frame_begins k.clock ≡ true) where
    at_boundary : {m : Mode} → k.mode ≡ m → advanced_from pitch_width image k ≡ boundary_in pitch_width m image k
    unfolding advanced_from
    at_boundary e = cond_true _ _ _ o ∙ cond_true _ _ _ b ∙ ap (λ (x : Mode). boundary_in pitch_width x image k) e

    resting : {m : Mode} → k.mode ≡ m → speaks m ≡ false → boundary_in pitch_width m image k ≡ rested k → Moves
    resting e n r =
        counts (at_boundary e ∙ r) (spoken_rests form image (speech_of k) o b (ap speaks e ∙ n)) refl refl refl refl refl refl

    boundary : (m : Mode) → k.mode ≡ m → Moves
    boundary Idle e = resting e refl refl
    boundary Rom e =
        subst₂ (Same r) (sym (at_boundary e)) (sym (spoken_reads form image (speech_of k) o b (ap speaks e)))
        (by_answer_lem e (read_item form image k.address.position))
    boundary Waiting e = resting e refl refl
    boundary External e = absurd (not_external k h e)

  by_device : Moves
  unfolding advanced_from
  by_device =
      either_way k.clock.sounding
      (λ o. either_way (frame_begins k.clock) (λ f. boundary o f k.mode refl)
      (λ f. counts (cond_true _ _ _ o ∙ cond_false _ _ _ f) (spoken_within form image (speech_of k) o f) refl refl refl refl refl refl))
      (λ o. counts (cond_false _ _ _ o) (spoken_silent form image (speech_of k) o) refl refl refl refl refl refl)

  by_rate : Same r (advanced_from pitch_width image k) (spoken (rated_form r) image (speech_of k))
  by_rate = subst (λ (x : FrameRate). Same r (advanced_from pitch_width image k) (spoken (rated_form x) image (speech_of k))) h.rate by_device

pub moves : (image : List ℕ) (r : FrameRate) (k : Control) → Calm r k → Same r (advanced pitch_width image k) (spoken (rated_form r) image (speech_of k))
moves image r k h =
    by_rate image r (less_busy 1 k) (record { mode = h.mode; level = h.level; pending = h.pending; busy = omega (arith, h.busy); rate = h.rate })
