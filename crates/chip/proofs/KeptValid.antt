-- A valid chip stays valid, on the bus and in its steps.
-- Assumes nothing.
use mathlib.Core.Path.{◌≡◌, refl}
use mathlib.Core.Bool.{true, false}
use mathlib.Core.List.{List}
use Prim.Native.Nat.{ℕ}
use Rattle.base.proofs.Booleans.{by_test}
use Rattle.base.proofs.Faults.{by_fault}
use Rattle.sound.specs.declared.state.Sound.{Sound}
use Rattle.sound.specs.State.{sound_valid, at_rest}
use Rattle.control.specs.Validity.{port_valid, control_valid}
use Rattle.control.specs.Status.{no_data, acknowledged_port}
use Rattle.control.proofs.Ranges.{ControlRanges, control_ranges, control_in_ranges, port_ranges, port_in_ranges}
use Rattle.bus.specs.Accept.{accepted}
use Rattle.bus.proofs.Kept.{accept_keeps_valid, sounding_kept}
use Rattle.base.proofs.Steps.{after_keeps}
use Rattle.rom.specs.Frames.{pitch_width}
use Rattle.rom.proofs.Checks.{valid_length}
use Rattle.voice.specs.Check.{voice_fault, version}
use Rattle.sound.proofs.Laws.{stays_valid}
use Rattle.reports.specs.Reports.{Playable}
use Rattle.speech.specs.Advance.{advanced}
use Rattle.speech.proofs.Kept.{Sounds, Kept, advanced_kept}
use Rattle.play.specs.Play.{sounded}
use Rattle.chip.specs.Types.{Mode, Port, Chip, Written, Control, Action, Silent, Rest, Begin, Interpolate, Continue, Stepped, Ran}
use Rattle.chip.specs.Validity.{valid}
use Rattle.chip.specs.Write.{write_fault, not_written, after_byte, write_of}
use Rattle.chip.specs.Read.{acknowledge_of, read_of}
use Rattle.chip.specs.Laws.{PowerUpValid, WriteKeepsValid, AcknowledgeKeepsValid, ReadKeepsValid, StepKeepsValid, RunKeepsValid}
use Rattle.chip.specs.Step.{step_taken, step_fault, not_stepped, step_of}
use Rattle.chip.specs.Run.{sample_step, not_run, run_of}
use Rattle.chip.proofs.Ranges.{ChipRanges, chip_ranges, in_ranges, at_rest_lem}
use Rattle.chip.proofs.BusCalls.{Found, found, look_keeps}
use Rattle.chip.proofs.Stepping.{Passed, passed, no_fault}

pub power_up_valid : PowerUpValid
unfolding valid control_valid sound_valid at_rest
power_up_valid o = (refl, refl)

-- ---- a byte written

module _ (image : List ℕ) (c : Chip) (b : ℕ) (f : Found image c b) where
  ranges : ChipRanges c
  ranges = chip_ranges c f.chip_valid

  control_kept : ControlRanges (accepted image c.control b).control
  control_kept =
      control_ranges _
      (accept_keeps_valid image c.control b f.image_valid_lem (control_in_ranges _ ranges.control) f.no_wait f.not_beyond)

  written_ranges : ChipRanges (after_byte c (accepted image c.control b))
  written_ranges =
      by_test (λ (s : Sound). ChipRanges (record { control = (accepted image c.control b).control; sound = s })) (accepted image c.control b).rests
      (λ e. at_rest_lem _ control_kept)
      (λ e. record { control = control_kept; sound = ranges.sound; quiet = rw (sounding_kept image c.control b e) ranges.quiet })

pub write_keeps_valid : WriteKeepsValid
unfolding write_of
write_keeps_valid image c b h =
    by_fault (λ (w : Written). valid w.chip ≡ true) (write_fault image c b) (not_written c) _
    (λ e. in_ranges _ (written_ranges image c b (found image c b e))) (λ r. h)

-- ---- an acknowledge and a read

acknowledged_valid : (m : Mode) (p : Port) → port_valid m p ≡ true → port_valid m (acknowledged_port p) ≡ true
acknowledged_valid m p h =
    let r = port_ranges m p h in
    by_test (λ (q : Port). port_valid m q ≡ true) p.pending
    (λ t. port_in_ranges m (no_data p) (record { pending = refl; byte = refl; busy = r.busy }))
    (λ t. port_in_ranges m (record { pending = p.pending; «data» = p.«data»; interrupt = false; busy = p.busy })
    (record { pending = r.pending; byte = r.byte; busy = r.busy }))

pub acknowledge_keeps_valid : AcknowledgeKeepsValid
unfolding acknowledge_of
acknowledge_keeps_valid c h =
    let r = chip_ranges c h in
    let k = r.control in
    rw h (in_ranges _ (record {
      control = record { address = k.address; fifo = k.fifo; port = acknowledged_valid c.control.mode c.control.port k.port; clock = k.clock; device = k.device };
      sound = r.sound;
      quiet = r.quiet;
    }))

pub read_keeps_valid : ReadKeepsValid
unfolding read_of
read_keeps_valid c h = acknowledge_keeps_valid _ (rw look_keeps h)

-- ---- a step

module _ (voice : List ℕ) (voiced : voice_fault pitch_width version voice ≡ 0) (c : Chip) (r : ChipRanges c) (k : Control) (h : ControlRanges k) where
  -- the chip after a step in which the control moves to k
  after_kept : (a : Action) → Sounds c.control.clock.sounding k.clock.sounding a → Playable pitch_width a
      → ChipRanges (record { control = k; sound = (sounded pitch_width voice a c.sound).sound })
  after_kept Silent e p = record { control = h; sound = r.sound; quiet = rw e r.quiet }
  after_kept Rest e p = at_rest_lem k h
  after_kept (Begin f i) e p =
      record {
        control = h;
        sound = stays_valid.sample pitch_width voice _ (stays_valid.interpolation i _ (stays_valid.targets pitch_width version voice f c.sound voiced p.0 r.sound));
        quiet = rw e;
      }
  after_kept (Interpolate i) e p =
      record { control = h; sound = stays_valid.sample pitch_width voice _ (stays_valid.interpolation i c.sound r.sound); quiet = rw e }
  after_kept Continue e p = record { control = h; sound = stays_valid.sample pitch_width voice c.sound r.sound; quiet = rw e }

module _ (image voice : List ℕ) (c : Chip) where
  module _ (p : Passed image voice c) where
    pub kept : Kept pitch_width c.control (advanced pitch_width image c.control)
    kept = advanced_kept pitch_width image (valid_length image p.image_valid_lem).1 c.control (chip_ranges c p.chip_valid).control

    pub step_taken_valid : valid (step_taken image voice c).chip ≡ true
    unfolding step_taken
    step_taken_valid =
        let d = advanced pitch_width image c.control in
        in_ranges _ (after_kept voice p.voice_valid c (chip_ranges c p.chip_valid) d.control kept.control d.action kept.sounds kept.playable)

  -- so the next step has no fault either
  pub goes_on : {r : Stepped} → step_fault image voice c ≡ 0 → r ≡ step_taken image voice c → step_fault image voice r.chip ≡ 0
  goes_on h r =
      let p = passed image voice c h in
      rw r (no_fault image voice _ (record { image_valid_lem = p.image_valid_lem; voice_valid = p.voice_valid; chip_valid = step_taken_valid p }))

pub step_keeps_valid : StepKeepsValid
unfolding step_of
step_keeps_valid image voice c h =
    by_fault (λ (r : Stepped). valid r.chip ≡ true) (step_fault image voice c) (not_stepped c) _
    (λ e. step_taken_valid image voice c (passed image voice c e)) (λ r. h)

pub run_keeps_valid : RunKeepsValid
unfolding run_of
run_keeps_valid image voice c n h =
    by_fault (λ (r : Ran). valid r.chip ≡ true) (step_fault image voice c) (not_run c) _
    (λ e. after_keeps (sample_step image voice) (λ (c : Chip). valid c ≡ true) (step_keeps_valid image voice) n h) (λ r. h)
