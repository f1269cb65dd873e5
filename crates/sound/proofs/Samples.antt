-- A sample of the pieces of a sound; and the ranges that a sample and an interpolation keep.
-- Assumes nothing.
use mathlib.Core.Path.{◌≡◌, ap, ◌∙◌}
use mathlib.Core.Bool.{Bool}
use mathlib.Core.List.{List}
use Prim.Native.Nat.{ℕ, ◌+◌, ◌%◌, ◌^◌, ◌≤◌, ◌<◌}
use native.Mathlib.Omega.{arith}
use borrow.Author.Tests.{leb-false}
use lib.Dec.{eqb, leb}
use lib.IntN.{ℤ, pos, negsuc, ◌*ℤ◌}
use lib.Signed.{mag, shr_z}
use mir.Syntax.{w16, w32}
use mir.Val.{to_z, of_z}
use Rattle.base.specs.Range.{Between}
use Rattle.base.specs.declared.units.Intervals.{Intervals}
use Rattle.base.proofs.Booleans.{by_test}
use Rattle.base.proofs.Range.{product, read, passed, back_at}
use Rattle.voice.proofs.Valid.{pulse_range}
use Rattle.filter.specs.Filter.{forward, new_memory}
use Rattle.filter.specs.Ranges.{TenBetween}
use Rattle.filter.proofs.Ranges.{memory_range}
use Rattle.sound.specs.Interpolation.{divisor, keeps_current, interpolated}
use Rattle.sound.specs.Noise.{next_noise}
use Rattle.sound.specs.Pulse.{pulse_max, next_pulse}
use Rattle.sound.specs.Sample.{excitation_of, excitation_unit, input_of, value_of, renewed, sampled, sound_step}
use Rattle.sound.specs.Targets.{is_voiced}
use Rattle.sound.specs.declared.sample.Sampled.{Sampled}
use Rattle.sound.specs.declared.state.Sound.{Sound}
use Rattle.sound.proofs.Ranges.{toward_between, toward_each_between}
use Rattle.sound.proofs.Taps.{noise_range}
use Rattle.sound.proofs.Validity.{SoundRanges, with_current_lem, with_memory_lem, with_noise_lem, with_pulse_lem}

-- ---- the ranges of a sample's parts

pub excitation_range : (P : ℕ) (file : List ℕ) (voiced : Bool) (place noise : ℕ) → Between 128 127 (excitation_of P file voiced place noise)
excitation_range P file voiced place noise =
    by_test (Between 128 127) voiced (λ v. pulse_range P file place)
    (λ u. by_test (Between 128 127) (eqb (noise % 2) 1) (λ odd. omega arith) (λ even. omega arith))

pub input_range : {energy excitation : ℤ} → Between 0 1023 energy → Between 128 127 excitation → Between 8192 8191 (input_of energy excitation)
input_range {energy} {excitation} h k = divided (energy *ℤ excitation) (product h k)
  where
    -- 1023 × 128 / 64 is 2046
    divided : (z : ℤ) → Between 130944 130944 z → Between 8192 8191 (shr_z z excitation_unit)
    divided (pos a) b = omega arith
    divided (negsuc a) b = omega arith

-- the place stays below a pitch of at most 1023
place_range : (place : ℕ) {pitch : ℤ} → Between 0 1023 pitch → place ≤ pulse_max → next_pulse place pitch ≤ pulse_max
place_range place {pitch = pos q} h l =
    by_test (λ (n : ℕ). n ≤ pulse_max) (leb q (place + 1)) (λ e. omega arith) (λ e. omega (arith, leb-false q (place + 1) e))
place_range place {pitch = negsuc q} h l = omega arith

-- ---- a sample, of its pieces

module _ (P : ℕ) (file : List ℕ) (s : Sound) where
  abbrev input : ℤ
  input = input_of s.current.energy (excitation_of P file (is_voiced s.target) s.pulse s.noise)

  -- what the calls of a sample give
  pub record SampleParts (v : ℤ) (m : List ℤ) (n p : ℕ) : Type 0 where
    pub value : v ≡ value_of (forward s.current.k s.memory input)
    pub memory : m ≡ new_memory s.current.k s.memory input
    pub noise : n ≡ next_noise s.noise
    pub pulse : p ≡ next_pulse s.pulse s.current.pitch

  pub sampled_is : {v : ℤ} {m : List ℤ} {n p : ℕ} → SampleParts v m n p → ◌≡◌ {A = Sampled} (record { sound = renewed m n p s; value = v }) (sampled P file s)
  unfolding sampled
  sampled_is h = rw (h.value, h.memory, h.noise, h.pulse)

  pub step_is : {v : ℤ} {m : List ℤ} {n p : ℕ} → SampleParts v m n p → (renewed m n p s, v) ≡ sound_step P file s
  step_is h = ap (λ (r : Sampled). (r.sound, r.value)) (sampled_is h)

  -- the calls of a sample: a number that is passed or given is read as an i32 or an i16
  module _ (h : SoundRanges s) {voiced : Bool} {x : ℤ} (e : voiced ≡ is_voiced s.target) (is : x ≡ excitation_of P file voiced s.pulse s.noise) where
    excited : Between 128 127 x
    excited = rw is (excitation_range P file voiced s.pulse s.noise)

    abbrev read_input : ℤ
    read_input = input_of (to_z w32 (of_z w32 s.current.energy)) (to_z w32 (of_z w32 x))

    pub filtered_takes : TenBetween 512 511 s.current.k × TenBetween 8192 8191 s.memory × Between 0 1023 (to_z w32 (of_z w32 s.current.energy)) × Between 128 127 (to_z w32 (of_z w32 x))
    filtered_takes = (h.current.k, h.memory, passed tt h.current.energy, passed tt excited)

    pub parts : {v : ℤ} {m : List ℤ} {n p : ℕ} → mag v < 2 ^ 15 → v ≡ value_of (forward s.current.k s.memory read_input) → m ≡ new_memory s.current.k s.memory read_input
        → n ≡ next_noise s.noise → p ≡ next_pulse s.pulse (to_z w32 (of_z w32 s.current.pitch)) → SampleParts (to_z w16 (of_z w16 v)) m n p
    parts {v} f value memory noise pulse =
        let same : read_input ≡ input = rw (read tt h.current.energy, read tt excited, is, e) in
        record {
          value = back_at w16 v f ∙ rw same at value;
          memory = rw same at memory;
          noise = noise;
          pulse = rw (read tt h.current.pitch) at pulse;
        }

  pub sampled_ranges : SoundRanges s → SoundRanges (sampled P file s).sound
  unfolding sampled
  sampled_ranges h =
      let n = noise_range s.noise h.noise_low h.noise_high in
      let p = place_range s.pulse h.current.pitch h.pulse in
      with_memory_lem (with_noise_lem (with_pulse_lem h p) n.0 n.1) (memory_range s.current.k s.memory input h.current.k.size h.memory.size)

-- ---- an interpolation

pub interpolated_ranges : (interval : Intervals) {s : Sound} → SoundRanges s → SoundRanges (interpolated interval s)
unfolding interpolated
interpolated_ranges interval {s} h =
    let d = divisor interval in
    by_test SoundRanges (keeps_current interval s) (λ kept. h)
    (λ moved.
    with_current_lem h
    (record {
      energy = toward_between d h.current.energy h.target.energy;
      pitch = toward_between d h.current.pitch h.target.pitch;
      k = toward_each_between d h.current.k h.target.k;
    }))
