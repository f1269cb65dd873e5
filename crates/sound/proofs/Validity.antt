-- The tests of a valid sound and of the sound at rest, as ranges.
-- Assumes nothing.
use mathlib.Core.Path.{◌≡◌, refl, ap, ap₂}
use mathlib.Core.Bool.{Bool, true, not}
use mathlib.Core.List.{List, [], ◌∷◌}
use Prim.Native.Nat.{ℕ, zero, suc, ◌≤◌}
use native.Mathlib.Omega.{arith}
use borrow.Author.Tests.{not-true, leb-true, le-leb, eqb-true, eq-eqb}
use lib.Dec.{eqb, leb}
use lib.IntN.{ℤ, pos, negsuc, neg_ℤ}
use lib.ListN.{length, get_or, replicate}
use Rattle.base.specs.Range.{Between, inside, all_inside}
use Rattle.base.proofs.Booleans.{both_true, all_true, conj_true}
use Rattle.base.proofs.Range.{tested, testing, all_tested, all_testing}
use Rattle.filter.specs.Ranges.{stages, ten_inside, TenBetween}
use Rattle.sound.specs.Noise.{noise_max}
use Rattle.sound.specs.Pulse.{pulse_max}
use Rattle.sound.specs.State.{with_current, with_target, with_memory, with_noise, with_pulse, with_hold, params_inside, params_valid, memory_valid, noise_valid, pulse_valid, sound_valid, rest_params, rest_sound, zero_params, at_rest}
use Rattle.sound.specs.declared.params.Params.{Params}
use Rattle.sound.specs.declared.state.Sound.{Sound}

-- ---- ranges and lengths

-- energy and pitch in 0..top, ten K in -n..p
pub record ParamsBetween (top n p : ℕ) (v : Params) : Type 0 where
  pub energy : Between 0 top v.energy
  pub pitch : Between 0 top v.pitch
  pub k : TenBetween n p v.k

pub record SoundRanges (s : Sound) : Type 0 where
  pub current : ParamsBetween 1023 512 511 s.current
  pub target : ParamsBetween 1023 512 511 s.target
  pub memory : TenBetween 8192 8191 s.memory
  pub noise_low : 1 ≤ s.noise
  pub noise_high : s.noise ≤ noise_max
  pub pulse : s.pulse ≤ pulse_max

-- a part in its range keeps the sound in its ranges
module _ {s : Sound} (h : SoundRanges s) where
  pub with_current_lem : {c : Params} → ParamsBetween 1023 512 511 c → SoundRanges (with_current c s)
  with_current_lem r = record { current = r; target = h.target; memory = h.memory; noise_low = h.noise_low; noise_high = h.noise_high; pulse = h.pulse }

  pub with_target_lem : {t : Params} → ParamsBetween 1023 512 511 t → SoundRanges (with_target t s)
  with_target_lem r = record { current = h.current; target = r; memory = h.memory; noise_low = h.noise_low; noise_high = h.noise_high; pulse = h.pulse }

  pub with_memory_lem : {m : List ℤ} → TenBetween 8192 8191 m → SoundRanges (with_memory m s)
  with_memory_lem r = record { current = h.current; target = h.target; memory = r; noise_low = h.noise_low; noise_high = h.noise_high; pulse = h.pulse }

  pub with_noise_lem : {n : ℕ} → 1 ≤ n → n ≤ noise_max → SoundRanges (with_noise n s)
  with_noise_lem l r = record { current = h.current; target = h.target; memory = h.memory; noise_low = l; noise_high = r; pulse = h.pulse }

  pub with_pulse_lem : {p : ℕ} → p ≤ pulse_max → SoundRanges (with_pulse p s)
  with_pulse_lem r = record { current = h.current; target = h.target; memory = h.memory; noise_low = h.noise_low; noise_high = h.noise_high; pulse = r }

  pub with_hold_lem : {b : Bool} → SoundRanges (with_hold b s)
  with_hold_lem = record { current = h.current; target = h.target; memory = h.memory; noise_low = h.noise_low; noise_high = h.noise_high; pulse = h.pulse }

-- ---- each test is its range

module _ (n p : ℕ) where
  ten_tested : (zs : List ℤ) → ten_inside (neg_ℤ (pos n)) (pos p) zs ≡ true → TenBetween n p zs
  ten_tested zs e =
      let t = both_true (eqb (length zs) stages) (all_inside (neg_ℤ (pos n)) (pos p) zs) e in
      record { size = eqb-true (length zs) stages t.0; each = all_tested n p zs t.1 }

  ten_testing : {zs : List ℤ} → TenBetween n p zs → ten_inside (neg_ℤ (pos n)) (pos p) zs ≡ true
  ten_testing {zs} h = rw (eq-eqb (length zs) stages h.size) (all_testing n p zs h.each)

  module _ (top : ℕ) where
    -- the tests of `params_inside`
    abbrev params_tests : Params → List Bool
    params_tests v = inside (pos 0) (pos top) v.energy ∷ inside (pos 0) (pos top) v.pitch ∷ ten_inside (neg_ℤ (pos n)) (pos p) v.k ∷ []

    pub params_tested : (v : Params) → params_inside (pos top) (neg_ℤ (pos n)) (pos p) v ≡ true → ParamsBetween top n p v
    params_tested v e =
        let t = all_true (params_tests v) e in
        record { energy = tested 0 top v.energy t.0; pitch = tested 0 top v.pitch t.1.0; k = ten_tested v.k t.1.1.0 }

    pub params_testing : {v : Params} → ParamsBetween top n p v → params_inside (pos top) (neg_ℤ (pos n)) (pos p) v ≡ true
    params_testing {v} h = conj_true (params_tests v) (testing 0 top h.energy, (testing 0 top h.pitch, (ten_testing h.k, tt)))

-- the tests of `sound_valid`
abbrev sound_tests : Sound → List Bool
sound_tests s = params_valid s.current ∷ params_valid s.target ∷ memory_valid s ∷ noise_valid s ∷ pulse_valid s ∷ []

-- a valid sound has its ranges and lengths
pub ranges : (s : Sound) → sound_valid s ≡ true → SoundRanges s
unfolding sound_valid
ranges s e =
    let t = all_true (sound_tests s) e in
    let n = both_true (leb 1 s.noise) (leb s.noise noise_max) t.1.1.1.0 in
    record {
      current = params_tested 512 511 1023 s.current t.0;
      target = params_tested 512 511 1023 s.target t.1.0;
      memory = ten_tested 8192 8191 s.memory t.1.1.0;
      noise_low = leb-true 1 s.noise n.0;
      noise_high = leb-true s.noise noise_max n.1;
      pulse = leb-true s.pulse pulse_max t.1.1.1.1.0;
    }

-- its currents and targets are valid
pub params_valid_lem : {s : Sound} → SoundRanges s → (params_valid s.current ≡ true) × (params_valid s.target ≡ true)
params_valid_lem h = (params_testing 512 511 1023 h.current, params_testing 512 511 1023 h.target)

-- a sound with these ranges and lengths is valid
pub in_ranges : {s : Sound} → SoundRanges s → sound_valid s ≡ true
unfolding sound_valid
in_ranges {s} h =
    let p = params_valid_lem h in
    let n = conj_true (leb 1 s.noise ∷ leb s.noise noise_max ∷ []) (le-leb 1 s.noise h.noise_low, (le-leb s.noise noise_max h.noise_high, tt)) in
    conj_true (sound_tests s) (p.0, (p.1, (ten_testing 8192 8191 h.memory, (n, (le-leb s.pulse pulse_max h.pulse, tt)))))

-- ---- at rest exactly when equal to the sound at rest

zero_is : {z : ℤ} → Between 0 0 z → z ≡ pos 0
zero_is {z = pos a} h = ap pos (omega arith)
zero_is {z = negsuc a} h = absurd (omega arith)

zeros_are : (n : ℕ) (zs : List ℤ) → length zs ≡ n → ((i : ℕ) → Between 0 0 (get_or zs i (pos 0))) → zs ≡ replicate n (pos 0)
zeros_are zero [] e h = refl
zeros_are zero (z ∷ zs) e h = absurd (omega arith)
zeros_are (suc n) [] e h = absurd (omega arith)
zeros_are (suc n) (z ∷ zs) e h = ap₂ (λ (a : ℤ) (l : List ℤ). a ∷ l) (zero_is (h 0)) (zeros_are n zs (omega arith) (λ (i : ℕ). h (suc i)))

zero_params_lem : {v : Params} → ParamsBetween 0 0 0 v → v ≡ rest_params
zero_params_lem {v} h = λ i. record { energy = zero_is h.energy i; pitch = zero_is h.pitch i; k = zeros_are stages v.k h.k.size h.k.each i }

pub rest_is : (s : Sound) → at_rest s ≡ true → s ≡ rest_sound
unfolding at_rest
rest_is s e =
    let t = all_true (zero_params s.current ∷ zero_params s.target ∷ ten_inside (pos 0) (pos 0) s.memory ∷ eqb s.noise noise_max ∷ eqb s.pulse 0 ∷ not s.hold ∷ []) e in
    let ten = ten_tested 0 0 s.memory t.1.1.0 in
    λ i. record {
      current = zero_params_lem (params_tested 0 0 0 s.current t.0) i;
      target = zero_params_lem (params_tested 0 0 0 s.target t.1.0) i;
      memory = zeros_are stages s.memory ten.size ten.each i;
      noise = eqb-true s.noise noise_max t.1.1.1.0 i;
      pulse = eqb-true s.pulse 0 t.1.1.1.1.0 i;
      hold = not-true s.hold t.1.1.1.1.1.0 i;
    }
