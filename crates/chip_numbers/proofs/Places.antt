-- Where the parts of a chip stand among its numbers.
-- Assumes nothing.
use mathlib.Core.Path.{◌≡◌, refl, sym, ap, ◌∙◌}
use mathlib.Core.List.{List, ◌++◌, map}
use Prim.Native.Nat.{ℕ, suc, ◌+◌, ◌-◌}
use native.Mathlib.Omega.{arith}
use lib.IntN.{ℤ, pos}
use lib.ListN.{length, drop, length-map, length-drop}
use lib.Seq.{drop-drop, drop_at, get_or-drop}
use Rattle.chip_numbers.specs.Types.{Chip}
use Rattle.chip_numbers.specs.Chips.{chip_length}
use Rattle.chip_numbers.specs.Fields.{clock_numbers, later_numbers, param_numbers, nth, numbers_by}

-- number i, which is number j of what stands in a list from number m on
pub place : (s xs : List ℤ) (m j i : ℕ) → i ≡ m + j → drop m s ≡ xs → nth s i ≡ nth xs j
place s xs m j i h e = ap (nth s) h ∙ sym (get_or-drop m s j (pos 0)) ∙ ap (λ l. nth l j) e

-- past a part of n numbers from number m on
further : (s xs ys : List ℤ) (m n : ℕ) → length xs ≡ n → drop m s ≡ xs ++ ys → drop (m + n) s ≡ ys
further s xs ys m n h e = sym (drop-drop n m s) ∙ ap (drop n) e ∙ drop_at xs ys n h

module _ (w : ℕ → ℤ) (c : Chip) where
  abbrev pub bytes : List ℤ
  bytes = map w c.control.fifo.bytes

  abbrev pub clock : List ℤ
  clock = map w (clock_numbers c.control.clock c.sound.noise c.sound.pulse)

  abbrev pub current : List ℤ
  current = param_numbers c.sound.current

  abbrev pub target : List ℤ
  target = param_numbers c.sound.target

  abbrev pub later : List ℤ
  later = map w (later_numbers c)

  abbrev from_memory : List ℤ
  from_memory = c.sound.memory ++ later

  abbrev from_target : List ℤ
  from_target = target ++ from_memory

  abbrev from_current : List ℤ
  from_current = current ++ from_target

  abbrev from_clock : List ℤ
  from_clock = clock ++ from_current

  pub bytes_at : drop 8 (numbers_by w c) ≡ bytes ++ from_clock
  unfolding numbers_by
  bytes_at = refl

  module _ (sixteen : length c.control.fifo.bytes ≡ 16) where
    pub clock_at_lem : drop 24 (numbers_by w c) ≡ from_clock
    clock_at_lem = further (numbers_by w c) bytes from_clock 8 16 (length-map c.control.fifo.bytes w ∙ sixteen) bytes_at

    pub current_at : drop 29 (numbers_by w c) ≡ from_current
    current_at = further (numbers_by w c) clock from_current 24 5 refl clock_at_lem

    module _ (k : length c.sound.current.k ≡ 10) where
      pub target_at : drop 41 (numbers_by w c) ≡ from_target
      target_at = further (numbers_by w c) current from_target 29 12 (ap (λ n. suc (suc n)) k) current_at

      module _ (k' : length c.sound.target.k ≡ 10) where
        pub memory_at : drop 53 (numbers_by w c) ≡ from_memory
        memory_at = further (numbers_by w c) target from_memory 41 12 (ap (λ n. suc (suc n)) k') target_at

        module _ (ten : length c.sound.memory ≡ 10) where
          pub later_at : drop 63 (numbers_by w c) ≡ later
          later_at = further (numbers_by w c) c.sound.memory later 53 10 ten memory_at

          pub state_length_lem : length (numbers_by w c) ≡ chip_length
          state_length_lem =
              let n : length (numbers_by w c) - 63 ≡ 6 = sym (length-drop 63 (numbers_by w c)) ∙ ap length later_at in
              omega arith
