-- A small voice file for worked examples.
use Rattle.std.specs.Prelude.{List, [], ◌∷◌, ◌++◌, ℕ, replicate}

-- a valid voice file: length 497, version 1; 15 energies and the first pitch 0, 63 pitches of 257, K values 0; one pulse, of 64
unfoldable pub voice : List ℕ
voice = (0x01 ∷ 0xF1 ∷ 1 ∷ []) ++ replicate 32 0 ++ replicate 126 1 ++ replicate 336 0 ++ (1 ∷ 64 ∷ [])
