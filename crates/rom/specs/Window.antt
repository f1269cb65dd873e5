-- How a frame is read: its head in one number, and its K in another. No rule of document 01.
use Rattle.std.specs.Prelude.{◌≡◌, List, ℕ}
use Rattle.rom.specs.Bits.{field}

-- the bits of a narrow window, as many as four bytes have from any bit of the first on, and of a wide one, as many as eight have
abbrev pub narrow : ℕ
narrow = 25

abbrev pub wide : ℕ
wide = 57

-- x is the window of w bits at bit `at` of the image s
abbrev pub Window : ℕ → List ℕ → ℕ → ℕ → Type 0
Window w s at x = x ≡ field s at w
