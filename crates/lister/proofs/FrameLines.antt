-- The line of a frame, by its kind.
-- Assumes nothing.
use Rattle.std.proofs.Common.{◌≡◌, ℕ, ◌^◌, ◌≤◌, ◌<◌, List, [], ◌∷◌, ◌++◌, length, Option, Some, None, ap, ◌∙◌, append_assoc, length-append, arith}
use Rattle.rom.specs.Frames.{numbers_of}
use Rattle.rom.specs.declared.frames.Frame.{Frame}
use Rattle.rom.specs.declared.frames.Frame.TheVariants.{Silence, Stop, Repeat, Unvoiced, Voiced}
use Rattle.lister.specs.Text.{codes, digits_of, decimal, contents, appended}
use Rattle.lister.specs.Lines.{kind_word, pitch_text, k_count, indexes, frame_line}
use Rattle.lister.specs.declared.text.Text.{Text}
use Rattle.lister.proofs.Decimals.{decimal_length}
use Rattle.lister.proofs.Texts.{Holds, holds_more, holds_all}

-- what follows the first bit and a space
abbrev pub frame_text : Option Frame → List ℕ
frame_text None = codes "none 0 -"
frame_text (Some Silence) = codes "silence 0 -"
frame_text (Some Stop) = codes "stop 15 -"
frame_text (Some (Repeat e p)) = codes "repeat" ++ indexes (e ∷ p ∷ [])
frame_text (Some (Unvoiced e k1 k2 k3 k4)) = codes "unvoiced" ++ indexes (e ∷ 0 ∷ k1 ∷ k2 ∷ k3 ∷ k4 ∷ [])
frame_text (Some (Voiced e p k1 k2 k3 k4 k5 k6 k7 k8 k9 k10)) =
    codes "voiced" ++ indexes (e ∷ p ∷ k1 ∷ k2 ∷ k3 ∷ k4 ∷ k5 ∷ k6 ∷ k7 ∷ k8 ∷ k9 ∷ k10 ∷ [])

pub found : {o : Option Frame} {x f : Frame} → o ≡ Some x → x ≡ f → o ≡ Some f
found e k = e ∙ ap Some k

frame_line_is : (first : ℕ) (f : Option Frame) → decimal first ++ codes " " ++ frame_text f ++ codes "\n" ≡ frame_line first (numbers_of f)
unfolding frame_line kind_word pitch_text k_count indexes decimal digits_of
frame_line_is first None = simp append_assoc
frame_line_is first (Some Silence) = simp append_assoc
frame_line_is first (Some Stop) = simp append_assoc
frame_line_is first (Some (Repeat e p)) = simp append_assoc
frame_line_is first (Some (Unvoiced e k1 k2 k3 k4)) = simp append_assoc
frame_line_is first (Some (Voiced e p k1 k2 k3 k4 k5 k6 k7 k8 k9 k10)) = simp append_assoc

-- the line is whole: it has room in a text
pub frame_line_held : {first : ℕ} {u : Text} (f : Option Frame) (r : Text) → first < 2 ^ 64 → Holds u (decimal first ++ codes " " ++ frame_text f)
    → length (frame_text f) ≤ 58 → contents r ≡ appended u (codes "\n")
    → contents r ≡ frame_line first (numbers_of f)
frame_line_held {first} f r h t l e =
    let d = decimal_length 19 first (omega arith) in
    holds_all (holds_more _ t e) (simp length-append (omega arith)) ∙ frame_line_is first f
