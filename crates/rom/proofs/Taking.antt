-- What taking a frame at a bit returns, by the checks and the frame answer.
-- Assumes nothing.
use mathlib.Core.Path.{◌≡◌, refl, sym, ap, ◌∙◌}
use mathlib.Core.List.{List}
use Prim.Native.Nat.{ℕ, ◌+◌, ◌*◌, ◌-◌, ◌/◌, ◌≤◌}
use native.Mathlib.Omega.{arith}
use lib.Dec.{leb}
use lib.ListN.{length}
use Rattle.base.proofs.Faults.{answered, refused_with}
use Rattle.rom.specs.Bits.{field, image_fault}
use Rattle.rom.specs.Frames.{bit_count, numbers_of}
use Rattle.base.specs.Answers.{number_of, no_shortfall}
use Rattle.base.specs.declared.refusal.Refusal.{Refusal}
use Rattle.base.proofs.Refused.{refused_not_taken, uncut}
use Rattle.rom.specs.Reader.{FrameAnswer, FrameTaken, frame_from, frame_at, no_frame, taken_answer, frame_taken_of}
use Rattle.rom.specs.declared.frames.Frame.{Frame}
use Rattle.rom.specs.declared.reader.Taken.{Taken}
use Rattle.rom.specs.Form.{Form, plain_form, read_item, rated_answer, rated_taken_answer}
use Rattle.rom.specs.Prefix.{with_prefix}
use Rattle.std.specs.Prelude.{Some, Result, Ok, Err, IfOk}
use Rattle.rom.proofs.Checks.{bit_beyond, image_uncut}
use Rattle.rom.proofs.Walking.{read_is}
use Rattle.rom.proofs.WholeFrame.{whole_frame_lem}
use Rattle.rom.proofs.Plain.{plain_read, unrated, plain_answer, plain_rate}

-- what is equal has frames of equal numbers
pub with_numbers : {r t : FrameTaken} → r ≡ t → (r ≡ t) × (numbers_of r.frame ≡ numbers_of t.frame)
with_numbers e = (e, ap (λ x. numbers_of x.frame) e)

-- an answer without its rate
unrated_is : (r : Result Taken Refusal) → taken_answer r ≡ unrated (rated_taken_answer r)
unrated_is (Ok t) = refl
unrated_is (Err x) = refl

no_rate : (r : Result Taken Refusal) → (rated_taken_answer r).rate ≡ 0 → IfOk r (λ t. t.rate ≡ 0)
no_rate (Ok t) e = e
no_rate (Err x) e = tt

module _ (P : ℕ) (s : List ℕ) (bit : ℕ) where
  fault_is : {n : ℕ} → n ≡ image_fault s (leb (length s) (bit / 8)) → n ≡ image_fault s (leb (8 * length s) bit)
  fault_is e = e ∙ ap (image_fault s) (bit_beyond s bit)

  abbrev refused : ℕ → FrameTaken
  refused m = no_frame m no_shortfall

  pub take_refused : (r : Refusal) → number_of r ≡ image_fault s (leb (length s) (bit / 8)) → taken_answer (Err r) ≡ frame_taken_of P s bit
  unfolding frame_taken_of
  take_refused r e =
      refused_with (fault_is e) refused _ (refused_not_taken r)
      (ap (no_frame (number_of r)) (uncut r (rw e (image_uncut s (leb (length s) (bit / 8))))))

  module _ (e : 0 ≡ image_fault s (leb (length s) (bit / 8))) (r : Result Taken Refusal)
      (a : rated_taken_answer r ≡ rated_answer (plain_form P) (read_item (plain_form P) s bit)) where
    -- by what the reader returns of a frame without a prefix
    read : rated_taken_answer r ≡ rated_answer (plain_form P) (with_prefix 0 (frame_at P s bit))
    read = a ∙ ap (rated_answer (plain_form P)) (plain_read P s bit)

    pub take_answered : taken_answer r ≡ frame_taken_of P s bit
    unfolding frame_taken_of
    take_answered = answered (fault_is e) refused _ refl (unrated_is r ∙ ap unrated read ∙ plain_answer P (frame_at P s bit))

    pub take_unrated : IfOk r (λ t. t.rate ≡ 0)
    take_unrated = no_rate r (ap (λ t. t.rate) read ∙ plain_rate P (frame_at P s bit))

-- a whole item, from its prefix of p bits and its frame
pub item_taken : (F : Form) (s : List ℕ) (bit : ℕ) {p q n : ℕ} {a : FrameAnswer} {f : Frame} → p ≡ F.prefix → q ≡ field s bit p
    → a ≡ frame_from F.pitch s bit (bit + p) → a ≡ Ok (f, n)
    → (bit ≤ n) × (record { refusal = 0; rate = q; frame = Some f; bits = n - bit; short = no_shortfall } ≡ rated_answer F (read_item F s bit))
item_taken F s bit {p} {q} {n} {a} {f} ep eq ea w =
    let k = whole_frame_lem F.pitch s bit (bit + p) ea w in
    let b : n - bit ≡ F.prefix + bit_count F.pitch f = omega (arith, k.after_count, ep) in (
      omega (arith, k.further),
      rw b (ap (λ (x : FrameAnswer). rated_answer F (with_prefix q x)) (sym w) ∙ ap (rated_answer F) (sym (read_is F s bit ep eq ea))),
    )
