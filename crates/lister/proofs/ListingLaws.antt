-- The listing's first line, by its cases.
-- Assumes nothing.
use Rattle.std.proofs.Common.{◌≡◌, ℕ, ◌*◌, ◌^◌, ◌≤◌, ◌<◌, List, ◌++◌, length, Result, Ok, Err, ap, ◌∙◌, append-nil, arith}
use borrow.Author.Tests.{lt-ltb, le-ltb, ne_eqb, ltb-true, ltb-false}
use lib.Dec.{ltb}
use Rattle.base.specs.Answers.{number_of}
use Rattle.base.specs.Refusals.{TAKEN, IMAGE}
use Rattle.base.specs.declared.refusal.Refusal.{Refusal}
use Rattle.base.specs.declared.refusal.Refusal.TheVariants.{Image}
use Rattle.rom.specs.Frames.{pitch_width}
use Rattle.rom.specs.Phrases.{Walked, frames_at, walk_of, walk_answer, phrase_of}
use Rattle.rom.specs.declared.phrases.Extent.{Extent}
use Rattle.lister.specs.Lines.{phrase_line, refused_line, walk_line}
use Rattle.lister.specs.declared.asked.Asked.{Asked}
use Rattle.lister.specs.Listing.{lines_of, lines_from, listing_of}
use Rattle.base.proofs.Booleans.{either_way}
use Rattle.base.proofs.Refused.{refused_not_taken}
use Rattle.rom.proofs.Checks.{valid_length}
use Rattle.rom.proofs.Theorems.{phrase_inside, walk_accepts, walk_counts}
use Rattle.lister.proofs.PhraseLines.{lines_are, frames_found}

module _ (q : Asked) (s : List ℕ) where
  pub listing_long : q.most < length s → listing_of q s ≡ refused_line IMAGE
  unfolding listing_of
  listing_long h = rw (lt-ltb q.most (length s) h)

  -- what the walk that is asked for answers
  pub record Answers (answer : Result Extent Refusal) : Type 0 where
    pub long : q.most < length s → answer ≡ Err Image
    pub taken : length s ≤ q.most → walk_answer answer ≡ walk_of pitch_width s q.address

  -- it takes no image that is too long
  taken_fits : {e : Extent} → Answers (Ok e) → length s ≤ q.most
  taken_fits w = either_way (ltb q.most (length s)) (λ t. absurd (let z = w.long (ltb-true q.most (length s) t) in cc)) (λ t. ltb-false q.most (length s) t)

  pub listing_refused : (r : Refusal) → Answers (Err r) → listing_of q s ≡ walk_line (walk_answer (Err r))
  unfolding listing_of walk_line
  listing_refused r w =
      either_way (ltb q.most (length s))
      (λ t. let i : r ≡ Image = let z = w.long (ltb-true q.most (length s) t) in cc in rw (t, i))
      (λ t. rw (t, ← w.taken (ltb-false q.most (length s) t), ne_eqb (number_of r) TAKEN (refused_not_taken r)))

  module _ (e : Extent) (w : Answers (Ok e)) where
    accepted : (walk_of pitch_width s q.address).refusal ≡ TAKEN
    accepted = rw (← w.taken (taken_fits w))

    -- the first bit of a phrase fits a usize
    pub first_fits : 8 * q.address < 2 ^ 64
    first_fits =
        let p = (walk_accepts pitch_width s q.address).0 accepted in
        omega (arith, phrase_inside pitch_width s q.address p.1.1, (valid_length s p.0).1)

    pub listing_phrase : {lines : ℕ} {part text : List ℕ} → lines ≡ e.frames.0 → part ≡ phrase_of pitch_width s q.address
        → text ≡ phrase_line lines e.bits (length part)
        → text ++ lines_from s (8 * q.address) lines ≡ listing_of q s
    unfolding listing_of
    listing_phrase {lines} {part} {text} n p t =
        let a = q.address in
        let h = taken_fits w in
        let walked = (walk_accepts pitch_width s a).0 accepted in
        let fs = walked.1.0 in
        let phrase = walked.1.1 in
        let counts = w.taken h ∙ walk_counts pitch_width s a fs walked.0 phrase in
        let count : e.frames.0 ≡ length fs = ap (λ (v : Walked). v.frames.0) counts in
        let same : lines_from s (8 * a) e.frames.0 ≡ lines_of (8 * a) (frames_at pitch_width s a) =
        rw (count, frames_found s a fs phrase) (lines_are s walked.0 (8 * a) fs phrase.encoded.proper phrase.encoded.begins) in
        rw (t, n, p, le-ltb q.most (length s) h, same, ← w.taken h)

-- a line that no frame line follows is the whole listing
pub line_alone : (s : List ℕ) (bit : ℕ) {text line all : List ℕ} → text ≡ line → all ≡ line → text ++ lines_from s bit 0 ≡ all
unfolding lines_from
line_alone s bit {text} {line} {all} l e = rw (l, e) (append-nil line)
