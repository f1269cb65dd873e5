-- Laws of the parts of a line, and that each line fits a text.
-- Assumes nothing.
use Rattle.std.proofs.Common.{◌≡◌, ℕ, suc, ◌*◌, ◌^◌, ◌≤◌, ◌<◌, List, [], ◌∷◌, ◌++◌, length, get_or, Err, refl, sym, ap, append_assoc, append-nil, length-append, arith}
use Rattle.base.specs.Answers.{number_of}
use Rattle.base.specs.declared.refusal.Refusal.{Refusal}
use Rattle.base.specs.declared.refusal.Refusal.TheVariants.{Wait, Beyond, Image, State, VoiceSize, VoiceLength, VoiceVersion, VoiceValue, VoicePulse, NoPhrase}
use Rattle.base.specs.declared.refusal.Shortfall.{Shortfall}
use Rattle.rom.specs.Phrases.{walk_answer}
use Rattle.lister.specs.Text.{codes, decimal}
use Rattle.lister.specs.Lines.{indexes, phrase_line, refused_line, cut_line, walk_line}
use Rattle.lister.proofs.Decimals.{decimal_length}

-- one more index
pub indexes_more : (ks : List ℕ) (k : ℕ) → indexes (ks ++ (k ∷ [])) ≡ indexes ks ++ (codes " " ++ decimal k)
unfolding indexes
indexes_more [] k = ap (λ l. 32 ∷ l) (append-nil (decimal k))
indexes_more (j ∷ ks) k = rw (indexes_more ks k) (ap (λ l. 32 ∷ l) (sym (append_assoc (decimal j) (indexes ks) (32 ∷ decimal k))))

-- each index takes at most 4 bytes with its space
pub indexes_length : (ks : List ℕ) → ((i : ℕ) → get_or ks i 0 < 256) → length (indexes ks) ≤ 4 * length ks
unfolding indexes
indexes_length [] h = omega arith
indexes_length (k ∷ ks) h =
    let d = decimal_length 2 k (omega (arith, h 0)) in
    let r = indexes_length ks (λ i. h (suc i)) in
    rw length-append (omega arith)

-- the line of a refused walk that is not cut
pub walk_line_refused : (r : Refusal) → ((h : Shortfall) → r ≡ NoPhrase h → ⊥) → walk_line (walk_answer (Err r)) ≡ refused_line (number_of r)
unfolding walk_line
walk_line_refused Wait n = refl
walk_line_refused Beyond n = refl
walk_line_refused Image n = refl
walk_line_refused State n = refl
walk_line_refused VoiceSize n = refl
walk_line_refused VoiceLength n = refl
walk_line_refused VoiceVersion n = refl
walk_line_refused VoiceValue n = refl
walk_line_refused VoicePulse n = refl
walk_line_refused (NoPhrase h) n = absurd (n h refl)

pub refused_length : (n : ℕ) → n < 2 ^ 64 → length (refused_line n) ≤ 80
unfolding refused_line
refused_length n h = let d = decimal_length 19 n (omega arith) in simp length-append (omega arith)

pub cut_length : (begun missing : ℕ) → begun < 2 ^ 64 → missing < 2 ^ 64 → length (cut_line begun missing) ≤ 80
unfolding cut_line
cut_length begun missing b m =
    let db = decimal_length 19 begun (omega arith) in
    let dm = decimal_length 19 missing (omega arith) in
    simp length-append (omega arith)

pub phrase_length : (a b c : ℕ) → a < 2 ^ 32 → b < 2 ^ 64 → c < 2 ^ 64 → length (phrase_line a b c) ≤ 80
unfolding phrase_line
phrase_length a b c ha hb hc =
    let da = decimal_length 9 a (omega arith) in
    let db = decimal_length 19 b (omega arith) in
    let dc = decimal_length 19 c (omega arith) in
    simp length-append (omega arith)
