-- Refusals and their numbers.
-- Assumes nothing.
use Rattle.std.proofs.Common.{◌≡◌, ℕ, ◌<◌, Bool, List, [], ◌∷◌, Result, Ok, Err, IsErrAnd, refl, ap, arith}
use Rattle.base.specs.Answers.{number_of, no_shortfall, shortfall_of}
use Rattle.base.specs.Refusals.{first_fault}
use Rattle.base.specs.declared.refusal.Refusal.{Refusal}
use Rattle.base.specs.declared.refusal.Refusal.TheVariants.{Wait, Beyond, Image, State, VoiceSize, VoiceLength, VoiceVersion, VoiceValue, VoicePulse, NoPhrase}
use Rattle.base.proofs.Booleans.{by_test}

-- a refusal is not number 0
pub refused_not_taken : (r : Refusal) → number_of r ≡ 0 → ⊥
refused_not_taken Wait e = omega arith
refused_not_taken Beyond e = omega arith
refused_not_taken Image e = omega arith
refused_not_taken State e = omega arith
refused_not_taken VoiceSize e = omega arith
refused_not_taken VoiceLength e = omega arith
refused_not_taken VoiceVersion e = omega arith
refused_not_taken VoiceValue e = omega arith
refused_not_taken VoicePulse e = omega arith
refused_not_taken (NoPhrase h) e = omega arith

-- only number 10 tells of a cut frame
pub uncut : (r : Refusal) → number_of r < 10 → shortfall_of r ≡ no_shortfall
uncut Wait h = refl
uncut Beyond h = refl
uncut Image h = refl
uncut State h = refl
uncut VoiceSize h = refl
uncut VoiceLength h = refl
uncut VoiceVersion h = refl
uncut VoiceValue h = refl
uncut VoicePulse h = refl
uncut (NoPhrase k) h = absurd (omega arith)

-- faults whose numbers are below 10
abbrev pub Uncut : List (Bool × ℕ) → Type 0
Uncut [] = Unit {0}
Uncut (f ∷ fs) = (f.1 < 10) × Uncut fs

pub first_uncut : (fs : List (Bool × ℕ)) → Uncut fs → first_fault fs < 10
first_uncut [] h = omega arith
first_uncut (f ∷ fs) h = by_test (λ n. n < 10) f.0 (λ e. h.0) (λ e. first_uncut fs h.1)

-- what a `?` returns where a refusal, or what becomes one, is passed on
pub passed_on : {A E : Type 0} (r : Result A E) (x : E) → IsErrAnd r (λ e. e ≡ x) → r ≡ Err x
passed_on (Ok a) x h = absurd h
passed_on (Err e) x h = ap Err h
