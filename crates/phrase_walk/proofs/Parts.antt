-- The part of a refused walk.
-- Assumes nothing.
use Rattle.std.proofs.Common.{◌≡◌, ℕ, List, []}
use borrow.Author.Tests.{ne_eqb}
use Rattle.base.specs.Answers.{number_of}
use Rattle.base.specs.declared.refusal.Refusal.{Refusal}
use Rattle.base.proofs.Refused.{refused_not_taken}
use Rattle.rom.specs.Phrases.{part_of}

pub part_refused : (s : List ℕ) (a : ℕ) (r : Refusal) (bits : ℕ) → part_of s a (number_of r) bits ≡ []
part_refused s a r bits = rw (ne_eqb (number_of r) 0 (refused_not_taken r))
