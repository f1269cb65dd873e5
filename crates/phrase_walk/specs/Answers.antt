-- What an answer of the walk says: its numbers and the part, which is empty where the walk is refused.
use Rattle.std.specs.Prelude.{Result, Ok, Err, List, [], ℕ}
use Rattle.base.specs.declared.refusal.Refusal.{Refusal}
use Rattle.rom.specs.Phrases.{Walked, walk_answer}
use Rattle.phrase_walk.specs.declared.Phrase.{Phrase}

abbrev pub numbers_of_answer : Result Phrase Refusal → Walked
numbers_of_answer (Ok p) = walk_answer (Ok p.extent)
numbers_of_answer (Err r) = walk_answer (Err r)

abbrev pub part_of_answer : Result Phrase Refusal → List ℕ
part_of_answer (Ok p) = p.part.now
part_of_answer (Err r) = []
