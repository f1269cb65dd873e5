-- All ten stages are the whole lattice.
use Rattle.std.proofs.Common.{rules, sym, ◌∙◌}
use Rattle.std.proofs.lemmas.Int.{to_z-of_z}
use Rattle.filter.proofs.Lattice.{whole}
use Rattle.filter.proofs.filter.filter.Goals as goal

pub returns : goal.returns
returns c =
    let a = c.args in
    let p = c.requires in
    search (rules, to_z-of_z, whole a.k.now a.memory.now (p.0.size ∙ sym p.1.size) a.input 10 p.1.size, c.stages.ensures)
