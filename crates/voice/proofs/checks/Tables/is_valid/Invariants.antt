use Rattle.std.proofs.Common.{◌≡◌}
use Rattle.voice.specs.Check.{entries_valid}
use Rattle.voice.proofs.checks.Tables.is_valid.Given as goal

abbrev pub invariant-loop-i : goal.invariant-loop-i
invariant-loop-i l = l.valid ≡ entries_valid l.self.pitch_bits l.self.file.now l.table l.i
