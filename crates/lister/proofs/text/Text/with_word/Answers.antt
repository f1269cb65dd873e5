use Rattle.std.proofs.Common.{rules}
use Rattle.lister.specs.Text.{contents}
use Rattle.lister.proofs.Texts.{word_appended}
use Rattle.lister.proofs.text.Text.with_word.Goals as goal

pub returns : goal.returns
unfolding contents
returns c =
    let more = word_appended c.args.self c.args.self.fits c.args.word.now c.remaining_capacity-room.result c.remaining_capacity-room.ensures in
    search (rules, more)
