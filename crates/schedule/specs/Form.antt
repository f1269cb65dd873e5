-- How long an item lasts.
use Rattle.std.specs.Prelude.{ℕ}
use Rattle.base.specs.Units.{intervals, samples_of}
use Rattle.rates.specs.Form.{Form, Item, kept_intervals}

-- the samples of an item: 25 for each interval that it does not skip
abbrev pub lasting : Form → Item → ℕ
lasting F i = (samples_of (intervals (kept_intervals F i))).0
