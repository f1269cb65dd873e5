-- The form of the frames of a TMS5220C.
use Rattle.std.specs.Prelude.{ℕ}
use Rattle.rates.specs.Rates.{prefix_bits, skipped_with}
use Rattle.rates.specs.declared.rate.FrameRate.{FrameRate}
pub use Rattle.rom.specs.Form.{Form, plain_form, KeepsSome, Item, plain, item_code, read_item, short_at, kept_intervals}

-- frames at a frame rate
abbrev pub rate_form : FrameRate → ℕ → Form
rate_form r P = record { prefix = prefix_bits r; pitch = P; skips = λ q. (skipped_with r q).0 }
