-- The account by examples: external speech of a TMS5220, least significant bit first, and of a TMS5220C with rate bits, most significant
-- first. Of nine bytes the first holds a stop; a refused byte, a read and a look count nothing.
use Rattle.std.specs.Prelude.{◌≡◌, List, [], ◌∷◌, ◌++◌, ℕ, replicate}
use Rattle.base.specs.Refusals.{TAKEN, IMAGE}
use Rattle.rates.specs.Rates.{power_up_rate}
use Rattle.reports.specs.Reports.{of_frame}
use Rattle.voice.specs.Example.{voice}
use Rattle.control.specs.declared.device.Device.TheVariants.{Tms5220, Tms5220C}
use Rattle.account.specs.Types.{BitOrder, LeastFirst, MostFirst, StopReport, Device}
use Rattle.account.specs.Entries.{Call, write, read, look, step, Entry, wrote, stepped, looked, at_start}
use Rattle.account.specs.Counts.{bytes_taken, bits_given, bits_thrown}
use Rattle.account.specs.Theorems.{from_power_up, last_fifo, bits_held}

-- calls from power-up, their history, and its numbers
pub record Example : Type 0 where
  pub device : Device
  pub order : BitOrder
  pub calls : List Call
  pub entries : List Entry
  pub taken : ℕ
  pub given : ℕ
  pub thrown : ℕ
  pub held : ℕ

-- an image, which is not read
abbrev image : List ℕ
image = 0 ∷ []

-- seven bytes FF, one that is refused for want of an image, a read, a look, the ninth byte and a step
abbrev later_calls : List Call
later_calls = replicate 7 (write image 0xFF) ++ (write [] 0xFF ∷ read ∷ look ∷ write image 0xFF ∷ step image voice ∷ [])

-- what these leave in the history, where the step takes a stop with the rate bits q and throws n bits away
abbrev later_entries : ℕ → ℕ → List Entry
later_entries q n =
    replicate 7 (wrote 0xFF TAKEN) ++ (wrote 0xFF IMAGE ∷ looked ∷ looked ∷ wrote 0xFF TAKEN ∷ stepped TAKEN StopReport (of_frame q n) ∷ [])

-- 0F, least significant bit first, begins with a stop: 8 × 9 = 4 + 68 + 0
abbrev pub least_first : Example
least_first = record {
  device = Tms5220;
  order = LeastFirst;
  calls = write image 0x60 ∷ write image 0x0F ∷ later_calls;
  entries = wrote 0x60 TAKEN ∷ wrote 0x0F TAKEN ∷ later_entries 0 68;
  taken = 9;
  given = 4;
  thrown = 68;
  held = 0;
}

-- with v = 1, 7F, most significant bit first, begins with the rate bits 01 and a stop: 8 × 9 = 6 + 66 + 0
abbrev pub rate_bits : Example
rate_bits = record {
  device = Tms5220C power_up_rate;
  order = MostFirst;
  calls = write image 0x04 ∷ write image 0x60 ∷ write image 0x7F ∷ later_calls;
  entries = wrote 0x04 TAKEN ∷ wrote 0x60 TAKEN ∷ wrote 0x7F TAKEN ∷ later_entries 1 66;
  taken = 9;
  given = 6;
  thrown = 66;
  held = 0;
}

-- The claim: the history is this, and these are its numbers.
pub record ExampleHolds (e : Example) : Type 0 where
  pub told : from_power_up e.device e.order e.calls ≡ e.entries
  pub taken : bytes_taken (at_start e.device e.order) e.entries ≡ e.taken
  pub given : bits_given (at_start e.device e.order) e.entries ≡ e.given
  pub thrown : bits_thrown e.entries ≡ e.thrown
  pub held : bits_held (last_fifo e.device e.order e.calls) ≡ e.held
