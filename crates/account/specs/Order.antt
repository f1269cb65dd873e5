-- Bits given out are the taken ones, in order, none twice (02, §10). Nothing here looks at a chip: the entries of a history tell
-- which bits wait, taken and neither given nor thrown away.
use Rattle.std.specs.Prelude.{◌≡◌, true, false, List, [], ◌∷◌, ◌++◌, ℕ, length}
use Rattle.base.specs.Refusals.{TAKEN}
use Rattle.reports.specs.Reports.{no_details}
use Rattle.account.specs.Types.{Frame, Stop, Details, Report, NoReport, FrameReport, StopReport, RanOut}
use Rattle.account.specs.Entries.{Entry, wrote, stepped, looked, Reading, next, byte_bits, frame_bits}

-- What a taken step does to the bits waiting, by what it reports: the bits before, the report, the details, the bits after.
pub data FifoMove (t : Reading) : List ℕ → Report → Details → List ℕ → Type 0 where
  -- nothing is reported: they stay
  nothing : {queue : List ℕ} {d : Details} → d.thrown ≡ 0 → FifoMove t queue NoReport d queue
  -- a frame takes its bits from their front
  frame : {queue left : List ℕ} {f : Frame} {d : Details} → t.external ≡ true → queue ≡ frame_bits t d f ++ left → d.thrown ≡ 0
      → FifoMove t queue (FrameReport f) d left
  -- a stop takes its own, and throws the others away
  stop : {queue : List ℕ} {d : Details} (lost : List ℕ) → t.external ≡ true → queue ≡ frame_bits t d Stop ++ lost → d.thrown ≡ length lost
      → FifoMove t queue StopReport d []
  -- running out uses them up
  out : {queue : List ℕ} {d : Details} → t.external ≡ true → d.used_up ≡ length queue → d.thrown ≡ 0 → FifoMove t queue RanOut d []
  -- outside the external modes nothing is taken and nothing thrown away
  rom_step : {queue : List ℕ} {r : Report} {d : Details} → t.external ≡ false → d.thrown ≡ 0 → FifoMove t queue r d queue

-- what an entry does to the bits waiting
pub data Goes : Reading → List ℕ → Entry → List ℕ → Type 0 where
  -- a byte taken in the external modes puts its bits behind them
  buffered : {t : Reading} {queue : List ℕ} {b : ℕ} → t.external ≡ true → Goes t queue (wrote b TAKEN) (queue ++ byte_bits t b)
  -- outside them it is a command
  commanded : {t : Reading} {queue : List ℕ} {b : ℕ} → t.external ≡ false → Goes t queue (wrote b TAKEN) queue
  -- a refused byte counts nowhere
  not_written : {t : Reading} {queue : List ℕ} {b n : ℕ} → (n ≡ TAKEN → ⊥) → Goes t queue (wrote b n) queue
  -- a taken step
  moved : {t : Reading} {queue left : List ℕ} {r : Report} {d : Details} → FifoMove t queue r d left → Goes t queue (stepped TAKEN r d) left
  -- a refused one reports nothing
  refused_step : {t : Reading} {queue : List ℕ} {n : ℕ} → (n ≡ TAKEN → ⊥) → Goes t queue (stepped n NoReport no_details) queue
  -- a read or an acknowledge
  unmoved : {t : Reading} {queue : List ℕ} → Goes t queue looked queue

-- the entries one after another, from the bits waiting before the first to those after the last
pub data InOrder : Reading → List ℕ → List Entry → List ℕ → Type 0 where
  done : {t : Reading} {queue : List ℕ} → InOrder t queue [] queue
  then : {t : Reading} {queue queue' left : List ℕ} {e : Entry} {es : List Entry} → Goes t queue e queue' → InOrder (next t e) queue' es left
      → InOrder t queue (e ∷ es) left
