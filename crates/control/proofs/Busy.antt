-- The time that a branch takes: what passes of it, and what a byte that need not wait finds.
-- Assumes nothing.
use mathlib.Core.Path.{◌≡◌, ap}
use mathlib.Core.Bool.{true, false, not, ◌||◌}
use Prim.Native.Nat.{ℕ, ◌+◌, ◌-◌}
use native.Mathlib.Omega.{arith}
use borrow.Author.Tests.{leb-true, ltb-true, ltb-false, le-leb, lt-ltb}
use lib.Dec.{leb, ltb}
use Rattle.base.specs.Units.{samples}
use Rattle.base.proofs.Booleans.{both_true, either_way, neither}
use Rattle.control.specs.Types.{Mode, Port, Control, Command}
use Rattle.control.specs.State.{with_port, with_busy, branch_time, is_busy, less_busy}
use Rattle.control.specs.Validity.{is_idle, port_valid}
use Rattle.control.specs.Commands.{waits, waits_now}
use Rattle.control.specs.Laws.{LessTwice, LessKeepsValid}
use Rattle.control.proofs.Ranges.{ControlRanges, control_ranges, control_in_ranges, port_ranges, port_in_ranges}

pub less_twice : LessTwice
less_twice n m k =
    let e : k.port.busy.0 - n - m ≡ k.port.busy.0 - (n + m) = omega arith in
    ap (λ (b : ℕ). with_port (with_busy (samples b) k.port) k) e

pub less_none : (k : Control) → less_busy 0 k ≡ k
less_none k = let e : k.port.busy.0 - 0 ≡ k.port.busy.0 = omega arith in ap (λ (b : ℕ). with_port (with_busy (samples b) k.port) k) e

less_in_idle : (m : Mode) (b n : ℕ) → (not (ltb 0 b) || is_idle m) ≡ true → (not (ltb 0 (b - n)) || is_idle m) ≡ true
less_in_idle m b n h =
    either_way (ltb 0 (b - n))
    (λ t. let more = ltb-true 0 (b - n) t in let was : ltb 0 b ≡ true = lt-ltb 0 b (omega (arith, more)) in rw t (rw was at h))
    (λ t. rw t)

less_port : (m : Mode) (p : Port) (n : ℕ) → port_valid m p ≡ true → port_valid m (with_busy (samples (p.busy.0 - n)) p) ≡ true
less_port m p n h =
    let r = port_ranges m p h in
    let b = both_true (leb p.busy.0 branch_time) (not (is_busy p) || is_idle m) r.busy in
    let few = leb-true p.busy.0 branch_time b.0 in
    port_in_ranges m (with_busy (samples (p.busy.0 - n)) p) (record {
      pending = r.pending;
      byte = r.byte;
      busy = rw (le-leb (p.busy.0 - n) branch_time (omega (arith, few)), less_in_idle m p.busy.0 n b.1);
    })

pub less_ranges : (n : ℕ) (k : Control) → ControlRanges k → ControlRanges (less_busy n k)
less_ranges n k r = record { address = r.address; fifo = r.fifo; port = less_port k.mode k.port n r.port; clock = r.clock; device = r.device }

pub less_keeps_valid : LessKeepsValid
less_keeps_valid n k v = control_in_ranges _ (less_ranges n k (control_ranges k v))

-- a byte that need not wait finds a chip that is not busy, in a mode that has it not wait
pub not_busy : (k : Control) (c : Command) → waits_now k c ≡ false → (k.port.busy.0 ≡ 0) × (waits k.mode k.fifo.level c ≡ false)
not_busy k c h =
    let r = neither (is_busy k.port) (waits k.mode k.fifo.level c) h in
    let none = ltb-false 0 k.port.busy.0 r.0 in
    (omega (arith, none), r.1)
