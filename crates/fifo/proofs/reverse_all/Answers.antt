use borrow.Author.Rules.{rules}
use mathlib.Core.Path.{◌≡◌, ◌∙◌}
use Prim.Native.Nat.{ℕ, ◌+◌, ◌*◌, ◌<◌}
use native.Mathlib.Omega.{arith}
use lib.ListN.{length, get_or}
use mir.Syntax.{w8}
use Rattle.std.specs.Int.{reverse_bits, reverse_bits_onto}
use Rattle.std.proofs.lemmas.List.{get_or_default}
use Rattle.std.proofs.lemmas.List.Edits.{map_over_more}
use Rattle.rom.specs.Bits.{digits}
use Rattle.fifo.specs.Buffer.{reversed}
use Rattle.fifo.proofs.reverse_all.Goals as goal

-- the number of eight bits, as the library and as `reversed` has it
number : (a b c d e f g h : ℕ) → (((((((0 * 2 + a) * 2 + b) * 2 + c) * 2 + d) * 2 + e) * 2 + f) * 2 + g) * 2 + h
    ≡ 2 * (2 * (2 * (2 * (2 * (2 * (2 * (2 * 0 + a) + b) + c) + d) + e) + f) + g) + h
number a b c d e f g h = omega arith

is_reversed : (b : ℕ) → reverse_bits w8 b ≡ reversed b
unfolding reverse_bits_onto digits reversed
is_reversed b = number _ _ _ _ _ _ _ _

pub loop-byte-preserved : goal.loop-byte-preserved
loop-byte-preserved c =
    let bytes = c.loop-byte.byte-items in
    let i = c.loop-byte.byte-index in
    let within : i < length bytes = search rules in
    let within_all : i < length c.args.bytes = search rules in
    let e : c.reverse_bits.result ≡ reversed (get_or bytes i 0) = c.reverse_bits.ensures ∙ is_reversed (get_or bytes i 0) in
    rw e (map_over_more reversed c.args.bytes bytes i (get_or bytes i 0) within_all c.loop-byte.invariant (get_or_default bytes i 0 _ within))
