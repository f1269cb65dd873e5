use borrow.Author.Rules.{rules}
use borrow.Author.Tests.{tests}
use mathlib.Core.Path.{◌≡◌, refl, ap}
use mathlib.Core.Bool.{Bool, ◌&&◌}
use mathlib.Core.List.{List, [], ◌∷◌}
use Prim.Native.Nat.{ℕ}
use lib.Dec.{eqb}
use lib.ListN.{length, drop}
use Rattle.std.specs.List.{list_all}
use Rattle.std.proofs.lemmas.Iterator.{YieldsList-from_slice}
use Rattle.std.proofs.lemmas.Iterator.Adapters.{YieldsList-from_skip}
use Rattle.std.proofs.lemmas.Iterator.Search.{all_from_yields_List}
use Rattle.fifo.specs.Buffer.{all_zero}
use Rattle.fifo.proofs.clear_from.Goals as goal

zeros : (l : List ℕ) → list_all (λ b. eqb b 0) l ≡ all_zero l
zeros [] = refl
zeros (b ∷ l) = ap (λ (t : Bool). eqb b 0 && t) (zeros l)

pub returns : goal.returns
returns c =
    let whole : length c.args.bytes ≡ 16 = search rules in
    rw (whole, ← zeros (drop c.args.from c.args.bytes))
    (all_from_yields_List (λ b. eqb b 0) _ _ c.all.result c.all.ensures.ran (YieldsList-from_skip c.args.from (YieldsList-from_slice c.args.bytes (cc)) (cc)) (λ x b q k. search (rules, tests)))
