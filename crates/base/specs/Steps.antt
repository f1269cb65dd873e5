-- Steps one after another, of any step function: from a state it gives the next state and an output.
use Rattle.std.specs.Prelude.{List, [], ◌∷◌, ℕ, zero, suc}

module _ {S A : Type 0} (step : S → S × A) where
  -- the state after n steps
  abbrev pub state_after : ℕ → S → S
  state_after zero s = s
  state_after (suc n) s = state_after n (step s).0

  -- the outputs of n steps, in order
  abbrev pub outputs : ℕ → S → List A
  outputs zero s = []
  outputs (suc n) s = (step s).1 ∷ outputs n (step s).0
