-- How far speech has come after n steps, and that it talks and stands as is due.
-- Assumes nothing.
use mathlib.Core.Path.{◌≡◌, sym, ◌∙◌}
use mathlib.Core.Bool.{true, false}
use mathlib.Core.List.{List, [], ◌∷◌}
use Prim.Native.Nat.{ℕ, ◌+◌, ◌≤◌}
use native.Mathlib.Omega.{arith}
use Rattle.rom.specs.Frames.{is_stop}
use Rattle.rates.specs.Form.{Form, Item}
use Rattle.schedule.specs.Form.{lasting}
use Rattle.schedule.specs.Types.{Clock, Speech}
use Rattle.schedule.specs.Schedule.{talks_from, position_from}
use Rattle.schedule.proofs.Counting.{Left}
use Rattle.schedule.proofs.Due.{width, talks_ahead, talks_more, talks_stop, talks_out, position_ahead, position_more, position_stop, position_out}

-- after the stop its frame sounds up to step b, and then the sound rests
pub data Ending (b n : ℕ) (t : Clock) : Type 0 where
  sounds : {l : ℕ} → n + 1 + l ≡ b → Left t l → Ending b n t
  rests : b ≤ n → t.sounding ≡ false → Ending b n t

-- the speech after n steps, where the items `is` stand from bit p on and the first of them is due at step `at`; e is the image's
-- end
pub data State (F : Form) (e : ℕ) : ℕ → ℕ → List Item → ℕ → Speech → Type 0 where
  -- the first is still to come
  ahead : {at p n l : ℕ} {is : List Item} {s : Speech} → n + 1 + l ≡ at → s.talking ≡ true → s.position ≡ p → Left s.clock l
      → State F e at p is n s
  -- the first was no stop, and the others follow
  past : {at p n : ℕ} {i : Item} {is : List Item} {s : Speech} → is_stop i.1 ≡ false → at ≤ n
      → State F e (at + lasting F i) (p + width F i) is n s → State F e at p (i ∷ is) n s
  -- it was the stop
  ended : {at p n : ℕ} {i : Item} {s : Speech} → is_stop i.1 ≡ true → at ≤ n → s.talking ≡ false → s.position ≡ p + width F i
      → Ending (at + lasting F i) n s.clock → State F e at p (i ∷ []) n s
  -- there was none
  out : {at p n : ℕ} {s : Speech} → at ≤ n → s.talking ≡ false → s.position ≡ e → s.clock.sounding ≡ false → State F e at p [] n s

module _ (F : Form) where
  pub state_talks : {e at p n : ℕ} {is : List Item} {s : Speech} → State F e at p is n s → s.talking ≡ talks_from F at is n
  state_talks (ahead {at = at} {n = n} {is = is} a m q t) = m ∙ sym (talks_ahead F at n is (omega arith))
  state_talks (past {at = at} {n = n} {i = i} {is = is} k l h) = state_talks h ∙ sym (talks_more F at n i is k)
  state_talks (ended {at = at} {n = n} {i = i} k l m q t) = m ∙ sym (talks_stop F at n i k l)
  state_talks (out {at = at} {n = n} l m q t) = m ∙ sym (talks_out F at n l)

  pub state_position : {e at p n : ℕ} {is : List Item} {s : Speech} → State F e at p is n s → s.position ≡ position_from F at p e is n
  state_position {e} {p} (ahead {at = at} {n = n} {is = is} a m q t) = q ∙ sym (position_ahead F at n is (omega arith) p e)
  state_position {e} {p} (past {at = at} {n = n} {i = i} {is = is} k l h) = state_position h ∙ sym (position_more F at n i is k p e l)
  state_position {e} {p} (ended {at = at} {n = n} {i = i} k l m q t) = q ∙ sym (position_stop F at n i k l p e)
  state_position {e} {p} (out {at = at} {n = n} l m q t) = q ∙ sym (position_out F at n l p e)
