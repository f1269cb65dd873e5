-- Every list of calls gets the answers that are due.
-- Assumes nothing.
use mathlib.Core.Path.{◌≡◌, refl, sym, ap, ap₂, ◌∙◌, subst, subst₂}
use mathlib.Core.Bool.{Bool}
use mathlib.Core.List.{List, [], ◌∷◌}
use Prim.Native.Nat.{ℕ, ◌+◌, ◌*◌}
use native.Mathlib.Nat.{add-zero, zero-add, add_assoc}
use borrow.Author.Tests.{eqb-true, eqb-false}
use lib.Dec.{eqb}
use lib.ListN.{length}
use Rattle.base.proofs.Booleans.{either_way, cond_true, cond_false}
use Rattle.rates.specs.Form.{Form, KeepsSome, Item}
use Rattle.schedule.specs.Types.{Clock, Told, Speech}
use Rattle.schedule.specs.Speech.{talking_from}
use Rattle.schedule.specs.Calls.{Call, step, run, read, write, Answer, Device, Table, chip_after, refusal_of, byte_of, told_by, answer_of, answers_of, after_calls, steps_in, steps_in_all, write_due, refusal_due, byte_due, told_due, answer_due, answers_due, Refused, WritesRefused, Speaks, AnswersDue, StaysOnTime}
use Rattle.schedule.proofs.Chain.{Chain, chain_there}
use Rattle.schedule.proofs.Progress.{State, state_talks, state_position}
use Rattle.schedule.proofs.Keeping.{after_steps, next, begin}

module _ (F : Form) (keeps : KeepsSome F) (T : Table) (image : List ℕ) (D : Device) (speech : D.Chip → Speech) (Still : D.Chip → Type 0)
    (K : Speaks F T image D speech Still) (start : ℕ) (is : List Item) (chain : Chain F image start is) where
  abbrev end : ℕ
  end = 8 * length image

  -- the chip after n steps
  record Speaking (n : ℕ) (c : D.Chip) : Type 0 where
    state : State F end 1 start is n (speech c)
    still : Still c

  -- what is answered is what is due, and the chip handed back is the one after n steps
  record Answered (n : ℕ) (c : D.Chip) (x : Call) : Type 0 where
    refusal : refusal_of D c x ≡ refusal_due F T start end is n x
    byte : byte_of D c x ≡ byte_due F T start end is n x
    told : told_by D c x ≡ told_due F T start end is n x
    after : Speaking (n + steps_in T x) (chip_after D c x)

  answer : {n : ℕ} {c : D.Chip} {x : Call} → Answered n c x → answer_of D c x ≡ answer_due F T start end is n x
  answer {x} h =
      let p = K.position _ h.after.still ∙ state_position F h.after.state in
      λ j. record { refusal = h.refusal j; byte = h.byte j; told = h.told j; position = p j }

  stays : {n : ℕ} {c : D.Chip} → Speaking n c → Speaking (n + 0) c
  stays {n} s = rw (add-zero n) s

  -- ---- one call

  stepping : (voice : List ℕ) → T.fault voice ≡ 0 → (n : ℕ) (c : D.Chip) → Speaking n c → Speaking (n + 1) (D.stepped voice c).0
  stepping voice g n c s = record {
    state = subst (State F end 1 start is (n + 1)) (sym (K.step_speech voice c s.still g)) (next F keeps image (speech c) chain s.state).state;
    still = K.step_still voice c s.still;
  }

  -- a step with a voice file that is valid, or not
  on_step : {n : ℕ} {c : D.Chip} (voice : List ℕ) → Speaking n c → Answered n c (step voice)
  on_step {n} {c} voice s =
      either_way (eqb (T.fault voice) 0)
      (λ e.
      let g = eqb-true (T.fault voice) 0 e in
      let h = K.step_answer voice c s.still g in
      record {
        refusal = ap (λ (r : ℕ × Told). r.0) h ∙ sym g;
        byte = refl;
        told = ap (λ (r : ℕ × Told). r.1) h ∙ (next F keeps image (speech c) chain s.state).told ∙ sym (cond_true _ _ _ e);
        after = rw e (stepping voice g n c s);
      })
      (λ e.
      let h = K.step_refused voice c s.still (eqb-false (T.fault voice) 0 e) in
      record {
        refusal = ap (λ (r : D.Chip × (ℕ × Told)). r.1.0) h;
        byte = refl;
        told = ap (λ (r : D.Chip × (ℕ × Told)). r.1.1) h ∙ sym (cond_false _ _ _ e);
        after = rw e (subst (λ (r : D.Chip × (ℕ × Told)). Speaking (n + 0) r.0) (sym h) (stays s));
      })

  on_run : {n : ℕ} {c : D.Chip} (voice : List ℕ) (m : ℕ) → Speaking n c → Answered n c (run voice m)
  on_run {n} {c} voice m s =
      either_way (eqb (T.fault voice) 0)
      (λ e.
      let g = eqb-true (T.fault voice) 0 e in
      ran m (cond_true _ _ _ e) (K.run_taken voice m c s.still g) (sym g) (after_steps (D.stepped voice) Speaking (stepping voice g) m s))
      (λ e. ran 0 (cond_false _ _ _ e) (K.run_refused voice m c s.still (eqb-false (T.fault voice) 0 e)) refl (stays s))
    where
      -- by what the run gives, and the steps that it takes
      ran : (d : ℕ) {r : D.Chip × ℕ} → steps_in T (run voice m) ≡ d → D.ran voice m c ≡ r → r.1 ≡ T.fault voice → Speaking (n + d) r.0
          → Answered n c (run voice m)
      ran d e h f z = record {
        refusal = ap (λ (r : D.Chip × ℕ). r.1) h ∙ f;
        byte = refl;
        told = refl;
        after = subst₂ (λ (y : ℕ) (r : D.Chip × ℕ). Speaking (n + y) r.0) (sym e) (sym h) z;
      }

  on_read : {n : ℕ} {c : D.Chip} → Speaking n c → Answered n c read
  on_read {n} {c} s =
      let h = K.read_byte c s.still in
      record {
        refusal = ap (λ (r : ℕ × ℕ). r.0) h;
        byte = ap (λ (r : ℕ × ℕ). r.1) h ∙ ap T.status (state_talks F s.state);
        told = refl;
        after = stays (record {
          state = subst (State F end 1 start is n) (sym (K.read_speech c s.still)) s.state;
          still = K.read_still c s.still;
        });
      }

  -- a byte that the table refuses there
  on_write : {n : ℕ} {c : D.Chip} (b : ℕ) → Speaking n c → (write_due F T start end is n b ≡ 0 → ⊥) → Answered n c (write b)
  on_write {n} {c} b s g =
      let due : T.refuses (speech c).talking (speech c).position b ≡ write_due F T start end is n b =
      ap₂ (λ (t : Bool) (p : ℕ). T.refuses t p b) (state_talks F s.state) (state_position F s.state) in
      let h = K.write_refused b c s.still (λ e. g (sym due ∙ e)) in
      record {
        refusal = ap (λ (r : D.Chip × ℕ). r.1) h ∙ due;
        byte = refl;
        told = refl;
        after = subst (λ (r : D.Chip × ℕ). Speaking (n + 0) r.0) (sym h) (stays s);
      }

  -- ---- every list

  on_call : {n : ℕ} {c : D.Chip} (x : Call) → Speaking n c → Refused F T start end is n x → Answered n c x
  on_call (step voice) s g = on_step voice s
  on_call (run voice m) s g = on_run voice m s
  on_call read s g = on_read s
  on_call (write b) s g = on_write b s g

  on_calls : (xs : List Call) {n : ℕ} {c : D.Chip} → Speaking n c → WritesRefused F T start end is n xs
      → answers_of D c xs ≡ answers_due F T start end is n xs
  unfolding answers_of answers_due WritesRefused
  on_calls [] s g = refl
  on_calls (x ∷ xs) s g =
      let h = on_call x s g.0 in
      ap₂ (λ (y : Answer) (ys : List Answer). y ∷ ys) (answer h) (on_calls xs h.after g.1)

  -- the chip that the last call of a list hands back
  after_calls_lem : (xs : List Call) {n : ℕ} {c : D.Chip} → Speaking n c → WritesRefused F T start end is n xs
      → Speaking (n + steps_in_all T xs) (after_calls D c xs)
  unfolding after_calls steps_in_all WritesRefused
  after_calls_lem [] s g = stays s
  after_calls_lem (x ∷ xs) {n} s g =
      let h = on_call x s g.0 in
      rw (← add_assoc n (steps_in T x) (steps_in_all T xs)) (after_calls_lem xs h.after g.1)

  -- the chip that begins to speak
  begins : {c : D.Chip} (t : Clock) → Still c → speech c ≡ talking_from start t → Speaking 0 c
  begins t still e = record { state = subst (State F end 1 start is 0) (sym e) (begin F end start is t); still = still }

pub answers_due_lem : AnswersDue
answers_due_lem F keeps T image D speech Still K start is there c t still e xs =
    let chain = chain_there F image start is there in
    on_calls F keeps T image D speech Still K start is chain xs (begins F keeps T image D speech Still K start is chain t still e)

pub stays_on_time : StaysOnTime
stays_on_time F keeps T image D speech Still K start is there c t still e xs g =
    let chain = chain_there F image start is there in
    let s =
    rw zero-add at (after_calls_lem F keeps T image D speech Still K start is chain xs (begins F keeps T image D speech Still K start is chain t still e) g) in (
      s.still,
      record {
        talking = state_talks F s.state;
        position = state_position F s.state;
        told = (next F keeps image (speech (after_calls D c xs)) chain s.state).told;
      },
    )
