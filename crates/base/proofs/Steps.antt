-- Some steps and then some more; what steps keep; and a buffer that a loop fills with the outputs of steps, one at a time
-- or a part at a time.
-- Assumes nothing.
use mathlib.Core.Path.{◌≡◌, refl, sym, ap, ap₂, ◌∙◌, subst}
use mathlib.Core.List.{List, [], ◌∷◌, ◌++◌, append_assoc, append-nil}
use Prim.Native.Nat.{ℕ, zero, suc, ◌+◌, ◌-◌, ◌≤◌, ◌<◌}
use native.Mathlib.Nat.{suc-add, zero-add, sub-zero}
use native.Mathlib.Numerals.{add-one}
use native.Mathlib.Omega.{arith}
use borrow.Rule.Slice.PartMut.{mid_of, put_mid, mid_len, same_len_mid}
use lib.ListN.{length, take, set, replicate, length-append, length-set}
use lib.Seq.{take-suc-set, take_all, take_at, length-take-le}
use Rattle.base.specs.Steps.{state_after, outputs}

module _ {S A : Type 0} (step : S → S × A) where
  -- ---- n + m steps are n steps and then m

  pub after_add : (n m : ℕ) (s : S) → state_after step (n + m) s ≡ state_after step m (state_after step n s)
  after_add zero m s = rw zero-add
  after_add (suc n) m s = rw suc-add (after_add n m (step s).0)

  pub outputs_add : (n m : ℕ) (s : S) → outputs step (n + m) s ≡ outputs step n s ++ outputs step m (state_after step n s)
  outputs_add zero m s = rw zero-add
  outputs_add (suc n) m s = rw suc-add (ap (λ (l : List A). (step s).1 ∷ l) (outputs_add n m (step s).0))

  pub outputs_length : (n : ℕ) (s : S) → length (outputs step n s) ≡ n
  outputs_length zero s = refl
  outputs_length (suc n) s = ap suc (outputs_length n (step s).0)

  -- ---- what each step keeps, n steps keep

  pub after_keeps : (P : S → Type 0) → ((s : S) → P s → P (step s).0) → (n : ℕ) {s : S} → P s → P (state_after step n s)
  after_keeps P keeps zero h = h
  after_keeps P keeps (suc n) {s} h = after_keeps P keeps n (keeps s h)

  -- ---- a state that a step leaves as it is

  pub same_outputs : (n : ℕ) {s : S} {v : A} → step s ≡ (s, v) → outputs step n s ≡ replicate n v
  same_outputs zero e = refl
  same_outputs (suc n) {s} {v} e = ap (λ (r : S × A). r.1 ∷ outputs step n r.0) e ∙ ap (λ (l : List A). v ∷ l) (same_outputs n e)

  -- ---- a buffer that is filled

  -- i of n steps from s₀ are taken, to the state s, for which P holds: the steps left end where all n steps do, and the
  -- buffer's first i elements with the outputs left are all n outputs
  pub record Filled (P : S → Type 0) (s₀ : S) (n : ℕ) (out : List A) (s : S) (i : ℕ) : Type 0 where
    pub within : i ≤ n
    pub size : length out ≡ n
    pub state : state_after step (n - i) s ≡ state_after step n s₀
    pub written : take i out ++ outputs step (n - i) s ≡ outputs step n s₀
    pub holds : P s

  module _ (P : S → Type 0) (s₀ : S) where
    pub filled_none : (out : List A) → P s₀ → Filled P s₀ (length out) out s₀ 0
    filled_none out h = record { within = omega arith; size = refl; state = rw sub-zero; written = rw sub-zero; holds = h }

    module _ {n : ℕ} {out : List A} {s : S} {i : ℕ} (h : Filled P s₀ n out s i) where
      -- k steps more, whose outputs ys follow in the buffer
      further : (k : ℕ) {ys later : List A} {t : S} → i + k ≤ n → t ≡ state_after step k s → ys ≡ outputs step k s → P t
          → length later ≡ n → take (i + k) later ≡ take i out ++ ys → Filled P s₀ n later t (i + k)
      further k {ys} {later} {t} l e v p size next =
          let left : k + (n - (i + k)) ≡ n - i = omega arith in
          record {
            within = l;
            size = size;
            state = ap (state_after step (n - (i + k))) e ∙ sym (after_add k (n - (i + k)) s) ∙ ap (λ (j : ℕ). state_after step j s) left ∙ h.state;
            written =
                ap₂ ◌++◌ (next ∙ ap (λ (l : List A). take i out ++ l) v) (ap (outputs step (n - (i + k))) e)
                ∙ append_assoc (take i out) (outputs step k s) _
                ∙ ap (λ (l : List A). take i out ++ l) (sym (outputs_add k (n - (i + k)) s) ∙ ap (λ (j : ℕ). outputs step j s) left)
                ∙ h.written;
            holds = p;
          }

      -- one step, whose output is stored at i
      pub filled_more : {v : A} {t : S} → i < n → (t, v) ≡ step s → P t → Filled P s₀ n (set out i v) t (i + 1)
      filled_more {v} {t} l e p =
          further 1 (omega arith) (ap (λ (r : S × A). r.0) e) (ap (λ (r : S × A). r.1 ∷ []) e) p
          (length-set out i v ∙ h.size) (rw add-one (take-suc-set out i v (omega (arith, h.size))))

      -- the steps whose outputs fill the part i..e, where the part's length is the number of steps
      pub filled_part : (e : ℕ) {ys : List A} {t : S} → i ≤ e → e ≤ n
          → t ≡ state_after step (length (mid_of i (e - i) out)) s → ys ≡ outputs step (length (mid_of i (e - i) out)) s → P t
          → Filled P s₀ n (put_mid i (e - i) out ys) t e
      filled_part e {ys} {t} l m a v p =
          let k = e - i in
          let many : length (mid_of i k out) ≡ k = mid_len i e out (omega (arith, h.size)) in
          let is : ys ≡ outputs step k s = v ∙ ap (λ (j : ℕ). outputs step j s) many in
          let long : length ys ≡ k = ap length is ∙ outputs_length k s in
          subst (λ (j : ℕ). Filled P s₀ n (put_mid i k out ys) t j) (omega arith)
          (further k (omega arith) (a ∙ ap (λ (j : ℕ). state_after step j s) many) is p
          (same_len_mid i k out ys (long ∙ sym many) ∙ h.size)
          (ap (take (i + k)) (sym (append_assoc (take i out) ys _))
          ∙ take_at (take i out ++ ys) _ (i + k) (length-append (take i out) ys ∙ ap₂ ◌+◌ (length-take-le i out (omega (arith, h.size))) long)))

      pub filled_all : n ≤ i → (s ≡ state_after step n s₀) × (out ≡ outputs step n s₀)
      filled_all l =
          let none : 0 ≡ n - i = omega arith in (
            ap (λ (j : ℕ). state_after step j s) none ∙ h.state,
            sym (take_all i out (omega (arith, h.size))) ∙ sym (append-nil (take i out)) ∙ ap (λ (j : ℕ). take i out ++ outputs step j s) none ∙ h.written,
          )
