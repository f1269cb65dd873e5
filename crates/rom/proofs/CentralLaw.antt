-- The reader's central law, for every width of the pitch: a frame is read at a bit exactly where the image's bits begin with
-- its bits.
-- Assumes nothing.
use mathlib.Core.Path.{◌≡◌, refl, sym, ap, ◌∙◌, subst}
use mathlib.Core.Logic.{◌↔◌}
use mathlib.Core.List.{List, [], ◌∷◌}
use Prim.Native.Nat.{ℕ, ◌+◌, ◌*◌, ◌≤◌, ◌<◌}
use native.Mathlib.Nat.{add-zero}
use native.Mathlib.Omega.{arith}
use lib.ListN.{length}
use Rattle.rom.specs.Bits.{field, Begins}
use Rattle.rom.specs.Frames.{fields_of, OfKind, Proper, bits_of, bit_count}
use Rattle.rom.specs.Reader.{head_at, frame_of, decoded, frame_from}
use Rattle.rom.specs.Theorems.{CentralLaw}
use Rattle.rom.specs.declared.frames.Frame.{Frame}
use Rattle.rom.specs.declared.frames.Frame.TheVariants.{Silence, Stop, Repeat, Unvoiced, Voiced}
use Rattle.rom.specs.declared.head.Head.{Head}
use Rattle.rom.specs.declared.head.Kind.{Kind}
use Rattle.std.specs.Prelude.{Ok}
use Rattle.rom.proofs.Fields.{field_lt}
use Rattle.rom.proofs.Encoding.{Reads, reads, begins, rebase, begins_room, length_encoded}
use Rattle.rom.proofs.KindLaws.{Sounds, OfHead, silence, stop, repeat, unvoiced, voiced, kind_given, kind_is}
use Rattle.rom.proofs.Decoding.{whole_is, whole_decoded}

module _ (P : ℕ) (s : List ℕ) (at : ℕ) where
  abbrev H : Head
  H = head_at P s at

  -- the frame of a kind with the head there
  abbrev there : Kind → Frame
  there k = frame_of k H s (at + 5 + P)

  -- energy, repeat and pitch, and the fields from bit at + 5 + P on
  head : {e r p : ℕ} (ks : List (ℕ × ℕ)) → field s at 4 ≡ e → field s (at + 4) 1 ≡ r → field s (at + 5) P ≡ p
      → Reads s (at + 5 + P) 0 ks → Reads s at 0 ((4, e) ∷ (1, r) ∷ (P, p) ∷ ks)
  head ks he hr hp h = (rw add-zero he, (hr, (hp, rebase s (at + 5 + P) 0 at (5 + P) ks (omega arith) h)))

  -- a frame that, where there is room for it, is proper and has its bits there
  Good : Frame → Type 0
  Good f = at + bit_count P f ≤ 8 * length s → Proper P f × Begins s at (bits_of P f)

  good : (f : Frame) → (at + bit_count P f ≤ 8 * length s → Reads s at 0 (fields_of P f)) → OfKind f → Good f
  unfolding Good
  good f h k room = let r = begins s at 0 (fields_of P f) (h room) in ((r.0, k), rw add-zero at r.1)

  sounding : Sounds H → (0 < field s at 4) × (field s at 4 < 15)
  sounding n = omega (arith, field_lt s at 4)

  no_repeat : (H.repeat ≡ 1 → ⊥) → field s (at + 4) 1 ≡ 0
  no_repeat n = omega (arith, field_lt s (at + 4) 1)

  kind_good : {k : Kind} → OfHead H k → Good (there k)
  kind_good (silence e) = good Silence (λ room. (rw add-zero e, room)) tt
  kind_good (stop e) = good Stop (λ room. (rw add-zero e, room)) tt
  kind_good (repeat n e) = good (Repeat _ _) (λ room. head [] refl e refl (omega arith)) (sounding n)
  kind_good (unvoiced n r e) =
      good (Unvoiced _ _ _ _ _)
      (λ room. head ((5, _) ∷ (5, _) ∷ (4, _) ∷ (4, _) ∷ []) refl (no_repeat r) e (rw add-zero refl, (refl, (refl, (refl, omega arith)))))
      (sounding n)
  kind_good (voiced n r p) =
      good (Voiced _ _ _ _ _ _ _ _ _ _ _ _)
      (λ room. head ((5, _) ∷ (5, _) ∷ (4, _) ∷ (4, _) ∷ (4, _) ∷ (4, _) ∷ (4, _) ∷ (3, _) ∷ (3, _) ∷ (3, _) ∷ []) refl (no_repeat r) refl
      (rw add-zero refl, (refl, (refl, (refl, (refl, (refl, (refl, (refl, (refl, (refl, omega arith)))))))))))
      (omega (arith, sounding n))

  decoded_good : Good (decoded P s at)
  unfolding decoded
  decoded_good = kind_good (kind_given H)

  unhead : {e r p : ℕ} (ks : List (ℕ × ℕ)) → Reads s at 0 ((4, e) ∷ (1, r) ∷ (P, p) ∷ ks)
      → (field s at 4 ≡ e) × (field s (at + 4) 1 ≡ r) × (field s (at + 5) P ≡ p) × Reads s (at + 5 + P) 0 ks
  unhead ks h = (rw add-zero at h.0, h.1.0, h.1.1.0, rebase s at (5 + P) (at + 5 + P) 0 ks (omega arith) h.1.1.1)

  -- the frame decoded is that of the head's kind
  of_kind : {k : Kind} {f : Frame} → OfHead H k → f ≡ there k → f ≡ decoded P s at
  unfolding decoded
  of_kind o e = e ∙ ap there (kind_is H o)

  decoded_is : (f : Frame) → OfKind f → Reads s at 0 (fields_of P f) → f ≡ decoded P s at
  decoded_is Silence k h = of_kind (silence (rw add-zero at h.0)) refl
  decoded_is Stop k h = of_kind (stop (rw add-zero at h.0)) refl
  decoded_is (Repeat e p) k h =
      let u = unhead [] h in
      of_kind (repeat (omega arith) u.1) (cc)
  decoded_is (Unvoiced e k1 k2 k3 k4) k h =
      let u = unhead ((5, k1) ∷ (5, k2) ∷ (4, k3) ∷ (4, k4) ∷ []) h in
      let w = u.3 in
      let q = rw add-zero at w.0 in
      of_kind (unvoiced (omega arith) (omega arith) u.2) (cc)
  decoded_is (Voiced e p k1 k2 k3 k4 k5 k6 k7 k8 k9 k10) k h =
      let u = unhead ((5, k1) ∷ (5, k2) ∷ (4, k3) ∷ (4, k4) ∷ (4, k5) ∷ (4, k6) ∷ (4, k7) ∷ (3, k8) ∷ (3, k9) ∷ (3, k10) ∷ []) h in
      let w = u.3 in
      let q = rw add-zero at w.0 in
      of_kind (voiced (omega arith) (omega arith) (omega arith)) (cc)

  bits_counted : (f : Frame) → length (bits_of P f) ≡ bit_count P f
  bits_counted f = length_encoded (fields_of P f)

  sound : (begun : ℕ) (f : Frame) (n : ℕ) → frame_from P s begun at ≡ Ok (f, n) → Proper P f × Begins s at (bits_of P f) × (n ≡ at + length (bits_of P f))
  unfolding Good
  sound begun f n h =
      let w = whole_decoded P s at begun (sym h) in
      let g = subst Good (sym w.0) decoded_good (omega (arith, w.1, w.2)) in
      (g.0, g.1, rw bits_counted w.1)

  complete : (begun : ℕ) (f : Frame) → Proper P f → Begins s at (bits_of P f) → frame_from P s begun at ≡ Ok (f, at + length (bits_of P f))
  complete begun f k h =
      let d = decoded_is f k.1 (reads s at 0 (fields_of P f) k.0 (rw add-zero h)) in
      sym (whole_is P s at begun (bits_counted f ∙ ap (bit_count P) d) d (begins_room s at (bits_of P f) h))

-- wherever a prefix begins
pub central_from : (P : ℕ) (s : List ℕ) (begun at : ℕ) (f : Frame) (n : ℕ)
    → (frame_from P s begun at ≡ Ok (f, n)) ↔ (Proper P f × Begins s at (bits_of P f) × (n ≡ at + length (bits_of P f)))
central_from P s begun at f n = (sound P s at begun f n, λ h. complete P s at begun f h.0 h.1 ∙ ap (λ n. Ok (f, n)) (sym h.2))

pub central_law : CentralLaw
central_law P s at = central_from P s at at
