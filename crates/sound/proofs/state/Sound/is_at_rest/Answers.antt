-- The derived `==` decides equality, as `at_rest` does of the sound at rest.
use mathlib.Core.Bool.{◌&&◌}
use mathlib.Core.Path.{◌≡◌, refl}
use mathlib.Core.List.{List}
use lib.IntN.{ℤ}
use lib.Pointwise.{pointwise}
use Rattle.std.specs.Bool.{Decides}
use Rattle.std.specs.Cmp.{booleans_Decides}
use Rattle.std.specs.Ordering.{int_eq}
use Rattle.std.proofs.lemmas.Bool.Decides.{same_from_decides, Decides-int_eq, Decides-eqb, Decides-and, Decides-like, Decides-at}
use Rattle.std.proofs.lemmas.Slice.Eq.{slice_eq-Decides}
use Rattle.sound.specs.declared.params.Params.{Params}
use Rattle.sound.proofs.Laws.{rest_exactly}
use Rattle.sound.proofs.state.Sound.is_at_rest.Goals as goal

list_decides : (xs ys : List ℤ) → Decides (pointwise int_eq xs ys) (xs ≡ ys)
list_decides xs ys = slice_eq-Decides Decides-int_eq xs ys _ refl

params_decide : (v w : Params) → Decides (int_eq v.energy w.energy && (int_eq v.pitch w.pitch && pointwise int_eq v.k w.k)) (v ≡ w)
params_decide v w =
    let fields = (v.energy ≡ w.energy) × ((v.pitch ≡ w.pitch) × (v.k ≡ w.k)) in
    Decides-like _ (λ (h : fields). λ i. record { energy = h.0 i; pitch = h.1.0 i; k = h.1.1 i }) (λ e. (rw e, (rw e, rw e)))
    (Decides-and _ _ (Decides-int_eq _ _) (Decides-and _ _ (Decides-int_eq _ _) (list_decides _ _)))

pub returns : goal.returns
returns c =
    let s = c.args.self in
    let t = c.at_rest.result in
    let law = rest_exactly s in
    let fields = (s.current ≡ t.current) × ((s.target ≡ t.target) × ((s.memory ≡ t.memory) × ((s.noise ≡ t.noise) × ((s.pulse ≡ t.pulse) × (s.hold ≡ t.hold))))) in
    let decides : Decides c.eq.result (s ≡ t) =
    Decides-at _ _ c.eq.ensures
    (Decides-like _ (λ (h : fields). λ i. record { current = h.0 i; target = h.1.0 i; memory = h.1.1.0 i; noise = h.1.1.1.0 i; pulse = h.1.1.1.1.0 i; hold = h.1.1.1.1.1 i })
    (λ e. (rw e, (rw e, (rw e, (rw e, (rw e, rw e))))))
    (Decides-and _ _ (params_decide _ _) (Decides-and _ _ (params_decide _ _) (Decides-and _ _ (list_decides _ _)
    (Decides-and _ _ (Decides-eqb _ _) (Decides-and _ _ (Decides-eqb _ _) (booleans_Decides _ _))))))) in
    same_from_decides _ _ (rw c.at_rest.ensures at decides) (law.equal, law.test)
