-- The level step, a part at a time.
use Rattle.std.proofs.Common.{◌≡◌, ℕ, zero, suc, Bool, true, false, cond, ℤ, ◌+ℤ◌, refl, sym, ap, ◌∙◌, List, [], ◌∷◌, length}
use Rattle.std.proofs.lemmas.Bool.{cond-false, cond-true}
use Rattle.amr_box.specs.declared.Face.{Face}
use Rattle.amr_def.specs.declared.problem.Problem.{Problem}
use Rattle.amr_def.specs.State.{Masses}
use Rattle.amr_def.specs.Flux.{flux_at, updated}
use Rattle.amr_def.specs.LevelStep.{Stepped, effective, at_top, over_finer, step_within, step, through_children}
use Rattle.amr_witness.specs.Parts.{beside_covered, through_both}

pub step_length : (p : Problem) (n l : ℕ) (ms : List Masses) (old : Masses) → length (step_within p n l ms old).levels ≡ length ms
unfolding step_within at_top over_finer
step_length p zero l ms old = refl
step_length p (suc n) l [] old = refl
step_length p (suc n) l (m ∷ []) old = refl
step_length p (suc n) l (m ∷ fine ∷ finer) old =
    let first = step_within p n (suc l) (fine ∷ finer) m in
    ap suc (step_length p n (suc l) first.levels m ∙ step_length p n (suc l) (fine ∷ finer) m)

-- the second of two finer steps, by the number of levels that it has
second_step : (p : Problem) (l : ℕ) (ms : List Masses) (m : Masses) → step_within p (length ms) l (step p l ms m).levels m ≡ step p l (step p l ms m).levels m
second_step p l ms m = ap (λ n. step_within p n l (step p l ms m).levels m) (sym (step_length p (length ms) l ms m))

pub plain_flux : (p : Problem) (l : ℕ) (m : Masses) (ms : List Masses) (old : Masses) (f : Face) → beside_covered p l ms f ≡ false → (step p l (m ∷ ms) old).fluxes f ≡ flux_at p l m old f
unfolding step_within at_top over_finer effective
plain_flux p l m [] old f none = refl
plain_flux p l m (fine ∷ finer) old f none = cond-false _ _ _ none

pub refluxed : (p : Problem) (l : ℕ) (m : Masses) (ms : List Masses) (old : Masses) (f : Face) → beside_covered p l ms f ≡ true → (step p l (m ∷ ms) old).fluxes f ≡ through_both p (suc l) ms m f
unfolding step_within over_finer effective
refluxed p l m [] old f covered = cc
refluxed p l m (fine ∷ finer) old f covered =
    let first = step p (suc l) (fine ∷ finer) m in
    cond-true _ _ _ covered ∙ ap (λ (s : Stepped). through_children first.fluxes f.axis f.x f.y +ℤ through_children s.fluxes f.axis f.x f.y) (second_step p (suc l) (fine ∷ finer) m)

pub levels_after : (p : Problem) (l : ℕ) (m : Masses) (ms : List Masses) (old : Masses) → (step p l (m ∷ ms) old).levels ≡ updated m (step p l (m ∷ ms) old).fluxes ∷ (step p (suc l) (step p (suc l) ms m).levels m).levels
unfolding step_within at_top over_finer
levels_after p l m [] old = refl
levels_after p l m (fine ∷ finer) old =
    ap (λ (s : Stepped). updated m (step p l (m ∷ fine ∷ finer) old).fluxes ∷ s.levels) (second_step p (suc l) (fine ∷ finer) m)
