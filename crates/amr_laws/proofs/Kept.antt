-- A cell that is of a level before and after a regrid keeps its mass.
use Rattle.std.proofs.Common.{◌≡◌, ℕ, zero, suc, Bool, IsSome, refl, sym, ◌∙◌, List, [], ◌∷◌}
use Rattle.std.specs.Option.{unwrap_or}
use Rattle.amr_box.specs.declared.Cell.{Cell}
use Rattle.amr_box.specs.Cells.{Extent, in_boxes}
use Rattle.amr_def.specs.declared.problem.Problem.{Problem}
use Rattle.amr_def.specs.declared.problem.Row.{Row}
use Rattle.amr_def.specs.State.{Masses, Level, State, level_at, mass_of}
use Rattle.amr_def.specs.NewBoxes.{new_boxes}
use Rattle.amr_def.specs.Regrid.{split_mass, refilled, refill, new_level_count, regrid_by}
use Rattle.amr_def.proofs.Chain.{nth}
use Rattle.amr_laws.proofs.Refill.{is_some-given, kept}

nothing_there : (c : Cell) → IsSome ((nth [] 0).masses c) → (a b : ℕ) → a ≡ b
nothing_there c h a b = cc

refill_keeps : (coarse : Masses) (olds : List Level) (ns : List (List Extent)) (j : ℕ) (c : Cell) → IsSome ((nth olds j).masses c) → IsSome ((nth (refill coarse olds ns) j).masses c) → mass_of (nth (refill coarse olds ns) j).masses c ≡ mass_of (nth olds j).masses c
unfolding refill
refill_keeps coarse olds [] j c was is = cc
refill_keeps coarse olds ([] ∷ more) j c was is = cc
refill_keeps coarse [] ((b ∷ bs) ∷ more) j c was is = cc
refill_keeps coarse (o ∷ os) ((b ∷ bs) ∷ more) zero c was is =
    kept coarse o.masses (b ∷ bs) c (sym (is_some-given (in_boxes (b ∷ bs) c) (unwrap_or (o.masses c) (split_mass coarse c))) ∙ is) was
refill_keeps coarse (o ∷ os) ((b ∷ bs) ∷ more) (suc j) c was is = refill_keeps (refilled coarse o.masses (b ∷ bs)) os more j c was is

levels_keep : (p : Problem) (tagged : ℕ → Cell → Bool) (n : ℕ) (rs : List Row) (ks : List Level) (l : ℕ) (c : Cell) → let s : State = record { step = n; rows = rs; levels = ks } in IsSome ((level_at s l).masses c) → IsSome ((level_at (regrid_by p tagged s) l).masses c) → mass_of (level_at (regrid_by p tagged s) l).masses c ≡ mass_of (level_at s l).masses c
unfolding regrid_by
levels_keep p tagged n rs [] l c was is = refl
levels_keep p tagged n rs (k ∷ ks) zero c was is = refl
levels_keep p tagged n rs (k ∷ ks) (suc l) c was is =
    let s : State = record { step = n; rows = rs; levels = k ∷ ks } in
    refill_keeps k.masses ks (new_boxes p tagged (new_level_count p s) 0) l c was is

pub masses_keep : (p : Problem) (tagged : ℕ → Cell → Bool) (s : State) (l : ℕ) (c : Cell) → IsSome ((level_at s l).masses c) → IsSome ((level_at (regrid_by p tagged s) l).masses c) → mass_of (level_at (regrid_by p tagged s) l).masses c ≡ mass_of (level_at s l).masses c
masses_keep p tagged s l c was is = levels_keep p tagged s.step s.rows s.levels l c was is
