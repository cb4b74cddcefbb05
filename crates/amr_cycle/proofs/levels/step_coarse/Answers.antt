use Rattle.std.proofs.Common.{◌∙◌, ◌+◌, ◌<◌, ◌^◌, List, map, refl, sym, ap, subst, arith}
use Rattle.std.specs.Prelude.{IfSome}
use Rattle.std.specs.declared.option.Option.{Option}
use Rattle.std.specs.declared.option.Option.TheVariants.{Some}
use Rattle.std.specs.Option.{option_copied}
use Rattle.amr_def.specs.Facts.{IsLevel}
use Rattle.amr_def.specs.Flux.{flux_at}
use Rattle.amr_def.specs.State.{Level}
use Rattle.amr_laws.specs.Sides.{inflow_beside, is_uncovered, outflow_beside}
use Rattle.amr_register.specs.declared.register.Register.{Register}
use Rattle.amr_advance.specs.Registers.{BothChange, HasCoarser, HasFiner, taken}
use Rattle.amr_lots.specs.Lots.{LevelStepFits}
use Rattle.amr_box.specs.Cells.{Extent}
use Rattle.amr_patch.specs.declared.levels.Level.{Level as Held}
use Rattle.amr_patch.specs.Levels.{level_of, patches_of}
use Rattle.amr_patch.specs.Patches.{box}
use Rattle.amr_register.specs.Fields.{HasEdgesOf}
use Rattle.amr_ghost.specs.Frames.{old_masses}
use Rattle.amr_cycle.proofs.Cycling.{coarse_fits, coarse_level, coarse_nested, fine_level}
use Rattle.amr_cycle.proofs.Registers.{edges_stay, has_finer, lost}
use Rattle.amr_cycle.proofs.levels.step_coarse.Goals as goal

pub below_for-requires-clause-coarse : goal.below_for-requires-clause-coarse
below_for-requires-clause-coarse g c κs within = coarse_level c.args.given.now.problem.now c.args.given.now.level (level_of c.args.level.now) (level_of c.args.next.now) (old_masses (option_copied c.args.given.now.old)) c.requires.part

pub below_for-requires-clause-fine : goal.below_for-requires-clause-fine
below_for-requires-clause-fine g c κs within = fine_level c.args.given.now.problem.now c.args.given.now.level (level_of c.args.level.now) (level_of c.args.next.now) (old_masses (option_copied c.args.given.now.old)) c.requires.part

pub below_for-requires-clause-nested : goal.below_for-requires-clause-nested
below_for-requires-clause-nested g c κs within = coarse_nested c.args.given.now.problem.now c.args.given.now.level (level_of c.args.level.now) (level_of c.args.next.now) (old_masses (option_copied c.args.given.now.old)) c.requires.part

-- ---- the step of the level, which is as it was

pub advance_kept-requires-clause-may : goal.advance_kept-requires-clause-may
advance_kept-requires-clause-may g c κs within =
    let p = c.args.given.now.problem.now in
    let l = c.args.given.now.level in
    let k = level_of c.args.level.now in
    let fine = level_of c.args.next.now in
    let old = old_masses (option_copied c.args.given.now.old) in
    let register = c.in_ok-before.field-0.register in
    let same = sym c.below_for.ensures.level in
    record {
      number = omega arith;
      of_domain = subst (IsLevel p l) same (coarse_level p l k fine old c.requires.part);
      fits = subst (λ (j : Level). LevelStepFits p l j.masses old) same (coarse_fits p l k fine old c.requires.part);
      coarser = subst (λ (j : Level). HasCoarser p l j (option_copied c.args.given.now.old) c.args.regs.now.coarser) same c.requires.coarser;
      finer = subst (λ (j : Level). HasFiner p l j (Some c.args.next.now) (Some register)) same
          (has_finer p l k c.args.next.now register c.requires.number (fine_level p l k fine old c.requires.part) (coarse_nested p l k fine old c.requires.part) c.in_ok-before.ensures.below.register c.in_ok-before.ensures.zero);
      edges = subst (λ (bs : List Extent). HasEdgesOf bs register) (c.in_ok-before.ensures.patches ∙ ap (map box) (sym c.below_for.ensures.level_patches)) c.in_ok-before.ensures.below.edges;
      inflow = subst (λ (j : Level). c.args.regs.now.inflow + inflow_beside p l (is_uncovered j.masses fine.masses) (flux_at p l j.masses old) < 2 ^ 63) same c.requires.inflow;
      outflow = subst (λ (j : Level). c.args.regs.now.outflow + outflow_beside p l (is_uncovered j.masses fine.masses) (flux_at p l j.masses old) < 2 ^ 63) same c.requires.outflow;
    }

pub advance_kept-requires-clause-crew : goal.advance_kept-requires-clause-crew
advance_kept-requires-clause-crew g c κs within = rw c.below_for.ensures.workers (c.requires.crew _)

pub advance_kept-requires-clause-kept : goal.advance_kept-requires-clause-kept
advance_kept-requires-clause-kept g c κs within = c.below_for.ensures.kept.layout

-- ---- what it gives

pub returns-clause-masses : goal.returns-clause-masses
returns-clause-masses g c = rw (sym c.below_for.ensures.level) c.in_ok-advance_kept.ensures.made.masses

pub returns-clause-boxes : goal.returns-clause-boxes
returns-clause-boxes g c = c.in_ok-advance_kept.ensures.made.boxes ∙ ap (λ (k : Level). k.boxes) c.below_for.ensures.level

pub returns-clause-patches : goal.returns-clause-patches
returns-clause-patches g c = c.in_ok-advance_kept.ensures.made.patches ∙ ap (map box) c.below_for.ensures.level_patches

pub returns-clause-coarser : goal.returns-clause-coarser
returns-clause-coarser g c = rw (sym c.below_for.ensures.level) c.in_ok-advance_kept.ensures.made.coarser

pub returns-clause-kept : goal.returns-clause-kept
returns-clause-kept g c = record { layout = c.in_ok-advance_kept.ensures.kept; below = c.below_for.ensures.kept.below }

pub returns-clause-below : goal.returns-clause-below
returns-clause-below g c = record {
  before = ap (λ (k : Held). level_of k) c.in_ok-new.ensures.ok ∙ c.in_ok-before.ensures.below.before;
  before_patches = ap (λ (k : Held). map box (patches_of k)) c.in_ok-new.ensures.ok ∙ c.in_ok-before.ensures.patches;
  finer_boxes = c.in_ok-before.ensures.below.finer;
  register = lost c.args.given.now.problem.now c.args.given.now.level (level_of c.args.level.now) (level_of c.args.next.now) (old_masses (option_copied c.args.given.now.old)) c.in_ok-before.field-0.register c.take.result c.in_ok-before.ensures.below.register c.in_ok-before.ensures.zero
      (subst (λ (k : Level). BothChange (taken c.args.given.now.problem.now c.args.given.now.level k.masses (old_masses (option_copied c.args.given.now.old)) (level_of c.args.next.now).masses) (Some c.in_ok-before.field-0.register) c.take.result) c.below_for.ensures.level
      (subst (λ (s : Option Register). BothChange (taken c.args.given.now.problem.now c.args.given.now.level (level_of c.below_for.new.level).masses (old_masses (option_copied c.args.given.now.old)) (level_of c.args.next.now).masses) (Some c.in_ok-before.field-0.register) s) (sym c.take.ensures.value) c.in_ok-advance_kept.ensures.made.finer));
  edges = let boxes = map box (patches_of c.in_ok-before.field-0.before) in
      let by = taken c.args.given.now.problem.now c.args.given.now.level (level_of c.below_for.new.level).masses (old_masses (option_copied c.args.given.now.old)) (level_of c.args.next.now).masses in
      subst (λ (k : Held). IfSome c.take.result (HasEdgesOf (map box (patches_of k)))) (sym c.in_ok-new.ensures.ok)
      (edges_stay boxes by (Some c.in_ok-before.field-0.register) c.take.result
      (subst (λ (s : Option Register). BothChange by (Some c.in_ok-before.field-0.register) s) (sym c.take.ensures.value) c.in_ok-advance_kept.ensures.made.finer) c.in_ok-before.ensures.below.edges);
  no_finer = refl;
  inflow = rw (sym c.below_for.ensures.level) c.in_ok-advance_kept.ensures.made.inflow;
  outflow = rw (sym c.below_for.ensures.level) c.in_ok-advance_kept.ensures.made.outflow;
}
