use Rattle.std.proofs.Common.{◌≡◌, ◌∙◌, ℕ, List, [], ◌∷◌, refl, sym, ap, subst, arith}
use Rattle.std.specs.declared.option.Option.TheVariants.{None}
use Rattle.std.specs.Option.{option_copied}
use Rattle.amr_def.specs.declared.problem.Problem.{Problem}
use Rattle.amr_def.specs.State.{Masses, no_masses}
use Rattle.amr_ghost.proofs.Inside.{patches_inside}
use Rattle.amr_ghost.specs.Frames.{old_masses}
use Rattle.amr_layout.specs.Adds.{HasRegisterCells}
use Rattle.amr_layout.specs.Surroundings.{Around, around, finer_masses}
use Rattle.amr_layout.proofs.Among.{all_among}
use Rattle.amr_lots.specs.Lots.{LevelStepFits}
use Rattle.amr_lots.specs.Works.{coarser_of}
use Rattle.amr_lots.specs.declared.lot.Duty.TheVariants.{Step}
use Rattle.amr_patch.specs.declared.patches.Patch.{Patch}
use Rattle.amr_patch.specs.Levels.{level_of}
use Rattle.amr_patch.specs.Orders.{IsOrderOf}
use Rattle.amr_patch.specs.Patches.{ArePatchesApart, masses_in}
use Rattle.amr_advance.specs.Outer.{IsSharedOf}
use Rattle.amr_advance.specs.Phases.{IsOpened}
use Rattle.amr_advance.specs.Steps.{MayStepLevel, all_around, around_of, coarser_masses, whole_of}
use Rattle.amr_advance.proofs.Advancing.{cells_serve}
use Rattle.amr_cycle.proofs.Cycling.{part_fits, part_levels}
use Rattle.amr_cycle.proofs.StateSteps.{no_coarser, whole_part}
use Rattle.amr_tests_steps.proofs.board.open_level.Given as given
use Rattle.amr_tests_steps.proofs.board.open_level.Goals.{After-first_step-given}
use Rattle.amr_tests_steps.proofs.board.open_level.Goals as goal

-- what lies around level 0, and the masses of the coarser level, which isn't there
ground : (g : given.Over) (c : After-first_step-given g) (ps : List Patch) → around c.args.p.now 0 ps [] None ≡ all_around c.first_step-given.result ps
ground g c ps =
    let e = c.first_step-given.ensures in
    λ i. around (sym e.problem i) (sym e.level i) ps (sym e.cells i) (option_copied (sym e.finer i))

-- all of it is worked on
whole : (g : given.Over) (c : After-first_step-given g) → whole_of c.first_step-given.result ≡ c.take_patches-patches.result.items
whole g c = (λ i. (c.first_step-given.ensures.basis i).patches.value.items) ∙ ap (λ v. v.items) c.of-2.ensures

of_all : (g : given.Over) (c : After-first_step-given g) (ps : List Patch) → ps ≡ c.take_patches-patches.result.items → around c.args.p.now 0 ps [] None ≡ around_of c.first_step-given.result ps
of_all g c ps is =
    let e = c.first_step-given.ensures in
    λ i. record {
      problem = sym e.problem i;
      level = sym e.level i;
      patches = ps;
      whole = (is ∙ sym (whole g c)) i;
      filled = sym e.unfilled i;
      cells = sym e.cells i;
      finer = finer_masses (option_copied (sym e.finer i));
    }

none : (g : given.Over) (c : After-first_step-given g) → no_masses ≡ coarser_masses c.first_step-given.result
none g c = λ i. old_masses (option_copied (sym c.first_step-given.ensures.old i))

pub open_patches-requires-clause-step : goal.open_patches-requires-clause-step
open_patches-requires-clause-step g c κs within =
    let at = (goal.at.open_patches-requires-clause-step g c).After-first_step-given in
    let p = c.args.p.now in
    let k = level_of c.args.level in
    let ps = c.deref_mut.result.now in
    let m : k.masses ≡ masses_in ps = c.take_patches-patches.ensures.masses ∙ ap masses_in (sym c.deref_mut.ensures.value) in
    let may : MayStepLevel (around p 0 ps [] None) no_masses = record {
      level = omega arith;
      apart = subst ArePatchesApart (sym c.deref_mut.ensures.value) c.take_patches-patches.ensures.apart;
      inside = patches_inside p 0 k ps (part_levels p 0 (k ∷ []) no_masses (whole_part p k [] c.requires)) m;
      fits = subst (λ (n : Masses). LevelStepFits p 0 n no_masses) m (part_fits p 0 k [] no_masses (whole_part p k [] c.requires));
      worked_on = all_among ps;
      once = subst ArePatchesApart (sym c.deref_mut.ensures.value) c.take_patches-patches.ensures.apart;
      framed = refl;
    } in
    let e = c.first_step-given.ensures in
    record {
      level = subst (λ (n : Masses). MayStepLevel (around_of c.first_step-given.result ps) n) (none g at) (subst (λ (s : Around). MayStepLevel s no_masses) (of_all g at ps c.deref_mut.ensures.value) may);
      basis = record {
        problem = (λ i. (e.basis i).problem.value) ∙ c.of.ensures ∙ sym e.problem;
        patches = refl;
        coarser = (λ i. coarser_of (e.basis i)) ∙ none g at;
      };
      shared = subst (IsSharedOf c.first_step-given.result.old) (sym e.shared) tt;
    }

pub open_patches-requires-clause-order : goal.open_patches-requires-clause-order
open_patches-requires-clause-order g c κs within = subst (IsOrderOf c.order-order.result) (sym c.take_patches-patches.ensures.all ∙ sym c.deref_mut.ensures.value) c.order-order.ensures

pub open_patches-requires-clause-cells : goal.open_patches-requires-clause-cells
open_patches-requires-clause-cells g c κs within =
    let p = c.args.p.now in
    let k = level_of c.args.level in
    let ps = c.deref_mut.result.now in
    subst (λ (s : Around). HasRegisterCells s) (ground g (goal.at.open_patches-requires-clause-cells g c).After-first_step-given ps)
    (cells_serve p 0 k None None ps None (no_coarser p k [] c.requires) (part_levels p 0 (k ∷ []) no_masses (whole_part p k [] c.requires)) (ap masses_in c.deref_mut.ensures.value ∙ sym c.take_patches-patches.ensures.masses))

pub returns : goal.returns
returns g c =
    let opened = c.in_ok-opened.ensures in
    let e = c.first_step-given.ensures in
    let b = c.first_step-given.result.basis.now in
    let r = c.in_ok-opened.opened in (
      b,
      opened.0,
      opened.1,
      subst (λ (l : ℕ). IsOpened b l Step c.args.p.now opened.0 opened.1 r.0 r.1) e.level
          (subst (λ (p : Problem). IsOpened b c.first_step-given.result.level Step p opened.0 opened.1 r.0 r.1) e.problem opened.2),
    )

pub open_patches-requires-clause-unfilled : goal.open_patches-requires-clause-unfilled
open_patches-requires-clause-unfilled g c κs within = (goal.at.open_patches-requires-clause-unfilled g c).After-first_step-given.first_step-given.ensures.unfilled
