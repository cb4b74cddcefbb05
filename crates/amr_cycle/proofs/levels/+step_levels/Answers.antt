use Rattle.std.proofs.Common.{◌≡◌, ◌+◌, ℕ, List, ◌∷◌, map, sym, ap, subst, ◌∙◌, arith}
use Rattle.std.specs.Prelude.{IfSome}
use Rattle.std.specs.declared.option.Option.{Option}
use Rattle.std.specs.declared.option.Option.TheVariants.{Some}
use Rattle.std.specs.Arc.{arc_value}
use Rattle.std.specs.Option.{option_copied}
use Rattle.amr_box.specs.Cells.{Extent}
use Rattle.amr_laws.specs.Sides.{inflow_beside, outflow_beside}
use Rattle.amr_patch.specs.Levels.{level_of, patches_of}
use Rattle.amr_patch.specs.Patches.{box}
use Rattle.amr_ghost.specs.Frames.{old_masses}
use Rattle.amr_def.specs.State.{Level, Masses}
use Rattle.amr_register.specs.declared.register.Register.{Register}
use Rattle.amr_register.specs.Entries.{with_entries}
use Rattle.amr_register.specs.Fields.{HasEdgesOf}
use Rattle.amr_transfer.specs.Sums.{summed}
use Rattle.amr_cycle.specs.Cycles.{entries_of}
use Rattle.amr_cycle.specs.declared.kept.KeptCoarser.{KeptCoarser}
use Rattle.amr_advance.proofs.KeptLaws.{kept_layout}
use Rattle.amr_cycle.specs.KeptLevels.{AreKept}
use Rattle.std.proofs.lemmas.Result.{on_ok_weaker}
use Rattle.amr_cycle.proofs.KeptLaws.{all_below_after, kept_rest}
use Rattle.amr_cycle.proofs.ReadyLevels.{kept_anew, own_ready, ready_all, ready_anew}
use Rattle.amr_cycle.proofs.Registers.{edges_stay}
use Rattle.amr_cycle.proofs.Whole.{IsBegun, IsMade, IsOver, coarser_1, coarser_2, fits_2, flows_1, flows_2, flows_split, has2, kept_2, levels_are, next2_coarsenable, of_level_2, parents_2, part_1, part_2, placed_2, rest1_coarsenable, rest_coarsenable, small_2}
use Rattle.amr_cycle.proofs.levels.+step_levels.Given as given
use Rattle.amr_cycle.proofs.levels.+step_levels.Goals.{After-for_finer-inner, In-Some-split_first_mut, In_ok-step_levels, In_ok-step_levels-2}
use Rattle.amr_cycle.proofs.levels.+step_levels.Goals as goal

-- ---- the stages

abbrev split : (g : given.Over) (t : ℕ) (c : In-Some-split_first_mut g t) → IsOver c.args.given.now.problem.now c.args.given.now.level (level_of c.args.level.now) c.args.finer.now (old_masses (option_copied c.args.given.now.old))
split g t c = record { part = c.requires.part; next = c.in-Some-split_first_mut.next.now; rest = c.in-Some-split_first_mut.finest.now; is = c.in-Some-split_first_mut.ensures.cases.0 }

abbrev begun : (g : given.Over) (t : ℕ) (c : After-for_finer-inner g t) → IsBegun (split g t (goal.at.After-for_finer-inner g t c).In-Some-split_first_mut)
begun g t c = record {
  before = arc_value c.in_ok-below.below.before;
  same = c.in_ok-below.ensures.below.before;
  register = c.in_ok-below.below.regs.coarser;
  has = c.in_ok-below.ensures.below.register;
  problem = c.for_finer-inner.result.problem.now;
  problem_is = c.for_finer-inner.ensures.problem;
  number = c.for_finer-inner.result.level;
  number_is = c.for_finer-inner.ensures.level;
  over = option_copied c.for_finer-inner.result.old;
  over_is = c.for_finer-inner.ensures.old;
}

abbrev once : (g : given.Over) (t : ℕ) (c : In_ok-step_levels g t) → IsMade (begun g t (goal.at.In_ok-step_levels g t c).After-for_finer-inner) c.in-Some-split_first_mut.next.now c.in-Some-split_first_mut.finest.now c.in_ok-below.below.regs.coarser
once g t c =
    let made = c.step_levels.new in
    let call = c.in_ok-step_levels.ensures in
    record { next = made.level; rest = made.finer; after = made.regs.coarser; levels = call.levels; boxes = call.patches; change = call.coarser }

abbrev twice : (g : given.Over) (t : ℕ) (c : In_ok-step_levels-2 g t) → IsMade (begun g t (goal.at.In_ok-step_levels-2 g t c).After-for_finer-inner) c.step_levels.new.level c.step_levels.new.finer c.step_levels.new.regs.coarser
twice g t c =
    let made = c.step_levels-2.new in
    let call = c.in_ok-step_levels-2.ensures in
    record { next = made.level; rest = made.finer; after = made.regs.coarser; levels = call.levels; boxes = call.patches; change = call.coarser }

-- ---- the goals

pub step_coarse-requires-clause-inflow : goal.step_coarse-requires-clause-inflow
step_coarse-requires-clause-inflow g t c κs within =
    let at = goal.at.step_coarse-requires-clause-inflow g t c in
    omega (arith, c.requires.inflow, flows_split (split g t at.In-Some-split_first_mut) (inflow_beside c.args.given.now.problem.now))

pub step_coarse-requires-clause-outflow : goal.step_coarse-requires-clause-outflow
step_coarse-requires-clause-outflow g t c κs within =
    let at = goal.at.step_coarse-requires-clause-outflow g t c in
    omega (arith, c.requires.outflow, flows_split (split g t at.In-Some-split_first_mut) (outflow_beside c.args.given.now.problem.now))

pub step_levels-requires-clause-part : goal.step_levels-requires-clause-part
step_levels-requires-clause-part g t c κs within =
    let at = goal.at.step_levels-requires-clause-part g t c in
    part_1 _ (begun g t at.After-for_finer-inner)

pub step_coarse-requires-clause-coarser : goal.step_coarse-requires-clause-coarser
step_coarse-requires-clause-coarser g t c κs within = c.requires.regs.coarser

pub step_levels-requires-clause-regs : goal.step_levels-requires-clause-regs
step_levels-requires-clause-regs g t c κs within =
    let at = goal.at.step_levels-requires-clause-regs g t c in
    record { coarser = coarser_1 _ (begun g t at.After-for_finer-inner); finer = c.in_ok-below.ensures.below.no_finer }

pub step_levels-requires-clause-coarsenable : goal.step_levels-requires-clause-coarsenable
step_levels-requires-clause-coarsenable g t c κs within =
    let at = goal.at.step_levels-requires-clause-coarsenable g t c in
    rest_coarsenable (split g t at.In-Some-split_first_mut) c.requires.coarsenable

pub step_levels-requires-clause-inflow : goal.step_levels-requires-clause-inflow
step_levels-requires-clause-inflow g t c κs within =
    let at = goal.at.step_levels-requires-clause-inflow g t c in
    omega (arith, c.requires.inflow, c.in_ok-below.ensures.below.inflow, flows_split (split g t at.In-Some-split_first_mut) (inflow_beside c.args.given.now.problem.now), flows_1 _ (begun g t at.After-for_finer-inner) inflow_beside)

pub step_levels-requires-clause-outflow : goal.step_levels-requires-clause-outflow
step_levels-requires-clause-outflow g t c κs within =
    let at = goal.at.step_levels-requires-clause-outflow g t c in
    omega (arith, c.requires.outflow, c.in_ok-below.ensures.below.outflow, flows_split (split g t at.In-Some-split_first_mut) (outflow_beside c.args.given.now.problem.now), flows_1 _ (begun g t at.After-for_finer-inner) outflow_beside)

pub step_levels-requires-2-clause-part : goal.step_levels-requires-2-clause-part
step_levels-requires-2-clause-part g t c κs within =
    let at = goal.at.step_levels-requires-2-clause-part g t c in
    part_2 _ _ (once g t at.In_ok-step_levels)

pub step_levels-requires-2-clause-regs : goal.step_levels-requires-2-clause-regs
step_levels-requires-2-clause-regs g t c κs within =
    let at = goal.at.step_levels-requires-2-clause-regs g t c in
    record { coarser = coarser_2 _ _ (once g t at.In_ok-step_levels); finer = c.in_ok-step_levels.ensures.finer }

pub step_levels-requires-2-clause-coarsenable : goal.step_levels-requires-2-clause-coarsenable
step_levels-requires-2-clause-coarsenable g t c κs within =
    let at = goal.at.step_levels-requires-2-clause-coarsenable g t c in
    rest1_coarsenable _ _ (once g t at.In_ok-step_levels) c.requires.coarsenable

pub step_levels-requires-2-clause-inflow : goal.step_levels-requires-2-clause-inflow
step_levels-requires-2-clause-inflow g t c κs within =
    let at = goal.at.step_levels-requires-2-clause-inflow g t c in
    omega (
      arith,
      c.requires.inflow,
      c.in_ok-below.ensures.below.inflow,
      c.in_ok-step_levels.ensures.inflow,
      flows_split (split g t at.In-Some-split_first_mut) (inflow_beside c.args.given.now.problem.now),
      flows_1 _ (begun g t at.After-for_finer-inner) inflow_beside,
      flows_2 _ _ (once g t at.In_ok-step_levels) inflow_beside,
    )

pub step_levels-requires-2-clause-outflow : goal.step_levels-requires-2-clause-outflow
step_levels-requires-2-clause-outflow g t c κs within =
    let at = goal.at.step_levels-requires-2-clause-outflow g t c in
    omega (
      arith,
      c.requires.outflow,
      c.in_ok-below.ensures.below.outflow,
      c.in_ok-step_levels.ensures.outflow,
      flows_split (split g t at.In-Some-split_first_mut) (outflow_beside c.args.given.now.problem.now),
      flows_1 _ (begun g t at.After-for_finer-inner) outflow_beside,
      flows_2 _ _ (once g t at.In_ok-step_levels) outflow_beside,
    )

pub correct-requires-clause-placed : goal.correct-requires-clause-placed
correct-requires-clause-placed g t c κs within =
    let at = goal.at.correct-requires-clause-placed g t c in
    placed_2 _ _ (once g t at.In_ok-step_levels) (twice g t at.In_ok-step_levels-2)

pub correct-requires-clause-edges : goal.correct-requires-clause-edges
correct-requires-clause-edges g t c κs within =
    let boxes = map box (patches_of (arc_value c.in_ok-below.below.before)) in
    subst (λ (bs : List Extent). IfSome c.step_levels-2.new.regs.coarser (HasEdgesOf bs)) (c.in_ok-below.ensures.below.before_patches ∙ sym c.in_ok-below.ensures.patches)
    (edges_stay boxes _ c.step_levels.new.regs.coarser c.step_levels-2.new.regs.coarser c.in_ok-step_levels-2.ensures.coarser
    (edges_stay boxes _ c.in_ok-below.below.regs.coarser c.step_levels.new.regs.coarser c.in_ok-step_levels.ensures.coarser c.in_ok-below.ensures.below.edges))

pub correct-requires-clause-of_level : goal.correct-requires-clause-of_level
correct-requires-clause-of_level g t c κs within =
    let at = goal.at.correct-requires-clause-of_level g t c in
    of_level_2 _ _ (once g t at.In_ok-step_levels) (twice g t at.In_ok-step_levels-2)
    (level_of c.step_coarse.new.level).masses c.in_ok-below.ensures.masses

pub correct-requires-clause-not_negative : goal.correct-requires-clause-not_negative
correct-requires-clause-not_negative g t c κs within =
    let at = goal.at.correct-requires-clause-not_negative g t c in
    kept_2 _ _ (once g t at.In_ok-step_levels) (twice g t at.In_ok-step_levels-2)
    (level_of c.step_coarse.new.level).masses c.in_ok-below.ensures.masses

pub correct-requires-clause-fits : goal.correct-requires-clause-fits
correct-requires-clause-fits g t c κs within =
    let at = goal.at.correct-requires-clause-fits g t c in
    fits_2 _ _ (once g t at.In_ok-step_levels) (twice g t at.In_ok-step_levels-2)
    (level_of c.step_coarse.new.level).masses c.in_ok-below.ensures.masses

pub correct-requires-clause-parents : goal.correct-requires-clause-parents
correct-requires-clause-parents g t c κs within =
    let at = goal.at.correct-requires-clause-parents g t c in
    parents_2 _ _ (once g t at.In_ok-step_levels) (twice g t at.In_ok-step_levels-2)
    (level_of c.step_coarse.new.level).masses c.in_ok-below.ensures.masses

pub correct-requires-clause-coarsenable : goal.correct-requires-clause-coarsenable
correct-requires-clause-coarsenable g t c κs within =
    let at = goal.at.correct-requires-clause-coarsenable g t c in
    next2_coarsenable _ _ (once g t at.In_ok-step_levels) (twice g t at.In_ok-step_levels-2) c.requires.coarsenable

pub correct-requires-clause-small : goal.correct-requires-clause-small
correct-requires-clause-small g t c κs within =
    let at = goal.at.correct-requires-clause-small g t c in
    small_2 _ _ (once g t at.In_ok-step_levels) (twice g t at.In_ok-step_levels-2)
    (level_of c.step_coarse.new.level).masses c.in_ok-below.ensures.masses

pub returns-clause-levels : goal.returns-clause-levels
returns-clause-levels g t c =
    let at = goal.at.returns-clause-levels g t c in
    (λ i. level_of c.correct.new.level ∷ c.in_ok-correct.ensures.finer i ∷ map level_of c.step_levels-2.new.finer)
    ∙ levels_are _ _ (once g t at.In_ok-step_levels) (twice g t at.In_ok-step_levels-2)
    (level_of c.correct.new.level) (c.in_ok-correct.ensures.boxes ∙ c.in_ok-below.ensures.boxes)
    (c.in_ok-correct.ensures.masses ∙ ap (λ (m : Masses). summed (level_of c.step_levels-2.new.level).masses (with_entries (entries_of c.step_levels-2.new.regs.coarser) m)) c.in_ok-below.ensures.masses)

pub returns-clause-inflow : goal.returns-clause-inflow
returns-clause-inflow g t c =
    let at = goal.at.returns-clause-inflow g t c in
    omega (
      arith,
      c.in_ok-below.ensures.below.inflow,
      c.in_ok-step_levels.ensures.inflow,
      c.in_ok-step_levels-2.ensures.inflow,
      flows_split (split g t at.In-Some-split_first_mut) (inflow_beside c.args.given.now.problem.now),
      flows_1 _ (begun g t at.After-for_finer-inner) inflow_beside,
      flows_2 _ _ (once g t at.In_ok-step_levels) inflow_beside,
    )

pub returns-clause-outflow : goal.returns-clause-outflow
returns-clause-outflow g t c =
    let at = goal.at.returns-clause-outflow g t c in
    omega (
      arith,
      c.in_ok-below.ensures.below.outflow,
      c.in_ok-step_levels.ensures.outflow,
      c.in_ok-step_levels-2.ensures.outflow,
      flows_split (split g t at.In-Some-split_first_mut) (outflow_beside c.args.given.now.problem.now),
      flows_1 _ (begun g t at.After-for_finer-inner) outflow_beside,
      flows_2 _ _ (once g t at.In_ok-step_levels) outflow_beside,
    )

pub step_levels-requires-clause-crew : goal.step_levels-requires-clause-crew
step_levels-requires-clause-crew g t c κs within = λ tasks. rw (c.for_finer-inner.ensures.problem, c.step_coarse.ensures.workers) (c.requires.crew tasks)

pub step_levels-requires-2-clause-crew : goal.step_levels-requires-2-clause-crew
step_levels-requires-2-clause-crew g t c κs within = λ tasks. rw (c.for_finer-inner.ensures.problem, c.step_levels.ensures.workers, c.step_coarse.ensures.workers) (c.requires.crew tasks)

pub correct-requires-clause-crew : goal.correct-requires-clause-crew
correct-requires-clause-crew g t c κs within = λ tasks. rw (c.step_levels-2.ensures.workers, c.step_levels.ensures.workers, c.step_coarse.ensures.workers) (c.requires.crew tasks)

-- ---- what is kept

pub step_finest-requires-clause-kept : goal.step_finest-requires-clause-kept
step_finest-requires-clause-kept g t c κs within = own_ready c.args.given.now c.args.again (level_of c.args.level.now) (map level_of c.args.finer.now) c.in-Some.own.now c.in-Some.rest.now c.args.kept.now c.in-Some.ensures.cases.0 c.forget.new.kept c.forget.ensures c.requires.kept

pub returns-in_default-split_first_mut-clause-kept : goal.returns-in_default-split_first_mut-clause-kept
returns-in_default-split_first_mut-clause-kept g t c =
    let p = c.args.given.now.problem.now in
    let l = c.args.given.now.level in
    on_ok_weaker c.step_finest.result
    (λ own. ready_all c.args.given.now (level_of c.step_finest.new.level) (map level_of c.args.finer.now) c.step_finest.new.own c.in-Some.rest.now own
    (kept_rest p l (level_of c.args.level.now) (map level_of c.args.finer.now) c.in-Some.own.now c.in-Some.rest.now c.args.kept.now c.in-Some.ensures.cases.0 c.requires.kept.kept)) c.step_finest.ensures.kept

pub step_coarse-requires-clause-kept : goal.step_coarse-requires-clause-kept
step_coarse-requires-clause-kept g t c κs within = own_ready c.args.given.now c.args.again (level_of c.args.level.now) (map level_of c.args.finer.now) c.in-Some.own.now c.in-Some.rest.now c.args.kept.now c.in-Some.ensures.cases.0 c.forget.new.kept c.forget.ensures c.requires.kept

pub step_levels-requires-clause-kept : goal.step_levels-requires-clause-kept
step_levels-requires-clause-kept g t c κs within =
    let p = c.args.given.now.problem.now in
    let l = c.args.given.now.level in
    let next = c.in-Some-split_first_mut.next.now in
    let finest = c.in-Some-split_first_mut.finest.now in
    let levels : map level_of c.args.finer.now ≡ level_of next ∷ map level_of finest = ap (map level_of) c.in-Some-split_first_mut.ensures.cases.0 in
    let rest = kept_rest p l (level_of c.args.level.now) (map level_of c.args.finer.now) c.in-Some.own.now c.in-Some.rest.now c.args.kept.now c.in-Some.ensures.cases.0 c.requires.kept.kept in
    ready_anew c.for_finer-inner.result p (l + 1) (level_of next ∷ map level_of finest) c.in-Some.rest.now c.for_finer-inner.ensures.problem c.for_finer-inner.ensures.level (subst (λ (ks : List Level). AreKept p (l + 1) ks c.in-Some.rest.now) levels rest)

pub step_levels-requires-2-clause-kept : goal.step_levels-requires-2-clause-kept
step_levels-requires-2-clause-kept g t c κs within = c.in_ok-step_levels.ensures.kept

pub returns-clause-kept : goal.returns-clause-kept
returns-clause-kept g t c =
    let at = goal.at.returns-clause-kept g t c in
    let p = c.args.given.now.problem.now in
    let l = c.args.given.now.level in
    let k = level_of c.args.level.now in
    let fine = level_of c.in-Some-split_first_mut.next.now in
    let old = old_masses (option_copied c.args.given.now.old) in
    let finest = map level_of c.step_levels-2.new.finer in
    let has = has2 _ _ (once g t at.In_ok-step_levels) (twice g t at.In_ok-step_levels-2) in
    let same =
    subst (λ (o : Option Register). IfSome c.kept_of.result (λ (b : KeptCoarser). (b.before ≡ arc_value c.in_ok-below.below.before) × (b.finer ≡ c.in_ok-below.below.finer) × (Some b.register ≡ o))) c.in_ok-correct.ensures.register c.kept_of.ensures in
    let edges =
    edges_stay (map box (patches_of (arc_value c.in_ok-below.below.before))) _ c.step_levels.new.regs.coarser c.step_levels-2.new.regs.coarser c.in_ok-step_levels-2.ensures.coarser
    (edges_stay (map box (patches_of (arc_value c.in_ok-below.below.before))) _ c.in_ok-below.below.regs.coarser c.step_levels.new.regs.coarser c.in_ok-step_levels.ensures.coarser c.in_ok-below.ensures.below.edges) in
    let finer = kept_anew c.for_finer-inner.result p (l + 1) (level_of c.step_levels-2.new.level ∷ finest) c.step_levels-2.new.kept c.for_finer-inner.ensures.problem c.for_finer-inner.ensures.level c.in_ok-step_levels-2.ensures.kept.kept in
    ready_all c.args.given.now (level_of c.correct.new.level) (level_of c.correct.new.finer ∷ finest) (record { layout = c.correct.new.kept; below = c.kept_of.result }) c.step_levels-2.new.kept
    (record {
      layout = c.in_ok-correct.ensures.kept p l (level_of c.step_coarse.new.level).masses old c.in_ok-below.ensures.kept.layout;
      below = all_below_after p l k fine _ c.kept_of.result (arc_value c.in_ok-below.below.before) c.in_ok-below.below.finer c.step_levels-2.new.regs.coarser c.in_ok-below.ensures.below.before c.in_ok-below.ensures.below.finer_boxes same has edges;
    })
    (subst (λ (j : Level). AreKept p (l + 1) (j ∷ finest) c.step_levels-2.new.kept) (sym c.in_ok-correct.ensures.finer) finer)

pub correct-requires-clause-kept : goal.correct-requires-clause-kept
correct-requires-clause-kept g t c κs within =
    kept_layout c.args.given.now.problem.now c.args.given.now.level (level_of c.step_coarse.new.level).masses (old_masses (option_copied c.args.given.now.old)) c.step_coarse.new.own.layout c.in_ok-below.ensures.kept.layout
