use Rattle.std.proofs.Common.{◌+◌, [], ◌∷◌, map, sym, subst, ap, ◌∙◌, arith}
use Rattle.std.specs.Prelude.{IfSome}
use Rattle.std.specs.declared.option.Option.{Option}
use Rattle.std.specs.declared.option.Option.TheVariants.{None}
use Rattle.std.specs.Option.{option_copied}
use Rattle.amr_laws.specs.Sides.{inflow_beside, outflow_beside}
use Rattle.amr_patch.specs.Levels.{level_of, patches_of}
use Rattle.amr_patch.specs.Patches.{box}
use Rattle.amr_ghost.specs.Frames.{old_masses}
use Rattle.amr_register.specs.declared.register.Register.{Register}
use Rattle.amr_register.specs.Fields.{HasEdgesOf}
use Rattle.amr_advance.specs.Registers.{HasFiner}
use Rattle.amr_flows.proofs.SubcycleSteps.{of_level_alone}
use Rattle.amr_cycle.proofs.Cycling.{alone_after, part_fits, part_levels}
use Rattle.amr_cycle.proofs.Registers.{none_stays}
use Rattle.std.proofs.lemmas.Result.{on_ok_weaker}
use Rattle.amr_cycle.proofs.levels.step_finest.Goals as goal

pub advance_kept-requires-clause-may : goal.advance_kept-requires-clause-may
advance_kept-requires-clause-may g c κs within =
    let p = c.args.given.now.problem.now in
    let l = c.args.given.now.level in
    let k = level_of c.args.level.now in
    let old = old_masses (option_copied c.args.given.now.old) in
    record {
      number = c.requires.number;
      of_domain = part_levels p l (k ∷ []) old c.requires.part;
      fits = part_fits p l k [] old c.requires.part;
      coarser = c.requires.regs.coarser;
      finer = subst (HasFiner p l k None) (sym c.requires.regs.finer) tt;
      edges = subst (λ (r : Option Register). IfSome r (HasEdgesOf (map box (patches_of c.args.level.now)))) (sym c.requires.regs.finer) tt;
      inflow = omega (arith, c.requires.inflow, of_level_alone (inflow_beside p) p l k old);
      outflow = omega (arith, c.requires.outflow, of_level_alone (outflow_beside p) p l k old);
    }

pub advance_kept-requires-clause-crew : goal.advance_kept-requires-clause-crew
advance_kept-requires-clause-crew g c κs within = c.requires.crew _

pub returns-clause-kept : goal.returns-clause-kept
returns-clause-kept g c = on_ok_weaker c.advance_kept.result (λ made. record { layout = c.advance_kept.ensures.kept; below = c.requires.kept.below }) c.advance_kept.ensures.made

pub returns-clause-level : goal.returns-clause-level
returns-clause-level g c =
    on_ok_weaker c.advance_kept.result
    (λ made. alone_after c.args.given.now.problem.now c.args.given.now.level (level_of c.args.level.now) (level_of c.advance_kept.new.level) (old_masses (option_copied c.args.given.now.old)) made.boxes made.masses)
    c.advance_kept.ensures.made

pub returns-clause-patches : goal.returns-clause-patches
returns-clause-patches g c = on_ok_weaker c.advance_kept.result (λ made. made.patches) c.advance_kept.ensures.made

pub returns-clause-coarser : goal.returns-clause-coarser
returns-clause-coarser g c = on_ok_weaker c.advance_kept.result (λ made. made.coarser) c.advance_kept.ensures.made

pub returns-clause-finer : goal.returns-clause-finer
returns-clause-finer g c = on_ok_weaker c.advance_kept.result (λ made. none_stays _ c.args.regs.now.finer c.advance_kept.new.regs.finer c.requires.regs.finer made.finer) c.advance_kept.ensures.made

pub returns-clause-inflow : goal.returns-clause-inflow
returns-clause-inflow g c =
    let p = c.args.given.now.problem.now in
    on_ok_weaker c.advance_kept.result (λ made. made.inflow ∙ ap (λ n. c.args.regs.now.inflow + n) (sym (of_level_alone (inflow_beside p) p c.args.given.now.level (level_of c.args.level.now) (old_masses (option_copied c.args.given.now.old))))) c.advance_kept.ensures.made

pub returns-clause-outflow : goal.returns-clause-outflow
returns-clause-outflow g c =
    let p = c.args.given.now.problem.now in
    on_ok_weaker c.advance_kept.result (λ made. made.outflow ∙ ap (λ n. c.args.regs.now.outflow + n) (sym (of_level_alone (outflow_beside p) p c.args.given.now.level (level_of c.args.level.now) (old_masses (option_copied c.args.given.now.old))))) c.advance_kept.ensures.made
