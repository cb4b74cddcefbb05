use Rattle.std.proofs.Common.{◌≡◌, ◌∙◌, List, map, refl, sym, ap, subst, arith}
use Rattle.std.specs.Option.{option_copied}
use Rattle.amr_ghost.specs.Frames.{old_masses, AreInDomain}
use Rattle.amr_layout.specs.Surroundings.{around, Around}
use Rattle.amr_patch.specs.Patches.{box, masses_in, ArePatchesApart}
use Rattle.amr_register.specs.declared.edges.EdgeCell.{EdgeCell}
use Rattle.amr_register.specs.EdgeCells.{lists_of}
use Rattle.amr_advance.specs.Registers.{AreEdgesFor, AreNetsOf, edges_of}
use Rattle.amr_advance.specs.KeptLayouts.{totals_kept, ServesLevel}
use Rattle.amr_advance.proofs.KeptTotals.{first_there, kept_count}
use Rattle.amr_advance.proofs.Parts.{back_unchanged, came_back, edges_for, may_take, nets_taken, on_err, totals_of, unchanged}
use Rattle.amr_advance.proofs.Stepped.{stepped_apart, stepped_boxes, stepped_masses}
use Rattle.amr_advance.proofs.steps.step_patches.Goals as goal
use Rattle.amr_advance.specs.Steps.{all_around, HasMadeStep}
use Rattle.amr_advance.proofs.AllPatches.{around_is, whole_is}
use Rattle.amr_def.specs.Domain.{domain}

pub returns-in_err-layout-clause-same_register : goal.returns-in_err-layout-clause-same_register
returns-in_err-layout-clause-same_register g c = on_err c.from_residual.result (unchanged c.args.register.now)

pub run_level-run-requires-clause-edges : goal.run_level-run-requires-clause-edges
run_level-run-requires-clause-edges g c κs within =
    let lists : lists_of c.deref_mut.result.now ≡ edges_of c.args.register.now = ap lists_of c.deref_mut.ensures.value ∙ c.take_edges-edges.ensures.lists in
    subst (λ (xs : List (List EdgeCell)). AreEdgesFor (map box c.args.patches.now) xs) (sym lists) (edges_for (map box c.args.patches.now) c.args.register.now c.requires.may.edges)

pub returns-in_err-run-clause-same_register : goal.returns-in_err-run-clause-same_register
returns-in_err-run-clause-same_register g c =
    on_err c.from_residual-in_err-run.result
    (back_unchanged (lists_of c.run_level-run.new.edges) c.args.register.now c.put_edges.new.register
    (came_back c.args.register.now c.take_edges-edges.new.register c.put_edges.new.register c.take_edges-edges.result c.deref_mut.result.now c.run_level-run.new.edges c.take_edges-edges.ensures.lists c.deref_mut.ensures.value c.deref_mut.ensures.len c.take_edges-edges.ensures.rest c.in_err-run.ensures.same_edges c.put_edges.ensures))

pub take_nets-requires : goal.take_nets-requires
take_nets-requires g c =
    may_take c.args.given.problem.now c.args.given.level (masses_in c.args.patches.now) (lists_of c.run_level-run.new.edges) (option_copied c.args.given.finer) c.args.register.now c.put_edges.new.register c.requires.may.register
    (came_back c.args.register.now c.take_edges-edges.new.register c.put_edges.new.register c.take_edges-edges.result c.deref_mut.result.now c.run_level-run.new.edges c.take_edges-edges.ensures.lists c.deref_mut.ensures.value c.deref_mut.ensures.len c.take_edges-edges.ensures.rest c.in_ok-run.ensures.made.edges.same c.put_edges.ensures)
    c.in_ok-run.ensures.made.edges.small

pub returns-clause-boxes : goal.returns-clause-boxes
returns-clause-boxes g c = stepped_boxes _ _ c.run_level-run.new.patches c.in_ok-run.ensures.made.stepped

pub returns-clause-apart : goal.returns-clause-apart
returns-clause-apart g c = stepped_apart _ _ c.run_level-run.new.patches c.in_ok-run.ensures.made.stepped c.requires.may.step.level.once

-- what the step leaves
pub returns-clause-stepped : goal.returns-clause-stepped
returns-clause-stepped g c =
    let p = c.args.given.problem.now in
    let l = c.args.given.level in
    let m = masses_in c.args.patches.now in
    let old = old_masses (option_copied c.args.given.old) in
    let s = around p l c.args.patches.now c.args.given.cells.now (option_copied c.args.given.finer) in
    let k = c.run_level-run.new.layout in
    let is = around_is c.args.given c.args.patches.now (whole_is c.args.given c.args.patches.now c.requires.may.step c.requires.may.unfilled) c.requires.may.unfilled in
    let all = whole_is c.args.given c.args.patches.now c.requires.may.step c.requires.may.unfilled in
    let h = subst (λ (a : Around). HasMadeStep a old c.run_level-run.new.patches (lists_of c.deref_mut.result.now) (lists_of c.run_level-run.new.edges) k) is c.in_ok-run.ensures.made in
    let count = kept_count s k h.layout.laid_out in
    let ys = lists_of c.run_level-run.new.edges in
    let lists : lists_of c.deref_mut.result.now ≡ edges_of c.args.register.now = ap lists_of c.deref_mut.ensures.value ∙ c.take_edges-edges.ensures.lists in
    let nets : AreNetsOf p l m old (edges_of c.args.register.now) ys = subst (λ (xs : List (List EdgeCell)). AreNetsOf p l m old xs ys) lists h.edges.nets in
    record {
      masses = stepped_masses _ _ c.run_level-run.new.patches h.stepped;
      count = count;
      few = omega (arith, h.layout.laid_out.few, count);
      small = h.totals.small;
      totals = totals_of p l m old c.args.patches.now c.args.given.cells.now (option_copied c.args.given.finer) (totals_kept k) (subst (AreInDomain (domain p l)) all c.requires.may.step.level.inside) c.requires.may.step.level.once refl h.totals.are;
      there = first_there s k h.layout.laid_out;
      register = nets_taken p l m ys old (option_copied c.args.given.finer) c.args.register.now c.put_edges.new.register c.take_nets.new.register c.requires.may.register
          (came_back c.args.register.now c.take_edges-edges.new.register c.put_edges.new.register c.take_edges-edges.result c.deref_mut.result.now c.run_level-run.new.edges c.take_edges-edges.ensures.lists c.deref_mut.ensures.value c.deref_mut.ensures.len c.take_edges-edges.ensures.rest h.edges.same c.put_edges.ensures)
          nets c.take_nets.ensures;
    }

pub returns-clause-kept : goal.returns-clause-kept
returns-clause-kept g c =
    let h =
    subst (λ (a : Around). ServesLevel a (masses_in c.run_level-run.new.patches) (old_masses (option_copied c.args.given.old)) c.run_level-run.new.layout)
    (around_is c.args.given c.args.patches.now (whole_is c.args.given c.args.patches.now c.requires.may.step c.requires.may.unfilled) c.requires.may.unfilled) c.in_ok-run.ensures.made.layout in
    record {
      layout = record { made_for = all_around c.args.given c.args.patches.now; of_problem = refl; unfilled = refl; all = refl; laid_out = h.laid_out };
      masses = h.masses;
    }

pub returns-in_err-run-clause-apart : goal.returns-in_err-run-clause-apart
returns-in_err-run-clause-apart g c = subst ArePatchesApart (sym c.in_err-run.ensures.same) c.requires.may.step.level.once

pub run_level-run-requires-clause-layout : goal.run_level-run-requires-clause-layout
run_level-run-requires-clause-layout g c κs within =
    subst (λ (a : Around). ServesLevel a (masses_in c.args.patches.now) (old_masses (option_copied c.args.given.old)) c.in_ok-layout.layout)
    (sym (around_is c.args.given c.args.patches.now (whole_is c.args.given c.args.patches.now c.requires.may.step c.requires.may.unfilled) c.requires.may.unfilled)) c.in_ok-layout.ensures.layout

pub layout_for-requires-clause-all : goal.layout_for-requires-clause-all
layout_for-requires-clause-all g c κs within = whole_is c.args.given c.args.patches.now c.requires.may.step c.requires.may.unfilled
