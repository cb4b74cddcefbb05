use Rattle.std.proofs.Common.{◌≡◌, ◌∙◌, true, List, pos, get_or, IsTrue, sym, ap, subst}
use Rattle.std.proofs.lemmas.List.{take_all}
use Rattle.amr_box.specs.declared.Cell.{Cell}
use Rattle.amr_box.specs.Cells.{cell, cells_of, Extent, holds}
use Rattle.amr_def.specs.Domain.{domain_box}
use Rattle.amr_def.proofs.ClusterLaws.{Each}
use Rattle.amr_laws.proofs.CellSets.{each_held}
use Rattle.amr_tags.specs.TagSets.{has}
use Rattle.amr_witness.specs.Maps.{masses_of, old_of}
use Rattle.amr_witness_regrid.specs.Wanted.{is_wanted_block}
use Rattle.amr_witness_regrid.proofs.BlockPlaces.{fine}
use Rattle.amr_witness_regrid.proofs.Marks.{mark_more, marked, marked_box}
use Rattle.amr_witness_regrid.proofs.Near.{each_get}
use Rattle.amr_regrid.specs.Blocks.{blocks_of}
use Rattle.amr_witness_regrid.proofs.wanted.wanted_blocks.Goals as goal

pub blocks_of-whole-requires : goal.blocks_of-whole-requires
blocks_of-whole-requires c = fine c.args.p.now c.args.here.level c.requires.known

pub loop-b-init : goal.loop-b-init
loop-b-init c = (c.in_ok-tags.ensures.in_box ∙ c.blocks_of-whole.ensures.value, λ d. c.in_ok-tags.ensures.empty d)

pub is_wanted_block-requires-clause-block : goal.is_wanted_block-requires-clause-block
is_wanted_block-requires-clause-block c =
    let b = domain_box (blocks_of c.args.p.now c.args.here.level) in
    let is = c.as_slice-b-items.ensures.value ∙ c.in_ok-blocks.ensures ∙ ap cells_of c.blocks_of-whole.ensures.value in
    let held = each_get (λ q. holds b q ≡ true) c.as_slice-b-items.result.now c.loop-b.b-index (cell (pos 0) (pos 0)) c.loop-b-test.true (subst (Each (λ q. holds b q ≡ true)) (sym is) (each_held b)) in
    held

pub mark-requires : goal.mark-requires
mark-requires c =
    let b = domain_box (blocks_of c.args.p.now c.args.here.level) in
    let is = c.as_slice-b-items.ensures.value ∙ c.in_ok-blocks.ensures ∙ ap cells_of c.blocks_of-whole.ensures.value in
    let held = each_get (λ q. holds b q ≡ true) c.as_slice-b-items.result.now c.loop-b.b-index (cell (pos 0) (pos 0)) c.loop-b-test.true (subst (Each (λ q. holds b q ≡ true)) (sym is) (each_held b)) in
    subst (λ (e : Extent). IsTrue (holds e (get_or c.as_slice-b-items.result.now c.loop-b.b-index (cell (pos 0) (pos 0))))) (sym c.loop-b.invariant.0) held

pub loop-b-preserved : goal.loop-b-preserved
loop-b-preserved c =
    let f = is_wanted_block c.args.p.now c.args.here.level (masses_of c.args.here.masses.now) (old_of c.args.here.coarse) c.args.finer.now in
    (c.mark.ensures.bx ∙ c.loop-b.invariant.0, mark_more f (has c.loop-b.tags) (has c.mark.new.tags) c.in_ok-is_wanted.is_wanted c.as_slice-b-items.result.now c.loop-b.b-index (cell (pos 0) (pos 0)) c.loop-b-test.true c.loop-b.invariant.1 c.mark.ensures.cells c.in_ok-is_wanted.ensures)

pub returns-clause-bx : goal.returns-clause-bx
returns-clause-bx c = c.loop-b.invariant.0

pub returns-clause-cells : goal.returns-clause-cells
returns-clause-cells c =
    let f = is_wanted_block c.args.p.now c.args.here.level (masses_of c.args.here.masses.now) (old_of c.args.here.coarse) c.args.finer.now in
    let b = domain_box (blocks_of c.args.p.now c.args.here.level) in
    let is = take_all c.loop-b.b-index c.as_slice-b-items.result.now c.loop-b-test.false ∙ c.as_slice-b-items.ensures.value ∙ c.in_ok-blocks.ensures ∙ ap cells_of c.blocks_of-whole.ensures.value in
    λ d. c.loop-b.invariant.1 d ∙ ap (λ (cs : List Cell). marked f cs d) is ∙ marked_box f b d
