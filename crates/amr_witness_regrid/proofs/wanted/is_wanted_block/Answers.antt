use Rattle.std.proofs.Common.{◌∙◌, sym, ap, subst}
use Rattle.std.specs.List.{All, list_any}
use Rattle.amr_box.specs.Cells.{cells_of}
use Rattle.amr_def.specs.Domain.{refined}
use Rattle.amr_def.specs.NewBoxes.{block_side}
use Rattle.amr_witness.specs.Maps.{masses_of, old_of}
use Rattle.amr_witness_regrid.specs.Places.{IsUpTo}
use Rattle.amr_witness_regrid.specs.Wanted.{is_wanted_by}
use Rattle.amr_witness_regrid.proofs.BlockPlaces.{block_cells, block_low, fine, side_few, side_some}
use Rattle.amr_regrid.specs.Blocks.{IsLow}
use Rattle.amr_witness_regrid.proofs.wanted.is_wanted_block.Goals as goal

pub refined-requires-clause-some : goal.refined-requires-clause-some
refined-requires-clause-some c = side_some c.args.p.now

pub refined-requires-clause-few : goal.refined-requires-clause-few
refined-requires-clause-few c = side_few c.args.p.now

pub refined-requires-clause-low : goal.refined-requires-clause-low
refined-requires-clause-low c = subst IsLow (sym c.single.ensures) (block_low c.args.p.now c.args.here.level c.args.block (fine c.args.p.now c.args.here.level c.requires.known) c.requires.block)

pub cells_of-requires : goal.cells_of-requires
cells_of-requires c = c.refined.ensures.near

pub has_wanted-requires-clause-cells : goal.has_wanted-requires-clause-cells
has_wanted-requires-clause-cells c =
    let is = c.as_slice.ensures.value ∙ c.in_ok-cells.ensures ∙ ap cells_of (c.refined.ensures.value ∙ ap (refined (block_side c.args.p.now)) c.single.ensures) in
    subst (All (IsUpTo 4098)) (sym is) (block_cells c.args.p.now c.args.here.level c.args.block (fine c.args.p.now c.args.here.level c.requires.known) c.requires.block)

pub returns : goal.returns
returns c =
    let is = c.as_slice.ensures.value ∙ c.in_ok-cells.ensures ∙ ap cells_of (c.refined.ensures.value ∙ ap (refined (block_side c.args.p.now)) c.single.ensures) in
    c.has_wanted.ensures ∙ ap (list_any (is_wanted_by c.args.p.now c.args.here.level (masses_of c.args.here.masses.now) (old_of c.args.here.coarse) c.args.finer.now)) is
