use Rattle.std.proofs.Common.{◌≡◌, ◌&&◌, take}
use Rattle.std.specs.List.{list_any}
use Rattle.amr_box.specs.declared.Cell.{Cell}
use Rattle.amr_box.specs.Cells.{is_same_cell}
use Rattle.amr_def.specs.Domain.{domain_box}
use Rattle.amr_tags.specs.TagSets.{has}
use Rattle.amr_witness.specs.Maps.{masses_of, old_of}
use Rattle.amr_witness_regrid.specs.Wanted.{is_wanted_block}
use Rattle.amr_regrid.specs.Blocks.{blocks_of}
use Rattle.amr_witness_regrid.proofs.wanted.wanted_blocks.Given as goal

abbrev pub invariant-loop-b : goal.invariant-loop-b
invariant-loop-b l =
    (l.tags.bx ≡ domain_box (blocks_of l.p l.here.level))
    × ((d : Cell) → has l.tags d ≡ list_any (λ c. is_wanted_block l.p l.here.level (masses_of l.here.masses.now) (old_of l.here.coarse) l.finer c && is_same_cell c d) (take l.b-index l.b-items))
