use Rattle.std.proofs.Common.{◌≡◌, false, take}
use Rattle.std.specs.List.{list_any}
use Rattle.amr_box.specs.Cells.{moved}
use Rattle.amr_def.specs.Domain.{domain, home_cell}
use Rattle.amr_def.specs.Tags.{is_tagged_by}
use Rattle.amr_witness.specs.Maps.{masses_of, old_of}
use Rattle.amr_witness_regrid.proofs.tagged.is_grown.Given as goal

abbrev pub invariant-loop-o : goal.invariant-loop-o
invariant-loop-o l = list_any (λ o. is_tagged_by l.p l.here.level (masses_of l.here.masses.now) (old_of l.here.coarse) (home_cell (domain l.p l.here.level) (moved l.c o))) (take l.o-index l.buffer) ≡ false
