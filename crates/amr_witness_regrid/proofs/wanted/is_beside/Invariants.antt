use Rattle.std.proofs.Common.{◌≡◌, false, take}
use Rattle.std.specs.List.{list_any}
use Rattle.amr_box.specs.Cells.{has_child_where, in_boxes, moved}
use Rattle.amr_def.specs.Domain.{domain, home_cell}
use Rattle.amr_witness_regrid.proofs.wanted.is_beside.Given as goal

abbrev pub invariant-loop-o : goal.invariant-loop-o
invariant-loop-o l = list_any (λ o. has_child_where (in_boxes l.boxes) (home_cell (domain l.p l.level) (moved l.c o))) (take l.o-index l.ring) ≡ false
