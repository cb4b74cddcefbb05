use Rattle.amr_def.specs.Domain.{domain_of}
use Rattle.amr_register.specs.Beside.{stands_in}
use Rattle.amr_register.specs.Covers.{covers}
use Rattle.amr_register.specs.Bars.{IsStretch}
use Rattle.amr_register.proofs.CollectLaws.{RowsDone}
use Rattle.amr_register.proofs.beside.push_left_and_right.Given as goal

abbrev pub invariant-loop-j : goal.invariant-loop-j
invariant-loop-j l = record {
  done : RowsDone (domain_of l.dom) (stands_in l.belt (domain_of l.dom) (covers l.cover)) l.b l.initial.cells.items l.cells.items l.j;
  west : IsStretch (covers l.cover) l.west;
  east : IsStretch (covers l.cover) l.east;
}
