use Rattle.amr_def.specs.Domain.{domain_of}
use Rattle.amr_register.specs.Beside.{stands_in}
use Rattle.amr_register.specs.Covers.{covers}
use Rattle.amr_register.specs.Bars.{IsStretch}
use Rattle.amr_register.proofs.CollectLaws.{ColumnsDone}
use Rattle.amr_register.proofs.beside.push_below_and_above.Given as goal

abbrev pub invariant-loop-i : goal.invariant-loop-i
invariant-loop-i l = record {
  done : ColumnsDone (domain_of l.dom) (stands_in l.belt (domain_of l.dom) (covers l.cover)) l.b l.initial.cells.items l.cells.items l.i;
  south : IsStretch (covers l.cover) l.south;
  north : IsStretch (covers l.cover) l.north;
}
