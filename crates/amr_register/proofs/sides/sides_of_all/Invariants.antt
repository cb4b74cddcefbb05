use Rattle.amr_def.specs.Domain.{domain_of}
use Rattle.amr_register.specs.Beside.{AreStretches}
use Rattle.amr_register.specs.Covers.{covers}
use Rattle.amr_register.proofs.SideLists.{HaveSidesUpTo}
use Rattle.amr_register.proofs.sides.sides_of_all.Given as goal

abbrev pub invariant-loop-c : goal.invariant-loop-c
invariant-loop-c l = record {
  sides : HaveSidesUpTo (domain_of l.dom) (covers l.cover) l.cells l.sides.items l.c-index;
  last : AreStretches (covers l.cover) l.last;
}
