use Rattle.amr_def.specs.Domain.{domain_of}
use Rattle.amr_patch.specs.Levels.{level_of}
use Rattle.amr_register.specs.Beside.{stands_in}
use Rattle.amr_register.specs.Covers.{covers}
use Rattle.amr_register.proofs.CollectLaws.{BoxesDone}
use Rattle.amr_register.proofs.beside.register_cells.Given as goal

abbrev pub invariant-loop-b : goal.invariant-loop-b
invariant-loop-b l = BoxesDone (domain_of l.dom) (stands_in l.belt (domain_of l.dom) (covers l.pair.cover.now)) (level_of l.pair.fine.now).boxes l.cells.items l.b-index
