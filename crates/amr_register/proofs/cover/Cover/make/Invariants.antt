use Rattle.amr_patch.specs.Levels.{level_of}
use Rattle.amr_register.proofs.BarLists.{AreRowsOf}
use Rattle.amr_register.proofs.cover.Cover.make.Given as goal

abbrev pub invariant-loop-b : goal.invariant-loop-b
invariant-loop-b l = AreRowsOf (level_of l.fine).boxes l.bars.items l.b-index
