use Rattle.std.proofs.Common.{List, sym, subst}
use Rattle.amr_box.specs.Cells.{Extent}
use Rattle.amr_patch.specs.Levels.{level_of}
use Rattle.amr_register.specs.Fields.{HasEdgesOf}
use Rattle.amr_alike.proofs.SameBoxes.{some_in_boxes}
use Rattle.amr_cycle.proofs.kept.make_below.Goals as goal

pub returns-clause-below : goal.returns-clause-below
returns-clause-below g c = record {
  before = c.requires.before;
  finer = some_in_boxes (level_of c.args.next.now).masses c.patches.result.now c.in_ok-boxes_of.field-0.items c.patches.ensures.masses (sym c.in_ok-boxes_of.ensures);
  register = c.in_ok-make_in_threads.ensures.cells;
  edges = subst (λ (bs : List Extent). HasEdgesOf bs c.in_ok-make_in_threads.field-0) (sym c.requires.patches) c.in_ok-make_in_threads.ensures.edges;
}
