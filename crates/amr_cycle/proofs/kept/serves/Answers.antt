use Rattle.std.proofs.Common.{◌∙◌}
use Rattle.amr_patch.specs.Levels.{level_of}
use Rattle.amr_alike.proofs.SameBoxes.{some_in_boxes}
use Rattle.amr_cycle.proofs.kept.serves.Goals as goal

pub returns : goal.returns
returns c = λ yes. record {
  before = c.is_on_boxes_of.ensures c.if-not-is_on_boxes_of.false;
  finer = some_in_boxes (level_of c.args.next.now).masses c.patches.result.now c.args.kept.now.finer.items c.patches.ensures.masses (c.have_boxes.ensures yes ∙ c.deref.ensures.value);
}
