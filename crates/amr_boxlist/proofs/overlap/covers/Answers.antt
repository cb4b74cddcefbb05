use Rattle.amr_boxlist.proofs.SharedCells.{covers_is}
use Rattle.amr_boxlist.proofs.overlap.covers.Goals as goal

pub returns : goal.returns
returns c = covers_is c.args.boxes.now c.args.b.now _ _ c.requires.near c.requires.apart c.count_shared.ensures c.area.ensures.sides
