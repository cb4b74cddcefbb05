use Rattle.std.proofs.Common.{◌∙◌, ◌&&◌, ◌||◌, ap, sym}
use Rattle.amr_box.specs.Cells.{holds}
use Rattle.amr_tags.specs.TagSets.{TagSet, has}
use Rattle.amr_tags.proofs.Tags.set_in.Goals as goal

pub invariant_of-self : goal.invariant_of-self
invariant_of-self c = record { near = c.self.invariant.near; rows = c.set_common.ensures.rows; room = c.self.invariant.room ∙ sym c.set_common.ensures.count }

pub returns-clause-cells : goal.returns-clause-cells
returns-clause-cells c = λ q. c.set_common.ensures.cells q ∙ ap (λ (t : TagSet). has t q || (holds t.bx q && holds c.args.b q)) c.self.view_is
