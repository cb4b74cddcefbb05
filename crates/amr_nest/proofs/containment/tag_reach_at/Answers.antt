use Rattle.std.proofs.Common.{◌∙◌, ◌&&◌, ◌||◌, Bool, sym, ap}
use Rattle.amr_box.specs.Cells.{holds}
use Rattle.amr_tags.specs.TagSets.{has}
use Rattle.amr_nest.proofs.containment.tag_reach_at.Goals as goal
use Rattle.amr_nest.proofs.Gathered.{nothing_more}

pub returns-in-None-clause-cells : goal.returns-in-None-clause-cells
returns-in-None-clause-cells c =
    λ q. nothing_more (has c.args.tags.now q) (holds c.args.tags.now.bx q) ∙ ap (λ (t : Bool). has c.args.tags.now q || (holds c.args.tags.now.bx q && t)) (sym (c.in-None.ensures.none q))

pub returns-in-Some-clause-cells : goal.returns-in-Some-clause-cells
returns-in-Some-clause-cells c =
    λ q. c.set_in.ensures.cells q ∙ ap (λ (t : Bool). has c.args.tags.now q || (holds c.args.tags.now.bx q && t)) (sym (c.in-Some.ensures.some q))
