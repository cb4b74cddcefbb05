use Rattle.std.proofs.Common.{◌≡◌, ◌∙◌, ◌&&◌, ◌||◌, Bool, false, sym, ap}
use Rattle.amr_box.specs.declared.Cell.{Cell}
use Rattle.amr_box.specs.Cells.{has_child_where, holds}
use Rattle.amr_def.specs.Domain.{domain_of}
use Rattle.amr_tags.specs.TagSets.{has}
use Rattle.amr_nest.specs.Reach.{is_reached_at}
use Rattle.amr_nest.proofs.projection.tag_turn.Goals as goal
use Rattle.amr_nest.proofs.Gathered.{nothing_more}

pub returns-in-None-clause-cells : goal.returns-in-None-clause-cells
returns-in-None-clause-cells c =
    let none : is_reached_at (domain_of c.args.dom.now) c.args.b.now c.args.k ≡ (λ (q : Cell). false) = λ i q. c.in-None.ensures.none q i in
    λ q. nothing_more (has c.args.tags.now q) (holds c.args.tags.now.bx q) ∙ ap (λ (f : Cell → Bool). has c.args.tags.now q || (holds c.args.tags.now.bx q && has_child_where f q)) (sym none)

pub returns-in-Some-clause-cells : goal.returns-in-Some-clause-cells
returns-in-Some-clause-cells c =
    let same : is_reached_at (domain_of c.args.dom.now) c.args.b.now c.args.k ≡ holds c.in-Some.reached = λ i q. c.in-Some.ensures.some q i in
    λ q.
    c.set_in.ensures.cells q
    ∙ ap (λ (t : Bool). has c.args.tags.now q || (holds c.args.tags.now.bx q && t)) (c.coarsen2.ensures.cells.at q)
    ∙ ap (λ (f : Cell → Bool). has c.args.tags.now q || (holds c.args.tags.now.bx q && has_child_where f q)) (sym same)
