use Rattle.std.proofs.Common.{◌≡◌, ◌∙◌, ◌&&◌, ◌%◌, ◌/◌, Bool, true, sym, ap}
use Rattle.amr_box.specs.Cells.{Extent, holds}
use Rattle.amr_def.specs.Domain.{domain_box, domain_of}
use Rattle.amr_nest.specs.Reach.{is_turn, moved_reach}
use Rattle.amr_nest.proofs.Reaches.{if_none_from, if_some_then, near_some}
use Rattle.amr_nest.proofs.reach.reach_at.Goals as goal

pub returns-clause-some : goal.returns-clause-some
returns-clause-some c =
    let d = domain_of c.args.dom.now in
    let turned : (is_turn d.wrap_x (c.args.k % 3) && is_turn d.wrap_y (c.args.k / 3)) ≡ true = sym c.if-not-has_turns.ensures in
    let dom : domain_box d ≡ c.domain_box.result = sym c.domain_box.ensures.value in
    let moved : moved_reach d (c.args.k % 3) (c.args.k / 3) c.args.b.now ≡ c.moved_reach-moved.result = sym c.moved_reach-moved.ensures in
    if_some_then c.meet.result _ _
    (λ r is q.
    ap (λ (t : Bool). t && (holds (domain_box d) q && holds (moved_reach d (c.args.k % 3) (c.args.k / 3) c.args.b.now) q)) turned
    ∙ ap (λ (b : Extent). holds b q && holds (moved_reach d (c.args.k % 3) (c.args.k / 3) c.args.b.now) q) dom
    ∙ ap (λ (b : Extent). holds c.domain_box.result q && holds b q) moved
    ∙ sym (is.at q))
    c.meet.ensures.cells

pub returns-clause-near : goal.returns-clause-near
returns-clause-near c = near_some c.meet.result c.domain_box.result c.moved_reach-moved.result c.domain_box.ensures.near (λ h. c.meet.ensures.some.0 h) c.meet.ensures.corners

pub returns-clause-none : goal.returns-clause-none
returns-clause-none c =
    let d = domain_of c.args.dom.now in
    let turned : (is_turn d.wrap_x (c.args.k % 3) && is_turn d.wrap_y (c.args.k / 3)) ≡ true = sym c.if-not-has_turns.ensures in
    let dom : domain_box d ≡ c.domain_box.result = sym c.domain_box.ensures.value in
    let moved : moved_reach d (c.args.k % 3) (c.args.k / 3) c.args.b.now ≡ c.moved_reach-moved.result = sym c.moved_reach-moved.ensures in
    if_none_from c.meet.result _
    (λ n q.
    ap (λ (t : Bool). t && (holds (domain_box d) q && holds (moved_reach d (c.args.k % 3) (c.args.k / 3) c.args.b.now) q)) turned
    ∙ ap (λ (b : Extent). holds b q && holds (moved_reach d (c.args.k % 3) (c.args.k / 3) c.args.b.now) q) dom
    ∙ ap (λ (b : Extent). holds c.domain_box.result q && holds b q) moved
    ∙ c.meet.ensures.none.0 n q)
