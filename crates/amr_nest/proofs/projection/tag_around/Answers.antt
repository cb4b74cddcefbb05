use Rattle.std.proofs.Common.{◌≡◌, ◌∙◌, ◌+◌, ◌&&◌, ◌||◌, Bool, ℕ, suc, refl, sym, ap, arith}
use Rattle.amr_box.specs.Cells.{Extent, has_child_where, holds}
use Rattle.amr_def.specs.Domain.{domain_of}
use Rattle.amr_tags.specs.TagSets.{has}
use Rattle.amr_nest.specs.Reach.{is_reached, is_reached_at}
use Rattle.amr_nest.proofs.Projected.{child_or}
use Rattle.amr_nest.proofs.projection.tag_around.Goals as goal
use Rattle.amr_nest.proofs.Gathered.{joined, nothing_more}

pub loop-k-init : goal.loop-k-init
loop-k-init c = (record { bx = refl; x = refl; y = refl }, λ q. nothing_more (has c.args.tags.now q) (holds c.args.tags.now.bx q))

pub loop-k-preserved : goal.loop-k-preserved
loop-k-preserved c =
    let s = c.loop-k.invariant.0 in
    let t = c.tag_turn.ensures.shape in
    let next : c.loop-k.k + 1 ≡ suc c.loop-k.k = omega arith in (
      record { bx = t.bx ∙ s.bx; x = t.x ∙ s.x; y = t.y ∙ s.y },
      λ q.
          c.tag_turn.ensures.cells q
          ∙ ap (λ (a : Bool). a || (holds c.loop-k.tags.bx q && has_child_where (is_reached_at (domain_of c.args.dom.now) c.args.b.now c.loop-k.k) q)) (c.loop-k.invariant.1 q)
          ∙ ap (λ (b : Extent). (has c.args.tags.now q || (holds c.args.tags.now.bx q && has_child_where (is_reached (domain_of c.args.dom.now) c.args.b.now c.loop-k.k) q)) || (holds b q && has_child_where (is_reached_at (domain_of c.args.dom.now) c.args.b.now c.loop-k.k) q)) s.bx
          ∙ joined (has c.args.tags.now q) (holds c.args.tags.now.bx q) (has_child_where (is_reached (domain_of c.args.dom.now) c.args.b.now c.loop-k.k) q) (has_child_where (is_reached_at (domain_of c.args.dom.now) c.args.b.now c.loop-k.k) q)
          ∙ ap (λ (r : Bool). has c.args.tags.now q || (holds c.args.tags.now.bx q && r)) (sym (child_or (is_reached (domain_of c.args.dom.now) c.args.b.now c.loop-k.k) (is_reached_at (domain_of c.args.dom.now) c.args.b.now c.loop-k.k) q))
          ∙ ap (λ (n : ℕ). has c.args.tags.now q || (holds c.args.tags.now.bx q && has_child_where (is_reached (domain_of c.args.dom.now) c.args.b.now n) q)) (sym next),
    )

pub returns-clause-shape : goal.returns-clause-shape
returns-clause-shape c = c.loop-k.invariant.0

pub returns-clause-cells : goal.returns-clause-cells
returns-clause-cells c =
    let end : c.loop-k.k ≡ 9 = omega arith in
    λ q. c.loop-k.invariant.1 q ∙ ap (λ (n : ℕ). has c.args.tags.now q || (holds c.args.tags.now.bx q && has_child_where (is_reached (domain_of c.args.dom.now) c.args.b.now n) q)) end
