use Rattle.std.proofs.Common.{◌≡◌, ◌∙◌, ◌+◌, ◌&&◌, ◌||◌, Bool, ℕ, suc, refl, sym, ap, arith}
use Rattle.amr_box.specs.Cells.{Extent, holds}
use Rattle.amr_def.specs.Domain.{domain_of}
use Rattle.amr_tags.specs.TagSets.{has}
use Rattle.amr_nest.specs.Reach.{is_reached, is_reached_at}
use Rattle.amr_nest.proofs.containment.tag_reach.Goals as goal
use Rattle.amr_nest.proofs.Gathered.{joined, nothing_more}

pub loop-k-init : goal.loop-k-init
loop-k-init c = record { shape = record { bx = refl; x = refl; y = refl }; cells = λ q. nothing_more (has c.args.tags.now q) (holds c.args.tags.now.bx q) }

pub loop-k-preserved : goal.loop-k-preserved
loop-k-preserved c =
    let s = c.loop-k.invariant.shape in
    let t = c.tag_reach_at.ensures.shape in
    let d = domain_of c.args.dom.now in
    let b = c.args.b.now in
    let k = c.loop-k.k in
    let next : k + 1 ≡ suc k = omega arith in
    record {
      shape = record { bx = t.bx ∙ s.bx; x = t.x ∙ s.x; y = t.y ∙ s.y };
      cells = λ q.
          c.tag_reach_at.ensures.cells q
          ∙ ap (λ (a : Bool). a || (holds c.loop-k.tags.bx q && is_reached_at d b k q)) (c.loop-k.invariant.cells q)
          ∙ ap (λ (e : Extent). (has c.args.tags.now q || (holds c.args.tags.now.bx q && is_reached d b k q)) || (holds e q && is_reached_at d b k q)) s.bx
          ∙ joined (has c.args.tags.now q) (holds c.args.tags.now.bx q) (is_reached d b k q) (is_reached_at d b k q)
          ∙ ap (λ (n : ℕ). has c.args.tags.now q || (holds c.args.tags.now.bx q && is_reached d b n q)) (sym next);
    }

pub returns-clause-shape : goal.returns-clause-shape
returns-clause-shape c = c.loop-k.invariant.shape

pub returns-clause-cells : goal.returns-clause-cells
returns-clause-cells c =
    let end : c.loop-k.k ≡ 9 = omega arith in
    λ q. c.loop-k.invariant.cells q ∙ ap (λ (n : ℕ). has c.args.tags.now q || (holds c.args.tags.now.bx q && is_reached (domain_of c.args.dom.now) c.args.b.now n q)) end
