use Rattle.std.proofs.Common.{◌≡◌, ◌∙◌, ◌&&◌, ◌||◌, Bool, true, false, List, take, refl, sym, ap, subst}
use Rattle.std.specs.List.{list_any}
use Rattle.std.proofs.lemmas.List.{take_all}
use Rattle.std.proofs.lemmas.List.Folds.{list_any_at, list_any_more}
use Rattle.amr_box.specs.Cells.{Extent, has_child_where, holds, parents_of}
use Rattle.amr_def.specs.Domain.{domain_box, domain_of, in_blocks, in_domain}
use Rattle.amr_def.proofs.Uncovered.{domain_box_cells}
use Rattle.amr_nest.specs.Reach.{is_reached}
use Rattle.amr_nest.proofs.Reaches.{parents_proper}
use Rattle.amr_nest.proofs.Projected.{projected_any, projected_by, projected_by_turns}
use Rattle.amr_nest.proofs.projection.project.Goals as goal
use Rattle.amr_nest.proofs.Gathered.{nothing_yet}

one_more : (d l r s : Bool) → (d ≡ true → s ≡ r) → ((d && l) || (d && r)) ≡ (d && (l || s))
one_more true l r s e = ap (λ (t : Bool). l || t) (sym (e refl))
one_more false l r s e = refl

pub parents-requires : goal.parents-requires
parents-requires c =
    λ q h. c.requires q (list_any_at (λ a. holds a q) c.args.boxes.now c.loop-b.b-index c.b-item.result c.loop-b-test.true (subst (λ (a : Extent). holds a q ≡ true) c.b-item.is h))

pub loop-b-init : goal.loop-b-init
loop-b-init c =
    let b = c.in_ok-tags.ensures.in_box ∙ c.coarser_box.ensures.value in (
      b,
      c.in_ok-tags.ensures.axes.0,
      c.in_ok-tags.ensures.axes.1,
      λ q. c.in_ok-tags.ensures.empty q ∙ nothing_yet (holds (domain_box (in_blocks 2 (domain_of c.args.dom.now))) q),
    )

pub loop-b-preserved : goal.loop-b-preserved
loop-b-preserved c =
    let d = domain_of c.args.dom.now in
    let inv = c.loop-b.invariant in
    let s = c.tag_around.ensures.shape in
    let p = c.parents.ensures.proper in
    let a = c.b-item.result in (
      s.bx ∙ inv.0,
      s.x ∙ inv.1,
      s.y ∙ inv.2,
      λ q.
          c.tag_around.ensures.cells q
          ∙ ap (λ (t : Bool). t || (holds c.loop-b.tags.bx q && has_child_where (is_reached d c.parents.result 9) q)) (inv.3 q)
          ∙ ap (λ (b : Extent). (holds (domain_box (in_blocks 2 d)) q && list_any (λ x. projected_by d x q) (take c.loop-b.b-index c.args.boxes.now)) || (holds b q && has_child_where (is_reached d c.parents.result 9) q)) inv.0
          ∙ ap (λ (b : Extent). (holds (domain_box (in_blocks 2 d)) q && list_any (λ x. projected_by d x q) (take c.loop-b.b-index c.args.boxes.now)) || (holds (domain_box (in_blocks 2 d)) q && has_child_where (is_reached d b 9) q)) c.parents.ensures.value
          ∙ one_more (holds (domain_box (in_blocks 2 d)) q) (list_any (λ x. projected_by d x q) (take c.loop-b.b-index c.args.boxes.now)) (has_child_where (is_reached d (parents_of a) 9) q) (projected_by d a q) (λ here. projected_by_turns d a p c.parents.ensures.inside (parents_proper a p) q here)
          ∙ ap (λ (x : Extent). holds (domain_box (in_blocks 2 d)) q && (list_any (λ y. projected_by d y q) (take c.loop-b.b-index c.args.boxes.now) || projected_by d x q)) c.b-item.is
          ∙ ap (λ (t : Bool). holds (domain_box (in_blocks 2 d)) q && t) (sym (list_any_more (λ x. projected_by d x q) c.args.boxes.now c.loop-b.b-index a c.loop-b-test.true)),
    )

pub returns-clause-cells : goal.returns-clause-cells
returns-clause-cells c =
    let d = domain_of c.args.dom.now in
    λ q.
    c.loop-b.invariant.3 q
    ∙ ap (λ (t : Bool). t && list_any (λ a. projected_by d a q) (take c.loop-b.b-index c.args.boxes.now)) (domain_box_cells (in_blocks 2 d) q)
    ∙ ap (λ (l : List Extent). in_domain (in_blocks 2 d) q && list_any (λ a. projected_by d a q) l) (take_all c.loop-b.b-index c.args.boxes.now c.loop-b-test.false)
    ∙ ap (λ (t : Bool). in_domain (in_blocks 2 d) q && t) (sym (projected_any d c.args.boxes.now q))
