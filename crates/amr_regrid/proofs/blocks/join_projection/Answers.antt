use Rattle.std.proofs.Common.{◌∙◌, ◌+◌, ◌&&◌, ◌||◌, Bool, ap, sym}
use Rattle.amr_box.specs.Cells.{parent}
use Rattle.amr_def.specs.Domain.{Domain, domain, domain_box, in_blocks, in_domain}
use Rattle.amr_def.specs.NewBoxes.{is_projected}
use Rattle.amr_tags.specs.TagSets.{has}
use Rattle.amr_regrid.proofs.Gathered.{below_is}
use Rattle.amr_regrid.proofs.blocks.join_projection.Goals as goal

pub project-requires : goal.project-requires
project-requires c = λ q h. ap (λ (d : Domain). in_domain d (parent q)) c.domain-dom.ensures ∙ c.requires.finer q h

pub join-requires : goal.join-requires
join-requires c =
    c.in_ok-projected.ensures.in_box ∙ ap (λ (d : Domain). domain_box (in_blocks 2 d)) c.domain-dom.ensures ∙ ap domain_box (below_is c.args.p.now c.args.l) ∙ sym c.requires.over.bx

pub returns-clause-over : goal.returns-clause-over
returns-clause-over c = record {
  bx = c.join.ensures.shape.bx ∙ c.requires.over.bx;
  x = c.join.ensures.shape.x ∙ c.requires.over.x;
  y = c.join.ensures.shape.y ∙ c.requires.over.y;
}

pub returns-clause-cells : goal.returns-clause-cells
returns-clause-cells c = λ q.
    let p = c.args.p.now in
    let l = c.args.l in
    c.join.ensures.cells q
    ∙ ap (λ (b : Bool). has c.args.tags.now q || b) (c.in_ok-projected.ensures.cells q
    ∙ (λ i. in_domain (in_blocks 2 (c.domain-dom.ensures i)) q && is_projected (c.domain-dom.ensures i) c.args.finer.now q)
    ∙ ap (λ (d : Domain). in_domain d q && is_projected (domain p (l + 1)) c.args.finer.now q) (below_is p l))
