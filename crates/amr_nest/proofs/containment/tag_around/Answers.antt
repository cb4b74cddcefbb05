use Rattle.std.proofs.Common.{◌≡◌, ◌∙◌, ◌&&◌, ◌||◌, Bool, true, false, List, take, refl, sym, ap, subst}
use Rattle.std.specs.List.{list_any}
use Rattle.std.proofs.lemmas.List.{take_all}
use Rattle.std.proofs.lemmas.List.Folds.{list_any_at, list_any_more}
use Rattle.amr_box.specs.Cells.{Extent, holds, parents_of}
use Rattle.amr_def.specs.Domain.{domain_box, domain_of}
use Rattle.amr_tags.specs.TagSets.{has}
use Rattle.amr_nest.specs.Reach.{IsInDomainBox, is_reached}
use Rattle.amr_nest.proofs.Reaches.{parents_proper}
use Rattle.amr_nest.proofs.Projected.{near_any, near_box, near_by_turns}
use Rattle.amr_nest.proofs.containment.tag_around.Goals as goal
use Rattle.amr_nest.proofs.Gathered.{nothing_more}

one_more : (a d l r s : Bool) → (d ≡ true → s ≡ r) → ((a || (d && l)) || (d && r)) ≡ (a || (d && (l || s)))
one_more true d l r s e = refl
one_more false true l r s e = ap (λ (t : Bool). l || t) (sym (e refl))
one_more false false l r s e = refl

pub parents-requires : goal.parents-requires
parents-requires c =
    λ q h. c.requires.inside q (list_any_at (λ a. holds a q) c.args.boxes.now c.loop-b.b-index c.b-item.result c.loop-b-test.true (subst (λ (a : Extent). holds a q ≡ true) c.b-item.is h))

pub tag_reach-requires : goal.tag_reach-requires
tag_reach-requires c = subst (λ (b : Extent). IsInDomainBox (domain_of c.args.dom.now) b) (sym c.parents.ensures.value) c.parents.ensures.inside

pub loop-b-init : goal.loop-b-init
loop-b-init c = record { shape = record { bx = refl; x = refl; y = refl }; cells = λ q. nothing_more (has c.args.tags.now q) (holds (domain_box (domain_of c.args.dom.now)) q) }

pub loop-b-preserved : goal.loop-b-preserved
loop-b-preserved c =
    let d = domain_of c.args.dom.now in
    let l = c.loop-b in
    let s = l.invariant.shape in
    let t = c.tag_reach.ensures.shape in
    let p = c.parents.ensures.proper in
    let a = c.b-item.result in
    let whole = s.bx ∙ c.requires.in_box in
    record {
      shape = record { bx = t.bx ∙ s.bx; x = t.x ∙ s.x; y = t.y ∙ s.y };
      cells = λ q.
          c.tag_reach.ensures.cells q
          ∙ ap (λ (t : Bool). t || (holds l.tags.bx q && is_reached d c.parents.result 9 q)) (l.invariant.cells q)
          ∙ ap (λ (b : Extent). (has c.args.tags.now q || (holds (domain_box d) q && list_any (λ x. near_box d x q) (take l.b-index c.args.boxes.now))) || (holds b q && is_reached d c.parents.result 9 q)) whole
          ∙ ap (λ (b : Extent). (has c.args.tags.now q || (holds (domain_box d) q && list_any (λ x. near_box d x q) (take l.b-index c.args.boxes.now))) || (holds (domain_box d) q && is_reached d b 9 q)) c.parents.ensures.value
          ∙ one_more (has c.args.tags.now q) (holds (domain_box d) q) (list_any (λ x. near_box d x q) (take l.b-index c.args.boxes.now)) (is_reached d (parents_of a) 9 q) (near_box d a q) (λ here. near_by_turns d a p c.parents.ensures.inside (parents_proper a p) q here)
          ∙ ap (λ (x : Extent). has c.args.tags.now q || (holds (domain_box d) q && (list_any (λ y. near_box d y q) (take l.b-index c.args.boxes.now) || near_box d x q))) c.b-item.is
          ∙ ap (λ (t : Bool). has c.args.tags.now q || (holds (domain_box d) q && t)) (sym (list_any_more (λ x. near_box d x q) c.args.boxes.now l.b-index a c.loop-b-test.true));
    }

pub returns-clause-shape : goal.returns-clause-shape
returns-clause-shape c = c.loop-b.invariant.shape

pub returns-clause-cells : goal.returns-clause-cells
returns-clause-cells c =
    let d = domain_of c.args.dom.now in
    λ q.
    c.loop-b.invariant.cells q
    ∙ ap (λ (l : List Extent). has c.args.tags.now q || (holds (domain_box d) q && list_any (λ a. near_box d a q) l)) (take_all c.loop-b.b-index c.args.boxes.now c.loop-b-test.false)
    ∙ ap (λ (t : Bool). has c.args.tags.now q || (holds (domain_box d) q && t)) (sym (near_any d c.args.boxes.now q))
