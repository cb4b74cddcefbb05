use Rattle.std.proofs.Common.{◌∙◌, ◌&&◌, ◌||◌, Bool, true, false, List, take, sym, ap}
use Rattle.std.proofs.lemmas.List.{take_all}
use Rattle.std.proofs.lemmas.List.Folds.{list_any_more}
use Rattle.amr_box.specs.Cells.{Extent, holds, in_boxes}
use Rattle.amr_box.proofs.Tests.{and_shared}
use Rattle.amr_def.specs.Domain.{domain_box, domain_of}
use Rattle.amr_nest.proofs.containment.tagged.Goals as goal
use Rattle.amr_nest.proofs.Gathered.{nothing_yet}

pub loop-b-init : goal.loop-b-init
loop-b-init c = record {
  in_box = c.in_ok-tags.ensures.in_box ∙ c.domain_box.ensures.value;
  cells = λ q. c.in_ok-tags.ensures.empty q ∙ nothing_yet (holds (domain_box (domain_of c.args.dom.now)) q);
}

pub loop-b-preserved : goal.loop-b-preserved
loop-b-preserved c =
    let d = domain_of c.args.dom.now in
    let l = c.loop-b in
    let a = c.b-item.result in
    record {
      in_box = c.set_in.ensures.shape.bx ∙ l.invariant.in_box;
      cells = λ q.
          c.set_in.ensures.cells q
          ∙ ap (λ (t : Bool). t || (holds l.tags.bx q && holds a q)) (l.invariant.cells q)
          ∙ ap (λ (b : Extent). (holds (domain_box d) q && in_boxes (take l.b-index c.args.boxes.now) q) || (holds b q && holds a q)) l.invariant.in_box
          ∙ and_shared (holds (domain_box d) q) (in_boxes (take l.b-index c.args.boxes.now) q) (holds a q)
          ∙ ap (λ (x : Extent). holds (domain_box d) q && (in_boxes (take l.b-index c.args.boxes.now) q || holds x q)) c.b-item.is
          ∙ ap (λ (t : Bool). holds (domain_box d) q && t) (sym (list_any_more (λ x. holds x q) c.args.boxes.now l.b-index a c.loop-b-test.true));
    }

pub returns-clause-cells : goal.returns-clause-cells
returns-clause-cells c =
    let d = domain_of c.args.dom.now in
    λ q. c.loop-b.invariant.cells q ∙ ap (λ (bs : List Extent). holds (domain_box d) q && in_boxes bs q) (take_all c.loop-b.b-index c.args.boxes.now c.loop-b-test.false)
