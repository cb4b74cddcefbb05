use Rattle.std.proofs.Common.{◌++◌, List, sym, ap, subst, ◌∙◌, arith, append_assoc, rules, w32}
use mir.Val.{SFits}
use Rattle.std.proofs.lemmas.Int.{to_z-of_z}
use Rattle.amr_box.specs.Cells.{Extent, IsNear, below_cut, from_cut}
use Rattle.amr_def.specs.Cluster.{cluster, edge}
use Rattle.amr_sign.specs.Scan.{defined_cut}
use Rattle.amr_tags.specs.TagSets.{has}
use Rattle.amr_tags.specs.Stored.{IsPart}
use Rattle.amr_cluster.specs.Work.{cells_in, waiting}
use Rattle.amr_cluster.proofs.Tagged.{IsNear-in}
use Rattle.amr_cluster.proofs.Rounds.{IsPart-below, IsPart-from, IsPart-in}
use Rattle.amr_cluster.proofs.boxes.push_parts.Goals as goal

pub push_cut_box-requires-clause-inside : goal.push_cut_box-requires-clause-inside
push_cut_box-requires-clause-inside c =
    let fits : SFits w32 c.edge.result = search rules in
    let k = defined_cut c.args.split.cut in
    let high = rw c.edge.ensures at (simp to_z-of_z at c.cut_at-low.ensures.high) in
    subst (λ (b : Extent). IsPart c.args.tags.now.bx b) (sym high) (IsPart-in (from_cut c.args.split.cut.axis (edge c.args.split.bx k) c.args.split.bx) c.args.split.bx c.args.tags.now.bx (IsPart-from c.args.split.bx c.args.tags.now.bx k c.requires.inside c.requires.cut_inside) c.requires.inside)

pub push_cut_box-requires-2-clause-inside : goal.push_cut_box-requires-2-clause-inside
push_cut_box-requires-2-clause-inside c =
    let fits : SFits w32 c.edge.result = search rules in
    let k = defined_cut c.args.split.cut in
    let low = rw c.edge.ensures at (simp to_z-of_z at c.cut_at-low.ensures.low) in
    subst (λ (b : Extent). IsPart c.args.tags.now.bx b) (sym low) (IsPart-in (below_cut c.args.split.cut.axis (edge c.args.split.bx k) c.args.split.bx) c.args.split.bx c.args.tags.now.bx (IsPart-below c.args.split.bx c.args.tags.now.bx k c.requires.inside c.requires.cut_inside) c.requires.inside)

pub returns-clause-waiting : goal.returns-clause-waiting
returns-clause-waiting c =
    let fits : SFits w32 c.edge.result = search rules in
    let low = rw c.edge.ensures at (simp to_z-of_z at c.cut_at-low.ensures.low) in
    let high = rw c.edge.ensures at (simp to_z-of_z at c.cut_at-low.ensures.high) in
    let boxes = λ (b : Extent). cluster c.args.efficiency c.args.w (cells_in (has c.args.tags.now) b) in
    rw (← low, ← high)
    (c.in_ok-push_cut_box-2.ensures.waiting
    ∙ ap (λ (bs : List Extent). boxes c.cut_at-low.result.0 ++ bs) c.in_ok-push_cut_box.ensures.waiting
    ∙ sym (append_assoc (boxes c.cut_at-low.result.0) (boxes c.cut_at-low.result.1) (waiting c.args.efficiency c.args.w (has c.args.tags.now) c.args.work.now.items)))

pub returns-clause-left : goal.returns-clause-left
returns-clause-left c =
    let fits : SFits w32 c.edge.result = search rules in
    let low = rw c.edge.ensures at (simp to_z-of_z at c.cut_at-low.ensures.low) in
    let high = rw c.edge.ensures at (simp to_z-of_z at c.cut_at-low.ensures.high) in
    rw (← low, ← high) (omega (arith, c.in_ok-push_cut_box-2.ensures.left, c.in_ok-push_cut_box.ensures.left))

pub push_cut_box-requires-clause-near : goal.push_cut_box-requires-clause-near
push_cut_box-requires-clause-near c =
    let fits : SFits w32 c.edge.result = search rules in
    let k = defined_cut c.args.split.cut in
    let high = rw c.edge.ensures at (simp to_z-of_z at c.cut_at-low.ensures.high) in
    subst (λ (b : Extent). IsNear b) (sym high) (IsNear-in (from_cut c.args.split.cut.axis (edge c.args.split.bx k) c.args.split.bx) c.args.split.bx (IsPart-from c.args.split.bx c.args.tags.now.bx k c.requires.inside c.requires.cut_inside) c.requires.near)

pub push_cut_box-requires-2-clause-near : goal.push_cut_box-requires-2-clause-near
push_cut_box-requires-2-clause-near c =
    let fits : SFits w32 c.edge.result = search rules in
    let k = defined_cut c.args.split.cut in
    let low = rw c.edge.ensures at (simp to_z-of_z at c.cut_at-low.ensures.low) in
    subst (λ (b : Extent). IsNear b) (sym low) (IsNear-in (below_cut c.args.split.cut.axis (edge c.args.split.bx k) c.args.split.bx) c.args.split.bx (IsPart-below c.args.split.bx c.args.tags.now.bx k c.requires.inside c.requires.cut_inside) c.requires.near)
