use Rattle.std.proofs.Common.{◌++◌, List, sym, ap, subst, ◌∙◌, arith, length}
use Rattle.amr_box.specs.declared.Cell.{Cell}
use Rattle.amr_box.specs.Cells.{Extent}
use Rattle.amr_def.specs.Cluster.{cluster}
use Rattle.amr_tags.specs.TagSets.{has}
use Rattle.amr_cluster.specs.Work.{IsWork, waiting, work_left}
use Rattle.amr_cluster.proofs.Rounds.{IsRound-least, IsPart-in, IsPart-least, cells_in-least, cells_in-none, itself}
use Rattle.amr_cluster.proofs.Waiting.{IsWork-push, cluster-none, waiting-push, work_left-push}
use Rattle.amr_cluster.proofs.boxes.push_cut_box.Goals as goal

pub returns-in_ok-push-in-Some-clause-waiting : goal.returns-in_ok-push-in-Some-clause-waiting
returns-in_ok-push-in-Some-clause-waiting c =
    let tags = has c.args.tags.now in
    let cut_box = rw c.in-Some.is at c.in_ok-cut_box.ensures in
    ap (waiting c.args.efficiency c.args.w tags) c.in_ok-push-in-Some.ensures.items
    ∙ waiting-push c.args.efficiency c.args.w tags c.args.work.now.items c.in-Some.cut_box
    ∙ ap (λ (cs : List Cell). cluster c.args.efficiency c.args.w cs ++ waiting c.args.efficiency c.args.w tags c.args.work.now.items) (cells_in-least tags c.args.part c.in-Some.cut_box.bx cut_box.least)

pub returns-in_ok-push-in-Some-clause-work : goal.returns-in_ok-push-in-Some-clause-work
returns-in_ok-push-in-Some-clause-work c =
    let tags = has c.args.tags.now in
    let cut_box = rw c.in-Some.is at c.in_ok-cut_box.ensures in
    subst (IsWork c.args.efficiency c.args.w tags c.args.tags.now.bx) (sym c.in_ok-push-in-Some.ensures.items)
    (IsWork-push c.args.efficiency c.args.w tags c.args.tags.now.bx c.args.work.now.items c.in-Some.cut_box c.requires.work (IsRound-least tags c.args.part c.in-Some.cut_box.bx cut_box.least)
    (IsPart-in c.in-Some.cut_box.bx c.args.part c.args.tags.now.bx (IsPart-least tags c.args.part c.in-Some.cut_box.bx cut_box.least) c.requires.inside) cut_box.cut)

pub returns-in_ok-push-in-Some-clause-left : goal.returns-in_ok-push-in-Some-clause-left
returns-in_ok-push-in-Some-clause-left c =
    let tags = has c.args.tags.now in
    let cut_box = rw c.in-Some.is at c.in_ok-cut_box.ensures in
    omega (arith, ap (work_left tags) c.in_ok-push-in-Some.ensures.items, work_left-push tags c.args.work.now.items c.in-Some.cut_box, ap length (cells_in-least tags c.args.part c.in-Some.cut_box.bx cut_box.least))

pub returns-in-None-clause-waiting : goal.returns-in-None-clause-waiting
returns-in-None-clause-waiting c =
    let tags = has c.args.tags.now in
    let nothing = rw c.in-None.is at c.in_ok-cut_box.ensures in
    let none = cells_in-none tags c.args.part nothing (itself c.args.part c.args.tags.now.bx c.requires.inside) in
    sym (ap (λ (cs : List Cell). cluster c.args.efficiency c.args.w cs ++ waiting c.args.efficiency c.args.w tags c.args.work.now.items) none ∙ ap (λ (bs : List Extent). bs ++ waiting c.args.efficiency c.args.w tags c.args.work.now.items) (cluster-none c.args.efficiency c.args.w))
