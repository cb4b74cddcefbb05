use Rattle.std.proofs.Common.{sym, ap, ◌∙◌}
use Rattle.std.specs.Option.{option_map}
use Rattle.amr_sign.specs.Scan.{defined_cut}
use Rattle.amr_tags.specs.TagSets.{has}
use Rattle.amr_cluster.proofs.Tagged.{IsNear-in}
use Rattle.amr_cluster.proofs.Waiting.{cut_left, cut_turn, inside_cut, next, uncut_apart, uncut_left, uncut_turn}
use Rattle.amr_cluster.proofs.boxes.cluster.Goals as goal

pub push_disjoint-requires : goal.push_disjoint-requires
push_disjoint-requires c =
    let now = next c.args.efficiency c.args.w (has c.args.tags.now) c.args.tags.now.bx c.requires c.loop-cut_box.boxes c.loop-cut_box.work.items c.pop.new.self.items c.in-Some.cut_box c.loop-cut_box.invariant c.in-Some.ensures.items in
    let e = sym now.2 ∙ ap (option_map defined_cut) c.in-None.is in
    uncut_apart c.args.efficiency c.args.w (has c.args.tags.now) c.args.tags.now.bx c.requires c.loop-cut_box.boxes c.loop-cut_box.work.items c.pop.new.self.items c.in-Some.cut_box c.loop-cut_box.invariant c.in-Some.ensures.items e

pub loop-cut_box-smaller-in-Continue-branch-2 : goal.loop-cut_box-smaller-in-Continue-branch-2
loop-cut_box-smaller-in-Continue-branch-2 c =
    uncut_left c.args.efficiency c.args.w (has c.args.tags.now) c.args.tags.now.bx c.requires c.loop-cut_box.boxes c.loop-cut_box.work.items c.pop.new.self.items c.in-Some.cut_box c.loop-cut_box.invariant c.in-Some.ensures.items

pub loop-cut_box-preserved-in-Continue-branch-2 : goal.loop-cut_box-preserved-in-Continue-branch-2
loop-cut_box-preserved-in-Continue-branch-2 c =
    let now = next c.args.efficiency c.args.w (has c.args.tags.now) c.args.tags.now.bx c.requires c.loop-cut_box.boxes c.loop-cut_box.work.items c.pop.new.self.items c.in-Some.cut_box c.loop-cut_box.invariant c.in-Some.ensures.items in
    let e = sym now.2 ∙ ap (option_map defined_cut) c.in-None.is in
    uncut_turn c.args.efficiency c.args.w (has c.args.tags.now) c.args.tags.now.bx c.requires c.loop-cut_box.boxes c.loop-cut_box.work.items c.pop.new.self.items c.in-Some.cut_box c.loop-cut_box.invariant c.in-Some.ensures.items c.push_disjoint.new.self e c.in_ok-push_disjoint-in-None.ensures.ok

pub push_parts-requires-clause-near : goal.push_parts-requires-clause-near
push_parts-requires-clause-near c =
    let now = next c.args.efficiency c.args.w (has c.args.tags.now) c.args.tags.now.bx c.requires c.loop-cut_box.boxes c.loop-cut_box.work.items c.pop.new.self.items c.in-Some.cut_box c.loop-cut_box.invariant c.in-Some.ensures.items in
    IsNear-in c.in-Some.cut_box.bx c.args.tags.now.bx now.1 c.bx-whole.ensures.near

pub push_parts-requires-clause-inside : goal.push_parts-requires-clause-inside
push_parts-requires-clause-inside c =
    let now = next c.args.efficiency c.args.w (has c.args.tags.now) c.args.tags.now.bx c.requires c.loop-cut_box.boxes c.loop-cut_box.work.items c.pop.new.self.items c.in-Some.cut_box c.loop-cut_box.invariant c.in-Some.ensures.items in
    now.1

pub push_parts-requires-clause-cut_inside : goal.push_parts-requires-clause-cut_inside
push_parts-requires-clause-cut_inside c =
    let now = next c.args.efficiency c.args.w (has c.args.tags.now) c.args.tags.now.bx c.requires c.loop-cut_box.boxes c.loop-cut_box.work.items c.pop.new.self.items c.in-Some.cut_box c.loop-cut_box.invariant c.in-Some.ensures.items in
    let e = sym now.2 ∙ ap (option_map defined_cut) c.in-Some-cut.is in
    inside_cut c.args.efficiency c.args.w (has c.args.tags.now) c.in-Some.cut_box.bx c.args.tags.now.bx c.requires now.0 now.1 (defined_cut c.in-Some-cut.cut) e

pub push_parts-requires-clause-work : goal.push_parts-requires-clause-work
push_parts-requires-clause-work c =
    let now = next c.args.efficiency c.args.w (has c.args.tags.now) c.args.tags.now.bx c.requires c.loop-cut_box.boxes c.loop-cut_box.work.items c.pop.new.self.items c.in-Some.cut_box c.loop-cut_box.invariant c.in-Some.ensures.items in
    now.3

pub loop-cut_box-smaller : goal.loop-cut_box-smaller
loop-cut_box-smaller c =
    let now = next c.args.efficiency c.args.w (has c.args.tags.now) c.args.tags.now.bx c.requires c.loop-cut_box.boxes c.loop-cut_box.work.items c.pop.new.self.items c.in-Some.cut_box c.loop-cut_box.invariant c.in-Some.ensures.items in
    let e = sym now.2 ∙ ap (option_map defined_cut) c.in-Some-cut.is in
    cut_left c.args.efficiency c.args.w (has c.args.tags.now) c.args.tags.now.bx c.requires c.loop-cut_box.boxes c.loop-cut_box.work.items c.pop.new.self.items c.in-Some.cut_box c.loop-cut_box.invariant c.in-Some.ensures.items (defined_cut c.in-Some-cut.cut) _ e c.in_ok-push_parts-in-Some-cut.ensures.left

pub loop-cut_box-preserved : goal.loop-cut_box-preserved
loop-cut_box-preserved c =
    let now = next c.args.efficiency c.args.w (has c.args.tags.now) c.args.tags.now.bx c.requires c.loop-cut_box.boxes c.loop-cut_box.work.items c.pop.new.self.items c.in-Some.cut_box c.loop-cut_box.invariant c.in-Some.ensures.items in
    let e = sym now.2 ∙ ap (option_map defined_cut) c.in-Some-cut.is in
    cut_turn c.args.efficiency c.args.w (has c.args.tags.now) c.args.tags.now.bx c.requires c.loop-cut_box.boxes c.loop-cut_box.work.items c.pop.new.self.items c.in-Some.cut_box c.loop-cut_box.invariant c.in-Some.ensures.items (defined_cut c.in-Some-cut.cut) c.push_parts.new.work.items e c.in_ok-push_parts-in-Some-cut.ensures.waiting c.in_ok-push_parts-in-Some-cut.ensures.work

pub push_cut_box-requires-clause-near : goal.push_cut_box-requires-clause-near
push_cut_box-requires-clause-near c = rw c.bx-whole.ensures.value c.bx-whole.ensures.near
