use Rattle.std.proofs.Common.{◌≡◌, true, subst, sym}
use Rattle.std.specs.Prelude.{slice_index_or}
use Rattle.amr_drive.specs.declared.lanes.Lane.{Lane}
use Rattle.amr_drive.specs.Lanes.{HasGone}
use Rattle.amr_drive.proofs.LaneSends.{lanes_sendable}
use Rattle.amr_drive.proofs.intervals.go_side_by_side.Goals as goal

-- lanes go to other threads
pub for_each_mut-requires-send-T : goal.for_each_mut-requires-send-T
for_each_mut-requires-send-T g c κs within = search lanes_sendable depth 16 fits 4000

pub returns : goal.returns
returns g c = λ k e lt done.
    let made = (c.for_each_mut.ensures k e lt).1 in
    let before = made.argument.now in
    let lane = made.after_call.now in
    let left = slice_index_or c.for_each_mut.new.s k e in
    let went : HasGone c.args.end before.mesh before lane.mesh lane = made.call (subst (λ (x : Lane). x.done ≡ true) (sym made.left) done) in
    subst (λ (x : Lane). HasGone c.args.end x.mesh x left.mesh left) made.argument_is (subst (λ (x : Lane). HasGone c.args.end before.mesh before x.mesh x) made.left went)
