use Rattle.amr_patch.specs.Patches.{box}
use Rattle.amr_letters.specs.Told.{value_by}
use Rattle.amr_letters.proofs.Fills.{corners_stay, masses_stay, values_right}
use Rattle.amr_letters.proofs.fill.fill_frame.Goals as goal

pub returns-clause-filled : goal.returns-clause-filled
returns-clause-filled c =
    let q = c.args.patch.now in
    let p = c.args.p.now in
    λ m old tells. values_right q c.fill_slots.new.patch (λ slot. value_by p c.args.l c.args.number (box q) c.args.node.now slot) q.near c.fill_slots.ensures p c.args.l m old tells.at

pub returns-clause-masses : goal.returns-clause-masses
returns-clause-masses c =
    let q = c.args.patch.now in
    masses_stay q c.fill_slots.new.patch (λ slot. value_by c.args.p.now c.args.l c.args.number (box q) c.args.node.now slot) q.near c.fill_slots.ensures

pub returns-clause-corners : goal.returns-clause-corners
returns-clause-corners c =
    let q = c.args.patch.now in
    corners_stay q c.fill_slots.new.patch (λ slot. value_by c.args.p.now c.args.l c.args.number (box q) c.args.node.now slot) q.near c.fill_slots.ensures
