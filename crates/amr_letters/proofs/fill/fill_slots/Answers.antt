use Rattle.std.proofs.Common.{◌≡◌, ◌∙◌, ◌<◌, ap, arith}
use Rattle.amr_patch.specs.Patches.{box}
use Rattle.amr_letters.specs.Beside.{beside_count}
use Rattle.amr_letters.specs.Told.{value_by}
use Rattle.amr_letters.proofs.Fills.{one_more}
use Rattle.amr_letters.proofs.fill.fill_slots.Goals as goal

pub loop-slot-preserved : goal.loop-slot-preserved
loop-slot-preserved c =
    let q = c.args.patch.now in
    let count : c.beside_count-count.result ≡ beside_count (box q) = c.beside_count-count.ensures ∙ ap beside_count c.bx.ensures.value in
    let test = c.loop-slot-test.true in
    let there : c.loop-slot.slot < beside_count (box q) = omega (arith, count, test) in
    one_more (λ b slot. value_by c.args.p.now c.args.l c.args.number b c.args.node.now slot) c.loop-slot.slot q c.loop-slot.patch c.fill_slot.new.patch q.near there c.loop-slot.invariant c.fill_slot.ensures

pub fill_slot-requires-clause-there : goal.fill_slot-requires-clause-there
fill_slot-requires-clause-there c =
    let q = c.args.patch.now in
    let now = ap beside_count c.loop-slot.invariant.of_box in
    let count : c.beside_count-count.result ≡ beside_count (box q) = c.beside_count-count.ensures ∙ ap beside_count c.bx.ensures.value in
    let test = c.loop-slot-test.true in
    let there : c.loop-slot.slot < beside_count (box c.loop-slot.patch) = omega (arith, count, test, now) in
    there
