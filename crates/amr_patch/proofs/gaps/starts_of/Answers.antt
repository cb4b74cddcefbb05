use Rattle.std.proofs.Common.{◌≡◌, ◌∙◌, ◌++◌, ◌∷◌, ◌<◌, [], ap, arith, length, of_z, to_z, w32}
use Rattle.std.proofs.lemmas.Int.{ints}
use Rattle.amr_box.specs.Cells.{Extent}
use Rattle.amr_patch.specs.declared.patches.Patch.{Patch}
use Rattle.amr_patch.specs.Patches.{box}
use Rattle.amr_patch.proofs.GapLaws.{ascends, begins_among, one_begins}
use Rattle.amr_patch.proofs.gaps.starts_of.Goals as goal

pub loop-patch-preserved : goal.loop-patch-preserved
loop-patch-preserved c =
    let ps = c.args.patches.now in
    let i = c.loop-patch.patch-index in
    let q = c.patch-item.result in
    let lt : i < length ps = omega arith in
    let x = to_z w32 (of_z w32 c.lo-low.result.x) in
    let y = to_z w32 (of_z w32 c.lo-low.result.y) in
    let low_x : c.lo-low.result.x ≡ (box q).lo.x = c.lo-low.ensures.x ∙ ap (λ (b : Extent). b.lo.x) c.bx.ensures.value in
    let low_y : c.lo-low.result.y ≡ (box q).lo.y = c.lo-low.ensures.y ∙ ap (λ (b : Extent). b.lo.y) c.bx.ensures.value in
    let columns : c.push.new.self.items ≡ c.loop-patch.columns.items ++ x ∷ [] = c.in_ok-push.ensures.items in
    let rows : c.push-in-loop-patch.new.self.items ≡ c.loop-patch.rows.items ++ y ∷ [] = c.in_ok-push-2.ensures.items in
    record {
      columns = columns ∙ one_begins (λ (r : Patch). (box r).lo.x) ps i q c.loop-patch.columns.items x lt c.patch-item.is c.loop-patch.invariant.columns (omega (arith, ints, low_x));
      rows = rows ∙ one_begins (λ (r : Patch). (box r).lo.y) ps i q c.loop-patch.rows.items y lt c.patch-item.is c.loop-patch.invariant.rows (omega (arith, ints, low_y));
    }

pub returns : goal.returns
returns c =
    let ps = c.args.patches.now in
    let n = c.loop-patch.patch-index in
    record {
      columns = ascends c.sort_unstable.new.self.items c.sort_unstable.ensures.sorted;
      rows = ascends c.sort_unstable-2.new.self.items c.sort_unstable-2.ensures.sorted;
      each = λ k q lt. (
        begins_among (λ (r : Patch). (box r).lo.x) ps n c.loop-patch.columns.items c.sort_unstable.new.self.items c.loop-patch-test.false c.loop-patch.invariant.columns c.sort_unstable.ensures.permutation k q lt,
        begins_among (λ (r : Patch). (box r).lo.y) ps n c.loop-patch.rows.items c.sort_unstable-2.new.self.items c.loop-patch-test.false c.loop-patch.invariant.rows c.sort_unstable-2.ensures.permutation k q lt,
      );
    }
