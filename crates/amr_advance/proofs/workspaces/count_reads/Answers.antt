use Rattle.std.proofs.Common.{length, ap, arith}
use Rattle.std.proofs.lemmas.List.Folds.{length-flat_map-take}
use Rattle.amr_layout.specs.declared.PatchLayout.{PatchLayout}
use Rattle.amr_advance.proofs.workspaces.count_reads.Goals as goal

pub overflow_add-reads : goal.overflow_add-reads
overflow_add-reads c =
    let x : PatchLayout = c.layout-item.result in
    omega (arith, c.requires, c.loop-layout.invariant, c.len-reads.ensures, x.border.ok.0, ap (λ (t : PatchLayout). length t.border.items) c.layout-item.is, length-flat_map-take (λ (t : PatchLayout). t.border.items) c.args.layouts.now c.loop-layout.layout-index x c.loop-layout-test.true)
