use Rattle.std.proofs.Common.{◌+◌, sym, subst, arith}
use Rattle.amr_patch.specs.declared.patches.Patch.{Patch}
use Rattle.amr_patch.specs.Patches.{box, masses_in}
use Rattle.amr_register.specs.Fields.{IsBoxAt, entry_in}
use Rattle.amr_lots.specs.Corrections.{IsCorrected, finer_in, register_in}
use Rattle.amr_lots.proofs.InPlaces.{all_changed, one_more_changed}
use Rattle.amr_lots.proofs.duties.correct_patches.Goals as goal

pub correct_patch-requires-clause-place : goal.correct_patch-requires-clause-place
correct_patch-requires-clause-place c =
    let k = c.loop-k.k in
    let q = c.index-patches-k.result in
    subst (λ (p : Patch). IsBoxAt (c.args.correction.now.first + k) (box p) (register_in c.args.correction.now)) (sym (c.loop-k.invariant.rest k q (omega arith))) (c.requires.boxes k q (omega (arith, c.loop-k.invariant.count)))

pub loop-k-preserved : goal.loop-k-preserved
loop-k-preserved c = one_more_changed _ c.args.patches.now c.loop-k.k c.loop-k.patches c.loop-k.invariant c.index-patches-k.result _ (omega arith) c.correct_patch.ensures

pub returns : goal.returns
returns c = all_changed _ c.args.patches.now c.loop-k.k c.loop-k.patches c.loop-k.invariant (IsCorrected (masses_in (finer_in c.args.correction.now)) (entry_in (register_in c.args.correction.now))) (λ k x y h. h) (omega (arith, c.loop-k-test.false))
