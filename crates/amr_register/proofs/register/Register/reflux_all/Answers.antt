use Rattle.std.proofs.Common.{◌^◌, ℕ, pos, ◌+ℤ◌, ◌≤ℤ◌, ◌<ℤ◌, arith, subst}
use Rattle.std.specs.Prelude.{slice_index_or}
use Rattle.amr_register.specs.Fields.{entry_in}
use Rattle.amr_register.proofs.Changed.{one_changed}
use Rattle.amr_register.proofs.Refluxes.{IsRefluxed, all_frames_kept, all_have_entries, turn_mass, turn_place}
use Rattle.amr_register.proofs.register.Register.reflux_all.Goals as goal

pub reflux_patch-requires-clause-place : goal.reflux_patch-requires-clause-place
reflux_patch-requires-clause-place c =
    let k = c.loop-k.k in
    let v = c.index-patches-k.result in
    turn_place c.args.patches.now k (slice_index_or c.loop-k.patches k v) v c.requires.apart c.loop-k-test.true (c.loop-k.invariant.left k v (omega arith)) c.args.self.now c.requires.edges

pub reflux_patch-requires-clause-kept : goal.reflux_patch-requires-clause-kept
reflux_patch-requires-clause-kept c = λ q has held.
    let k = c.loop-k.k in
    let v = c.index-patches-k.result in
    subst (λ (n : ℕ). pos 0 ≤ℤ (pos n +ℤ entry_in c.args.self.now q))
    (turn_mass c.args.patches.now k (slice_index_or c.loop-k.patches k v) v c.requires.apart c.loop-k-test.true (c.loop-k.invariant.left k v (omega arith)) q held)
    (c.requires.kept q has)

pub reflux_patch-requires-clause-fits : goal.reflux_patch-requires-clause-fits
reflux_patch-requires-clause-fits c = λ q has held.
    let k = c.loop-k.k in
    let v = c.index-patches-k.result in
    subst (λ (n : ℕ). (pos n +ℤ entry_in c.args.self.now q) <ℤ pos (2 ^ 32))
    (turn_mass c.args.patches.now k (slice_index_or c.loop-k.patches k v) v c.requires.apart c.loop-k-test.true (c.loop-k.invariant.left k v (omega arith)) q held)
    (c.requires.fits q has)

pub loop-k-preserved : goal.loop-k-preserved
loop-k-preserved c =
    one_changed (λ k. IsRefluxed (entry_in c.args.self.now)) c.args.patches.now c.loop-k.patches c.loop-k.k c.reflux_patch.new.patch c.index-patches-k.result c.loop-k.invariant (omega (arith, c.loop-k-test.true, c.loop-k.auto.patches))
    (record { kept = c.reflux_patch.ensures.kept; masses = c.reflux_patch.ensures.masses })

pub returns-clause-masses : goal.returns-clause-masses
returns-clause-masses c = all_have_entries (entry_in c.args.self.now) c.args.patches.now c.loop-k.patches c.loop-k.k c.loop-k-test.false c.loop-k.invariant

pub returns-clause-kept : goal.returns-clause-kept
returns-clause-kept c = all_frames_kept (entry_in c.args.self.now) c.args.patches.now c.loop-k.patches c.loop-k.k c.loop-k-test.false c.loop-k.invariant
