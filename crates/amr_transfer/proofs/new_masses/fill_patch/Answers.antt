use Rattle.std.proofs.Common.{IsTrue, subst}
use Rattle.amr_box.specs.Cells.{Extent, holds}
use Rattle.amr_patch.specs.Levels.{level_of}
use Rattle.amr_patch.specs.Patches.{masses_in}
use Rattle.amr_patch.proofs.Keeping.{kept_twice}
use Rattle.amr_transfer.proofs.KeptOrSplit.{filled_patch, whole_patch}
use Rattle.amr_transfer.proofs.new_masses.fill_patch.Goals as goal

pub returns-then-keep_whole-clause-masses : goal.returns-then-keep_whole-clause-masses
returns-then-keep_whole-clause-masses c = whole_patch (level_of c.args.coarse.now).masses (masses_in c.args.old.now) c.args.patch.now c.keep_whole.new.patch (c.keep_whole.ensures.kept c.if-keep_whole.true)

pub split_patch-requires-clause-parents : goal.split_patch-requires-clause-parents
split_patch-requires-clause-parents c d h = c.requires.parents d (subst (λ (b : Extent). IsTrue (holds b d)) c.keep_whole.ensures.frame.of_box h)

pub returns-clause-kept : goal.returns-clause-kept
returns-clause-kept c =
    kept_twice c.args.patch.now c.keep_whole.new.patch c.keep.new.patch c.keep_whole.ensures.frame
    (kept_twice c.keep_whole.new.patch c.split_patch.new.patch c.keep.new.patch c.split_patch.ensures.kept c.keep.ensures.kept)

pub returns-clause-masses : goal.returns-clause-masses
returns-clause-masses c = filled_patch (level_of c.args.coarse.now).masses (masses_in c.args.old.now) c.keep_whole.new.patch c.split_patch.new.patch c.keep.new.patch c.split_patch.ensures c.keep.ensures
