use Rattle.std.proofs.Common.{◌∙◌, map, sym, ap}
use Rattle.amr_patch.specs.Levels.{patches_of}
use Rattle.amr_patch.specs.Patches.{box}
use Rattle.amr_advance.proofs.KeptLaws.{lots_for, stays_kept}
use Rattle.amr_advance.proofs.before.keep_by_layout.Goals as goal

pub keep_by_lots-requires-clause-lots : goal.keep_by_lots-requires-clause-lots
keep_by_lots-requires-clause-lots g c κs within =
    lots_for c.args.p.now c.args.layout.now (map box (patches_of c.args.level.now)) c.if-layout-lt2.false (sym (ap (map box) (sym c.patches.ensures.all) ∙ c.have_boxes.ensures c.if-not-have_boxes.false ∙ c.deref.ensures.value)) c.requires.kept

pub returns-clause-kept : goal.returns-clause-kept
returns-clause-kept g c = stays_kept (λ m. m) c.args.layout.now c.keep_by_lots.new.lots c.keep_by_lots.ensures.lots
