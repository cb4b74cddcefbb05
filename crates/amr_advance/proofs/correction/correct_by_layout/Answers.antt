use Rattle.std.proofs.Common.{◌∙◌, map, sym, ap, subst}
use Rattle.std.specs.Prelude.{if◌then◌else◌, IfSome}
use Rattle.std.specs.declared.option.Option.{Option}
use Rattle.std.specs.declared.option.Option.TheVariants.{Some}
use Rattle.std.proofs.lemmas.Result.{IfOk-weaker}
use Rattle.amr_patch.specs.Levels.{level_of, patches_of}
use Rattle.amr_patch.specs.Patches.{box}
use Rattle.amr_advance.specs.declared.kept_layout.KeptLayout.{KeptLayout}
use Rattle.amr_advance.specs.KeptLayouts.{IsKeptLayout, StaysKept}
use Rattle.amr_advance.proofs.Corrected.{not_tried}
use Rattle.amr_advance.proofs.KeptLaws.{lots_for, stays_kept}
use Rattle.amr_advance.proofs.correction.correct_by_layout.Goals as goal

pub returns-in_default-clause-tried : goal.returns-in_default-clause-tried
returns-in_default-clause-tried g c = not_tried c.not_done.result.done c.args.register c.args.finer.now c.args.level.now c.not_done.ensures.done

pub returns-then-not-have_boxes-clause-tried : goal.returns-then-not-have_boxes-clause-tried
returns-then-not-have_boxes-clause-tried g c = not_tried c.not_done-then-not-have_boxes.result.done c.args.register c.args.finer.now c.args.level.now c.not_done-then-not-have_boxes.ensures.done

pub returns-then-layout-lt2-clause-tried : goal.returns-then-layout-lt2-clause-tried
returns-then-layout-lt2-clause-tried g c = not_tried c.not_done-then-layout-lt2.result.done c.args.register c.args.finer.now c.args.level.now c.not_done-then-layout-lt2.ensures.done

pub correct_by_workers-requires-clause-lots : goal.correct_by_workers-requires-clause-lots
correct_by_workers-requires-clause-lots g c κs within =
    lots_for c.args.p.now c.in-Some.layout (map box (patches_of c.args.level.now)) c.if-layout-lt2.false (sym (ap (map box) (sym c.patches.ensures.all) ∙ c.have_boxes.ensures c.if-not-have_boxes.false ∙ c.deref.ensures.value))
    (subst (λ (o : Option KeptLayout). IfSome o (IsKeptLayout c.args.p.now)) c.in-Some.is c.requires.kept)

pub returns-clause-kept : goal.returns-clause-kept
returns-clause-kept g c =
    IfOk-weaker c.correct_by_workers.result _ _ (λ x still. subst (λ (o : Option KeptLayout). StaysKept (λ own. (if x.done then (level_of c.correct_by_workers.new.level).masses else own)) o (Some (record c.in-Some.layout { lots = c.correct_by_workers.new.lots }))) (sym c.in-Some.is) (stays_kept (λ own. (if x.done then (level_of c.correct_by_workers.new.level).masses else own)) c.in-Some.layout c.correct_by_workers.new.lots still)) c.correct_by_workers.ensures.lots
