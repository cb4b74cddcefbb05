use Rattle.std.proofs.Common.{◌∙◌, sym, subst}
use Rattle.std.specs.declared.option.Option.{Option}
use Rattle.std.specs.Prelude.{IfSome}
use Rattle.std.specs.Option.{option_copied}
use Rattle.amr_def.specs.State.{Level}
use Rattle.amr_patch.specs.Levels.{level_of, patches_of}
use Rattle.amr_patch.proofs.LevelLaws.{copy_boxes}
use Rattle.amr_ghost.specs.Frames.{old_masses}
use Rattle.amr_advance.specs.KeptLayouts.{IsKeptOf}
use Rattle.amr_advance.proofs.KeptLaws.{kept_layout}
use Rattle.amr_cycle.specs.KeptLevels.{IsKeptCoarser}
use Rattle.amr_cycle.specs.declared.kept.KeptCoarser.{KeptCoarser}
use Rattle.amr_cycle.proofs.KeptLaws.{renewed}
use Rattle.amr_cycle.proofs.kept.below_for.Goals as goal

pub renew-requires-clause-layout : goal.renew-requires-clause-layout
renew-requires-clause-layout g c κs within =
    kept_layout c.args.given.now.problem.now c.args.given.now.level (level_of c.args.level.now).masses (old_masses (option_copied c.args.given.now.old)) c.args.own.now.layout c.requires.kept.layout

pub returns-then-serves-clause-below : goal.returns-then-serves-clause-below
returns-then-serves-clause-below g c =
    let on = c.serves.ensures c.if-serves.true in
    renewed c.args.given.now.problem.now c.args.given.now.level c.in-Some.below c.renew.new.kept c.args.level.now c.args.next.now
    (subst (λ (o : Option KeptCoarser). IfSome o (IsKeptCoarser c.args.given.now.problem.now c.args.given.now.level)) (sym c.take.ensures.value ∙ c.in-Some.is) c.requires.kept.below) on c.renew.ensures.before c.renew.ensures.boxes c.renew.ensures.finer c.renew.ensures.patches c.renew.ensures.cells

pub returns-then-serves-clause-kept : goal.returns-then-serves-clause-kept
returns-then-serves-clause-kept g c =
    let p = c.args.given.now.problem.now in
    let old = old_masses (option_copied c.args.given.now.old) in
    record {
      layout = subst (λ (k : Level). IfSome c.renew.new.layout (IsKeptOf p c.args.given.now.level k.masses old)) (sym c.renew.ensures.level) (c.renew.ensures.layout p c.args.given.now.level (level_of c.args.level.now).masses old c.requires.kept.layout);
      below = subst (λ (o : Option KeptCoarser). IfSome o (IsKeptCoarser p c.args.given.now.level)) (sym c.take.ensures.after) tt;
    }

pub make_below-requires-clause-patches : goal.make_below-requires-clause-patches
make_below-requires-clause-patches g c κs within = copy_boxes (patches_of c.args.level.now) (patches_of c.in_ok-copy.field-0) c.in_ok-copy.ensures.patches
