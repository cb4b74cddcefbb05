use Rattle.std.proofs.Common.{◌∙◌, length, sym, ap, subst}
use Rattle.std.specs.Prelude.{IfOk, IfSome}
use Rattle.std.specs.declared.option.Option.{Option}
use Rattle.std.specs.declared.result.Result.{Result}
use Rattle.std.proofs.lemmas.Result.{IfOk-weaker}
use Rattle.std.specs.Option.{option_copied}
use Rattle.amr_def.specs.State.{Masses}
use Rattle.amr_ghost.specs.Frames.{old_masses}
use Rattle.amr_layout.specs.Surroundings.{Around, around}
use Rattle.amr_lots.specs.Runs.{lot_count}
use Rattle.amr_patch.specs.Patches.{masses_in}
use Rattle.amr_advance.specs.declared.kept_layout.KeptLayout.{KeptLayout}
use Rattle.amr_advance.specs.KeptLayouts.{IsKeptOf, IsLaidOut, ServesLevel}
use Rattle.amr_advance.proofs.kept_layout.layout_for.Given as given
use Rattle.amr_advance.proofs.kept_layout.layout_for.Goals.{Then-serves}
use Rattle.amr_advance.proofs.kept_layout.layout_for.Goals as goal

-- what serves with any masses serves with these
with_these : {E : Type 0} (r : Result KeptLayout E) (s : Around) (own old : Masses) → IfOk r (λ k. (m n : Masses) → ServesLevel s m n k) → IfOk r (ServesLevel s own old)
with_these r s own old h = IfOk-weaker r (λ k. (m n : Masses) → ServesLevel s m n k) (ServesLevel s own old) (λ k all. all own old) h

pub returns-in_default-clause-layout : goal.returns-in_default-clause-layout
returns-in_default-clause-layout g c = with_these c.lay_out_anew.result _ (masses_in c.args.patches.now) (old_masses (option_copied c.args.given.old)) c.lay_out_anew.ensures.layout

-- what was kept
was_kept : (g : given.Over) (c : Then-serves g) → IsKeptOf c.args.given.problem.now c.args.given.level (masses_in c.args.patches.now) (old_masses (option_copied c.args.given.old)) c.in-Some.layout
was_kept g c = subst (λ (o : Option KeptLayout). IfSome o (IsKeptOf c.args.given.problem.now c.args.given.level (masses_in c.args.patches.now) (old_masses (option_copied c.args.given.old)))) (sym c.take.ensures.value ∙ c.in-Some.is) c.requires.kept

laid_out : (g : given.Over) (c : Then-serves g) → IsLaidOut (around c.args.given.problem.now c.args.given.level c.args.patches.now c.args.given.cells.now (option_copied c.args.given.finer)) c.in-Some.layout
laid_out g c = c.serves.ensures.laid_out c.if-serves.true (was_kept g c).layout

pub returns-then-serves-clause-layout : goal.returns-then-serves-clause-layout
returns-then-serves-clause-layout g c =
    let at = (goal.at.returns-then-serves-clause-layout g c).Then-serves in
    record { laid_out = laid_out g at; masses = (was_kept g at).masses }

pub returns-then-serves-clause-count : goal.returns-then-serves-clause-count
returns-then-serves-clause-count g c = λ some.
    (laid_out g (goal.at.returns-then-serves-clause-count g c).Then-serves).lots.count some ∙ ap (λ n. lot_count n (length c.args.patches.now)) (c.serves.ensures.wanted c.if-serves.true)

pub returns-clause-layout : goal.returns-clause-layout
returns-clause-layout g c = with_these c.lay_out_anew-2.result _ (masses_in c.args.patches.now) (old_masses (option_copied c.args.given.old)) c.lay_out_anew-2.ensures.layout
