use Rattle.std.proofs.Common.{◌≡◌, ◌∙◌, true, ap, sym, subst}
use Rattle.std.specs.declared.result.Result.{Result}
use Rattle.std.specs.declared.result.Result.TheVariants.{Err, Ok}
use Rattle.std.specs.declared.option.Option.TheVariants.{Some}
use Rattle.std.specs.Arc.{arc_value}
use Rattle.std.specs.List.{AllZip}
use Rattle.std.specs.Option.{option_copied}
use Rattle.std.specs.Result.{OnOk, is_ok}
use Rattle.amr_def.specs.State.{Masses}
use Rattle.amr_ghost.specs.Frames.{old_masses}
use Rattle.amr_advance.specs.Outer.{IsReadied, IsSharedOf}
use Rattle.amr_advance.proofs.LentLevels.{all_readied, itself_kept}
use Rattle.amr_advance.proofs.outer.lend_coarser.Goals as goal

done : {A B X : Type 0} (r : Result A B) → is_ok r ≡ true → OnOk r X → X
done (Ok a) e x = x
done (Err b) e x = absurd cc

pub returns-in_default-clause-kept : goal.returns-in_default-clause-kept
returns-in_default-clause-kept c = itself_kept c.args.lots.now

pub returns-then-lots-lt2-clause-kept : goal.returns-then-lots-lt2-clause-kept
returns-then-lots-lt2-clause-kept c = itself_kept c.args.lots.now

pub returns-clause-readied : goal.returns-clause-readied
returns-clause-readied c = λ yes.
    let shared : option_copied c.args.given.old ≡ Some (arc_value c.in-Some.coarser.now) = subst (IsSharedOf c.args.given.old) c.in-Some.is c.requires in
    subst (λ (m : Masses). AllZip (IsReadied c.args.given.problem.now c.args.given.level m) c.args.lots.now c.lend.new.lots) (ap old_masses (sym shared))
    (all_readied c.args.given.problem.now c.args.given.level (arc_value c.in-Some.coarser.now) c.args.lots.now c.lend.new.lots (done c.lend.result (sym c.is_ok.ensures.value ∙ yes) c.lend.ensures.lent))
