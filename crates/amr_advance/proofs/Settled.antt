-- A level after its step, with lots that made it and gave back what was lent to them.
use Rattle.std.proofs.Common.{true, List, sym, subst}
use Rattle.std.specs.declared.option.Option.TheVariants.{None}
use Rattle.amr_def.specs.State.{Masses}
use Rattle.amr_layout.specs.Surroundings.{Around}
use Rattle.amr_patch.specs.declared.patches.Patch.{Patch}
use Rattle.amr_patch.specs.Patches.{masses_in}
use Rattle.amr_register.specs.declared.edges.EdgeCell.{EdgeCell}
use Rattle.amr_advance.specs.declared.kept_layout.KeptLayout.{KeptLayout}
use Rattle.amr_advance.specs.declared.lots.Lots.{Lots}
use Rattle.amr_advance.specs.KeptLayouts.{IsLaidOut}
use Rattle.amr_advance.specs.Steps.{AreTotalsOf, HasMadeStep, HaveSettled, LotsMadeStep}
use Rattle.amr_advance.proofs.KeptLaws.{with_lots}
use Rattle.amr_advance.proofs.OuterLots.{all_lent, carry_kept, lots_kept, totals_kept, values_settled}

pub has_made : (s : Around) (old : Masses) (rs : List Patch) (xs ys : List (List EdgeCell)) (k : KeptLayout) (t u v : Lots) → IsLaidOut s k → LotsMadeStep s old rs xs ys t u → HaveSettled u v → HasMadeStep s old rs xs ys (record k { lots = v })
has_made s old rs xs ys k t u v laid made settled =
    let kept = all_lent None u.lots.items v.lots.items settled.lots in
    subst (λ (w : Lots). HasMadeStep s old rs xs ys (record k { lots = w })) (sym settled.rest)
    (record {
      stepped = made.stepped;
      totals = subst (AreTotalsOf s old) (sym (totals_kept s u v.lots true true kept)) made.lots.totals;
      edges = made.edges;
      layout = record {
        laid_out = with_lots s k (record u { packed = true; valued = true; lots = v.lots }) laid (lots_kept s u v.lots true true kept made.lots.lots);
        masses = record {
          packed = λ _. carry_kept s u v.lots true true kept (masses_in rs) made.lots.carry;
          valued = λ _. values_settled s.problem s.level old u.lots.items v.lots.items settled.lots made.lots.values;
        };
      };
    })
