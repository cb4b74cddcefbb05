-- What a layout keeps of a step: a total for each word.
use Rattle.std.proofs.Common.{◌≡◌, ◌∙◌, ◌+◌, ◌*◌, Bool, true, false, List, [], ◌∷◌, length, get_or, subst, arith}
use Rattle.std.specs.Global.{Box}
use Rattle.amr_layout.specs.Surroundings.{Around}
use Rattle.amr_lots.specs.declared.lot.Lot.{Lot}
use Rattle.amr_advance.specs.declared.kept_layout.KeptLayout.{KeptLayout}
use Rattle.amr_advance.specs.declared.lots.Lots.{Lots}
use Rattle.amr_advance.specs.KeptLayouts.{HasFirstTotals, IsLaidOut, totals_kept}
use Rattle.amr_advance.specs.Lots.{AreLots, AreMade, IsOneLot, first_totals, is_one, totals_by}

-- those of the lot that is all of its level
first_count : (s : Around) (t : Lots) (h : AreLots s t) → IsOneLot s h.parts t → length (first_totals t.lots.items) ≡ 2 + 2 * length s.cells
first_count s t h one = by_lots t.lots.items one.one (λ x. (one.lot x).totals)
  where
    by_lots : (xs : List (Box Lot)) → length xs ≡ 1 → ((x : Box Lot) → length (get_or xs 0 x).value.workspace.totals.items ≡ 2 + 2 * length s.cells) → length (first_totals xs) ≡ 2 + 2 * length s.cells
    by_lots [] n of = absurd (omega (arith, n))
    by_lots (x ∷ xs) n of = of x

pub kept_count : (s : Around) (k : KeptLayout) → IsLaidOut s k → length (totals_kept k) ≡ 2 + 2 * length s.cells
kept_count s k h = by_case (is_one k.lots) h.lots.made
  where
    by_case : (b : Bool) → AreMade b s h.lots.parts k.lots → length (totals_by b k.lots) ≡ 2 + 2 * length s.cells
    by_case true one = first_count s k.lots h.lots one
    by_case false several = several.totals ∙ several.words

-- that lot is there
pub first_there : (s : Around) (k : KeptLayout) → IsLaidOut s k → HasFirstTotals k
first_there s k h is = let one : IsOneLot s h.lots.parts k.lots = subst (λ b. AreMade b s h.lots.parts k.lots) is h.lots.made in let n = one.one in omega (arith, n)
