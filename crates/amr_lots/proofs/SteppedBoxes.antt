-- A lot some of whose patches made their step has the boxes that it had, so it may still send.
use Rattle.std.proofs.Common.{◌≡◌, ℕ, zero, suc, ◌<◌, List, [], ◌∷◌, length, get_or, map, refl, ap, arith}
use Rattle.amr_def.specs.declared.problem.Problem.{Problem}
use Rattle.amr_patch.specs.declared.patches.Patch.{Patch}
use Rattle.amr_patch.specs.Patches.{box}
use Rattle.amr_layout.specs.declared.PatchLayout.{PatchLayout}
use Rattle.amr_register.proofs.EdgeLists.{first_of}
use Rattle.amr_lots.specs.declared.lot.Lot.{Lot}
use Rattle.amr_lots.specs.Duties.{MaySend}
use Rattle.amr_lots.specs.LotSteps.{HasSteppedWhere, ReadsNone, ReadsSome}
use Rattle.amr_lots.proofs.Sending.{sends_on_boxes}

pub boxes_same : (qs rs : List Patch) → length rs ≡ length qs → ((k : ℕ) (d : Patch) → k < length qs → box (get_or rs k d) ≡ box (get_or qs k d)) → map box rs ≡ map box qs
boxes_same [] [] e h = refl
boxes_same [] (r ∷ rs) e h = absurd (omega (arith, e))
boxes_same (q ∷ qs) [] e h = absurd (omega (arith, e))
boxes_same (q ∷ qs) (r ∷ rs) e h = let first = h 0 q (omega arith) in let rest = boxes_same qs rs (omega (arith, e)) (λ k d lt. h (suc k) d (omega (arith, lt))) in λ i. first i ∷ rest i

pub stepped_sends : (p : Problem) (l : ℕ) (lot after : Lot) → length lot.workspace.layouts.items ≡ length lot.patches.items → HasSteppedWhere p l ReadsSome ReadsNone lot after → MaySend lot → MaySend after
stepped_sends p l lot after count h may =
    sends_on_boxes lot after (boxes_same lot.patches.items after.patches.items h.patches.count one) (ap (λ (x : Lot). x.workspace.outbox) h.others) may
  where
    one : (k : ℕ) (d : Patch) → k < length lot.patches.items → box (get_or after.patches.items k d) ≡ box (get_or lot.patches.items k d)
    one k d lt = by_reads (length (get_or lot.workspace.layouts.items k t).border.items) refl
      where
        t : PatchLayout
        t = first_of lot.workspace.layouts.items k (omega (arith, lt, count))

        by_reads : (n : ℕ) → length (get_or lot.workspace.layouts.items k t).border.items ≡ n → box (get_or after.patches.items k d) ≡ box (get_or lot.patches.items k d)
        by_reads zero e = ap box (h.patches.stays k d t lt e)
        by_reads (suc n) e = (h.patches.steps k d t lt (omega (arith, e))).of_box
