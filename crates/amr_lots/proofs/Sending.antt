-- A lot whose patches keep their boxes may still send.
use Rattle.std.proofs.Common.{◌≡◌, List, get_or, map, sym, ap, subst}
use Rattle.std.specs.List.{All}
use Rattle.amr_patch.specs.declared.patches.Patch.{Patch}
use Rattle.amr_patch.specs.Patches.{box, masses_in}
use Rattle.amr_ghost.specs.Messages.{IsMessageFrom}
use Rattle.amr_ghost.specs.declared.messages.Message.{Message}
use Rattle.amr_ghost.proofs.Carrying.{taken_of_boxes}
use Rattle.amr_ghost.proofs.Zips.{boxes_of_zip}
use Rattle.amr_register.specs.Fields.{entry_in}
use Rattle.amr_lots.specs.declared.lot.Lot.{Lot}
use Rattle.amr_lots.specs.Corrections.{HasCorrected, IsCorrected, MayCorrect, finer_in, register_in}
use Rattle.amr_lots.specs.Duties.{HasMadeCorrection, HasSent, MaySend}

-- messages from patches are also messages from others with their boxes
from_boxes : (rs fs : List Patch) → map box rs ≡ map box fs → (x : Message) → IsMessageFrom rs x → IsMessageFrom fs x
from_boxes rs fs same x from = ((λ k c lt. taken_of_boxes rs fs same (get_or x.copies.items k c) (from.0 k c lt)), from.1)

-- a lot that may send may do so with other patches over the same boxes
pub sends_on_boxes : (lot after : Lot) → map box after.patches.items ≡ map box lot.patches.items → after.workspace.outbox ≡ lot.workspace.outbox → MaySend lot → MaySend after
sends_on_boxes lot after same outbox may =
    subst (λ xs. All (IsMessageFrom after.patches.items) xs.items) (sym outbox) (λ k x lt. from_boxes lot.patches.items after.patches.items (sym same) (get_or lot.workspace.outbox.items k x) (may k x lt))

-- so after its correction
pub corrected_sends : (lot after : Lot) → MayCorrect lot → HasCorrected lot after → MaySend lot → MaySend after
corrected_sends lot after by h may =
    let x = by.correction in
    sends_on_boxes lot after (boxes_of_zip (IsCorrected (masses_in (finer_in x)) (entry_in (register_in x))) (λ q r s. s.kept.of_box) lot.patches.items after.patches.items (h.patches x by.lent)) (ap (λ (y : Lot). y.workspace.outbox) h.others) may

-- the correction and then the messages
pub made_correction : (lot corrected after : Lot) → HasCorrected lot corrected → HasSent corrected after → HasMadeCorrection lot after
made_correction lot corrected after corrects sends = record { corrected = corrected; corrects = corrects; sends = sends }
