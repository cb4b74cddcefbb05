use Rattle.std.proofs.Common.{◌≡◌, subst}
use Rattle.amr_checkpoint.specs.declared.refusal.Refusal.{Refusal}
use Rattle.amr_checkpoint.specs.Checkpoints.{content_of}
use Rattle.amr_checkpoint.specs.Contents.{Holds}
use Rattle.amr_checkpoint.specs.Refusals.{RefusesShow}
use Rattle.amr_checkpoint.proofs.resumption.show.Goals as goal

pub returns-in-Ok-shown_of-clause-holds : goal.returns-in-Ok-shown_of-clause-holds
returns-in-Ok-shown_of-clause-holds g c s seen =
    let shown = c.in-Ok-shown_of.ensures.holds in
    (shown.0, subst (Holds s) shown.1 (c.in-Ok.ensures.holds s seen))

pub returns-in-Err-clause-refused : goal.returns-in-Err-clause-refused
returns-in-Err-clause-refused g c refusal s is seen =
    let same : c.in-Err.refusal ≡ refusal = cc in
    (content_of c.in-Ok.found, c.in-Ok.ensures.holds s seen, subst (λ (r : Refusal). RefusesShow (content_of c.in-Ok.found) r) same c.in-Err.ensures.refused)
