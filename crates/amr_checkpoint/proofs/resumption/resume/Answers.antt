use Rattle.std.proofs.Common.{◌≡◌, subst}
use Rattle.amr_checkpoint.specs.declared.refusal.Refusal.{Refusal}
use Rattle.amr_checkpoint.specs.Checkpoints.{content_of}
use Rattle.amr_checkpoint.specs.Refusals.{RefusesRun}
use Rattle.amr_checkpoint.proofs.resumption.resume.Goals as goal

pub returns-in-Err-clause-refused : goal.returns-in-Err-clause-refused
returns-in-Err-clause-refused g c refusal s is seen =
    let same : c.in-Err.refusal ≡ refusal = cc in
    (content_of c.in-Ok.found, c.in-Ok.ensures.holds s seen, subst (λ (r : Refusal). RefusesRun c.args.bytes.now c.args.target (content_of c.in-Ok.found) r) same c.in-Err.ensures.refused)
