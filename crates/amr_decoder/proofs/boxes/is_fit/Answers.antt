use Rattle.std.proofs.Common.{◌∙◌, ap, sym, ◌&&◌}
use Rattle.amr_box.specs.Cells.{is_proper}
use Rattle.amr_def.specs.Domain.{Domain, domain_box}
use Rattle.amr_payload.specs.Tests.{is_aligned, is_same_box, lies_in}
use Rattle.amr_decoder.specs.Boxes.{box_at}
use Rattle.amr_decoder.proofs.BoxTests.{base_is, blocking_some, fine_is}
use Rattle.amr_decoder.proofs.boxes.is_fit.Goals as goal

pub is_fine-requires : goal.is_fine-requires
is_fine-requires c = blocking_some c.args.p.now

pub returns-then-l-eq0-clause-value : goal.returns-then-l-eq0-clause-value
returns-then-l-eq0-clause-value c =
    let b = box_at c.args.b in
    c.is_domain_box.ensures.value ∙ ap (λ (d : Domain). is_same_box b (domain_box d)) c.domain-dom.ensures ∙ sym (base_is c.args.p.now c.args.l b c.if-l-eq0.true)

pub returns-else-l-eq0-clause-value : goal.returns-else-l-eq0-clause-value
returns-else-l-eq0-clause-value c =
    let p = c.args.p.now in
    let b = box_at c.args.b in
    c.is_fine.ensures.value ∙ ap (λ (d : Domain). lies_in d b && is_proper b && is_aligned p.blocking b) c.domain-dom.ensures ∙ sym (fine_is p c.args.l b c.if-l-eq0.false)
