use Rattle.std.proofs.Common.{◌≡◌, true, sym, subst, ◌∙◌}
use Rattle.amr_box.specs.declared.Cell.{Cell}
use Rattle.amr_def.specs.Domain.{domain_of, in_domain}
use Rattle.amr_tests_levels.proofs.ApartPatches.{box_in_domain}
use Rattle.amr_tests_levels.proofs.frames.is_in_domain.Goals as goal

pub returns : goal.returns
returns c top k s =
    let d = domain_of c.args.dom.now in
    let low = subst (λ (t : Cell). in_domain d t ≡ true) c.lo.ensures.value (sym c.in_domain.ensures ∙ c.if-not-in_domain.false) in
    let high = subst (λ (t : Cell). in_domain d t ≡ true) c.hi.ensures.value (sym c.in_domain-2.ensures ∙ top) in
    box_in_domain d c.bx-b.result low high k (rw c.bx-b.ensures.value s)
