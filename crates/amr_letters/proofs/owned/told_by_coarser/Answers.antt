use Rattle.std.proofs.Common.{◌≡◌, ◌∙◌, cond, false, true, sym, ap, subst}
use Rattle.std.specs.declared.option.Option.TheVariants.{None}
use Rattle.amr_box.specs.Cells.{parent}
use Rattle.amr_def.specs.Domain.{domain, in_domain}
use Rattle.amr_letters.specs.Sources.{holder}
use Rattle.amr_letters.proofs.Holders.{if_some}
use Rattle.amr_letters.proofs.owned.told_by_coarser.Goals as goal

pub domain-requires : goal.domain-requires
domain-requires c = c.requires

pub returns-then-not-in_domain-clause-from : goal.returns-then-not-in_domain-clause-from
returns-then-not-in_domain-clause-from c =
    let d = domain c.args.s.problem.now c.args.s.level in
    let out : in_domain d c.args.home ≡ false = subst (λ e. in_domain e c.args.home ≡ false) c.domain.ensures (sym c.in_domain.ensures ∙ c.if-not-in_domain.true) in
    sym (ap (λ b. cond b (holder c.args.s.coarser.patches.now c.args.s.coarser.owners.now (parent c.args.home)) None) out)

pub returns-clause-from : goal.returns-clause-from
returns-clause-from c =
    let d = domain c.args.s.problem.now c.args.s.level in
    let here : in_domain d c.args.home ≡ true = subst (λ e. in_domain e c.args.home ≡ true) c.domain.ensures (sym c.in_domain.ensures ∙ c.if-not-in_domain.false) in
    c.held_quarter.ensures.from ∙ sym (ap (λ b. cond b (holder c.args.s.coarser.patches.now c.args.s.coarser.owners.now (parent c.args.home)) None) here)

pub returns-clause-mass : goal.returns-clause-mass
returns-clause-mass c =
    let d = domain c.args.s.problem.now c.args.s.level in
    let here : in_domain d c.args.home ≡ true = subst (λ e. in_domain e c.args.home ≡ true) c.domain.ensures (sym c.in_domain.ensures ∙ c.if-not-in_domain.false) in
    if_some c.held_quarter.result c.held_quarter.ensures.mass (λ t is. (here, is))

pub returns-clause-small : goal.returns-clause-small
returns-clause-small c = c.held_quarter.ensures.small
