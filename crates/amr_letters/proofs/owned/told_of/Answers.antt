use Rattle.std.proofs.Common.{◌≡◌, subst}
use Rattle.std.specs.Prelude.{option_map}
use Rattle.amr_def.specs.Domain.{domain, home_cell}
use Rattle.amr_letters.specs.declared.owned.Told.{Told}
use Rattle.amr_letters.specs.Shared.{sharing}
use Rattle.amr_letters.proofs.Holders.{if_some, source_coarser, source_own, value_coarser, value_own}
use Rattle.amr_letters.proofs.owned.told_of.Goals as goal

pub domain-requires : goal.domain-requires
domain-requires c = c.requires

pub told_by_coarser-requires : goal.told_by_coarser-requires
told_by_coarser-requires c = c.requires

pub returns-in-Some-clause-from : goal.returns-in-Some-clause-from
returns-in-Some-clause-from c =
    let home : c.home_cell-home.result ≡ home_cell (domain c.args.s.problem.now c.args.s.level) c.args.c = subst (λ e. c.home_cell-home.result ≡ home_cell e c.args.c) c.domain.ensures c.home_cell-home.ensures in
    source_own (sharing c.args.s) c.args.c c.home_cell-home.result home c.in-Some.told.from c.in-Some.ensures.from

pub returns-in-Some-clause-mass : goal.returns-in-Some-clause-mass
returns-in-Some-clause-mass c =
    let home : c.home_cell-home.result ≡ home_cell (domain c.args.s.problem.now c.args.s.level) c.args.c = subst (λ e. c.home_cell-home.result ≡ home_cell e c.args.c) c.domain.ensures c.home_cell-home.ensures in
    value_own (sharing c.args.s) c.args.c c.home_cell-home.result home c.in-Some.told.mass c.in-Some.ensures.mass

pub returns-in-Some-clause-small : goal.returns-in-Some-clause-small
returns-in-Some-clause-small c = c.in-Some.ensures.small

pub returns-in-None-clause-from : goal.returns-in-None-clause-from
returns-in-None-clause-from c =
    let home : c.home_cell-home.result ≡ home_cell (domain c.args.s.problem.now c.args.s.level) c.args.c = subst (λ e. c.home_cell-home.result ≡ home_cell e c.args.c) c.domain.ensures c.home_cell-home.ensures in
    source_coarser (sharing c.args.s) c.args.c c.home_cell-home.result home (option_map (λ (t : Told). t.from) c.told_by_coarser.result) c.in-None.ensures.from c.told_by_coarser.ensures.from

pub returns-in-None-clause-mass : goal.returns-in-None-clause-mass
returns-in-None-clause-mass c =
    let home : c.home_cell-home.result ≡ home_cell (domain c.args.s.problem.now c.args.s.level) c.args.c = subst (λ e. c.home_cell-home.result ≡ home_cell e c.args.c) c.domain.ensures c.home_cell-home.ensures in
    if_some c.told_by_coarser.result c.told_by_coarser.ensures.mass (λ t is. value_coarser (sharing c.args.s) c.args.c c.home_cell-home.result home t.mass c.in-None.ensures.mass is.0 is.1)

pub returns-in-None-clause-small : goal.returns-in-None-clause-small
returns-in-None-clause-small c = c.told_by_coarser.ensures.small
