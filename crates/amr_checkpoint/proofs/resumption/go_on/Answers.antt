use Rattle.std.proofs.Common.{◌≤◌, subst}
use Rattle.amr_checkpoint.proofs.FromDisk.{at_given, at_goes_on, fresh_given, fresh_goes_on}
use Rattle.amr_checkpoint.proofs.resumption.go_on.Goals as goal

pub returns-in-Fresh-clause-problem : goal.returns-in-Fresh-clause-problem
returns-in-Fresh-clause-problem c other =
    fresh_given c.args.found c.in-Fresh.store c.in-Fresh.field-1 c.problem.result.now c.args.bytes.now c.in-Fresh.is c.requires c.problem.ensures (c.other_problem.ensures.none c.in-None.is)

pub returns-clause-problem : goal.returns-clause-problem
returns-clause-problem c other =
    at_given c.args.found c.in-At.store c.in-At.field-1 c.in-At.mesh c.problem-in-At.result.now c.args.bytes.now c.in-At.is c.requires c.problem-in-At.ensures (c.other_problem-in-At.ensures.none c.in-None-other_problem.is)

pub returns-in-Fresh-clause-holds : goal.returns-in-Fresh-clause-holds
returns-in-Fresh-clause-holds c p given =
    (fresh_goes_on c.args.found c.in-Fresh.store c.in-Fresh.field-1 c.problem.result.now c.args.bytes.now p c.in-Fresh.is c.requires c.problem.ensures (c.other_problem.ensures.none c.in-None.is) given).0

pub returns-in-Fresh-clause-can_go_on : goal.returns-in-Fresh-clause-can_go_on
returns-in-Fresh-clause-can_go_on c p given =
    (fresh_goes_on c.args.found c.in-Fresh.store c.in-Fresh.field-1 c.problem.result.now c.args.bytes.now p c.in-Fresh.is c.requires c.problem.ensures (c.other_problem.ensures.none c.in-None.is) given).1

pub returns-clause-holds : goal.returns-clause-holds
returns-clause-holds c p given =
    (at_goes_on c.args.found c.in-At.store c.in-At.field-1 c.in-At.mesh c.problem-in-At.result.now c.args.bytes.now p c.in-At.is c.requires c.problem-in-At.ensures (c.other_problem-in-At.ensures.none c.in-None-other_problem.is) given).0

pub returns-clause-can_go_on : goal.returns-clause-can_go_on
returns-clause-can_go_on c p given =
    let at = at_goes_on c.args.found c.in-At.store c.in-At.field-1 c.in-At.mesh c.problem-in-At.result.now c.args.bytes.now p c.in-At.is c.requires c.problem-in-At.ensures (c.other_problem-in-At.ensures.none c.in-None-other_problem.is) given in
    (at.1, at.2, subst (λ n. n ≤ c.args.target) c.step.ensures (c.past.ensures.none c.in-None-past.is))
