use Rattle.std.proofs.Common.{◌/◌, ◌^◌, ◌≤◌, ℕ, ap, ◌∙◌, arith}
use Rattle.amr_def.specs.Value.{inflow_at}
use Rattle.amr_ghost.proofs.Inflows.{inflow_within, shift_is, shift_within}
use Rattle.amr_ghost.proofs.outside.outside_value.Goals as goal

pub returns-clause-value : goal.returns-clause-value
returns-clause-value c = shift_is c.inflow_at.result c.args.l c.requires ∙ ap (λ (g : ℕ). g / 4 ^ c.args.l) c.inflow_at.ensures

pub returns-clause-small : goal.returns-clause-small
returns-clause-small c =
    let least : inflow_at c.args.p.now c.args.l c.args.c ≤ 2 ^ 30 = inflow_within c.args.p.now c.args.l c.args.c in
    shift_within c.inflow_at.result c.args.l c.requires (omega (arith, c.inflow_at.ensures, least))
