use Rattle.std.proofs.Common.{◌∙◌, sym, ap, drop}
use Rattle.std.specs.Option.{option_copied}
use Rattle.amr_regrid.proofs.Remaking.{first_rest}
use Rattle.amr_regrid.proofs.masses.unchanged.Goals as goal

pub returns-then-are_same : goal.returns-then-are_same
returns-then-are_same c = (
  drop 1 c.args.olds.now,
  first_rest c.args.olds.now c.in_ok-old.old.now (sym c.first.ensures.value ∙ ap option_copied c.in_ok-old.was),
  sym c.boxes.ensures ∙ c.are_same.ensures c.if-are_same.true,
)
