use Rattle.std.proofs.Common.{sym, ap}
use Rattle.std.specs.Option.{option_copied}
use Rattle.amr_def.specs.State.{is_covered}
use Rattle.amr_layout.specs.Surroundings.{finer_masses}
use Rattle.amr_layout.proofs.lookup.is_covered.Goals as goal

pub returns-in-None : goal.returns-in-None
unfolding is_covered
returns-in-None c = ap (λ o. is_covered (finer_masses (option_copied o)) c.args.c) (sym c.in-None.is)
