use Rattle.std.proofs.Common.{refl}
use Rattle.amr_layout.proofs.Numbers.{number_alone}
use Rattle.amr_layout.proofs.registers.number_near.Goals as goal

pub returns-then-is_at-clause-number : goal.returns-then-is_at-clause-number
returns-then-is_at-clause-number c = number_alone c.args.cells.now c.args.c c.requires.ordered c.requires.there c.saturating_add-place.result (c.if-is_at.ensures refl).0 (c.if-is_at.ensures refl).1
