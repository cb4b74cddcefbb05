use Rattle.std.proofs.Common.{ℕ, sym, ap, ◌∙◌}
use Rattle.std.specs.declared.option.Option.{Option}
use Rattle.std.specs.Option.{unwrap_or}
use Rattle.amr_box.specs.declared.Cell.{Cell}
use Rattle.amr_witness.specs.Maps.{masses_of}
use Rattle.amr_witness.proofs.Sizes.{cell_of}
use Rattle.amr_witness.proofs.ledger.mass_at.Goals as goal

pub returns-in-Some-clause-value : goal.returns-in-Some-clause-value
returns-in-Some-clause-value c =
    ap (λ (o : Option ℕ). unwrap_or o 0) (sym c.in-Some.is ∙ c.mass_in.ensures) ∙ ap (λ (k : Cell). unwrap_or (masses_of c.args.m.now k) 0) (cell_of c.args.x c.args.y c.requires.column c.requires.row)

pub returns-in-None-clause-value : goal.returns-in-None-clause-value
returns-in-None-clause-value c =
    ap (λ (o : Option ℕ). unwrap_or o 0) (sym c.in-None.is ∙ c.mass_in.ensures) ∙ ap (λ (k : Cell). unwrap_or (masses_of c.args.m.now k) 0) (cell_of c.args.x c.args.y c.requires.column c.requires.row)
