use Rattle.std.proofs.Common.{is_some, sym, ap, ◌∙◌}
use denote.Ref.{Bor}
use Rattle.std.specs.List.{list_all}
use Rattle.std.specs.declared.option.Option.{Option}
use Rattle.amr_codec.specs.Forms.{cells_of_row, masses_before}
use Rattle.amr_patch.specs.declared.levels.Level.{Level}
use Rattle.amr_decoder.proofs.ChangedRows.{near_wide, none_there}
use Rattle.amr_decoder.proofs.changed.copy_old_row.Goals as goal

pub returns-in-None-clause-cells : goal.returns-in-None-clause-cells
returns-in-None-clause-cells c =
    sym (ap (λ (old : Option (Bor Level)). list_all (λ d. is_some (masses_before old d)) (cells_of_row c.args.b.now c.args.j)) c.in-None.is ∙ none_there c.args.b.now c.args.j (near_wide c.args.b.now c.requires.near))
