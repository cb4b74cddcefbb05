use Rattle.std.proofs.Common.{◌≡◌, ◌∙◌, ap, refl, Bool, List, ℕ, [], ◌∷◌, map}
use Rattle.std.specs.List.{list_any}
use Rattle.std.specs.Str.{bytes_eq}
use Rattle.amr_cli.specs.Table.{CommandRow}
use Rattle.amr_cli.specs.Rows.{command_row}
use Rattle.amr_cli.specs.declared.table.CommandForm.{CommandForm}
use Rattle.amr_cli.proofs.words.is_command_name.Goals as goal

-- a form has the name exactly where its row has it
any_named : (name : List ℕ) (forms : List CommandForm) → list_any (λ form. bytes_eq name form.name.now) forms ≡ list_any (λ (row : CommandRow). bytes_eq name row.name) (map command_row forms)
any_named name [] = refl
any_named name (form ∷ forms) = rw (any_named name forms) refl

pub returns : goal.returns
returns c =
    let named : List CommandRow → Bool = λ rows. list_any (λ (row : CommandRow). bytes_eq c.args.word.now row.name) rows in
    c.any_is_named.ensures ∙ any_named c.args.word.now c.command_forms.result.now ∙ ap named c.command_forms.ensures
