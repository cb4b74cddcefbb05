use Rattle.std.proofs.Common.{◌≡◌, ◌∙◌, ap, subst, ℕ, ◌+◌, ◌<◌, suc, List, [], length, map, drop, fold, get_or, add-one}
use Rattle.std.proofs.Math.Seq.{drop-cons}
use Rattle.clap.specs.Words.{App, app_of, with_subcommand}
use Rattle.amr_cli.specs.Program.{program_app, with_command}
use Rattle.amr_cli.specs.Rows.{command_row}
use Rattle.amr_cli.specs.declared.table.CommandForm.{CommandForm}
use Rattle.amr_cli.proofs.program.program.Goals as goal

-- the next form's command added, with the forms that are left then, makes the same whole
next_form : (forms : List CommandForm) (i : ℕ) (none : CommandForm) (old new whole : App) → i < length forms → new ≡ with_command old (command_row (get_or forms i none))
    → fold with_command old (map command_row (drop i forms)) ≡ whole → fold with_command new (map command_row (drop (i + 1) forms)) ≡ whole
next_form forms i none old new whole within is before =
    let from_here : List CommandForm → Type 0 = λ left. fold with_command old (map command_row left) ≡ whole in
    let next = subst from_here (drop-cons forms i none within) before in
    ap (λ (n : ℕ). fold with_command new (map command_row (drop n forms))) (add-one i) ∙ (ap (λ (app : App). fold with_command app (map command_row (drop (suc i) forms))) is ∙ next)

-- what stands past the end of the table
no_form : CommandForm
no_form = record { name = record { ref_ptr = (0, 0); now = [] }; places = record { ref_ptr = (0, 0); now = [] }; options = record { ref_ptr = (0, 0); now = [] } }

pub loop-form-preserved : goal.loop-form-preserved
unfolding no_form
loop-form-preserved c =
    let shape = c.in_ok-program.ensures.shape c.in_ok-command.ensures.local in
    let old : App = app_of c.loop-form.program in
    let added = shape ∙ ap (λ (app : App). with_subcommand old app.top) c.in_ok-command.ensures.app in
    next_form c.command_forms-form-items.result.now c.loop-form.form-index no_form old (app_of c.in_ok-program.program) program_app c.loop-form-test.true added c.loop-form.invariant
