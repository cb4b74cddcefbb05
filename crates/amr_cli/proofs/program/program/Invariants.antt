use Rattle.std.proofs.Common.{◌≡◌, drop, fold, map}
use Rattle.clap.specs.Words.{app_of}
use Rattle.amr_cli.specs.Program.{program_app, with_command}
use Rattle.amr_cli.specs.Rows.{command_row}
use Rattle.amr_cli.proofs.program.program.Given as goal

-- with the commands that are left the program has all of the table
abbrev pub invariant-loop-form : goal.invariant-loop-form
invariant-loop-form l = fold with_command (app_of l.program) (map command_row (drop l.form-index l.form-items)) ≡ program_app
