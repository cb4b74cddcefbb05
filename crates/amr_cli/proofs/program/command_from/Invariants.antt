use Rattle.std.proofs.Common.{◌≡◌, drop, fold, map, false}
use Rattle.clap.specs.Words.{app_of, with_rule}
use Rattle.clap.specs.declared.builder.command.Command.TheViews.{out-Command as fields_of}
use Rattle.amr_cli.specs.Program.{command_app, option_rule}
use Rattle.amr_cli.specs.Rows.{command_row, number_row}
use Rattle.amr_cli.proofs.program.command_from.Given as goal

-- with the options that are left the command has all of its row's
abbrev pub invariant-loop-number : goal.invariant-loop-number
invariant-loop-number l =
    (fold with_rule (app_of l.command) (map option_rule (map number_row (drop l.number-index l.number-items))) ≡ command_app (command_row l.form))
    × ((fields_of l.command).has_globals ≡ false)
