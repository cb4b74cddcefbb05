use Rattle.std.proofs.Common.{◌∙◌, sym}
use Rattle.clap.specs.Words.{subcommand_rows_of}
use Rattle.amr_cli.proofs.Ranges.{found_has}
use Rattle.amr_cli.proofs.words.parse.Goals as goal

pub returns-in-Some-clause-workers : goal.returns-in-Some-clause-workers
returns-in-Some-clause-workers c = (found_has c.in-Some.command (subcommand_rows_of c.in_ok-matches.matches) (sym c.command_from.ensures ∙ c.in-Some.is)).0

pub returns-in-Some-clause-ranges : goal.returns-in-Some-clause-ranges
returns-in-Some-clause-ranges c = (found_has c.in-Some.command (subcommand_rows_of c.in_ok-matches.matches) (sym c.command_from.ensures ∙ c.in-Some.is)).1
