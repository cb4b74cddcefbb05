-- The command line in the terms of `clap`, as the table gives it.
use Rattle.std.specs.Prelude.{true, Some, fold, map, codes}
use Rattle.clap.specs.Words.{App, Rule, new_app, new_rule, with_rule, with_subcommand}
use Rattle.clap.specs.declared.builder.value_parser.ValueParser.TheVariants as parser
use Rattle.amr_cli.specs.Table.{NumberRow, CommandRow, commands}

-- a number that has to stand in its place
abbrev pub place_rule : NumberRow → Rule
place_rule row = record (new_rule row.name) { required = true; parser = Some (parser.Unsigned row.low row.high) }

-- a number that may be given by name
abbrev pub option_rule : NumberRow → Rule
option_rule row = record (new_rule row.name) { long = Some row.name; parser = Some (parser.Unsigned row.low row.high) }

-- the command before it has options
abbrev pub placed_app : CommandRow → App
placed_app row = fold with_rule (new_app row.name) (map place_rule row.places)

abbrev pub command_app : CommandRow → App
command_app row = fold with_rule (placed_app row) (map option_rule row.options)

-- the program before it has commands: all words are arguments, and one of them has to name a command
abbrev pub bare_app : App
bare_app = let app = new_app (codes "amr") in record app { top = record app.top { no_binary_name = true; subcommand_required = true } }

abbrev pub with_command : App → CommandRow → App
with_command app row = with_subcommand app (command_app row).top

abbrev pub program_app : App
program_app = fold with_command bare_app commands
