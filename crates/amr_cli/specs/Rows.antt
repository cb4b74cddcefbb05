-- The rows that entries of the program's table are.
use Rattle.std.specs.Prelude.{map}
use Rattle.amr_cli.specs.Table.{NumberRow, CommandRow}
use Rattle.amr_cli.specs.declared.table.NumberForm.{NumberForm}
use Rattle.amr_cli.specs.declared.table.CommandForm.{CommandForm}

abbrev pub number_row : NumberForm → NumberRow
number_row form = record { name = form.name.now; low = form.low; high = form.high }

abbrev pub command_row : CommandForm → CommandRow
command_row form = record { name = form.name.now; places = map number_row form.places.now; options = map number_row form.options.now }
