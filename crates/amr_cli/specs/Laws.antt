-- Laws of the program's words.
use Rattle.std.specs.Prelude.{◌≡◌, ℕ, List, [], Bool, IsSome, IsTrue, option_and_then, ◌↔◌}
use Rattle.clap.specs.Words.{Accepts, Text, fault_of}
use Rattle.clap.specs.declared.builder.value_parser.ValueParser.TheVariants as parser
use Rattle.amr_cli.specs.Numbers.{in_range, number_of}
use Rattle.amr_cli.specs.Program.{program_app}
use Rattle.amr_cli.specs.Words.{command_of, may_be_command}

-- the texts that `clap` takes for a number from low to high are those that this program reads as one
abbrev pub NumbersAreReadAlike : Type 0
NumbersAreReadAlike =
    (low high : ℕ) (text : List ℕ) → Accepts Bool.false (parser.Unsigned low high) text ↔ IsSome (option_and_then (in_range low high) (number_of text))

-- words are no command only where the first names none, a word asks for help or for the version, or `clap` finds a fault in them
abbrev pub UsageHasNoOtherCause : Type 0
UsageHasNoOtherCause = (words : List Text) → IsTrue (may_be_command words) → fault_of program_app words ≡ [] → IsSome (command_of words)
