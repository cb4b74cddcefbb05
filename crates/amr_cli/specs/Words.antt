-- The command that the words are. (profile)
use Rattle.std.specs.Prelude.{ℕ, ◌≤◌, ◌<◌, ◌^◌, IfSome, Bool, ◌&&◌, ◌||◌, ◌==◌, not, List, [], ◌∷◌, length, Option}
use Rattle.std.specs.Prelude.{Some, None, codes, if◌then◌else◌, option_and_then, option_map}
use Rattle.std.specs.List.{list_any}
use Rattle.std.specs.Str.{bytes_eq}
use Rattle.clap.specs.Words.{Row, Text, first_of, subcommand_of, fault_of}
use Rattle.amr_cli.specs.Table.{NumberRow, commands, deltas, keep, level, number, size, species, to, workers, x0, x1, y0, y1}
use Rattle.amr_cli.specs.Program.{program_app}
use Rattle.amr_cli.specs.Numbers.{number_of, in_range}
use Rattle.amr_cli.specs.declared.command.Command.{Command}
use Rattle.amr_cli.specs.declared.command.Corners.{Corners}
use Rattle.amr_cli.specs.declared.command.Command.TheVariants.{Run, Check, Show, Trial, Batch, View}

-- ---- by this program's own rule, before `clap` is asked

abbrev pub is_command_name : Text → Bool
is_command_name word = list_any (λ row. bytes_eq word row.name) commands

-- the word asks for help or for the version
abbrev pub is_help : Text → Bool
is_help word = bytes_eq word (codes "-h") || bytes_eq word (codes "--help") || bytes_eq word (codes "-V") || bytes_eq word (codes "--version")

-- the first word is a command's name, and no word asks for help or for the version
abbrev pub may_be_command : List Text → Bool
may_be_command [] = Bool.false
may_be_command (word ∷ rest) = is_command_name word && not (list_any is_help (word ∷ rest))

-- ---- what the rows of a command's matches say

-- the value of an option that may be absent: none where its text is no number in its range
abbrev pub option_of : NumberRow → List Row → Option (Option ℕ)
option_of option rows = value_of (first_of option.name rows)
  where
    value_of : Option Text → Option (Option ℕ)
    value_of None = Some None
    value_of (Some text) = option_map (λ n. Some n) (option_and_then (in_range option.low option.high) (number_of text))

-- the number in a place: none where none stands there, or its text is no number in its range
abbrev pub place_of : NumberRow → List Row → Option ℕ
place_of place rows = option_and_then (λ text. option_and_then (in_range place.low place.high) (number_of text)) (first_of place.name rows)

abbrev pub value_or : ℕ → Option ℕ → ℕ
value_or absent None = absent
value_or absent (Some n) = n

-- the value of an option, and this number where none is given
abbrev pub option_or : ℕ → NumberRow → List Row → Option ℕ
option_or absent option rows = option_map (value_or absent) (option_of option rows)

abbrev pub workers_of : List Row → Option ℕ
workers_of rows = option_or 1 workers rows

abbrev pub species_of : List Row → Option ℕ
species_of rows = option_or 0 species rows

-- a run by its numbers
abbrev pub run_by : ℕ → Option ℕ → Option ℕ → Option ℕ → Command
run_by w k e d = Run record { workers = w; to = k; keep = e; deltas = d }

abbrev pub run_of : List Row → Option Command
run_of rows =
    option_and_then (λ w. option_and_then (λ k. option_and_then (λ e. option_map (λ d. run_by w k e d) (option_of deltas rows)) (option_of keep rows))
    (option_of to rows)) (workers_of rows)

abbrev pub trial_of : List Row → Option Command
trial_of rows =
    option_and_then (λ n. option_and_then (λ m. option_map (λ w. Trial n m w) (workers_of rows)) (place_of size rows)) (place_of number rows)

abbrev pub batch_of : List Row → Option Command
batch_of rows = option_map (λ w. Batch w) (workers_of rows)

-- corners by their numbers
abbrev pub corners_by : ℕ → ℕ → ℕ → ℕ → Corners
corners_by a b c d = record { x0 = a; y0 = b; x1 = c; y1 = d }

abbrev pub corners_of : List Row → Option Corners
corners_of rows =
    option_and_then (λ a. option_and_then (λ b. option_and_then (λ c. option_map (λ d. corners_by a b c d) (place_of y1 rows)) (place_of x1 rows))
    (place_of y0 rows)) (place_of x0 rows)

-- a view by its numbers
abbrev pub view_by : ℕ → Corners → ℕ → ℕ → Command
view_by l b s w = View record { level = l; corners = b; species = s; workers = w }

abbrev pub view_of : List Row → Option Command
view_of rows =
    option_and_then (λ l. option_and_then (λ b. option_and_then (λ s. option_map (λ w. view_by l b s w) (workers_of rows)) (species_of rows))
    (corners_of rows)) (place_of level rows)

abbrev pub command_from : Option (Text × List Row) → Option Command
command_from None = None
command_from (Some found) =
    if bytes_eq found.0 (codes "run") then run_of found.1
    else (if bytes_eq found.0 (codes "check") then Some Check
    else (if bytes_eq found.0 (codes "show") then Some Show
    else (if bytes_eq found.0 (codes "trial") then trial_of found.1
    else (if bytes_eq found.0 (codes "batch") then batch_of found.1
    else (if bytes_eq found.0 (codes "view") then view_of found.1 else None)))))

-- ---- the whole

-- the command that the words are, and none where they are no command of the set
abbrev pub command_of : List Text → Option Command
command_of words =
    if may_be_command words && (length (fault_of program_app words) == 0)
    then command_from (subcommand_of program_app words) else None

-- ---- how large a command's numbers are

-- a number of workers from 1 to 64, where the command has one
abbrev pub HasWorkers : Command → Type 0
HasWorkers (Run options) = (1 ≤ options.workers) × (options.workers ≤ 64)
HasWorkers Check = Unit {0}
HasWorkers Show = Unit {0}
HasWorkers (Trial _ _ w) = (1 ≤ w) × (w ≤ 64)
HasWorkers (Batch w) = (1 ≤ w) × (w ≤ 64)
HasWorkers (View options) = (1 ≤ options.workers) × (options.workers ≤ 64)

abbrev pub AreShort : Corners → Type 0
AreShort b = (b.x0 ≤ 4095) × (b.y0 ≤ 4095) × (b.x1 ≤ 4095) × (b.y1 ≤ 4095)

-- a run stops at a step up to 4096, from 1 to 4096 steps lie between two checkpoints, and 1 to 7 records follow each whole state; a trial is drawn
-- from a number of 32 bits, with from 8 to 256 cells along each axis; a view is of a level up to 4 and of a species up to 3, and its corners lie
-- in columns and rows up to 4095
abbrev pub HasRanges : Command → Type 0
HasRanges (Run options) =
    IfSome options.to (λ k. k ≤ 4096) × IfSome options.keep (λ e. (1 ≤ e) × (e ≤ 4096)) × IfSome options.deltas (λ d. (1 ≤ d) × (d ≤ 7))
HasRanges Check = Unit {0}
HasRanges Show = Unit {0}
HasRanges (Trial n m _) = (n < 2 ^ 32) × (8 ≤ m) × (m ≤ 256)
HasRanges (Batch _) = Unit {0}
HasRanges (View options) = (options.level ≤ 4) × AreShort options.corners × (options.species ≤ 3)
