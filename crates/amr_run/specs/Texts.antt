-- What is written outside of plots: the line of a problem, and what stands for a status, the exit status and the line on the
-- stream of errors. (profile)
use Rattle.std.specs.Prelude.{ℕ, ℤ, pos, negsuc, List, [], ◌∷◌, ◌++◌, codes, decimal}
use Rattle.std.specs.Fmt.{signed_decimal}
use Rattle.amr_box.specs.declared.Axis.{Axis}
use Rattle.amr_box.specs.declared.Axis.TheVariants as axes
use Rattle.amr_def.specs.declared.problem.Problem.{Problem}
use Rattle.amr_def.specs.Plot.{line, spaced}
use Rattle.amr_problem.specs.declared.fault.ProblemFault.{ProblemFault}
use Rattle.amr_problem.specs.declared.fault.ProblemFault.TheVariants as problem
use Rattle.amr_problem.specs.Keys.{text_of}
use Rattle.amr_checkpoint.specs.Refusals.{disk_text, refusal_line}
use Rattle.amr_run.specs.declared.status.Status.{Status}
use Rattle.amr_run.specs.declared.status.Status.TheVariants as status
use Rattle.amr_run.specs.declared.views.ViewPart.{ViewPart}
use Rattle.amr_run.specs.declared.views.ViewPart.TheVariants as part

-- the line of a problem: its columns, rows and steps, and its finest level
abbrev pub problem_line : Problem → List ℕ
problem_line p = line (spaced (codes "ok" ∷ decimal p.nx ∷ decimal p.ny ∷ decimal p.steps ∷ decimal p.max_level ∷ []))

abbrev pub exit_status : Status → ℕ
exit_status status.Done = 0
exit_status status.Usage = 2
exit_status (status.Problem fault) = 3
exit_status status.ReadFault = 4
exit_status status.WriteFault = 5
exit_status status.DiskFault = 6
exit_status (status.Store reason) = 7
exit_status (status.BadBatch place) = 8
exit_status (status.Species k) = 7
exit_status status.NoMemory = 9
exit_status (status.BadView outside) = 10

abbrev pub usage_text : List ℕ
usage_text =
    codes "usage: run [--workers W] [--to K] [--keep E] [--deltas D] | check | show | trial NUMBER SIZE [--workers W] | batch [--workers W]"
    ++ codes " | view LEVEL X0 Y0 X1 Y1 [--species S] [--workers W]"

abbrev pub part_text : ViewPart → List ℕ
part_text part.Level = codes "level"
part_text part.Box = codes "box"
part_text part.Species = codes "species"

-- what stands before a number's digits
abbrev pub sign_text : ℤ → List ℕ
sign_text (pos n) = []
sign_text (negsuc n) = codes "-"

abbrev pub axis_text : Axis → List ℕ
axis_text axes.X = codes "x"
axis_text axes.Y = codes "y"

abbrev pub fault_text : ProblemFault → List ℕ
fault_text problem.TooLong = codes "problem: too long"
fault_text problem.NotToml = codes "problem: not TOML"
fault_text (problem.UnknownKey key) = spaced (codes "problem: unknown key" ∷ key ∷ [])
fault_text (problem.Missing key) = spaced (codes "problem: missing key" ∷ text_of key ∷ [])
fault_text (problem.WrongKind key) = spaced (codes "problem: wrong kind" ∷ text_of key ∷ [])
fault_text (problem.OutOfRange key value) = spaced (codes "problem: out of range" ∷ text_of key ∷ signed_decimal value ∷ [])
fault_text (problem.Courant sum d) = spaced (codes "problem: courant" ∷ signed_decimal sum ∷ codes "over" ∷ signed_decimal d ∷ [])
fault_text (problem.SidesDiffer axis) = spaced (codes "problem: sides differ" ∷ axis_text axis ∷ [])
fault_text (problem.BlockOutside index) = spaced (codes "problem: block" ∷ decimal index ∷ codes "outside" ∷ [])
fault_text (problem.TagCount given max_level) =
    spaced (codes "problem:" ∷ signed_decimal given ∷ codes "tags for" ∷ signed_decimal max_level ∷ codes "levels" ∷ [])
fault_text (problem.Blocking axis b) = spaced (codes "problem: blocking" ∷ signed_decimal b ∷ codes "does not fit" ∷ axis_text axis ∷ [])
fault_text (problem.SpeciesOutside index species) =
    spaced (codes "problem: block" ∷ decimal index ∷ codes "of species" ∷ signed_decimal species ∷ [])

-- the line of a refusal
abbrev pub refusal : List ℕ → List ℕ
refusal text = line (codes "amr: " ++ text)

-- the line that a call writes to `err` last: none where all is done
abbrev pub message : Status → List ℕ
message status.Done = []
message status.Usage = refusal usage_text
message status.ReadFault = refusal (codes "read failed")
message (status.Problem fault) = refusal (fault_text fault)
message (status.BadBatch place) = refusal (spaced (codes "batch malformed at" ∷ decimal place ∷ []))
message (status.Species k) = refusal (spaced (codes "store keeps one species:" ∷ decimal k ∷ codes "given" ∷ []))
message (status.BadView outside) = refusal (spaced (codes "view outside:" ∷ part_text outside ∷ []))
message status.DiskFault = refusal disk_text
message (status.Store reason) = refusal_line reason
message status.WriteFault = refusal (codes "write failed")
message status.NoMemory = refusal (codes "out of memory")
