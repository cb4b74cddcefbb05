use Rattle.std.proofs.Common.{◌≡◌, [], ◌∷◌, option_map, pos, w64, rules}
use Rattle.std.proofs.lemmas.Int.{to_z-of_z}
use Rattle.amr_problem.specs.declared.key.Key.TheVariants.{Version, Name, Cells, Steps, Courant, Sides, MaxLevel}
use Rattle.amr_problem.specs.declared.fault.ProblemFault.TheVariants.{OutOfRange}
use Rattle.amr_problem.specs.Keys.{range}
use Rattle.amr_problem.specs.Faults.{text_outside}
use Rattle.amr_problem.specs.Entries.{numbers_outside, basics_outside}
use Rattle.amr_problem.proofs.ranges.basics.Goals as goal

pub returns : goal.returns
unfolding basics_outside
returns c =
    let b = c.args.basics.now in
    let version : c.numbers.result ≡ numbers_outside Version (b.version ∷ []) = rw (to_z-of_z w64 b.version (search rules)) at c.numbers.ensures in
    let name : c.name.result ≡ option_map (OutOfRange Name) (text_outside (range (pos 1) (pos 32)) b.name.items) = rw (← c.as_slice.ensures.value) c.name.ensures in
    let cells : c.numbers-2.result ≡ numbers_outside Cells (b.nx ∷ b.ny ∷ []) =
    rw (to_z-of_z w64 b.nx (search rules), to_z-of_z w64 b.ny (search rules)) at c.numbers-2.ensures in
    let steps : c.numbers-3.result ≡ numbers_outside Steps (b.steps ∷ []) = rw (to_z-of_z w64 b.steps (search rules)) at c.numbers-3.ensures in
    let courant : c.numbers-4.result ≡ numbers_outside Courant (b.cx ∷ b.cy ∷ b.d ∷ []) =
    rw (to_z-of_z w64 b.cx (search rules), to_z-of_z w64 b.cy (search rules), to_z-of_z w64 b.d (search rules)) at c.numbers-4.ensures in
    let sides : c.numbers-5.result ≡ numbers_outside Sides (b.x_low ∷ b.x_high ∷ b.y_low ∷ b.y_high ∷ []) =
    rw (to_z-of_z w64 b.x_low (search rules), to_z-of_z w64 b.x_high (search rules), to_z-of_z w64 b.y_low (search rules), to_z-of_z w64 b.y_high (search rules)) at c.numbers-5.ensures in
    let max_level : c.numbers-6.result ≡ numbers_outside MaxLevel (b.max_level ∷ []) = rw (to_z-of_z w64 b.max_level (search rules)) at c.numbers-6.ensures in
    rw (c.or-6.ensures, c.or-5.ensures, c.or-4.ensures, c.or-3.ensures, c.or-2.ensures, c.or.ensures, version, name, cells, steps, courant, sides, max_level)
