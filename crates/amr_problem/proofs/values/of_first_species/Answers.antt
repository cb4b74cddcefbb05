use Rattle.std.proofs.Common.{◌≡◌, ◌∷◌, [], ◌++◌, sym, ap, get_or, length, pos, w64, rules, List, ℤ}
use Rattle.std.proofs.lemmas.Int.{to_z-of_z}
use Rattle.amr_problem.proofs.Shapes.{five}
use Rattle.amr_problem.proofs.values.of_first_species.Goals as goal

pub returns : goal.returns
returns c =
    let block : List ℤ = c.args.block in
    let many : length block ≡ 5 = search rules in
    rw (
      to_z-of_z w64 (get_or block 0 (pos 0)) (search rules),
      to_z-of_z w64 (get_or block 1 (pos 0)) (search rules),
      to_z-of_z w64 (get_or block 2 (pos 0)) (search rules),
      to_z-of_z w64 (get_or block 3 (pos 0)) (search rules),
      to_z-of_z w64 (get_or block 4 (pos 0)) (search rules),
    ) (ap (λ (zs : List ℤ). zs ++ pos 0 ∷ []) (sym (five block many)))
