-- How many register cells there are.
use Rattle.std.proofs.Common.{ℕ, ◌*◌, ◌^◌, ◌≤◌, length, arith}
use Rattle.std.proofs.lemmas.List.Sums.{count_by-le-length, length-filter}
use Rattle.std.proofs.lemmas.Nat.{mul-le}
use Rattle.amr_box.specs.Cells.{cells_of, height, width}
use Rattle.amr_box.proofs.Parts.{length-cells_of}
use Rattle.amr_box.proofs.Numbers.{domain_side}
use Rattle.amr_def.specs.declared.problem.Problem.{Problem}
use Rattle.amr_def.specs.Domain.{domain, domain_box}
use Rattle.amr_def.specs.State.{Masses}
use Rattle.amr_register.specs.RegisterCells.{is_register_cell, register_cells}
use Rattle.amr_register.proofs.Homes.{size_at}

-- no more than a domain has cells
pub few_cells : (p : Problem) (l : ℕ) (m fine : Masses) → l ≤ 4 → length (register_cells p l m fine) ≤ 2 ^ 24
few_cells p l m fine shallow =
    let d = domain p l in
    let test = is_register_cell d m fine in
    let size = size_at p l shallow in
    let wide : width (domain_box d) ≤ 4096 = omega (arith, domain_side d.columns, size.few_columns) in
    let high : height (domain_box d) ≤ 4096 = omega (arith, domain_side d.rows, size.few_rows) in
    let most : width (domain_box d) * height (domain_box d) ≤ 4096 * 4096 = mul-le (width (domain_box d)) (height (domain_box d)) 4096 4096 wide high in
    omega (arith, length-filter test (cells_of (domain_box d)), count_by-le-length test (cells_of (domain_box d)), length-cells_of (domain_box d), most)
