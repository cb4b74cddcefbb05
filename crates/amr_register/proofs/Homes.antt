-- The cells that cells beside those of a domain stand for.
use Rattle.std.proofs.Common.{◌≡◌, ℕ, ◌*◌, ◌^◌, ◌<◌, ◌≤◌, true, ℤ, pos, ◌+ℤ◌, ◌≤ℤ◌, ◌<ℤ◌, arith}
use Rattle.std.proofs.lemmas.Int.{ints}
use Rattle.std.proofs.lemmas.Bool.{and_parts}
use Rattle.std.proofs.lemmas.Nat.{mul-le}
use Rattle.amr_box.specs.declared.Cell.{Cell}
use Rattle.amr_box.specs.Cells.{cell, moved}
use Rattle.amr_box.proofs.CellEquality.{same_cell}
use Rattle.amr_def.specs.declared.problem.Problem.{Problem}
use Rattle.amr_def.specs.declared.domain.Dom.{Dom}
use Rattle.amr_def.specs.Domain.{Domain, domain, domain_of, home_cell, in_domain, is_inside}
use Rattle.amr_def.proofs.Homes.{inside-itself}
use Rattle.amr_def.proofs.Nesting.{test_inside, wrapped_shift}
use Rattle.amr_def.proofs.Sizes.{doubled_small}
use Rattle.amr_def.proofs.Courants.{power_some}
use Rattle.amr_register.specs.Beside.{IsBesideDomain, IsDomainCell}

-- how many columns and rows a domain has
pub record HasSize (d : Domain) : Type 0 where
  pub some_columns : 0 < d.columns
  pub some_rows : 0 < d.rows
  pub few_columns : d.columns ≤ 4096
  pub few_rows : d.rows ≤ 4096

some_doubled : (n l : ℕ) → 2 ≤ n → l ≤ 4 → 0 < n * 2 ^ l
some_doubled n l h k = let two : 2 * 1 ≤ n * 2 ^ l = mul-le 2 1 n (2 ^ l) h (power_some l k) in omega (arith, two)

pub size_of : (d : Dom) → HasSize (domain_of d)
size_of d = record {
  some_columns = some_doubled d.nx d.l d.limits.least_columns d.limits.greatest_level;
  some_rows = some_doubled d.ny d.l d.limits.least_rows d.limits.greatest_level;
  few_columns = doubled_small d.nx d.l d.limits.greatest_columns d.limits.greatest_level;
  few_rows = doubled_small d.ny d.l d.limits.greatest_rows d.limits.greatest_level;
}

pub size_at : (p : Problem) (l : ℕ) → l ≤ 4 → HasSize (domain p l)
size_at p l h = record {
  some_columns = some_doubled p.nx l p.limits.least_nx h;
  some_rows = some_doubled p.ny l p.limits.least_ny h;
  few_columns = doubled_small p.nx l p.limits.greatest_nx h;
  few_rows = doubled_small p.ny l p.limits.greatest_ny h;
}

pub home_inside : (d : Domain) (c : Cell) → in_domain d c ≡ true → home_cell d c ≡ c
unfolding in_domain
home_inside d c h =
    let parts = and_parts (is_inside d.columns c.x) (is_inside d.rows c.y) h in
    same_cell (inside-itself d.wrap_x d.columns c.x parts.0) (inside-itself d.wrap_y d.rows c.y parts.1)

pub moved_home : (d : Domain) (c : Cell) (i j : ℤ) (u v : ℕ) → HasSize d → i +ℤ pos 1 ≡ pos u → j +ℤ pos 1 ≡ pos v → home_cell d (moved (home_cell d c) (cell i j)) ≡ home_cell d (moved c (cell i j))
moved_home d c i j u v size hu hv = same_cell (wrapped_shift d.wrap_x d.columns c.x i u size.some_columns hu) (wrapped_shift d.wrap_y d.rows c.y j v size.some_rows hv)

pub record IsWithinDomain (d : Domain) (c : Cell) : Type 0 where
  pub west : pos 0 ≤ℤ c.x
  pub east : c.x <ℤ pos d.columns
  pub south : pos 0 ≤ℤ c.y
  pub north : c.y <ℤ pos d.rows

pub within_domain : (d : Domain) (c : Cell) → in_domain d c ≡ true → IsWithinDomain d c
unfolding in_domain
within_domain d c h =
    let parts = and_parts (is_inside d.columns c.x) (is_inside d.rows c.y) h in
    let x = test_inside d.columns c.x parts.0 in
    let y = test_inside d.rows c.y parts.1 in
    record { west = x.0; east = x.1; south = y.0; north = y.1 }

pub domain_cell : (d : Domain) (c : Cell) → HasSize d → in_domain d c ≡ true → IsDomainCell c
domain_cell d c size h =
    let w = within_domain d c h in
    record { west = w.west; east = omega (arith, ints, w.east, size.few_columns); south = w.south; north = omega (arith, ints, w.north, size.few_rows) }

pub beside_domain : (c : Cell) → IsDomainCell c → IsBesideDomain c
beside_domain c h = record { west = omega (arith, ints, h.west); east = omega (arith, ints, h.east); south = omega (arith, ints, h.south); north = omega (arith, ints, h.north) }
