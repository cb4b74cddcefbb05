-- Rows of cells, the rows of their parents, and the masses of both.
use Rattle.std.proofs.Common.{◌≡◌, ◌∙◌, ℕ, zero, suc, ◌+◌, ◌*◌, ◌/◌, ◌%◌, ◌^◌, ◌<◌, ◌≤◌, ℤ, pos, ◌+ℤ◌, ◌≤ℤ◌, ◌<ℤ◌, List, length, sym, ap, arith}
use Rattle.std.specs.Prelude.{IsTrue, slice_index}
use Rattle.std.specs.declared.option.Option.TheVariants.{Some}
use Rattle.std.specs.Option.{unwrap_or}
use Rattle.std.proofs.lemmas.Int.{ints}
use Rattle.std.proofs.lemmas.Nat.{div_below}
use Rattle.std.proofs.Math.Nat.{mul-le-mul_left, mul-le-mul_right}
use Rattle.amr_box.specs.declared.Cell.{Cell}
use Rattle.amr_box.specs.Cells.{Extent, HasCorners, IsNear, IsProper, cell, half, holds, width}
use Rattle.amr_def.specs.declared.problem.Problem.{Problem}
use Rattle.amr_def.specs.Domain.{domain, in_domain}
use Rattle.amr_def.specs.Regrid.{child_share, odd, split_mass}
use Rattle.amr_def.specs.State.{State, level_at}
use Rattle.amr_def.specs.View.{finest_mass, finest_masses}
use Rattle.amr_def.proofs.Courants.{power_positive, twice_as_many}
use Rattle.amr_def.proofs.Nesting.{in_domain-inside, odd_small}
use Rattle.amr_def.proofs.Nests.{half_and_odd}
use Rattle.amr_def.proofs.Sizes.{doubled_small}
use Rattle.amr_def.proofs.Uncovered.{half-double}
use Rattle.amr_patch.proofs.Rows.{is_inside, sides}
use Rattle.amr_transfer.proofs.Halves.{share_is}
use Rattle.amr_view.specs.Rows.{AreFinest, AreLaid, HasWholeColumns, cell_at}

-- ---- parents

module _ (l : ℕ) (row up : Extent) (columns : HasWholeColumns (suc l) row) (corners : HasCorners up (half row.lo.x) (half row.lo.y) (half row.hi.x) (half row.hi.y)) where
  parents_west : up.lo.x ≡ pos (columns.first * 2 ^ l)
  parents_west = corners.west_is ∙ ap half (columns.west ∙ ap pos (twice_as_many columns.first l)) ∙ half-double (pos (columns.first * 2 ^ l))

  parents_east : up.hi.x +ℤ pos 1 ≡ pos (columns.after * 2 ^ l)
  parents_east = omega (arith, ints, corners.east_is, columns.east, twice_as_many columns.after l, half_and_odd row.hi.x, odd_small row.hi.x)

  -- the parents are those in the same columns of level 0
  pub parents_whole : HasWholeColumns l up
  parents_whole = record {
    first = columns.first;
    after = columns.after;
    west = parents_west;
    east = parents_east;
    flat = corners.north_is ∙ ap half columns.flat ∙ sym corners.south_is;
  }

  pub even_west : odd row.lo.x ≡ 0
  even_west = omega (arith, ints, columns.west, twice_as_many columns.first l, half_and_odd row.lo.x, odd_small row.lo.x)

  -- there are half as many
  pub half_wide : IsNear row → IsNear up → width row ≡ 2 * width up
  half_wide near near_up =
      omega (arith, ints, (sides row near).wide, (sides up near_up).wide, columns.west, columns.east, parents_west, parents_east, twice_as_many columns.first l, twice_as_many columns.after l)

  -- the shares that a row of parents with their finest masses gives
  pub shares_are : (s : State) (parents shares : List ℕ) (y : ℕ) → AreFinest s l up parents → length shares ≡ 2 * length parents → y ≡ odd row.lo.y
      → ((k : ℕ) → k < length shares → slice_index shares k ≡ child_share (slice_index parents (k / 2)) (2 * y + k % 2))
      → (k : ℕ) → k < length shares → slice_index shares k ≡ split_mass (finest_masses s l) (cell_at row k)
  shares_are s parents shares y finest count parity shared k lt =
      let even = even_west in
      let here : k ≡ odd row.lo.x + k = omega (arith, even) in
      let masses : (j : ℕ) → j < length parents → finest_masses s l (cell (half row.lo.x +ℤ pos j) (half row.lo.y)) ≡ Some (slice_index parents j) =
      λ j below. sym (ap Some (finest j below) ∙ (λ i. Some (finest_mass s l (cell (corners.west_is i +ℤ pos j) (corners.south_is i))))) in
      shared k lt
      ∙ (λ i. child_share (slice_index parents (here i / 2)) (2 * parity i + here i % 2))
      ∙ share_is (finest_masses s l) row.lo parents k masses (omega (arith, even, lt, count))

-- ---- a level laid over what its cells would have without it

pub laid_finest : (s : State) (l : ℕ) (row : Extent) (old new : List ℕ) → AreLaid (level_at s (suc l)).masses row old new → ((k : ℕ) → k < length new → slice_index old k ≡ split_mass (finest_masses s l) (cell_at row k)) → AreFinest s (suc l) row new
unfolding finest_mass
laid_finest s l row old new laid shares k lt = laid k lt ∙ ap (unwrap_or ((level_at s (suc l)).masses (cell_at row k))) (shares k lt)

pub laid_first : (s : State) (row : Extent) (old new : List ℕ) → AreLaid (level_at s 0).masses row old new → ((k : ℕ) → k < length new → slice_index old k ≡ 0) → AreFinest s 0 row new
unfolding finest_mass
laid_first s row old new laid none k lt = laid k lt ∙ ap (unwrap_or ((level_at s 0).masses (cell_at row k))) (none k lt)

-- ---- the blocks of columns that a box meets

-- the last multiple of n up to z, and the next one
pub round_down : (n z : ℕ) → 0 < n → z / n * n ≤ z
round_down n z some = omega arith

pub round_up : (n z : ℕ) → 0 < n → z < (z / n + 1) * n
round_up n z some = omega arith

-- a multiple of 2^l, for l up to 4, is as near to 4096 as it
pub up_to_room : (l z : ℕ) → l ≤ 4 → z < 4096 → (z / 2 ^ l + 1) * 2 ^ l ≤ 4096
up_to_room zero z h k = omega arith
up_to_room (suc zero) z h k = omega arith
up_to_room (suc (suc zero)) z h k = omega arith
up_to_room (suc (suc (suc zero))) z h k = omega arith
up_to_room (suc (suc (suc (suc zero)))) z h k = omega arith
up_to_room (suc (suc (suc (suc (suc l))))) z h k = absurd (omega arith)

pub power_some : (l : ℕ) → 0 < 2 ^ l
power_some l = omega (arith, power_positive 1 l (omega arith))

-- the quotient is no greater
pub quotient_small : (l z m : ℕ) → z < m → z / 2 ^ l < m
quotient_small l z m h = div_below z (2 ^ l) m (power_some l) (omega (arith, h, power_some l, mul-le-mul_right {m = 1} {n = m} (2 ^ l) (omega (arith, h)), mul-le-mul_left m (power_some l)))

-- a box of the domain of level l, up to 4, has columns below 4096
pub columns_small : (p : Problem) (l : ℕ) (b : Extent) → l ≤ 4 → IsProper b → ((c : Cell) → IsTrue (holds b c) → IsTrue (in_domain (domain p l) c)) → (pos 0 ≤ℤ b.lo.x) × (b.hi.x <ℤ pos 4096)
columns_small p l b fine proper inside_domain =
    let first = in_domain-inside p l b.lo (inside_domain b.lo (is_inside b b.lo (record { west = omega (arith, ints); east = proper.wide; south = omega (arith, ints); north = proper.high }))) in
    let last = in_domain-inside p l b.hi (inside_domain b.hi (is_inside b b.hi (record { west = proper.wide; east = omega (arith, ints); south = proper.high; north = omega (arith, ints) }))) in
    (first.west, omega (arith, ints, last.east, doubled_small p.nx l p.limits.greatest_nx fine))

-- what the row over whole columns of level 0 is that a box meets
pub record IsWidenedRow (l : ℕ) (b row : Extent) : Type 0 where
  pub columns : HasWholeColumns l row
  pub near : IsNear row
  pub narrow : width row ≤ 4096
  pub west : row.lo.x ≤ℤ b.lo.x
  pub east : b.hi.x ≤ℤ row.hi.x

pub widened : (l : ℕ) (b row : Extent) (lo hi low after : ℕ) (y : ℤ) → low ≡ lo / 2 ^ l * 2 ^ l → after ≡ (hi / 2 ^ l + 1) * 2 ^ l → low ≤ lo → hi < after → after ≤ 4096 → pos lo ≡ b.lo.x → pos hi ≡ b.hi.x → IsProper b → b.lo.y ≤ℤ y → y ≤ℤ b.hi.y → IsNear b
    → row.lo.x ≡ pos low → row.hi.x +ℤ pos 1 ≡ pos after → row.lo.y ≡ y → row.hi.y ≡ y → IsWidenedRow l b row
widened l b row lo hi low after y low_is after_is down up room lo_is hi_is proper from to near_b west_end east_end bottom top =
    let west : row.lo.x ≤ℤ b.lo.x = omega (arith, ints, west_end, lo_is, down) in
    let east : b.hi.x ≤ℤ row.hi.x = omega (arith, ints, east_end, hi_is, up) in
    let near : IsNear row = record {
      west = omega (arith, ints, west_end);
      east = omega (arith, ints, east_end, room);
      south = omega (arith, ints, bottom, from, near_b.south);
      north = omega (arith, ints, top, to, near_b.north);
      wide = omega (arith, ints, west, east, proper.wide);
      high = omega (arith, ints, bottom, top);
    } in
    record {
      columns = record {
        first = lo / 2 ^ l;
        after = hi / 2 ^ l + 1;
        west = west_end ∙ ap pos low_is;
        east = east_end ∙ ap pos after_is;
        flat = top ∙ sym bottom;
      };
      near = near;
      narrow = omega (arith, ints, (sides row near).wide, west_end, east_end, room);
      west = west;
      east = east;
    }
