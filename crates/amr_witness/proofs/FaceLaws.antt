-- Faces of the cells of a domain, and child faces.
use Rattle.std.proofs.Common.{◌≡◌, ℕ, ◌+◌, ◌*◌, ◌^◌, ◌≤◌, ℤ, pos, ◌+ℤ◌, ◌<ℤ◌, refl, ap, ◌∙◌, arith, add-one}
use Rattle.std.proofs.lemmas.Int.{ints}
use Rattle.std.proofs.Math.Nat.{pow-suc}
use Rattle.amr_box.specs.declared.Cell.{Cell}
use Rattle.amr_box.specs.declared.Face.{Face}
use Rattle.amr_box.specs.declared.Axis.{Axis}
use Rattle.amr_box.specs.declared.Axis.TheVariants.{X, Y}
use Rattle.amr_def.specs.declared.problem.Problem.{Problem}
use Rattle.amr_def.specs.Domain.{columns, rows}
use Rattle.amr_def.specs.Flux.{Fluxes, face, high_cell}
use Rattle.amr_def.specs.LevelStep.{through_children}
use Rattle.amr_def.proofs.Sizes.{doubled_small}
use Rattle.amr_witness.specs.Ready.{IsFace, IsNearby}
use Rattle.amr_witness.specs.Parts.{IsInDomain, west_face, east_face, south_face, north_face, low_child, high_child, high_child_on}

pub apart : X ≡ Y → ⊥
apart e = cc

pub apart_too : Y ≡ X → ⊥
apart_too e = cc

module _ (p : Problem) (l : ℕ) (c : Cell) (inside : IsInDomain p l c) where
  pub west_inside : IsFace p l (west_face c)
  west_inside = record {
    west = inside.west;
    south = inside.south;
    east = omega (arith, ints, inside.east);
    north = omega (arith, ints, inside.north);
    row = λ e. inside.north;
    column = λ e. inside.east;
  }

  pub south_inside : IsFace p l (south_face c)
  south_inside = record {
    west = inside.west;
    south = inside.south;
    east = omega (arith, ints, inside.east);
    north = omega (arith, ints, inside.north);
    row = λ e. inside.north;
    column = λ e. inside.east;
  }

  pub east_inside : IsFace p l (east_face c)
  east_inside = record {
    west = omega (arith, ints, inside.west);
    south = inside.south;
    east = omega (arith, ints, inside.east);
    north = omega (arith, ints, inside.north);
    row = λ e. inside.north;
    column = λ e. absurd (apart e);
  }

  pub north_inside : IsFace p l (north_face c)
  north_inside = record {
    west = inside.west;
    south = omega (arith, ints, inside.south);
    east = omega (arith, ints, inside.east);
    north = omega (arith, ints, inside.north);
    row = λ e. absurd (apart_too e);
    column = λ e. inside.east;
  }

  pub cell_nearby : l ≤ 4 → IsNearby c
  cell_nearby known =
      let most_columns : columns p l ≤ 4096 = doubled_small p.nx l p.limits.greatest_nx known in
      let most_rows : rows p l ≤ 4096 = doubled_small p.ny l p.limits.greatest_ny known in
      record {
        west = omega (arith, ints, inside.west);
        east = omega (arith, ints, inside.east, most_columns);
        south = omega (arith, ints, inside.south);
        north = omega (arith, ints, inside.north, most_rows);
      }

pub face_nearby : (p : Problem) (l : ℕ) (f : Face) → l ≤ 4 → IsFace p l f → IsNearby (high_cell f)
face_nearby p l f known inside =
    let most_columns : columns p l ≤ 4096 = doubled_small p.nx l p.limits.greatest_nx known in
    let most_rows : rows p l ≤ 4096 = doubled_small p.ny l p.limits.greatest_ny known in
    record {
      west = omega (arith, ints, inside.west);
      east = omega (arith, ints, inside.east, most_columns);
      south = omega (arith, ints, inside.south);
      north = omega (arith, ints, inside.north, most_rows);
    }

-- ---- child faces

twice : (n l : ℕ) → n * 2 ^ (l + 1) ≡ n * 2 ^ l + n * 2 ^ l
twice n l =
    let e : 2 ^ (l + 1) ≡ 2 ^ l * 2 = ap (λ k. 2 ^ k) (add-one l) ∙ pow-suc 2 l in
    rw e (omega arith)

module _ (p : Problem) (l : ℕ) (f : Face) (inside : IsFace p l f) where
  wide : columns p (l + 1) ≡ columns p l + columns p l
  wide = twice p.nx l

  tall : rows p (l + 1) ≡ rows p l + rows p l
  tall = twice p.ny l

  low_row : f.axis ≡ X → (f.y +ℤ f.y) <ℤ pos (rows p (l + 1))
  low_row e = omega (arith, ints, inside.row e, tall)

  low_column : f.axis ≡ Y → (f.x +ℤ f.x) <ℤ pos (columns p (l + 1))
  low_column e = omega (arith, ints, inside.column e, wide)

  pub low_child_inside : IsFace p (l + 1) (low_child f)
  low_child_inside = record {
    west = omega (arith, ints, inside.west);
    south = omega (arith, ints, inside.south);
    east = omega (arith, ints, inside.east, wide);
    north = omega (arith, ints, inside.north, tall);
    row = low_row;
    column = low_column;
  }

  on_x : f.axis ≡ X → IsFace p (l + 1) (high_child_on X f.x f.y)
  on_x e = record {
    west = omega (arith, ints, inside.west);
    south = omega (arith, ints, inside.south);
    east = omega (arith, ints, inside.east, wide);
    north = omega (arith, ints, inside.row e, tall);
    row = λ _. omega (arith, ints, inside.row e, tall);
    column = λ y. absurd (apart y);
  }

  on_y : f.axis ≡ Y → IsFace p (l + 1) (high_child_on Y f.x f.y)
  on_y e = record {
    west = omega (arith, ints, inside.west);
    south = omega (arith, ints, inside.south);
    east = omega (arith, ints, inside.column e, wide);
    north = omega (arith, ints, inside.north, tall);
    row = λ x. absurd (apart_too x);
    column = λ _. omega (arith, ints, inside.column e, wide);
  }

on_axis : (P : Face → Type 0) (a : Axis) (x y : ℤ) → (a ≡ X → P (high_child_on X x y)) → (a ≡ Y → P (high_child_on Y x y)) → P (high_child_on a x y)
on_axis P X x y one other = one refl
on_axis P Y x y one other = other refl

pub high_child_inside : (p : Problem) (l : ℕ) (f : Face) → IsFace p l f → IsFace p (l + 1) (high_child f)
high_child_inside p l f inside = on_axis (IsFace p (l + 1)) f.axis f.x f.y (on_x p l f inside) (on_y p l f inside)

pub children_sum : (e : Fluxes) (a : Axis) (x y : ℤ) → e (face a (x +ℤ x) (y +ℤ y)) +ℤ e (high_child_on a x y) ≡ through_children e a x y
children_sum e X x y = refl
children_sum e Y x y = refl
