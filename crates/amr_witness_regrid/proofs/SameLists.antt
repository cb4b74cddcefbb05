-- Lists whose entries pass a test of equality, one by one, are one.
use Rattle.std.proofs.Common.{◌≡◌, ℕ, Bool, true, ◌&&◌, refl, List, [], ◌∷◌}
use Rattle.std.specs.Prelude.{nat_eq}
use Rattle.std.specs.Cmp.Lexicographic.{pointwise}
use Rattle.std.proofs.lemmas.Bool.{and_parts, eqb-true}
use Rattle.amr_box.specs.declared.Cell.{Cell}
use Rattle.amr_box.specs.Cells.{Extent, is_same_cell}
use Rattle.amr_box.proofs.CellEquality.{coordinates_same}
use Rattle.amr_def.specs.declared.problem.Row.{Row}

pub pointwise_same : {A : Type 0} (f : A → A → Bool) → ((x y : A) → f x y ≡ true → x ≡ y) → (xs ys : List A) → pointwise f xs ys ≡ true → xs ≡ ys
pointwise_same f g [] [] h = refl
pointwise_same f g [] (y ∷ ys) h = cc
pointwise_same f g (x ∷ xs) [] h = cc
pointwise_same f g (x ∷ xs) (y ∷ ys) h =
    let both = and_parts (f x y) (pointwise f xs ys) h in
    λ i. g x y both.0 i ∷ pointwise_same f g xs ys both.1 i

pub row_same : (a b : Row) → (nat_eq a.mass b.mass && (nat_eq a.inflow b.inflow && nat_eq a.outflow b.outflow)) ≡ true → a ≡ b
row_same a b h =
    let first = and_parts (nat_eq a.mass b.mass) (nat_eq a.inflow b.inflow && nat_eq a.outflow b.outflow) h in
    let rest = and_parts (nat_eq a.inflow b.inflow) (nat_eq a.outflow b.outflow) first.1 in
    λ i. record { mass = eqb-true a.mass b.mass first.0 i; inflow = eqb-true a.inflow b.inflow rest.0 i; outflow = eqb-true a.outflow b.outflow rest.1 i }

pub box_same : (a b : Extent) → (is_same_cell a.lo b.lo && is_same_cell a.hi b.hi) ≡ true → a ≡ b
box_same a b h =
    let both = and_parts (is_same_cell a.lo b.lo) (is_same_cell a.hi b.hi) h in
    λ i. record { lo = coordinates_same a.lo b.lo both.0 i; hi = coordinates_same a.hi b.hi both.1 i }

pub entry_same : (a b : Cell × ℕ) → (is_same_cell a.0 b.0 && nat_eq a.1 b.1) ≡ true → a ≡ b
entry_same a b h =
    let both = and_parts (is_same_cell a.0 b.0) (nat_eq a.1 b.1) h in
    λ i. (coordinates_same a.0 b.0 both.0 i, eqb-true a.1 b.1 both.1 i)
