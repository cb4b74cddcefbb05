-- Faces on the edges of a box are faces of its cells.
use Rattle.std.proofs.Common.{◌≡◌, ◌⊎◌, inl, inr, true, ℤ, pos, ◌+ℤ◌, arith}
use Rattle.std.proofs.lemmas.Int.{ints}
use Rattle.amr_box.specs.declared.Face.{Face}
use Rattle.amr_box.specs.declared.Axis.{Axis}
use Rattle.amr_box.specs.declared.Axis.TheVariants.{X, Y}
use Rattle.amr_box.specs.Cells.{Extent, IsNear, cell, extent}
use Rattle.amr_patch.specs.Places.{is_edge_face, is_face_of, on_box, on_edge}
use Rattle.amr_patch.proofs.Edges.{at_end, x_edge, y_edge}
use Rattle.amr_patch.proofs.Rows.{is_inside}

-- a face on an edge is a face of the box
pub edge_face : (b : Extent) (a : Axis) (x y : ℤ) → IsNear b → on_edge a b (cell x y) ≡ true → on_box a b (cell x y) ≡ true
edge_face b X x y near e = at_each (at_end b.lo.x b.hi.x x (x_edge b (cell x y) e).ends)
  where
    at_each : (x ≡ b.lo.x) ⊎ (x ≡ b.hi.x +ℤ pos 1) → on_box X b (cell x y) ≡ true
    at_each (inl at) = let edge = x_edge b (cell x y) e in is_inside (extent b.lo (cell (b.hi.x +ℤ pos 1) b.hi.y)) (cell x y) (record { west = omega (arith, ints, at); east = omega (arith, ints, at, near.wide); south = edge.from; north = edge.to })
    at_each (inr at) = let edge = x_edge b (cell x y) e in is_inside (extent b.lo (cell (b.hi.x +ℤ pos 1) b.hi.y)) (cell x y) (record { west = omega (arith, ints, at, near.wide); east = omega (arith, ints, at); south = edge.from; north = edge.to })
edge_face b Y x y near e = at_each (at_end b.lo.y b.hi.y y (y_edge b (cell x y) e).ends)
  where
    at_each : (y ≡ b.lo.y) ⊎ (y ≡ b.hi.y +ℤ pos 1) → on_box Y b (cell x y) ≡ true
    at_each (inl at) = let edge = y_edge b (cell x y) e in is_inside (extent b.lo (cell b.hi.x (b.hi.y +ℤ pos 1))) (cell x y) (record { west = edge.from; east = edge.to; south = omega (arith, ints, at); north = omega (arith, ints, at, near.high) })
    at_each (inr at) = let edge = y_edge b (cell x y) e in is_inside (extent b.lo (cell b.hi.x (b.hi.y +ℤ pos 1))) (cell x y) (record { west = edge.from; east = edge.to; south = omega (arith, ints, at, near.high); north = omega (arith, ints, at) })

pub edge_is_face : (b : Extent) (f : Face) → IsNear b → is_edge_face b f ≡ true → is_face_of b f ≡ true
edge_is_face b f near e = edge_face b f.axis f.x f.y near e
