-- What a layout has a patch add flows through faces on the patch's edges.
use Rattle.std.proofs.Common.{◌≡◌, ℕ, ◌<◌, true, pos, ◌+ℤ◌, refl, arith}
use Rattle.std.specs.List.{All}
use Rattle.std.proofs.lemmas.Int.{ints}
use Rattle.std.proofs.lemmas.Bool.{and_from, or_left, or_right}
use Rattle.amr_box.specs.Cells.{Extent, IsNear}
use Rattle.amr_box.proofs.CellLists.{int_eq-itself}
use Rattle.amr_box.proofs.Numbers.{is_between}
use Rattle.amr_patch.specs.Places.{is_edge_face}
use Rattle.amr_patch.proofs.Rows.{sides}
use Rattle.amr_faces.specs.Faces.{passing}
use Rattle.amr_layout.specs.Surroundings.{Around, edge_count, edge_face}
use Rattle.amr_layout.specs.declared.FlowTo.{FlowTo}
use Rattle.amr_layout.specs.Adds.{flow_to, flows_of, goes_on, word_of}
use Rattle.amr_layout.proofs.Edges.{on_each_side}
use Rattle.amr_layout.proofs.Planned.{all_images, all_passing}

-- ---- the faces on the edges of a box

pub edges_on : (b : Extent) (n : ℕ) → IsNear b → n < edge_count b → is_edge_face b (edge_face b n) ≡ true
edges_on b n near there =
    let s = sides b near in
    on_each_side b n (λ f. is_edge_face b f ≡ true)
    (λ j h. and_from _ _ (is_between b.lo.y b.hi.y (b.lo.y +ℤ pos j) (omega (arith, ints)) (omega (arith, ints, s.high, h))) (or_left _ _ (int_eq-itself b.lo.x b.lo.x refl)))
    (λ j h. and_from _ _ (is_between b.lo.y b.hi.y (b.lo.y +ℤ pos j) (omega (arith, ints)) (omega (arith, ints, s.high, h))) (or_right _ _ (int_eq-itself (b.hi.x +ℤ pos 1) (b.hi.x +ℤ pos 1) refl)))
    (λ j h. and_from _ _ (is_between b.lo.x b.hi.x (b.lo.x +ℤ pos j) (omega (arith, ints)) (omega (arith, ints, s.wide, h))) (or_left _ _ (int_eq-itself b.lo.y b.lo.y refl)))
    (λ j h. and_from _ _ (is_between b.lo.x b.hi.x (b.lo.x +ℤ pos j) (omega (arith, ints)) (omega (arith, ints, s.wide, h))) (or_right _ _ (int_eq-itself (b.hi.y +ℤ pos 1) (b.hi.y +ℤ pos 1) refl)))
    there

-- ---- flows

module _ (s : Around) (b : Extent) (near : IsNear b) where
  pub flows_on_edges : All (λ (x : FlowTo). is_edge_face b x.face ≡ true) (flows_of s b)
  unfolding flows_of
  flows_on_edges =
      all_images (λ f. flow_to (word_of s b f) f) (λ x. is_edge_face b x.face ≡ true) (passing (goes_on s b) (edge_face b) (edge_count b))
      (all_passing (λ f. is_edge_face b f ≡ true) (goes_on s b) (edge_face b) (edge_count b) (λ n lt t. edges_on b n near lt))
