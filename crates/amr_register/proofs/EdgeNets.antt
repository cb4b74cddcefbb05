-- What flows into register cells by the patches that have them is the net plain flow through their coarse-fine edges.
use Rattle.std.proofs.Common.{◌≡◌, ◌∙◌, ℕ, ◌<◌, Bool, true, false, cond, pos, ◌+ℤ◌, ◌-ℤ◌, List, [], length, map, get_or, ap, subst, sym, arith}
use Rattle.std.specs.List.{All, AllZip}
use Rattle.std.proofs.lemmas.Bool.{false_from_ne_true}
use Rattle.std.proofs.lemmas.List.{get_or-map, length-map}
use Rattle.amr_box.specs.declared.Cell.{Cell}
use Rattle.amr_box.specs.declared.Face.{Face}
use Rattle.amr_box.specs.declared.Axis.TheVariants.{X, Y}
use Rattle.amr_box.specs.Cells.{Extent, holds}
use Rattle.amr_def.specs.declared.problem.Problem.{Problem}
use Rattle.amr_def.specs.Domain.{domain, in_domain}
use Rattle.amr_def.specs.State.{Masses, is_covered}
use Rattle.amr_def.specs.Flux.{net}
use Rattle.amr_patch.specs.declared.patches.Patch.{Patch}
use Rattle.amr_patch.specs.Patches.{box}
use Rattle.amr_patch.specs.Places.{is_face_of}
use Rattle.amr_faces.specs.Faces.{IsInDomain, ShowsValues}
use Rattle.amr_faces.proofs.Shown.{flux_is}
use Rattle.amr_register.specs.declared.edges.EdgeCell.{EdgeCell}
use Rattle.amr_register.specs.declared.sides.CoveredSides.{CoveredSides}
use Rattle.amr_register.specs.RegisterCells.{is_coarse_fine}
use Rattle.amr_register.specs.Beside.{HasSides}
use Rattle.amr_register.specs.CoarseFlows.{edge_flows, high_face, low_face}
use Rattle.amr_register.specs.EdgeCells.{AreEdges, AreEdgesIn, HasNet, HaveNets, IsEdge, flow_if, net_beside}
use Rattle.amr_register.proofs.CollectLaws.{none_covered}
use Rattle.amr_register.proofs.EdgeLists.{all_along, first_of, zip_at}
use Rattle.amr_register.proofs.NetOver.{east, north, south, west}
use Rattle.amr_register.proofs.OwnedFlows.{high_face_of_box, low_face_of_box}
use Rattle.amr_register.proofs.Taken.{same_at}

-- by the values of a patch that shows those of the level, what flows into an uncovered cell of the patch through its faces beside
-- covered ones is its net plain flow through coarse-fine edges
module _ (p : Problem) (l : ℕ) (m old fine : Masses) (q : Patch) (c : Cell) (s : CoveredSides) (shows : ShowsValues p l m old q) (held : holds (box q) c ≡ true) (inside : in_domain (domain p l) c ≡ true) (free : is_covered fine c ≡ false) (sides : HasSides (domain p l) (is_covered fine) c s) where
  flow_is : (counts : Bool) (f : Face) → counts ≡ is_coarse_fine (domain p l) fine f → is_face_of (box q) f ≡ true → flow_if p l q counts f ≡ edge_flows p l m old fine f
  unfolding edge_flows
  flow_is counts f e of_box i = cond (e i) (flux_is p l m old q shows f of_box i) (pos 0)

  pub net_is : net_beside p l q s c ≡ net (edge_flows p l m old fine) c
  unfolding net
  net_is i =
      (flow_is s.west (low_face X c) (west p l fine c s inside free sides) (low_face_of_box (box q) X c held) i -ℤ flow_is s.east (high_face X c) (east p l fine c s inside free sides) (high_face_of_box (box q) X c held) i)
      +ℤ (flow_is s.south (low_face Y c) (south p l fine c s inside free sides) (low_face_of_box (box q) Y c held) i -ℤ flow_is s.north (high_face Y c) (north p l fine c s inside free sides) (high_face_of_box (box q) Y c held) i)

-- ---- of all patches

module _ (p : Problem) (l : ℕ) (m old fine : Masses) where
  abbrev pub HasFlow : EdgeCell → Type 0
  HasFlow e = e.net ≡ net (edge_flows p l m old fine) e.cell

  one_is : (q : Patch) (a b : EdgeCell) → ShowsValues p l m old q → IsInDomain (domain p l) (box q) → holds (box q) a.cell ≡ true → IsEdge (domain p l) m fine a → HasNet p l q a b → HasFlow b
  one_is q a b shows inside held edge found =
      let free = false_from_ne_true (is_covered fine a.cell) (λ h. none_covered (domain p l) m fine a.cell h edge.cell) in
      found.net ∙ net_is p l m old fine q a.cell a.sides shows held (inside.at a.cell held) free edge.sides ∙ ap (net (edge_flows p l m old fine)) (sym found.cell)

  list_is : (q : Patch) (es fs : List EdgeCell) → ShowsValues p l m old q → IsInDomain (domain p l) (box q) → AreEdgesIn (box q) es → All (IsEdge (domain p l) m fine) es → AllZip (HasNet p l q) es fs → All HasFlow fs
  list_is q es fs shows inside held edges found =
      all_along (λ (e : EdgeCell). (holds (box q) e.cell ≡ true) × IsEdge (domain p l) m fine e) HasFlow (HasNet p l q) es fs (λ a b net e. one_is q a b shows inside e.0 e.1 net) found (λ k d lt. (held k d lt, edges k d lt))

  pub nets_are : (qs : List Patch) (xs ys : List (List EdgeCell)) → All (ShowsValues p l m old) qs → All (λ q. IsInDomain (domain p l) (box q)) qs → AllZip AreEdgesIn (map box qs) xs → AreEdges (domain p l) m fine xs → HaveNets p l qs xs ys → All (All HasFlow) ys
  nets_are qs xs ys shows inside held edges found k d lt =
      let below : k < length qs = omega (arith, lt, found.after_count) in
      let early : k < length xs = omega (arith, below, found.before_count) in
      let q = first_of qs k below in
      let patch = get_or qs k q in
      let is_box : get_or (map box qs) k (box q) ≡ box patch = get_or-map box qs k q (box q) below in
      let in_box : AreEdgesIn (box patch) (get_or xs k []) = subst (λ (b : Extent). AreEdgesIn b (get_or xs k [])) is_box (zip_at AreEdgesIn (map box qs) xs k (box q) [] held (omega (arith, below, length-map qs box))) in
      subst (All HasFlow) (same_at ys k [] d lt) (list_is patch (get_or xs k []) (get_or ys k []) (shows k q below) (inside k q below) in_box (edges k [] early) (found.each k q below))
