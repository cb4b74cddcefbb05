-- The least box round the tags of a part, and where it is cut, by the signatures of the part.
use Rattle.std.proofs.Common.{◌≡◌, ℕ, ◌+◌, ◌-◌, ◌≤◌, Bool, ◌&&◌, ℤ, pos, ◌+ℤ◌, ◌-ℤ◌, List, sym, ap, ◌∙◌, arith}
use Rattle.std.specs.List.{slice_range}
use Rattle.std.proofs.lemmas.Int.{ints}
use Rattle.amr_box.specs.declared.Cell.{Cell}
use Rattle.amr_box.specs.declared.Axis.TheVariants.{X, Y}
use Rattle.amr_box.specs.Cells.{Extent, HasCorners, IsNear, at_least_zero, holds}
use Rattle.amr_def.specs.Cluster.{cut_of}
use Rattle.amr_def.specs.Signature.{signature}
use Rattle.amr_tags.specs.TagSets.{IsLeastBox}
use Rattle.amr_tags.specs.Stored.{IsPart}
use Rattle.amr_cluster.specs.Work.{AreEnds, cells_in, cut_by}
use Rattle.amr_cluster.proofs.Rounds.{cells_in-least}
use Rattle.amr_cluster.proofs.Ends.{least_of, ends_along, ends_inside}
use Rattle.amr_cluster.proofs.Tagged.{cut_by-is, signature-within}

size_between : (first last : ℕ) (from low high : ℤ) → low ≡ from +ℤ pos first → high ≡ from +ℤ pos last → first ≤ last → at_least_zero (high +ℤ pos 1 -ℤ low) ≡ last + 1 - first
size_between first last from low high e f h = let is : (high +ℤ pos 1 -ℤ low) ≡ pos (last + 1 - first) = omega (arith, ints) in ap at_least_zero is

-- the signatures of a part, the ends of their entries that are not 0, and the box between these
pub record IsInner (has : Cell → Bool) (part larger b : Extent) (columns rows : List ℕ) (west east south north : ℕ) : Type 0 where
  pub near : IsNear part
  pub inside : IsPart larger part
  pub columns_are : columns ≡ signature X (cells_in has part) part
  pub rows_are : rows ≡ signature Y (cells_in has part) part
  pub across : AreEnds columns west east
  pub upward : AreEnds rows south north
  pub corners : HasCorners b (part.lo.x +ℤ pos west) (part.lo.y +ℤ pos south) (part.lo.x +ℤ pos east) (part.lo.y +ℤ pos north)

module _ (has : Cell → Bool) (part larger b : Extent) (columns rows : List ℕ) (west east south north : ℕ) (is : IsInner has part larger b columns rows west east south north) where
  pub inner-least : IsLeastBox b (λ c. holds part c && has c)
  inner-least =
      least_of has part b _ _ _ _ is.corners.west_is is.corners.east_is is.corners.south_is is.corners.north_is
      (ends_along has part larger is.near is.inside X columns west east is.columns_are is.across)
      (ends_along has part larger is.near is.inside Y rows south north is.rows_are is.upward)

  same_cells : cells_in has part ≡ cells_in has b
  same_cells = sym (cells_in-least has part b inner-least)

  inner_columns : slice_range columns west (east + 1) ≡ signature X (cells_in has b) b
  inner_columns =
      ap (λ (s : List ℕ). slice_range s west (east + 1)) is.columns_are
      ∙ signature-within X (cells_in has part) part b west east is.corners.west_is (size_between west east part.lo.x b.lo.x b.hi.x is.corners.west_is is.corners.east_is is.across.order) is.across.order (ends_inside X (cells_in has part) part columns west east is.columns_are is.across)
      ∙ ap (λ (cs : List Cell). signature X cs b) same_cells

  inner_rows : slice_range rows south (north + 1) ≡ signature Y (cells_in has b) b
  inner_rows =
      ap (λ (s : List ℕ). slice_range s south (north + 1)) is.rows_are
      ∙ signature-within Y (cells_in has part) part b south north is.corners.south_is (size_between south north part.lo.y b.lo.y b.hi.y is.corners.south_is is.corners.north_is is.upward.order) is.upward.order (ends_inside Y (cells_in has part) part rows south north is.rows_are is.upward)
      ∙ ap (λ (cs : List Cell). signature Y cs b) same_cells

  pub inner-cut : (efficiency w : ℕ) → cut_by efficiency w (slice_range columns west (east + 1)) (slice_range rows south (north + 1)) ≡ cut_of efficiency w (cells_in has b) b
  inner-cut efficiency w =
      ap (λ (s : List ℕ). cut_by efficiency w s (slice_range rows south (north + 1))) inner_columns
      ∙ ap (cut_by efficiency w (signature X (cells_in has b) b)) inner_rows
      ∙ cut_by-is efficiency w has b
