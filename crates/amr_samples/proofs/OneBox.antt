-- Levels of one box.
use Rattle.std.proofs.Common.{◌≡◌, ◌∙◌, ℕ, ◌*◌, ◌<◌, Bool, true, false, ◌||◌, pos, ◌≤ℤ◌, ◌<ℤ◌, List, [], ◌∷◌, length, refl, sym, ap, subst, arith}
use Rattle.std.specs.Prelude.{is_some}
use Rattle.std.specs.List.{All, AllPairs}
use Rattle.std.proofs.lemmas.Int.{ints}
use Rattle.std.proofs.lemmas.List.Elements.{All-cons, All-nil}
use Rattle.amr_box.specs.declared.Cell.{Cell}
use Rattle.amr_box.specs.Cells.{Extent, IsProper, cell, extent, holds, in_boxes}
use Rattle.amr_def.specs.declared.problem.Problem.{Problem}
use Rattle.amr_def.specs.Domain.{columns, rows}
use Rattle.amr_def.specs.Facts.{IsAligned, IsLevel, IsNestedLevel}
use Rattle.amr_def.specs.State.{Level}
use Rattle.amr_patch.proofs.Rows.{inside, is_inside}
use Rattle.amr_def.proofs.Nesting.{in_domain-inside}
use Rattle.amr_def.proofs.Uncovered.{in_domain-yes}

in_one : (b : Extent) (c : Cell) → in_boxes (b ∷ []) c ≡ true → holds b c ≡ true
in_one b c h = plain (holds b c) h
  where
    plain : (t : Bool) → (t || false) ≡ true → t ≡ true
    plain true e = refl
    plain false e = e

one_in : (b : Extent) (c : Cell) → holds b c ≡ true → in_boxes (b ∷ []) c ≡ true
one_in b c h = ap (λ (t : Bool). t || false) h

pub one_box : (p : Problem) (l : ℕ) (k : Level) (b : Extent) → k.boxes ≡ b ∷ [] → ((c : Cell) → is_some (k.masses c) ≡ in_boxes (b ∷ []) c) → IsProper b → pos 0 ≤ℤ b.lo.x → pos 0 ≤ℤ b.lo.y → b.hi.x <ℤ pos (columns p l) → b.hi.y <ℤ pos (rows p l) → IsLevel p l k
one_box p l k b boxes cells proper west south east north = record {
  some = subst (λ (bs : List Extent). 0 < length bs) (sym boxes) (omega arith);
  proper = subst (All IsProper) (sym boxes) (All-cons IsProper b [] proper (All-nil IsProper));
  disjoint = subst (AllPairs (λ (a e : Extent). (c : Cell) → holds a c ≡ true → holds e c ≡ true → ⊥)) (sym boxes) (λ i j d g lt. absurd (omega arith));
  inside = λ c h.
      let i = inside b c (in_one b c (subst (λ (bs : List Extent). in_boxes bs c ≡ true) boxes h)) in
      in_domain-yes p l c (record { west = omega (arith, ints, i.west); east = omega (arith, ints, i.east); south = omega (arith, ints, i.south); north = omega (arith, ints, i.north) });
  filled = λ c. cells c ∙ sym (ap (λ (bs : List Extent). in_boxes bs c) boxes);
}

-- a ring of 4 by 2 cells, and the children of its cell (2, 0)
module _ (p : Problem) (coarse fine : Level) (b e : Extent) (nx : p.nx ≡ 4) (ny : p.ny ≡ 2) (blocking : p.blocking ≡ 2) (is_b : b ≡ extent (cell (pos 0) (pos 0)) (cell (pos 3) (pos 1))) (is_e : e ≡ extent (cell (pos 4) (pos 0)) (cell (pos 5) (pos 1)))
    (coarse_boxes : coarse.boxes ≡ b ∷ []) (coarse_cells : (c : Cell) → is_some (coarse.masses c) ≡ in_boxes (b ∷ []) c) (fine_boxes : fine.boxes ≡ e ∷ []) (fine_cells : (c : Cell) → is_some (fine.masses c) ≡ in_boxes (e ∷ []) c) where
  four : columns p 0 ≡ 4
  four = ap (λ (n : ℕ). n * 1) nx

  two : rows p 0 ≡ 2
  two = ap (λ (n : ℕ). n * 1) ny

  eight : columns p 1 ≡ 8
  eight = ap (λ (n : ℕ). n * 2) nx

  twice : rows p 1 ≡ 4
  twice = ap (λ (n : ℕ). n * 2) ny

  whole : Extent
  whole = extent (cell (pos 0) (pos 0)) (cell (pos 3) (pos 1))

  pub whole_ring : IsLevel p 0 coarse
  unfolding whole
  whole_ring =
      one_box p 0 coarse whole (coarse_boxes ∙ ap (λ (x : Extent). x ∷ []) is_b) (λ c. coarse_cells c ∙ ap (λ (x : Extent). in_boxes (x ∷ []) c) is_b) (record { wide = omega (arith, ints); high = omega (arith, ints) })
      (omega (arith, ints)) (omega (arith, ints)) (omega (arith, ints, four)) (omega (arith, ints, two))

  small : Extent
  small = extent (cell (pos 4) (pos 0)) (cell (pos 5) (pos 1))

  pub finer_ring : IsLevel p 1 fine
  unfolding small
  finer_ring =
      one_box p 1 fine small (fine_boxes ∙ ap (λ (x : Extent). x ∷ []) is_e) (λ c. fine_cells c ∙ ap (λ (x : Extent). in_boxes (x ∷ []) c) is_e) (record { wide = omega (arith, ints); high = omega (arith, ints) })
      (omega (arith, ints)) (omega (arith, ints)) (omega (arith, ints, eight)) (omega (arith, ints, twice))

  aligned : IsAligned 2 small
  unfolding small
  aligned = record { west = refl; south = refl; east = refl; north = refl }

  pub nested_ring : IsNestedLevel p 0 coarse fine
  unfolding whole small
  nested_ring = record {
    aligned = subst (λ (n : ℕ). All (IsAligned n) fine.boxes) (sym blocking) (subst (All (IsAligned 2)) (sym (fine_boxes ∙ ap (λ (x : Extent). x ∷ []) is_e)) (All-cons (IsAligned 2) small [] aligned (All-nil (IsAligned 2))));
    around = λ c h near.
        let w = in_domain-inside p 0 c h in
        subst (λ (bs : List Extent). in_boxes bs c ≡ true) (sym (coarse_boxes ∙ ap (λ (x : Extent). x ∷ []) is_b)) (one_in whole c (is_inside whole c (record { west = w.west; east = omega (arith, ints, w.east, four); south = w.south; north = omega (arith, ints, w.north, two) })));
  }
