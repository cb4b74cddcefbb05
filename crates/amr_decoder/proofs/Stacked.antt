-- A level over another: in sync where each parent of a finer cell has the mass of its children.
use Rattle.std.proofs.Common.{◌≡◌, ℕ, suc, ◌<◌, Bool, true, List, [], ◌∷◌, length, get_or, sym, ap, ◌∙◌, arith, ◌⊎◌, inl, inr}
use Rattle.std.proofs.lemmas.Int.{ints}
use Rattle.std.proofs.lemmas.Bool.{or_cases}
use Rattle.amr_box.specs.declared.Cell.{Cell}
use Rattle.amr_box.specs.Cells.{Extent, HasCorners, child, half, has_child_where, holds, in_boxes, parent}
use Rattle.amr_box.proofs.Children.{by_child, child_passes}
use Rattle.amr_def.specs.declared.problem.Problem.{Problem}
use Rattle.amr_def.specs.Domain.{domain, in_domain}
use Rattle.amr_def.specs.Facts.{IsLevel, IsNestedLevel}
use Rattle.amr_def.specs.State.{Level, is_covered, is_covered_by}
use Rattle.amr_def.proofs.Nesting.{covered_boxes, covered_inside, in_domain-inside, odd_small, parent_inside}
use Rattle.amr_def.proofs.Nests.{half_and_odd}
use Rattle.amr_def.proofs.Uncovered.{in_domain-yes}
use Rattle.amr_def.specs.Regrid.{odd}
use Rattle.amr_patch.proofs.Apart.{in_boxes_at}
use Rattle.amr_payload.specs.Tests.{is_in_sync}
use Rattle.amr_payload.proofs.ReadStates.{in_sync_at}
use Rattle.amr_payload.proofs.WriteLevels.{in_sync_from}
use Rattle.amr_decoder.specs.Filled.{IsPlaced}
use Rattle.amr_decoder.specs.Synced.{IsSum}

pub parents_placed : (a b : Extent) → HasCorners b (half a.lo.x) (half a.lo.y) (half a.hi.x) (half a.hi.y) → IsPlaced a → IsPlaced b
parents_placed a b h placed =
    let wx = half_and_odd a.lo.x in
    let wy = half_and_odd a.lo.y in
    let ex = half_and_odd a.hi.x in
    let ey = half_and_odd a.hi.y in
    record {
      near = record {
        west = omega (arith, ints, h.west_is, wx, odd_small a.lo.x, placed.west);
        east = omega (arith, ints, h.east_is, ex, odd_small a.hi.x, placed.near.east, placed.near.wide, placed.west);
        south = omega (arith, ints, h.south_is, wy, odd_small a.lo.y, placed.south);
        north = omega (arith, ints, h.north_is, ey, odd_small a.hi.y, placed.near.north, placed.near.high, placed.south);
        wide = omega (arith, ints, h.west_is, h.east_is, wx, ex, odd_small a.lo.x, odd_small a.hi.x, placed.near.wide);
        high = omega (arith, ints, h.south_is, h.north_is, wy, ey, odd_small a.lo.y, odd_small a.hi.y, placed.near.high);
      };
      west = omega (arith, ints, h.west_is, wx, odd_small a.lo.x, placed.west);
      south = omega (arith, ints, h.south_is, wy, odd_small a.lo.y, placed.south);
    }

-- ---- covered cells, box by box

record IsHeld (bs : List Extent) (c : Cell) : Type 0 where
  k : ℕ
  inside : k < length bs
  at : (d : Extent) → holds (get_or bs k d) c ≡ true

held_by : (bs : List Extent) (c : Cell) → in_boxes bs c ≡ true → IsHeld bs c
held_by [] c h = absurd (cc)
held_by (b ∷ bs) c h = choose (or_cases (holds b c) (in_boxes bs c) h) (held_by bs c)
  where
    choose : (holds b c ≡ true) ⊎ (in_boxes bs c ≡ true) → (in_boxes bs c ≡ true → IsHeld bs c) → IsHeld (b ∷ bs) c
    choose (inl here) more = record { k = 0; inside = omega arith; at = λ d. here }
    choose (inr there) more = let m = more there in record { k = suc m.k; inside = omega (arith, m.inside); at = m.at }

module _ (bs : List Extent) (c : Cell) where
  pub from_boxes : (P : Type 0) → ((k : ℕ) (d : Extent) → k < length bs → has_child_where (holds (get_or bs k d)) c ≡ true → P) → is_covered_by bs c ≡ true → P
  from_boxes P each h =
      by_child (in_boxes bs) c P
      (λ i few e.
      let m = held_by bs (child c i) e in
      each m.k no_box m.inside (child_passes (holds (get_or bs m.k no_box)) c i few (m.at no_box))) h
    where
      no_box : Extent
      no_box = record { lo = c; hi = c }

  pub in_some_box : (k : ℕ) (d : Extent) → k < length bs → has_child_where (holds (get_or bs k d)) c ≡ true → is_covered_by bs c ≡ true
  in_some_box k d lt h = by_child (holds (get_or bs k d)) c (is_covered_by bs c ≡ true) (λ i few e. child_passes (in_boxes bs) c i few (in_boxes_at bs (child c i) k d lt e)) h

-- ---- in sync

module _ (p : Problem) (l : ℕ) (k fine : Level) (klevel : IsLevel p l k) (flevel : IsLevel p (suc l) fine) where
  pub sync_from : ((i : ℕ) (d : Extent) (c : Cell) → i < length fine.boxes → has_child_where (holds (get_or fine.boxes i d)) c ≡ true → IsSum k.masses fine.masses c) → is_in_sync (domain p l) k.masses fine.masses ≡ true
  sync_from all = in_sync_from (domain p l) k.masses fine.masses (λ c covered.
      (from_boxes fine.boxes c (IsSum k.masses fine.masses c) (λ i d lt h. all i d c lt h) (ap (λ (test : Cell → Bool). test c) (sym (covered_boxes fine.masses fine.boxes flevel.filled)) ∙ covered)).at)

  pub sync_at : IsNestedLevel p l k fine → is_in_sync (domain p l) k.masses fine.masses ≡ true → (i : ℕ) (d : Extent) (c : Cell) → i < length fine.boxes → has_child_where (holds (get_or fine.boxes i d)) c ≡ true → IsSum k.masses fine.masses c
  sync_at nested h i d c lt there =
      let covered : is_covered fine.masses c ≡ true = ap (λ (test : Cell → Bool). test c) (covered_boxes fine.masses fine.boxes flevel.filled) ∙ in_some_box fine.boxes c i d lt there in
      record { at = in_sync_at (domain p l) k.masses fine.masses c h (in_domain-yes p l c (covered_inside p l k fine klevel flevel nested c covered)) covered }

-- ---- what `nested` requires

pub parents_inside : (p : Problem) (l : ℕ) (fine : Level) → IsLevel p (suc l) fine → (c : Cell) → in_boxes fine.boxes c ≡ true → in_domain (domain p l) (parent c) ≡ true
parents_inside p l fine flevel c h =
    in_domain-yes p l (parent c) (parent_inside p l (parent c) c (odd c.x) (odd c.y) (odd_small c.x) (odd_small c.y) (half_and_odd c.x) (half_and_odd c.y) (in_domain-inside p (suc l) c (flevel.inside c h)))
