-- The tagged cells of a level's patches are those of the level.
use Rattle.std.proofs.Common.{◌≡◌, ℕ, suc, ◌<◌, Bool, true, false, ◌&&◌, ◌||◌, ◌⊎◌, inl, inr, ℤ, pos, negsuc, ◌+ℤ◌, ◌-ℤ◌, ◌≤ℤ◌, List, [], ◌∷◌, length, get_or, map, IsTrue, refl, sym, ap, ◌∙◌, arith}
use Rattle.std.specs.Prelude.{is_some, slice_index}
use Rattle.std.specs.List.{All, AllZip, list_any}
use Rattle.std.proofs.lemmas.Bool.{and_from, and_parts}
use Rattle.std.proofs.lemmas.Int.{ints}
use Rattle.amr_box.specs.declared.Cell.{Cell}
use Rattle.amr_box.specs.Cells.{Extent, cell, holds, moved, within}
use Rattle.amr_box.proofs.Tests.{and_either}
use Rattle.amr_box.proofs.Numbers.{is_between}
use Rattle.amr_def.specs.declared.problem.Problem.{Problem}
use Rattle.amr_def.specs.Domain.{Domain, domain, domain_box, home_cell, in_domain}
use Rattle.amr_def.specs.Facts.{IsLevel}
use Rattle.amr_def.specs.State.{Level, Masses}
use Rattle.amr_def.specs.Tags.{differs_by, is_tagged_by, neighbours}
use Rattle.amr_def.specs.Value.{value_at}
use Rattle.amr_def.proofs.Uncovered.{domain_box_cells}
use Rattle.amr_patch.proofs.Lookups.{some_mass}
use Rattle.amr_patch.specs.declared.patches.Patch.{Patch}
use Rattle.amr_patch.specs.Places.{grown}
use Rattle.amr_patch.specs.Patches.{ArePatchesApart, box, in_patches, masses_in, value_in}
use Rattle.amr_patch.proofs.Rows.{IsIn, inside}
use Rattle.amr_ghost.specs.Frames.{AreInDomain, HasGhostValues, SameMasses}
use Rattle.amr_ghost.proofs.Reach.{reach_values}
use Rattle.amr_tags.specs.TagSets.{TagSet, has}
use Rattle.amr_criterion.specs.Tagged.{is_tagged_in}
use Rattle.amr_criterion.specs.Pairs.{IsJoined}
use Rattle.amr_criterion.proofs.Frames.{box_of_other, same_masses}

-- ---- a test of the patch that has a cell

or_same : (y p : Bool) → (y || (p && y)) ≡ y
or_same true p = refl
or_same false true = refl
or_same false false = refl

pub any_holder : (test : Patch → Bool) (qs : List Patch) (c : Cell) (y : Bool) → ((k : ℕ) (d : Patch) → k < length qs → holds (box (get_or qs k d)) c ≡ true → test (get_or qs k d) ≡ y) → list_any (λ q. holds (box q) c && test q) qs ≡ (in_patches qs c && y)
any_holder test [] c y h = refl
any_holder test (q ∷ qs) c y h = by_head (any_holder test qs c y (λ k d lt e. h (suc k) d (omega arith) e)) (holds (box q) c) refl
  where
    by_head : list_any (λ r. holds (box r) c && test r) qs ≡ (in_patches qs c && y) → (t : Bool) → holds (box q) c ≡ t → ((t && test q) || list_any (λ r. holds (box r) c && test r) qs) ≡ ((t || in_patches qs c) && y)
    by_head rest true e = ap (λ (b : Bool). b || list_any (λ r. holds (box r) c && test r) qs) (h 0 q (omega arith) e) ∙ ap (λ (b : Bool). y || b) rest ∙ or_same y (in_patches qs c)
    by_head rest false e = rest

-- ---- the cells that a patch reaches

-- within a row or a column of the box, at most one beyond it
in_reach : (b : Extent) (q : Cell) → (b.lo.x -ℤ pos 1) ≤ℤ q.x → q.x ≤ℤ (b.hi.x +ℤ pos 1) → (b.lo.y -ℤ pos 1) ≤ℤ q.y → q.y ≤ℤ (b.hi.y +ℤ pos 1) → (within b.lo.x b.hi.x q.x ≡ true) ⊎ (within b.lo.y b.hi.y q.y ≡ true) → IsTrue (holds (grown b) q && (within b.lo.x b.hi.x q.x || within b.lo.y b.hi.y q.y))
in_reach b q west east south north flat =
    and_either (holds (grown b) q) (within b.lo.x b.hi.x q.x) (within b.lo.y b.hi.y q.y)
    (and_from (within (b.lo.x -ℤ pos 1) (b.hi.x +ℤ pos 1) q.x) (within (b.lo.y -ℤ pos 1) (b.hi.y +ℤ pos 1) q.y) (is_between (b.lo.x -ℤ pos 1) (b.hi.x +ℤ pos 1) q.x west east) (is_between (b.lo.y -ℤ pos 1) (b.hi.y +ℤ pos 1) q.y south north)) flat

beside_x : (b : Extent) (c : Cell) (x y : ℤ) → IsIn b c → (c.x -ℤ pos 1) ≤ℤ x → x ≤ℤ (c.x +ℤ pos 1) → y ≡ c.y → IsTrue (holds (grown b) (cell x y) && (within b.lo.x b.hi.x x || within b.lo.y b.hi.y y))
beside_x b c x y here from to e = in_reach b (cell x y) (omega (arith, ints, here.west)) (omega (arith, ints, here.east)) (omega (arith, ints, e, here.south)) (omega (arith, ints, e, here.north)) (inr (is_between b.lo.y b.hi.y y (omega (arith, ints, e, here.south)) (omega (arith, ints, e, here.north))))

beside_y : (b : Extent) (c : Cell) (x y : ℤ) → IsIn b c → x ≡ c.x → (c.y -ℤ pos 1) ≤ℤ y → y ≤ℤ (c.y +ℤ pos 1) → IsTrue (holds (grown b) (cell x y) && (within b.lo.x b.hi.x x || within b.lo.y b.hi.y y))
beside_y b c x y here e from to = in_reach b (cell x y) (omega (arith, ints, e, here.west)) (omega (arith, ints, e, here.east)) (omega (arith, ints, here.south)) (omega (arith, ints, here.north)) (inl (is_between b.lo.x b.hi.x x (omega (arith, ints, e, here.west)) (omega (arith, ints, e, here.east))))

-- ---- tags

-- the neighbours' tests by any values
abbrev compares : ℕ → Domain → (Cell → ℕ) → Cell → Bool
compares t d v c = list_any (λ o. in_domain d (home_cell d (moved c o)) && differs_by t (v c) (v (moved c o))) neighbours

same_compares : (t : ℕ) (d : Domain) (v w : Cell → ℕ) (c : Cell) → v c ≡ w c → v (moved c (cell (negsuc 0) (pos 0))) ≡ w (moved c (cell (negsuc 0) (pos 0))) → v (moved c (cell (pos 1) (pos 0))) ≡ w (moved c (cell (pos 1) (pos 0))) → v (moved c (cell (pos 0) (negsuc 0))) ≡ w (moved c (cell (pos 0) (negsuc 0))) → v (moved c (cell (pos 0) (pos 1))) ≡ w (moved c (cell (pos 0) (pos 1))) → compares t d v c ≡ compares t d w c
same_compares t d v w c here west east south north =
    λ i.
    (in_domain d (home_cell d (moved c (cell (negsuc 0) (pos 0)))) && differs_by t (here i) (west i))
    || ((in_domain d (home_cell d (moved c (cell (pos 1) (pos 0)))) && differs_by t (here i) (east i))
    || ((in_domain d (home_cell d (moved c (cell (pos 0) (negsuc 0)))) && differs_by t (here i) (south i))
    || ((in_domain d (home_cell d (moved c (cell (pos 0) (pos 1)))) && differs_by t (here i) (north i)) || false)))

module _ (p : Problem) (l : ℕ) (old : Masses) (ps qs : List Patch) (apart : ArePatchesApart ps) (lies : AreInDomain (domain p l) ps) (masses : AllZip SameMasses ps qs) (boxes : map box qs ≡ map box ps) (filled : All (HasGhostValues p l (masses_in ps) old) qs) where
  value_of : (k : ℕ) (d : Patch) (c : Cell) → k < length qs → IsTrue (holds (grown (box (get_or qs k d))) c && (within (box (get_or qs k d)).lo.x (box (get_or qs k d)).hi.x c.x || within (box (get_or qs k d)).lo.y (box (get_or qs k d)).hi.y c.y)) → value_in (get_or qs k d) c ≡ value_at p l (masses_in ps) old c
  value_of k d c lt reach = reach_values p l old ps qs k d c apart lies masses (λ e. box_of_other ps qs k d e boxes lt) filled lt reach

  compared : (c : Cell) (k : ℕ) (d : Patch) → k < length qs → holds (box (get_or qs k d)) c ≡ true → compares (slice_index p.tag l) (domain p l) (value_in (get_or qs k d)) c ≡ compares (slice_index p.tag l) (domain p l) (value_at p l (masses_in ps) old) c
  compared c k d lt held =
      let b = box (get_or qs k d) in
      let here = inside b c held in
      same_compares (slice_index p.tag l) (domain p l) (value_in (get_or qs k d)) (value_at p l (masses_in ps) old) c
      (value_of k d c lt (beside_x b c c.x c.y here (omega (arith, ints)) (omega (arith, ints)) refl))
      (value_of k d (moved c (cell (negsuc 0) (pos 0))) lt (beside_x b c (c.x +ℤ negsuc 0) (c.y +ℤ pos 0) here (omega (arith, ints)) (omega (arith, ints)) (omega (arith, ints))))
      (value_of k d (moved c (cell (pos 1) (pos 0))) lt (beside_x b c (c.x +ℤ pos 1) (c.y +ℤ pos 0) here (omega (arith, ints)) (omega (arith, ints)) (omega (arith, ints))))
      (value_of k d (moved c (cell (pos 0) (negsuc 0))) lt (beside_y b c (c.x +ℤ pos 0) (c.y +ℤ negsuc 0) here (omega (arith, ints)) (omega (arith, ints)) (omega (arith, ints))))
      (value_of k d (moved c (cell (pos 0) (pos 1))) lt (beside_y b c (c.x +ℤ pos 0) (c.y +ℤ pos 1) here (omega (arith, ints)) (omega (arith, ints)) (omega (arith, ints))))

  pub tagged_is : (c : Cell) → is_tagged_by p l (masses_in ps) old c ≡ list_any (λ q. is_tagged_in (slice_index p.tag l) (domain p l) q c) qs
  unfolding is_tagged_by is_tagged_in
  tagged_is c =
      let some : is_some (masses_in ps c) ≡ in_patches qs c = ap (λ (m : Masses). is_some (m c)) (sym (same_masses ps qs masses boxes)) ∙ some_mass qs c in
      ap (λ (s : Bool). s && compares (slice_index p.tag l) (domain p l) (value_at p l (masses_in ps) old) c) some
      ∙ sym (any_holder (λ q. compares (slice_index p.tag l) (domain p l) (value_in q) c) qs c (compares (slice_index p.tag l) (domain p l) (value_at p l (masses_in ps) old) c) (compared c))

-- ---- tagged cells lie in the domain

tagged_inside : (p : Problem) (l : ℕ) (k : Level) (old : Masses) (c : Cell) → IsLevel p l k → is_tagged_by p l k.masses old c ≡ true → holds (domain_box (domain p l)) c ≡ true
unfolding is_tagged_by
tagged_inside p l k old c level h =
    let some : is_some (k.masses c) ≡ true = (and_parts (is_some (k.masses c)) (compares (slice_index p.tag l) (domain p l) (value_at p l k.masses old) c) h).0 in
    domain_box_cells (domain p l) c ∙ level.inside c (sym (level.filled c) ∙ some)

then_both : (a b : Bool) → (b ≡ true → a ≡ true) → (a && b) ≡ b
then_both a true h = let e : a ≡ true = h refl in ap (λ (t : Bool). t && true) e
then_both true false h = refl
then_both false false h = refl

-- the tags of a set with none before
pub only_tagged : (p : Problem) (l : ℕ) (k : Level) (old : Masses) (s t : TagSet) → IsLevel p l k → s.bx ≡ domain_box (domain p l) → ((c : Cell) → has s c ≡ false) → IsJoined (is_tagged_by p l k.masses old) s t → (c : Cell) → has t c ≡ is_tagged_by p l k.masses old c
only_tagged p l k old s t level whole none joined c =
    joined.cells c
    ∙ (λ i. none c i || (holds (whole i) c && is_tagged_by p l k.masses old c))
    ∙ then_both (holds (domain_box (domain p l)) c) (is_tagged_by p l k.masses old c) (tagged_inside p l k old c level)
