-- The projection and the nesting of a list of boxes, box by box.
use Rattle.std.proofs.Common.{◌≡◌, ℕ, suc, ◌/◌, ◌%◌, ◌<◌, Bool, true, false, ◌&&◌, ◌||◌, refl, sym, ap, ◌∙◌, arith, List, [], ◌∷◌, length, get_or}
use Rattle.std.specs.List.{list_any}
use Rattle.std.proofs.lemmas.Int.{ints}
use Rattle.amr_box.specs.declared.Cell.{Cell}
use Rattle.amr_box.specs.Cells.{Extent, IsProper, child, has_child_where, holds, in_boxes, moved, parents_of, square}
use Rattle.amr_box.proofs.Tests.{or_last, or_swapped}
use Rattle.amr_def.specs.Domain.{Domain, domain_box, home_cell, in_blocks, in_domain, is_near}
use Rattle.amr_def.specs.Facts.{IsAligned}
use Rattle.amr_def.specs.NewBoxes.{is_projected}
use Rattle.amr_def.specs.State.{is_covered_by}
use Rattle.amr_tags.proofs.Places.{in_holds, is_in}
use Rattle.amr_nest.specs.Reach.{IsInDomainBox, is_reached}
use Rattle.amr_nest.proofs.Reaches.{near_is_reached, parents_hold}

-- ---- one of two tests

any_or : (A : Type 0) (f g : A → Bool) (xs : List A) → list_any (λ x. f x || g x) xs ≡ (list_any f xs || list_any g xs)
any_or A f g [] = refl
any_or A f g (x ∷ xs) = ap (λ (t : Bool). (f x || g x) || t) (any_or A f g xs) ∙ or_swapped (f x) (g x) (list_any f xs) (list_any g xs)

any_same : (A : Type 0) (f g : A → Bool) → ((x : A) → f x ≡ g x) → (xs : List A) → list_any f xs ≡ list_any g xs
any_same A f g same [] = refl
any_same A f g same (x ∷ xs) = ap (λ (t : Bool). t || list_any f xs) (same x) ∙ ap (λ (t : Bool). g x || t) (any_same A f g same xs)

any_none : (A : Type 0) (xs : List A) → list_any (λ x. false) xs ≡ false
any_none A [] = refl
any_none A (x ∷ xs) = any_none A xs

pub child_or : (f g : Cell → Bool) (c : Cell) → has_child_where (λ k. f k || g k) c ≡ (has_child_where f c || has_child_where g c)
child_or f g c =
    ap (λ (t : Bool). (t || (f (child c 2) || g (child c 2))) || (f (child c 3) || g (child c 3))) (or_swapped (f (child c 0)) (g (child c 0)) (f (child c 1)) (g (child c 1)))
    ∙ ap (λ (t : Bool). t || (f (child c 3) || g (child c 3))) (or_swapped (f (child c 0) || f (child c 1)) (g (child c 0) || g (child c 1)) (f (child c 2)) (g (child c 2)))
    ∙ or_swapped ((f (child c 0) || f (child c 1)) || f (child c 2)) ((g (child c 0) || g (child c 1)) || g (child c 2)) (f (child c 3)) (g (child c 3))

pub child_same : (f g : Cell → Bool) (c : Cell) → f (child c 0) ≡ g (child c 0) → f (child c 1) ≡ g (child c 1) → f (child c 2) ≡ g (child c 2) → f (child c 3) ≡ g (child c 3) → has_child_where f c ≡ has_child_where g c
child_same f g c e0 e1 e2 e3 = λ i. e0 i || e1 i || e2 i || e3 i

-- ---- near one of the boxes

abbrev pub near_box : Domain → Extent → Cell → Bool
near_box d a = is_near d 1 (has_child_where (holds a))

near_or : (d : Domain) (f g : Cell → Bool) (c : Cell) → is_near d 1 (λ k. f k || g k) c ≡ (is_near d 1 f c || is_near d 1 g c)
near_or d f g c = any_or Cell (λ o. f (home_cell d (moved c o))) (λ o. g (home_cell d (moved c o))) (square 1)

pub near_any : (d : Domain) (bs : List Extent) (c : Cell) → is_near d 1 (is_covered_by bs) c ≡ list_any (λ a. near_box d a c) bs
near_any d [] c = any_none Cell (square 1)
near_any d (a ∷ bs) c =
    any_same Cell (λ o. is_covered_by (a ∷ bs) (home_cell d (moved c o))) (λ o. has_child_where (holds a) (home_cell d (moved c o)) || is_covered_by bs (home_cell d (moved c o))) (λ o. child_or (holds a) (in_boxes bs) (home_cell d (moved c o))) (square 1)
    ∙ near_or d (has_child_where (holds a)) (is_covered_by bs) c
    ∙ ap (λ (t : Bool). near_box d a c || t) (near_any d bs c)

child_any : (f : Extent → Cell → Bool) (bs : List Extent) (c : Cell) → has_child_where (λ k. list_any (λ a. f a k) bs) c ≡ list_any (λ a. has_child_where (f a) c) bs
child_any f [] c = refl
child_any f (a ∷ bs) c = child_or (f a) (λ k. list_any (λ b. f b k) bs) c ∙ ap (λ (t : Bool). has_child_where (f a) c || t) (child_any f bs c)

-- what a box alone projects
abbrev pub projected_by : Domain → Extent → Cell → Bool
projected_by d a = has_child_where (near_box d a)

pub projected_any : (d : Domain) (bs : List Extent) (c : Cell) → is_projected d bs c ≡ list_any (λ a. projected_by d a c) bs
projected_any d bs c =
    child_same (is_near d 1 (is_covered_by bs)) (λ k. list_any (λ a. near_box d a k) bs) c (near_any d bs (child c 0)) (near_any d bs (child c 1)) (near_any d bs (child c 2)) (near_any d bs (child c 3))
    ∙ child_any (near_box d) bs c

-- ---- one box

pub near_by_turns : (d : Domain) (a : Extent) → IsProper a → IsInDomainBox d (parents_of a) → IsProper (parents_of a) → (c : Cell) → holds (domain_box d) c ≡ true → near_box d a c ≡ is_reached d (parents_of a) 9 c
near_by_turns d a p in_dom proper c here =
    let same : has_child_where (holds a) ≡ holds (parents_of a) = λ i k. sym ((parents_hold a p).at k) i in
    ap (λ (f : Cell → Bool). is_near d 1 f c) same ∙ near_is_reached d (parents_of a) in_dom proper c here

child_in : (d : Domain) (c : Cell) (k : ℕ) → k < 4 → holds (domain_box (in_blocks 2 d)) c ≡ true → holds (domain_box d) (child c k) ≡ true
child_in d c k few h =
    let i = is_in (domain_box (in_blocks 2 d)) c h in
    let column : k % 2 < 2 = omega arith in
    let row : k / 2 < 2 = omega (arith, few) in
    in_holds (domain_box d) (child c k) (omega (arith, ints, i.west)) (omega (arith, ints, i.east, column)) (omega (arith, ints, i.south)) (omega (arith, ints, i.north, row))

pub projected_by_turns : (d : Domain) (a : Extent) → IsProper a → IsInDomainBox d (parents_of a) → IsProper (parents_of a) → (c : Cell) → holds (domain_box (in_blocks 2 d)) c ≡ true → projected_by d a c ≡ has_child_where (is_reached d (parents_of a) 9) c
projected_by_turns d a p in_dom proper c here =
    let one : (k : ℕ) → k < 4 → near_box d a (child c k) ≡ is_reached d (parents_of a) 9 (child c k) = λ k few. near_by_turns d a p in_dom proper (child c k) (child_in d c k few here) in
    child_same (near_box d a) (is_reached d (parents_of a) 9) c (one 0 (omega arith)) (one 1 (omega arith)) (one 2 (omega arith)) (one 3 (omega arith))

-- ---- nested

-- each cell of the domain at most one away from a parent of a cell of the box is in a coarse box
pub record IsSurrounded (d : Domain) (coarse : List Extent) (a : Extent) : Type 0 where
  pub at : (c : Cell) → in_domain d c ≡ true → near_box d a c ≡ true → in_boxes coarse c ≡ true

reached_inside : (t s u : Bool) → (t && (s && u)) ≡ true → s ≡ true
reached_inside true true u e = refl
reached_inside true false u e = absurd (cc)
reached_inside false s u e = absurd (cc)

-- aligned, and surrounded
pub record IsNestedBox (d : Domain) (blocking : ℕ) (coarse : List Extent) (a : Extent) : Type 0 where
  pub aligned : IsAligned blocking a
  pub around : IsSurrounded d coarse a

record IsFoundAt (f : Extent → Bool) (bs : List Extent) : Type 0 where
  place : ℕ
  below : place < length bs
  passes : (e : Extent) → f (get_or bs place e) ≡ true

found_at : (f : Extent → Bool) (bs : List Extent) → list_any f bs ≡ true → IsFoundAt f bs
found_at f [] h = absurd (cc)
found_at f (b ∷ bs) h = choose (f b) refl (found_at f bs)
  where
    choose : (v : Bool) → f b ≡ v → (list_any f bs ≡ true → IsFoundAt f bs) → IsFoundAt f (b ∷ bs)
    choose true e more = record { place = 0; below = omega arith; passes = λ d. e }
    choose false e more = let k = more (or_last (f b) (list_any f bs) h e) in record { place = suc k.place; below = omega (arith, k.below); passes = k.passes }
