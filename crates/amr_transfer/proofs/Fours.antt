-- Fours of a patch's rows as the children of cells.
use Rattle.std.proofs.Common.{◌≡◌, ◌∙◌, ℕ, ◌+◌, ◌-◌, ◌*◌, ◌<◌, ◌≤◌, Bool, true, false, cond, ◌||◌, ◌⊎◌, inl, inr, ℤ, pos, ◌+ℤ◌, ◌-ℤ◌, List, length, take, drop, IsTrue, refl, sym, ap, arith}
use Rattle.std.specs.Prelude.{slice_index_or}
use Rattle.std.specs.declared.option.Option.TheVariants.{Some}
use Rattle.std.proofs.lemmas.Int.{ints}
use Rattle.std.proofs.lemmas.Bool.{or_cases}
use Rattle.std.proofs.lemmas.List.{get_or-drop, length-drop, take_all}
use Rattle.amr_box.specs.declared.Cell.{Cell}
use Rattle.amr_box.specs.Cells.{Extent, cell, child, has_child_where, holds, parent}
use Rattle.amr_patch.proofs.Lookups.{some_mass}
use Rattle.amr_patch.proofs.Rows.{inside, is_inside}
use Rattle.amr_def.specs.Facts.{IsAligned}
use Rattle.amr_def.specs.State.{children_mass, is_covered}
use Rattle.amr_def.proofs.Nesting.{aligned_even}
use Rattle.amr_def.proofs.Nests.{children_alike}
use Rattle.amr_def.proofs.Children.{first_child, fourth_child, second_child, third_child}
use Rattle.amr_patch.specs.declared.patches.Patch.{Patch}
use Rattle.amr_patch.specs.Patches.{ArePatchesApart, box, in_patches, mass_in, masses_in}
use Rattle.amr_patch.specs.Pairwise.{Pairwise}
use Rattle.amr_transfer.specs.Given.{IsGiven}
use Rattle.amr_transfer.proofs.Halves.{parent_child}
use Rattle.amr_transfer.proofs.PatchLists.{in_more, mass_there, masses_given}
use Rattle.amr_transfer.specs.Sums.{IsRow, children_in, four_at, summed}

-- ---- fours of two rows

pub four_is : (p : Patch) (c : Cell) (lower upper : List ℕ) (from k : ℕ) → c.x +ℤ c.x ≡ (box p).lo.x → IsRow p (c.y +ℤ c.y +ℤ pos 0) lower → IsRow p (c.y +ℤ c.y +ℤ pos 1) upper → length upper ≡ length lower → 2 * (from + k) + 1 < length lower
    → four_at (drop (2 * from) lower) (drop (2 * from) upper) k ≡ children_in p (cell (c.x +ℤ pos from +ℤ pos k) c.y)
four_is p c lower upper from k low l u same lt =
    let west : 2 * from + 2 * k < length lower = omega arith in
    let east : 2 * from + (2 * k + 1) < length lower = omega arith in
    let x0 : (box p).lo.x +ℤ pos (2 * from + 2 * k) ≡ c.x +ℤ pos from +ℤ pos k +ℤ (c.x +ℤ pos from +ℤ pos k) +ℤ pos 0 = omega (arith, ints, low) in
    let x1 : (box p).lo.x +ℤ pos (2 * from + (2 * k + 1)) ≡ c.x +ℤ pos from +ℤ pos k +ℤ (c.x +ℤ pos from +ℤ pos k) +ℤ pos 1 = omega (arith, ints, low) in
    let a = get_or-drop (2 * from) lower (2 * k) 0 ∙ l.at (2 * from + 2 * k) west ∙ ap (λ (z : ℤ). mass_in p (cell z (c.y +ℤ c.y +ℤ pos 0))) x0 in
    let b = get_or-drop (2 * from) lower (2 * k + 1) 0 ∙ l.at (2 * from + (2 * k + 1)) east ∙ ap (λ (z : ℤ). mass_in p (cell z (c.y +ℤ c.y +ℤ pos 0))) x1 in
    let e = get_or-drop (2 * from) upper (2 * k) 0 ∙ u.at (2 * from + 2 * k) (omega (arith, same, west)) ∙ ap (λ (z : ℤ). mass_in p (cell z (c.y +ℤ c.y +ℤ pos 1))) x0 in
    let f = get_or-drop (2 * from) upper (2 * k + 1) 0 ∙ u.at (2 * from + (2 * k + 1)) (omega (arith, same, east)) ∙ ap (λ (z : ℤ). mass_in p (cell z (c.y +ℤ c.y +ℤ pos 1))) x1 in
    λ i. a i + b i + e i + f i

-- the rest of a row
pub rest_is : (xs : List ℕ) (m : ℕ) → take (length xs - m) (drop m xs) ≡ drop m xs
rest_is xs m = take_all (length xs - m) (drop m xs) (omega (arith, length-drop m xs))

pub rest_length : (xs : List ℕ) (m : ℕ) → length (take (length xs - m) (drop m xs)) ≡ length xs - m
rest_length xs m = ap (λ (ys : List ℕ). length ys) (rest_is xs m) ∙ length-drop m xs

pub four_of_rest : (p : Patch) (c e : Cell) (lower upper : List ℕ) (from k : ℕ) → c.x +ℤ c.x ≡ (box p).lo.x → IsRow p (c.y +ℤ c.y +ℤ pos 0) lower → IsRow p (c.y +ℤ c.y +ℤ pos 1) upper → e ≡ cell (c.x +ℤ pos from) c.y → 2 * k + 1 < length (take (length lower - 2 * from) (drop (2 * from) lower))
    → four_at (take (length lower - 2 * from) (drop (2 * from) lower)) (take (length upper - 2 * from) (drop (2 * from) upper)) k ≡ children_in p (cell (e.x +ℤ pos k) e.y)
four_of_rest p c e lower upper from k low l u is lt =
    (λ i. four_at (rest_is lower (2 * from) i) (rest_is upper (2 * from) i) k)
    ∙ four_is p c lower upper from k low l u (u.count ∙ sym l.count) (omega (arith, lt, rest_length lower (2 * from)))
    ∙ ap (λ (d : Cell). children_in p (cell (d.x +ℤ pos k) d.y)) (sym is)

-- ---- children that a patch has

-- a patch that is coarsenable has all children of a cell or none
pub record HasFour (p : Patch) (c : Cell) : Type 0 where
  pub first : holds (box p) (child c 0) ≡ true
  pub second : holds (box p) (child c 1) ≡ true
  pub third : holds (box p) (child c 2) ≡ true
  pub fourth : holds (box p) (child c 3) ≡ true

same_or : (a b c d : Bool) → b ≡ a → c ≡ a → d ≡ a → (a || b || c || d) ≡ true → a ≡ true
same_or true b c d e f g h = refl
same_or false b c d e f g h =
    let start : (false || false || false || false) ≡ (false || b || c || d) = λ i. false || sym e i || sym f i || sym g i in
    start ∙ h

pub has_four : (p : Patch) (c : Cell) → IsAligned 2 (box p) → has_child_where (holds (box p)) c ≡ true → HasFour p c
has_four p c aligned h =
    let alike = children_alike (box p) c (aligned_even 2 (box p) refl aligned) in
    let b = ap (holds (box p)) (second_child c) ∙ alike.0 ∙ ap (holds (box p)) (sym (first_child c)) in
    let e = ap (holds (box p)) (third_child c) ∙ alike.1 ∙ ap (holds (box p)) (sym (first_child c)) in
    let f = ap (holds (box p)) (fourth_child c) ∙ alike.2 ∙ ap (holds (box p)) (sym (first_child c)) in
    let a = same_or (holds (box p) (child c 0)) (holds (box p) (child c 1)) (holds (box p) (child c 2)) (holds (box p) (child c 3)) b e f h in
    record { first = a; second = b ∙ a; third = e ∙ a; fourth = f ∙ a }

-- a patch that has the first child of a cell
pub four_of_first : (p : Patch) (c : Cell) → IsAligned 2 (box p) → holds (box p) (child c 0) ≡ true → HasFour p c
four_of_first p c aligned h = has_four p c aligned (ap (λ (t : Bool). t || holds (box p) (child c 1) || holds (box p) (child c 2) || holds (box p) (child c 3)) h)

-- the first children along a row of a patch
pub row_child : (b : Extent) (c : Cell) (k n : ℕ) → c.x +ℤ c.x ≡ b.lo.x → holds b (child c 0) ≡ true → pos n ≡ b.hi.x +ℤ pos 1 -ℤ b.lo.x → 2 * k < n → holds b (child (cell (c.x +ℤ pos k) c.y) 0) ≡ true
row_child b c k n low h wide lt =
    let i = inside b (child c 0) h in
    is_inside b (child (cell (c.x +ℤ pos k) c.y) 0) (record { west = omega (arith, ints, low); east = omega (arith, ints, low, wide, lt); south = i.south; north = i.north })

-- their mass is that of the level's cells
pub children_are : (ps : List Patch) (i : ℕ) (p : Patch) (c : Cell) → ArePatchesApart ps → i < length ps → p ≡ slice_index_or ps i p → HasFour p c → children_in p c ≡ children_mass (masses_in ps) c
children_are ps i p c apart lt at four =
    λ t. mass_there ps i p (child c 0) apart lt at four.first t + mass_there ps i p (child c 1) apart lt at four.second t + mass_there ps i p (child c 2) apart lt at four.third t + mass_there ps i p (child c 3) apart lt at four.fourth t

-- ---- one patch more

pub or_eight : (a b c d e f g h : Bool) → ((a || e) || (b || f) || (c || g) || (d || h)) ≡ ((a || b || c || d) || (e || f || g || h))
or_eight true b c d e f g h = refl
or_eight false true c d true f g h = refl
or_eight false true c d false f g h = refl
or_eight false false true d true f g h = refl
or_eight false false true d false true g h = refl
or_eight false false true d false false g h = refl
or_eight false false false true true f g h = refl
or_eight false false false true false true g h = refl
or_eight false false false true false false true h = refl
or_eight false false false true false false false h = refl
or_eight false false false false e f g h = refl

pub child_more : (ps : List Patch) (i : ℕ) (p : Patch) (c : Cell) → i < length ps → p ≡ slice_index_or ps i p → has_child_where (in_patches (take (i + 1) ps)) c ≡ (has_child_where (in_patches (take i ps)) c || has_child_where (holds (box p)) c)
child_more ps i p c lt at =
    (λ t. in_more ps i p (child c 0) lt at t || in_more ps i p (child c 1) lt at t || in_more ps i p (child c 2) lt at t || in_more ps i p (child c 3) lt at t)
    ∙ or_eight (in_patches (take i ps) (child c 0)) (in_patches (take i ps) (child c 1)) (in_patches (take i ps) (child c 2)) (in_patches (take i ps) (child c 3))
    (holds (box p) (child c 0)) (holds (box p) (child c 1)) (holds (box p) (child c 2)) (holds (box p) (child c 3))

-- ---- covered cells

pub covered_in : (ps : List Patch) (c : Cell) → is_covered (masses_in ps) c ≡ has_child_where (in_patches ps) c
unfolding is_covered
covered_in ps c i = some_mass ps (child c 0) i || some_mass ps (child c 1) i || some_mass ps (child c 2) i || some_mass ps (child c 3) i

-- a cell with a child in fine patches is in the coarse ones, if the parents of fine cells are
parent_there : (fine ps : List Patch) (c : Cell) → ((d : Cell) → IsTrue (in_patches fine d) → IsTrue (in_patches ps (parent d))) → has_child_where (in_patches fine) c ≡ true → in_patches ps c ≡ true
parent_there fine ps c parents h = last (or_cases (in_patches fine (child c 0) || in_patches fine (child c 1) || in_patches fine (child c 2)) (in_patches fine (child c 3)) h)
  where
    of_child : (i j : ℕ) → i ≤ 1 → j ≤ 1 → in_patches fine (cell (c.x +ℤ c.x +ℤ pos i) (c.y +ℤ c.y +ℤ pos j)) ≡ true → in_patches ps c ≡ true
    of_child i j a b e = ap (in_patches ps) (sym (parent_child c i j a b)) ∙ parents (cell (c.x +ℤ c.x +ℤ pos i) (c.y +ℤ c.y +ℤ pos j)) e

    first : (in_patches fine (child c 0) ≡ true) ⊎ (in_patches fine (child c 1) ≡ true) → in_patches ps c ≡ true
    first (inl e) = of_child 0 0 (omega arith) (omega arith) e
    first (inr e) = of_child 1 0 (omega arith) (omega arith) e

    next : ((in_patches fine (child c 0) || in_patches fine (child c 1)) ≡ true) ⊎ (in_patches fine (child c 2) ≡ true) → in_patches ps c ≡ true
    next (inl e) = first (or_cases (in_patches fine (child c 0)) (in_patches fine (child c 1)) e)
    next (inr e) = of_child 0 1 (omega arith) (omega arith) e

    last : ((in_patches fine (child c 0) || in_patches fine (child c 1) || in_patches fine (child c 2)) ≡ true) ⊎ (in_patches fine (child c 3) ≡ true) → in_patches ps c ≡ true
    last (inl e) = next (or_cases (in_patches fine (child c 0) || in_patches fine (child c 1)) (in_patches fine (child c 2)) e)
    last (inr e) = of_child 1 1 (omega arith) (omega arith) e

pub summed_level : (fine ps qs : List Patch) (c : Cell) → ((d : Cell) → IsTrue (in_patches fine d) → IsTrue (in_patches ps (parent d))) → Pairwise (IsGiven (has_child_where (in_patches fine)) (children_mass (masses_in fine))) ps qs → masses_in qs c ≡ summed (masses_in fine) (masses_in ps) c
summed_level fine ps qs c parents given =
    masses_given (has_child_where (in_patches fine)) (children_mass (masses_in fine)) ps qs c (parent_there fine ps c parents) given
    ∙ ap (λ (t : Bool). cond t (Some (children_mass (masses_in fine) c)) (masses_in ps c)) (sym (covered_in fine c))
