-- From the boxes of two levels to what a step needs of them; the shares of a split.
use Rattle.std.proofs.Common.{◌≡◌, ℕ, zero, suc, ◌+◌, ◌*◌, ◌/◌, ◌%◌, ◌<◌, Bool, true, false, cond, ◌||◌, ◌&&◌, ℤ, pos, negsuc, ◌+ℤ◌, is_some, refl, sym, ap, ◌∙◌, arith, List, [], ◌∷◌}
use Rattle.std.specs.Prelude.{int_le, nat_lt}
use Rattle.std.proofs.lemmas.Int.{ints}
use Rattle.amr_box.specs.declared.Cell.{Cell}
use Rattle.amr_box.specs.Cells.{Extent, holds, within, half, in_boxes}
use Rattle.amr_def.proofs.Children.{covered_by}
use Rattle.amr_def.specs.State.{Masses}
use Rattle.amr_def.proofs.LevelLists.{child_0, child_1, child_2, child_3}
use Rattle.amr_def.proofs.LevelLists.{HasAllChildren}
use Rattle.amr_def.specs.Regrid.{child_share, odd}

-- the shares of the four children make up the whole
pub shares_sum : (m : ℕ) → child_share m 0 + child_share m 1 + child_share m 2 + child_share m 3 ≡ m
shares_sum m = by_rest (m % 4) (m / 4) m (omega arith) (omega arith)
  where
    by_rest : (r q m : ℕ) → r < 4 → m ≡ 4 * q + r → (q + cond (nat_lt 0 r) 1 0) + (q + cond (nat_lt 1 r) 1 0) + (q + cond (nat_lt 2 r) 1 0) + (q + cond (nat_lt 3 r) 1 0) ≡ m
    by_rest zero q m h e = omega arith
    by_rest (suc zero) q m h e = omega arith
    by_rest (suc (suc zero)) q m h e = omega arith
    by_rest (suc (suc (suc zero))) q m h e = omega arith
    by_rest (suc (suc (suc (suc r)))) q m h e = absurd (omega arith)

pub half_and_odd : (z : ℤ) → z ≡ half z +ℤ half z +ℤ pos (odd z)
half_and_odd (pos a) = omega (arith, ints)
half_and_odd (negsuc a) = omega (arith, ints)

-- a box from an even to an odd number has both numbers of a pair or none
pub pair_low : (h z : ℤ) → int_le (h +ℤ h) (z +ℤ z) ≡ int_le (h +ℤ h) (z +ℤ z +ℤ pos 1)
pair_low h z = grind (arith, ints)

pub pair_high : (k z : ℤ) → int_le (z +ℤ z) (k +ℤ k +ℤ pos 1) ≡ int_le (z +ℤ z +ℤ pos 1) (k +ℤ k +ℤ pos 1)
pair_high k z = grind (arith, ints)

pub even_is : (z : ℤ) → odd z ≡ 0 → z ≡ half z +ℤ half z
even_is z e = omega (arith, ints, half_and_odd z)

pub odd_is : (z : ℤ) → odd z ≡ 1 → z ≡ half z +ℤ half z +ℤ pos 1
odd_is z e = omega (arith, ints, half_and_odd z)

pub pair_of : (lo hi h k z : ℤ) → lo ≡ h +ℤ h → hi ≡ k +ℤ k +ℤ pos 1 → within lo hi (z +ℤ z) ≡ within lo hi (z +ℤ z +ℤ pos 1)
pair_of lo hi h k z e o =
    rw (e, o) (ap (λ (t : Bool). t && int_le (z +ℤ z) (k +ℤ k +ℤ pos 1)) (pair_low h z) ∙ ap (λ (t : Bool). int_le (h +ℤ h) (z +ℤ z +ℤ pos 1) && t) (pair_high k z))

pub pair_within : (lo hi z : ℤ) → odd lo ≡ 0 → odd hi ≡ 1 → within lo hi (z +ℤ z) ≡ within lo hi (z +ℤ z +ℤ pos 1)
pair_within lo hi z e o = pair_of lo hi (half lo) (half hi) z (even_is lo e) (odd_is hi o)

abbrev pub IsEven : Extent → Type 0
IsEven b = (odd b.lo.x ≡ 0) × (odd b.lo.y ≡ 0) × (odd b.hi.x ≡ 1) × (odd b.hi.y ≡ 1)

pub children_alike : (b : Extent) (c : Cell) → IsEven b → (holds b (child_1 c) ≡ holds b (child_0 c)) × (holds b (child_2 c) ≡ holds b (child_0 c)) × (holds b (child_3 c) ≡ holds b (child_0 c))
children_alike b c e =
    let x = pair_within b.lo.x b.hi.x c.x e.0 e.2 in
    let y = pair_within b.lo.y b.hi.y c.y e.1 e.3 in (
      ap (λ (t : Bool). t && within b.lo.y b.hi.y (c.y +ℤ c.y)) (sym x),
      ap (λ (t : Bool). within b.lo.x b.hi.x (c.x +ℤ c.x) && t) (sym y),
      ap (λ (t : Bool). t && within b.lo.y b.hi.y (c.y +ℤ c.y +ℤ pos 1)) (sym x) ∙ ap (λ (t : Bool). within b.lo.x b.hi.x (c.x +ℤ c.x) && t) (sym y),
    )

abbrev pub AllEven : List Extent → Type 0
AllEven [] = Unit {0}
AllEven (b ∷ bs) = IsEven b × AllEven bs

pub or_same : {a a' b b' : Bool} → a ≡ a' → b ≡ b' → (a || b) ≡ (a' || b')
or_same e f i = e i || f i

pub boxes_alike : (bs : List Extent) (c : Cell) → AllEven bs → (in_boxes bs (child_1 c) ≡ in_boxes bs (child_0 c)) × (in_boxes bs (child_2 c) ≡ in_boxes bs (child_0 c)) × (in_boxes bs (child_3 c) ≡ in_boxes bs (child_0 c))
boxes_alike [] c e = (refl, refl, refl)
boxes_alike (b ∷ bs) c e =
    let one = children_alike b c e.0 in
    let rest = boxes_alike bs c e.1 in
    (or_same one.0 rest.0, or_same one.1 rest.1, or_same one.2 rest.2)

-- a level of even boxes has all four children of a covered cell
pub all_children : (bs : List Extent) (fine : Masses) → AllEven bs → ((c : Cell) → is_some (fine c) ≡ in_boxes bs c) → HasAllChildren fine
all_children bs fine even filled = record {
  k0 = λ c h. filled (child_0 c) ∙ first c (sym (covered_by c fine) ∙ h);
  k1 = λ c h. filled (child_1 c) ∙ (boxes_alike bs c even).0 ∙ first c (sym (covered_by c fine) ∙ h);
  k2 = λ c h. filled (child_2 c) ∙ (boxes_alike bs c even).1 ∙ first c (sym (covered_by c fine) ∙ h);
  k3 = λ c h. filled (child_3 c) ∙ (boxes_alike bs c even).2 ∙ first c (sym (covered_by c fine) ∙ h);
}
  where
    same_four : (a b c d t : Bool) → a ≡ t → b ≡ t → c ≡ t → d ≡ t → (a || b || c || d) ≡ true → t ≡ true
    same_four a b c d true e f g h k = refl
    same_four a b c d false e f g h k = absurd_or (rw (e, f, g, h) at k)
      where
        absurd_or : false ≡ true → false ≡ true
        absurd_or e = e

    first : (c : Cell) → (is_some (fine (child_0 c)) || is_some (fine (child_1 c)) || is_some (fine (child_2 c)) || is_some (fine (child_3 c))) ≡ true → in_boxes bs (child_0 c) ≡ true
    first c h = same_four _ _ _ _ (in_boxes bs (child_0 c)) (filled (child_0 c)) (filled (child_1 c) ∙ (boxes_alike bs c even).0) (filled (child_2 c) ∙ (boxes_alike bs c even).1) (filled (child_3 c) ∙ (boxes_alike bs c even).2) h
