-- What a box leaves of another, by corners.
use Rattle.std.proofs.Common.{◌≡◌, Bool, true, false, ◌&&◌, cond, ℤ, pos, ◌+ℤ◌, ◌-ℤ◌, ◌≤ℤ◌, refl, sym, ap, ◌∙◌, arith, List, [], ◌∷◌, ◌++◌}
use Rattle.std.specs.Prelude.{int_le, int_lt}
use Rattle.std.proofs.lemmas.Int.{ints, clamps}
use Rattle.amr_box.specs.declared.Axis.TheVariants.{X, Y}
use Rattle.amr_box.specs.Cells.{Extent, below_cut, cell, common, extent, from_cut, is_proper}
use Rattle.amr_boxlist.specs.Remnants.{east_of, frame, high_part, if_proper, low_part, north_of, remnants, sides_round, south_of, west_of, whole_or_frame}
use Rattle.amr_boxlist.proofs.Frame.{proper-from_test}

-- below and above a place, where the other axis is in order
below_is : (lo hi low i : ℤ) → lo ≤ℤ hi → int_lt low i ≡ (int_le lo hi && int_le low (i -ℤ pos 1))
below_is lo hi low i h = grind (arith, ints)

west_is : (lo hi low i : ℤ) → lo ≤ℤ hi → int_lt low i ≡ (int_le low (i -ℤ pos 1) && int_le lo hi)
west_is lo hi low i h = grind (arith, ints)

not_below : (high i : ℤ) (t : Bool) (x : List Extent) → (int_lt high i ≡ true → t ≡ false) → (int_lt high i ≡ false → t ≡ true) → cond (int_lt high i) [] x ≡ cond t x []
not_below high i t x below above = step (int_lt high i) refl
  where
    step : (s : Bool) → int_lt high i ≡ s → cond (int_lt high i) [] x ≡ cond t x []
    step true e = ap (λ s. cond s [] x) e ∙ sym (ap (λ s. cond s x []) (below e))
    step false e = ap (λ s. cond s [] x) e ∙ sym (ap (λ s. cond s x []) (above e))

north_none : (lo hi high i : ℤ) → lo ≤ℤ hi → int_lt high i ≡ true → (int_le lo hi && int_le i high) ≡ false
north_none lo hi high i h e = grind (arith, ints)

north_some : (lo hi high i : ℤ) → lo ≤ℤ hi → int_lt high i ≡ false → (int_le lo hi && int_le i high) ≡ true
north_some lo hi high i h e = grind (arith, ints)

east_none : (lo hi high i : ℤ) → lo ≤ℤ hi → int_lt high i ≡ true → (int_le i high && int_le lo hi) ≡ false
east_none lo hi high i h e = grind (arith, ints)

east_some : (lo hi high i : ℤ) → lo ≤ℤ hi → int_lt high i ≡ false → (int_le i high && int_le lo hi) ≡ true
east_some lo hi high i h e = grind (arith, ints)

back : (z : ℤ) → (z +ℤ pos 1 -ℤ pos 1) ≡ z
back z = omega (arith, ints)

module _ (m a : Extent) (wide : a.lo.x ≤ℤ a.hi.x) (rows : m.lo.y ≤ℤ m.hi.y) where
  abbrev above_low : Extent
  above_low = from_cut Y m.lo.y a

  abbrev band : Extent
  band = below_cut Y (m.hi.y +ℤ pos 1) above_low

  south : low_part Y m.lo.y a ≡ if_proper (south_of m a)
  south = ap (λ (t : Bool). cond t (south_of m a ∷ []) []) (below_is a.lo.x a.hi.x a.lo.y m.lo.y wide)

  north : high_part Y (m.hi.y +ℤ pos 1) above_low ≡ if_proper (north_of m a)
  north =
      not_below a.hi.y (m.hi.y +ℤ pos 1) (int_le a.lo.x a.hi.x && int_le (m.hi.y +ℤ pos 1) a.hi.y) (north_of m a ∷ [])
      (north_none a.lo.x a.hi.x a.hi.y (m.hi.y +ℤ pos 1) wide) (north_some a.lo.x a.hi.x a.hi.y (m.hi.y +ℤ pos 1) wide)

  west : low_part X m.lo.x band ≡ if_proper (west_of m a)
  west =
      ap (λ (y : ℤ). cond (int_lt a.lo.x m.lo.x) (extent (cell a.lo.x m.lo.y) (cell (m.lo.x -ℤ pos 1) y) ∷ []) []) (back m.hi.y)
      ∙ ap (λ (t : Bool). cond t (west_of m a ∷ []) []) (west_is m.lo.y m.hi.y a.lo.x m.lo.x rows)

  east : high_part X (m.hi.x +ℤ pos 1) (from_cut X m.lo.x band) ≡ if_proper (east_of m a)
  east =
      ap (λ (y : ℤ). cond (int_lt a.hi.x (m.hi.x +ℤ pos 1)) [] (extent (cell (m.hi.x +ℤ pos 1) m.lo.y) (cell a.hi.x y) ∷ [])) (back m.hi.y)
      ∙ not_below a.hi.x (m.hi.x +ℤ pos 1) (int_le (m.hi.x +ℤ pos 1) a.hi.x && int_le m.lo.y m.hi.y) (east_of m a ∷ [])
      (east_none m.lo.y m.hi.y a.hi.x (m.hi.x +ℤ pos 1) rows) (east_some m.lo.y m.hi.y a.hi.x (m.hi.x +ℤ pos 1) rows)

  sides : frame a m ≡ sides_round m a
  sides = λ i. south i ++ north i ++ west i ++ east i

pub by_corners : (b a : Extent) → whole_or_frame b a ≡ remnants b a
by_corners b a = step (is_proper (common a b)) refl
  where
    step : (t : Bool) → is_proper (common a b) ≡ t → whole_or_frame b a ≡ remnants b a
    step true e =
        let p = proper-from_test (common a b) e in
        let wide : a.lo.x ≤ℤ a.hi.x = omega (arith, ints, clamps, p.wide) in
        ap (λ (l : List Extent). cond (is_proper (common a b)) l (a ∷ [])) (sides (common a b) a wide p.high)
    step false e = ap (λ (t : Bool). cond t (frame a (common a b)) (a ∷ [])) e ∙ sym (ap (λ (t : Bool). cond t (sides_round (common a b) a) (a ∷ [])) e)
