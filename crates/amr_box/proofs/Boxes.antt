-- Tests of coordinates, what is in both of two boxes, and the width and height of a near box.
use Rattle.std.proofs.Common.{◌≡◌, ℕ, ◌+◌, ◌*◌, ◌≤◌, ◌+ℤ◌, ◌-ℤ◌, Bool, true, false, ◌&&◌, ℤ, pos, negsuc, ◌≤ℤ◌, ◌<ℤ◌, int_le, refl, sym, ap, ◌∙◌, subst, arith}
use Rattle.std.proofs.Math.Bool.{and-false}
use Rattle.std.specs.Prelude.{IfSome, IsNone, IsSome, ◌↔◌}
use Rattle.std.specs.declared.option.Option.{Option}
use Rattle.std.specs.declared.option.Option.TheVariants.{None, Some}
use Rattle.std.specs.Int.{int_max, int_min}
use Rattle.std.proofs.lemmas.Int.{ints, clamps, to_z-of_z}
use Rattle.amr_box.specs.declared.Cell.{Cell}
use Rattle.amr_box.specs.Cells.{AreDisjoint, IsBoxOf, IsProper, at_least_zero, near_limit, width, height, Extent, extent, holds, within, common}

-- a test for ≤ from what holds, and the other way round
pub int_le-yes : (a b : ℤ) → a ≤ℤ b → int_le a b ≡ true
int_le-yes a b h = grind (arith, ints)

pub int_le-no : (a b : ℤ) → b <ℤ a → int_le a b ≡ false
int_le-no a b h = grind (arith, ints)

max_test : (a b c : ℤ) → int_le (int_max a b) c ≡ (int_le a c && int_le b c)
max_test a b c = grind (arith, ints, clamps)

min_test : (a b c : ℤ) → int_le c (int_min a b) ≡ (int_le c a && int_le c b)
min_test a b c = grind (arith, ints, clamps)

and_swap : (a b c d : Bool) → ((a && b) && (c && d)) ≡ ((a && c) && (b && d))
and_swap true true c d = refl
and_swap true false true d = refl
and_swap true false false d = refl
and_swap false b c d = refl

within_both : (a b c d z : ℤ) → within (int_max a b) (int_min c d) z ≡ (within a c z && within b d z)
within_both a b c d z =
    ap (λ (t : Bool). t && int_le z (int_min c d)) (max_test a b z)
    ∙ ap (λ (t : Bool). (int_le a z && int_le b z) && t) (min_test c d z)
    ∙ and_swap (int_le a z) (int_le b z) (int_le z c) (int_le z d)

pub and-yes : (a b r : Bool) → a ≡ true → r ≡ b → r ≡ (a && b)
and-yes a b r e f = rw e f

pub holds-common : (a b : Extent) (c : Cell) → holds (common a b) c ≡ (holds a c && holds b c)
holds-common a b c =
    let x = within_both a.lo.x b.lo.x a.hi.x b.hi.x c.x in
    let y = within_both a.lo.y b.lo.y a.hi.y b.hi.y c.y in
    ap (λ (t : Bool). t && within (int_max a.lo.y b.lo.y) (int_min a.hi.y b.hi.y) c.y) x
    ∙ ap (λ (t : Bool). (within a.lo.x a.hi.x c.x && within b.lo.x b.hi.x c.x) && t) y
    ∙ and_swap (within a.lo.x a.hi.x c.x) (within b.lo.x b.hi.x c.x) (within a.lo.y a.hi.y c.y) (within b.lo.y b.hi.y c.y)

pub area_is : (b : Extent) (w h : ℕ) → pos w ≡ b.hi.x +ℤ pos 1 -ℤ b.lo.x → pos h ≡ b.hi.y +ℤ pos 1 -ℤ b.lo.y → w * h ≡ width b * height b
area_is b w h e f = rw (← e, ← f)

pub ruleset calls = (holds-common, area_is, and-yes, to_z-of_z)

-- ---- `meet`, by what `try_new` answers

pub common_is : (a b : Extent) (lo hi : Cell) → lo.x ≡ int_max a.lo.x b.lo.x → lo.y ≡ int_max a.lo.y b.lo.y → hi.x ≡ int_min a.hi.x b.hi.x → hi.y ≡ int_min a.hi.y b.hi.y → extent lo hi ≡ common a b
common_is a b lo hi w s e n i = record { lo = record { x = w i; y = s i }; hi = record { x = e i; y = n i } }

pub meet_corners : (o : Option Extent) (lo hi : Cell) (e : Extent) → extent lo hi ≡ e → IfSome o (λ r. r ≡ extent lo hi) → IfSome o (λ r. r ≡ e)
meet_corners None lo hi e is h = tt
meet_corners (Some r) lo hi e is h = h ∙ is

pub meet_cells : (o : Option Extent) (a b : Extent) (lo hi : Cell) → extent lo hi ≡ common a b → IfSome o (λ r. r ≡ extent lo hi) → IfSome o (λ r. IsBoxOf r (λ c. holds a c && holds b c))
meet_cells None a b lo hi is h = tt
meet_cells (Some r) a b lo hi is h = record { at = λ c. ap (λ (e : Extent). holds e c) (h ∙ is) ∙ holds-common a b c }

pub meet_some : (o : Option Extent) (lo hi : Cell) (e : Extent) → extent lo hi ≡ e → (IsSome o ↔ (lo.x ≤ℤ hi.x) × (lo.y ≤ℤ hi.y)) → IsSome o ↔ IsProper e
meet_some o lo hi e is h = let P : Extent → Type 0 = λ t. IsSome o ↔ IsProper t in subst P is (λ s. record { wide = (h.0 s).0; high = (h.0 s).1 }, λ p. h.1 (p.wide, p.high))

out_of_order : (a b z : ℤ) → (a ≤ℤ b → ⊥) → within a b z ≡ false
out_of_order a b z n = grind (arith, ints)

no_cell : (lo hi c : Cell) → ((lo.x ≤ℤ hi.x) × (lo.y ≤ℤ hi.y) → ⊥) → holds (extent lo hi) c ≡ false
no_cell lo hi c n = cases (int_le lo.x hi.x) refl
  where
    cases : (t : Bool) → int_le lo.x hi.x ≡ t → holds (extent lo hi) c ≡ false
    cases true e = no_right (out_of_order lo.y hi.y c.y (λ h. n (omega (arith, ints), h)))
      where
        no_right : within lo.y hi.y c.y ≡ false → (within lo.x hi.x c.x && within lo.y hi.y c.y) ≡ false
        no_right f = rw f (and-false _)
    cases false e = rw (out_of_order lo.x hi.x c.x (λ h. grind (arith, ints)))

holds_low : (lo hi : Cell) → lo.x ≤ℤ hi.x → lo.y ≤ℤ hi.y → holds (extent lo hi) lo ≡ true
holds_low lo hi h k = let f : int_le lo.x lo.x ≡ true = grind (arith, ints) in
    let g : int_le lo.y lo.y ≡ true = grind (arith, ints) in
    rw (f, g, int_le-yes lo.x hi.x h, int_le-yes lo.y hi.y k)

pub meet_none : (o : Option Extent) (a b : Extent) (lo hi : Cell) → extent lo hi ≡ common a b → (IsSome o ↔ (lo.x ≤ℤ hi.x) × (lo.y ≤ℤ hi.y)) → IsNone o ↔ AreDisjoint a b
meet_none None a b lo hi is h = (λ n c. sym (holds-common a b c) ∙ ap (λ (e : Extent). holds e c) (sym is) ∙ no_cell lo hi c (λ k. absurd_some (h.1 k)), λ d. refl)
  where
    absurd_some : IsSome {T = Extent} None → ⊥
    absurd_some e = cc
meet_none (Some r) a b lo hi is h = (λ n. absurd (cc), λ d. absurd (apart (sym (d lo) ∙ sym (holds-common a b lo) ∙ ap (λ (e : Extent). holds e lo) (sym is) ∙ holds_low lo hi (h.0 refl).0 (h.0 refl).1)))
  where
    apart : false ≡ true → ⊥
    apart e = cc

-- ---- sides of a near box

side_small : (low high : ℤ) → negsuc near_limit <ℤ low → high <ℤ pos (near_limit + 1) → at_least_zero (high +ℤ pos 1 -ℤ low) ≤ 2 * near_limit + 1
side_small low high h k = step (high +ℤ pos 1 -ℤ low) (omega (arith, ints))
  where
    step : (z : ℤ) → z ≤ℤ pos (2 * near_limit + 1) → at_least_zero z ≤ 2 * near_limit + 1
    step (pos n) h = omega (arith, ints)
    step (negsuc n) h = omega arith
