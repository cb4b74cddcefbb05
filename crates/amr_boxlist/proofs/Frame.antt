-- What is left of a box when the cells of another are taken away holds the others once.
use Rattle.std.proofs.Common.{◌≡◌, ℕ, ◌+◌, Bool, true, false, ◌&&◌, ℤ, pos, ◌+ℤ◌, ◌-ℤ◌, ◌≤ℤ◌, ◌<ℤ◌, refl, sym, ap, ◌∙◌, arith, List, [], ◌∷◌, ◌++◌, append_assoc}
use Rattle.std.specs.Prelude.{int_le, int_lt, not}
use Rattle.std.proofs.Math.Bool.{and-false}
use Rattle.std.proofs.lemmas.Int.{ints, clamps}
use Rattle.amr_box.specs.declared.Cell.{Cell}
use Rattle.amr_box.specs.declared.Axis.{Axis}
use Rattle.amr_box.specs.declared.Axis.TheVariants.{X, Y}
use Rattle.amr_box.specs.Cells.{Extent, IsProper, along, below_cut, common, from_cut, holds, is_proper, within}
use Rattle.amr_box.proofs.Boxes.{holds-common, int_le-yes}
use Rattle.amr_box.proofs.Numbers.{below_from, le_from, not_below_from}
use Rattle.amr_boxlist.specs.Lists.{holders}
use Rattle.amr_boxlist.specs.Remnants.{frame, high_part, low_part, whole_or_frame}
use Rattle.amr_boxlist.proofs.Sets.{HoldOnce, holders-append, one_if}

pub proper-test : (e : Extent) → IsProper e → is_proper e ≡ true
proper-test e p = rw (int_le-yes e.lo.x e.hi.x p.wide, int_le-yes e.lo.y e.hi.y p.high)

pub improper-test : (e : Extent) → (IsProper e → ⊥) → is_proper e ≡ false
improper-test e n = step (int_le e.lo.x e.hi.x) (int_le e.lo.y e.hi.y) refl refl
  where
    step : (s t : Bool) → int_le e.lo.x e.hi.x ≡ s → int_le e.lo.y e.hi.y ≡ t → is_proper e ≡ false
    step true true f g = absurd (n (record { wide = le_from _ _ f; high = le_from _ _ g }))
    step true false f g = rw (f, g)
    step false t f g = rw f

pub proper-from_test : (e : Extent) → is_proper e ≡ true → IsProper e
proper-from_test e h = step (int_le e.lo.x e.hi.x) (int_le e.lo.y e.hi.y) refl refl
  where
    step : (s t : Bool) → int_le e.lo.x e.hi.x ≡ s → int_le e.lo.y e.hi.y ≡ t → IsProper e
    step true true f g = record { wide = le_from _ _ f; high = le_from _ _ g }
    step true false f g = absurd (clash (sym h ∙ ap (λ t. t && int_le e.lo.y e.hi.y) f ∙ g))
      where
        clash : true ≡ false → ⊥
        clash e = cc
    step false t f g = absurd (clash (sym h ∙ ap (λ t. t && int_le e.lo.y e.hi.y) f))
      where
        clash : true ≡ false → ⊥
        clash e = cc

-- ---- along one axis

below_is : (lo hi i z : ℤ) → i ≤ℤ (hi +ℤ pos 1) → within lo (i -ℤ pos 1) z ≡ (within lo hi z && int_lt z i)
below_is lo hi i z h = grind (arith, ints)

from_is : (lo hi i z : ℤ) → lo ≤ℤ i → within i hi z ≡ (within lo hi z && not (int_lt z i))
from_is lo hi i z h = grind (arith, ints)

none_below : (lo hi i z : ℤ) → i ≤ℤ lo → (within lo hi z && int_lt z i) ≡ false
none_below lo hi i z h = grind (arith, ints)

none_from : (lo hi i z : ℤ) → hi <ℤ i → (within lo hi z && not (int_lt z i)) ≡ false
none_from lo hi i z h = grind (arith, ints)

inner_is : (lo hi i j z : ℤ) → lo ≤ℤ i → j ≤ℤ hi → within i j z ≡ ((within lo hi z && not (int_lt z i)) && int_lt z (j +ℤ pos 1))
inner_is lo hi i j z h k = grind (arith, ints)

-- ---- the parts of a box, each as a test

plus-none : (n : ℕ) → n + 0 ≡ n
plus-none n = omega arith

low_y : (a : Extent) (i : ℤ) (c : Cell) → i ≤ℤ (a.hi.y +ℤ pos 1) → holders (low_part Y i a) c ≡ one_if (within a.lo.x a.hi.x c.x && (within a.lo.y a.hi.y c.y && int_lt c.y i))
low_y a i c h = step (int_lt a.lo.y i) refl
  where
    step : (t : Bool) → int_lt a.lo.y i ≡ t → holders (low_part Y i a) c ≡ one_if (within a.lo.x a.hi.x c.x && (within a.lo.y a.hi.y c.y && int_lt c.y i))
    step true e = rw e (plus-none _ ∙ ap (λ t. one_if (within a.lo.x a.hi.x c.x && t)) (below_is a.lo.y a.hi.y i c.y h))
    step false e = rw (e, none_below a.lo.y a.hi.y i c.y (not_below_from _ _ e), and-false (within a.lo.x a.hi.x c.x))

high_y : (a : Extent) (i : ℤ) (c : Cell) → a.lo.y ≤ℤ i → holders (high_part Y i a) c ≡ one_if (within a.lo.x a.hi.x c.x && (within a.lo.y a.hi.y c.y && not (int_lt c.y i)))
high_y a i c h = step (int_lt a.hi.y i) refl
  where
    step : (t : Bool) → int_lt a.hi.y i ≡ t → holders (high_part Y i a) c ≡ one_if (within a.lo.x a.hi.x c.x && (within a.lo.y a.hi.y c.y && not (int_lt c.y i)))
    step true e = rw (e, none_from a.lo.y a.hi.y i c.y (below_from _ _ e), and-false (within a.lo.x a.hi.x c.x))
    step false e = rw e (plus-none _ ∙ ap (λ t. one_if (within a.lo.x a.hi.x c.x && t)) (from_is a.lo.y a.hi.y i c.y h))

low_x : (a : Extent) (i : ℤ) (c : Cell) → i ≤ℤ (a.hi.x +ℤ pos 1) → holders (low_part X i a) c ≡ one_if ((within a.lo.x a.hi.x c.x && int_lt c.x i) && within a.lo.y a.hi.y c.y)
low_x a i c h = step (int_lt a.lo.x i) refl
  where
    step : (t : Bool) → int_lt a.lo.x i ≡ t → holders (low_part X i a) c ≡ one_if ((within a.lo.x a.hi.x c.x && int_lt c.x i) && within a.lo.y a.hi.y c.y)
    step true e = rw e (plus-none _ ∙ ap (λ t. one_if (t && within a.lo.y a.hi.y c.y)) (below_is a.lo.x a.hi.x i c.x h))
    step false e = rw (e, none_below a.lo.x a.hi.x i c.x (not_below_from _ _ e))

high_x : (a : Extent) (i : ℤ) (c : Cell) → a.lo.x ≤ℤ i → holders (high_part X i a) c ≡ one_if ((within a.lo.x a.hi.x c.x && not (int_lt c.x i)) && within a.lo.y a.hi.y c.y)
high_x a i c h = step (int_lt a.hi.x i) refl
  where
    step : (t : Bool) → int_lt a.hi.x i ≡ t → holders (high_part X i a) c ≡ one_if ((within a.lo.x a.hi.x c.x && not (int_lt c.x i)) && within a.lo.y a.hi.y c.y)
    step true e = rw (e, none_from a.lo.x a.hi.x i c.x (below_from _ _ e))
    step false e = rw e (plus-none _ ∙ ap (λ t. one_if (t && within a.lo.y a.hi.y c.y)) (from_is a.lo.x a.hi.x i c.x h))

-- below, above, left, right of the inner box, or in it
five_places : (A B p q r s : Bool) → one_if (A && (B && p)) + one_if (A && ((B && not p) && not q)) + one_if ((A && r) && ((B && not p) && q)) + one_if (((A && not r) && not s) && ((B && not p) && q)) ≡ one_if ((A && B) && not (((A && not r) && s) && ((B && not p) && q)))
five_places false B p q r s = refl
five_places true false p q true s = refl
five_places true false p q false true = refl
five_places true false p q false false = refl
five_places true true true q true s = refl
five_places true true true q false true = refl
five_places true true true q false false = refl
five_places true true false true true s = refl
five_places true true false true false true = refl
five_places true true false true false false = refl
five_places true true false false true s = refl
five_places true true false false false true = refl
five_places true true false false false false = refl

pub record IsPartOf (m a : Extent) : Type 0 where
  pub west : a.lo.x ≤ℤ m.lo.x
  pub south : a.lo.y ≤ℤ m.lo.y
  pub east : m.hi.x ≤ℤ a.hi.x
  pub north : m.hi.y ≤ℤ a.hi.y
  pub wide : m.lo.x ≤ℤ m.hi.x
  pub high : m.lo.y ≤ℤ m.hi.y

frame-holders : (a m : Extent) → IsPartOf m a → (c : Cell) → holders (frame a m) c ≡ one_if (holds a c && not (holds m c))
frame-holders a m k c =
    let A = within a.lo.x a.hi.x c.x in
    let B = within a.lo.y a.hi.y c.y in
    let p = int_lt c.y m.lo.y in
    let q = int_lt c.y (m.hi.y +ℤ pos 1) in
    let r = int_lt c.x m.lo.x in
    let s = int_lt c.x (m.hi.x +ℤ pos 1) in
    let above_low : Extent = from_cut Y m.lo.y a in
    let band : Extent = below_cut Y (m.hi.y +ℤ pos 1) above_low in
    let right : Extent = from_cut X m.lo.x band in
    let above : within m.lo.y a.hi.y c.y ≡ (B && not p) = from_is a.lo.y a.hi.y m.lo.y c.y k.south in
    let level : within m.lo.y (m.hi.y +ℤ pos 1 -ℤ pos 1) c.y ≡ ((B && not p) && q) = below_is m.lo.y a.hi.y (m.hi.y +ℤ pos 1) c.y (omega (arith, ints, k.north)) ∙ ap (λ t. t && q) above in
    let beside : within m.lo.x a.hi.x c.x ≡ (A && not r) = from_is a.lo.x a.hi.x m.lo.x c.x k.west in
    let low : holders (low_part Y m.lo.y a) c ≡ one_if (A && (B && p)) = low_y a m.lo.y c (omega (arith, ints, k.north, k.high)) in
    let high : holders (high_part Y (m.hi.y +ℤ pos 1) above_low) c ≡ one_if (A && ((B && not p) && not q)) =
    high_y above_low (m.hi.y +ℤ pos 1) c (omega (arith, ints, k.high)) ∙ ap (λ t. one_if (A && (t && not q))) above in
    let left : holders (low_part X m.lo.x band) c ≡ one_if ((A && r) && ((B && not p) && q)) =
    low_x band m.lo.x c (omega (arith, ints, k.east, k.wide)) ∙ ap (λ t. one_if ((A && r) && t)) level in
    let last : holders (high_part X (m.hi.x +ℤ pos 1) right) c ≡ one_if (((A && not r) && not s) && ((B && not p) && q)) =
    high_x right (m.hi.x +ℤ pos 1) c (omega (arith, ints, k.wide)) ∙ ap (λ t. one_if ((t && not s) && within m.lo.y (m.hi.y +ℤ pos 1 -ℤ pos 1) c.y)) beside ∙ ap (λ t. one_if (((A && not r) && not s) && t)) level in
    let inner : holds m c ≡ (((A && not r) && s) && ((B && not p) && q)) =
    ap (λ t. t && within m.lo.y m.hi.y c.y) (inner_is a.lo.x a.hi.x m.lo.x m.hi.x c.x k.west k.east) ∙ ap (λ t. ((A && not r) && s) && t) (inner_is a.lo.y a.hi.y m.lo.y m.hi.y c.y k.south k.north) in
    let four = low_part Y m.lo.y a ++ high_part Y (m.hi.y +ℤ pos 1) above_low ++ low_part X m.lo.x band in
    let three = low_part Y m.lo.y a ++ high_part Y (m.hi.y +ℤ pos 1) above_low in
    holders-append four (high_part X (m.hi.x +ℤ pos 1) right) c
    ∙ ap (λ n. n + holders (high_part X (m.hi.x +ℤ pos 1) right) c) (holders-append three (low_part X m.lo.x band) c ∙ ap (λ n. n + holders (low_part X m.lo.x band) c) (holders-append (low_part Y m.lo.y a) (high_part Y (m.hi.y +ℤ pos 1) above_low) c))
    ∙ sums _ _ _ _ _ _ _ _ low high left last
    ∙ five_places A B p q r s
    ∙ ap (λ t. one_if ((A && B) && not t)) (sym inner)
  where
    sums : (a b c d e f g h : ℕ) → a ≡ e → b ≡ f → c ≡ g → d ≡ h → a + b + c + d ≡ e + f + g + h
    sums a b c d e f g h p q r s = rw (p, q, r, s)

part_of : (a b : Extent) → is_proper (common a b) ≡ true → IsPartOf (common a b) a
part_of a b h =
    let p = proper-from_test (common a b) h in
    record {
      west = omega (arith, ints, clamps);
      south = omega (arith, ints, clamps);
      east = omega (arith, ints, clamps);
      north = omega (arith, ints, clamps);
      wide = p.wide;
      high = p.high;
    }

outside_range : (a b z : ℤ) → int_le a b ≡ false → within a b z ≡ false
outside_range a b z n = grind (arith, ints)

improper-holds : (e : Extent) (c : Cell) → is_proper e ≡ false → holds e c ≡ false
improper-holds e c h = step (int_le e.lo.x e.hi.x) refl
  where
    step : (s : Bool) → int_le e.lo.x e.hi.x ≡ s → holds e c ≡ false
    step true f = ap (λ t. within e.lo.x e.hi.x c.x && t) (outside_range e.lo.y e.hi.y c.y (ap (λ t. t && int_le e.lo.y e.hi.y) (sym f) ∙ h)) ∙ and-false (within e.lo.x e.hi.x c.x)
    step false f = ap (λ t. t && within e.lo.y e.hi.y c.y) (outside_range e.lo.x e.hi.x c.x f)

not_both : (s t : Bool) → (s && not (s && t)) ≡ (s && not t)
not_both true t = refl
not_both false t = refl

apart_from : (s t : Bool) → (s && t) ≡ false → s ≡ (s && not t)
apart_from true true h = h
apart_from true false h = refl
apart_from false t h = refl

pub remnants-hold : (b a : Extent) → HoldOnce (whole_or_frame b a) (λ c. holds a c && not (holds b c))
remnants-hold b a = record { at = λ c. step c (is_proper (common a b)) refl }
  where
    step : (c : Cell) (t : Bool) → is_proper (common a b) ≡ t → holders (whole_or_frame b a) c ≡ one_if (holds a c && not (holds b c))
    step c true e =
        rw e
        (frame-holders a (common a b) (part_of a b e) c
        ∙ ap (λ t. one_if (holds a c && not t)) (holds-common a b c)
        ∙ ap one_if (not_both (holds a c) (holds b c)))
    step c false e =
        rw e (plus-none _ ∙ ap one_if (apart_from (holds a c) (holds b c) (sym (holds-common a b c) ∙ improper-holds (common a b) c e)))

-- ---- what the code pushes

pub remnants-alone : (b a : Extent) → (IsProper (common a b) → ⊥) → whole_or_frame b a ≡ a ∷ []
remnants-alone b a n = rw (improper-test (common a b) n)

pub high_is : (axis : Axis) (i k : ℤ) (a r : Extent) → i <ℤ along axis a.hi → k ≡ i +ℤ pos 1 → r ≡ from_cut axis k a → r ∷ [] ≡ high_part axis (i +ℤ pos 1) a
high_is axis i k a r h e f =
    let test : int_lt (along axis a.hi) (i +ℤ pos 1) ≡ false = no_less (along axis a.hi) i h in
    rw (test, f, e)
  where
    no_less : (h i : ℤ) → i <ℤ h → int_lt h (i +ℤ pos 1) ≡ false
    no_less h i k = grind (arith, ints)

abbrev four_parts : Extent → ℤ → ℤ → ℤ → ℤ → List Extent
four_parts a s n w e = low_part Y s a ++ high_part Y (n +ℤ pos 1) (from_cut Y s a) ++ low_part X w (below_cut Y (n +ℤ pos 1) (from_cut Y s a)) ++ high_part X (e +ℤ pos 1) (from_cut X w (below_cut Y (n +ℤ pos 1) (from_cut Y s a)))

pub frame_is : (l0 l1 l2 l3 l4 : List Extent) (a m above_low band right : Extent) (south north west east : ℤ) → south ≡ m.lo.y → north ≡ m.hi.y → west ≡ m.lo.x → east ≡ m.hi.x → above_low ≡ from_cut Y south a → l1 ≡ l0 ++ low_part Y south a → band ≡ below_cut Y (north +ℤ pos 1) above_low → l2 ≡ l1 ++ high_part Y (north +ℤ pos 1) above_low → right ≡ from_cut X west band → l3 ≡ l2 ++ low_part X west band → l4 ≡ l3 ++ high_part X (east +ℤ pos 1) right → l4 ≡ l0 ++ frame a m
frame_is l0 l1 l2 l3 l4 a m above_low band right south north west east e1 e2 e3 e4 r1 p1 r2 p2 r3 p3 p4 =
    p4
    ∙ ap (λ l. l ++ high_part X (east +ℤ pos 1) right) (p3 ∙ ap (λ l. l ++ low_part X west band) (p2 ∙ ap (λ l. l ++ high_part Y (north +ℤ pos 1) above_low) p1))
    ∙ four l0 (low_part Y south a) (high_part Y (north +ℤ pos 1) above_low) (low_part X west band) (high_part X (east +ℤ pos 1) right)
    ∙ ap (λ (t : Extent). l0 ++ (low_part Y south a ++ high_part Y (north +ℤ pos 1) above_low ++ low_part X west band ++ high_part X (east +ℤ pos 1) t)) r3
    ∙ ap (λ (t : Extent). l0 ++ (low_part Y south a ++ high_part Y (north +ℤ pos 1) above_low ++ low_part X west t ++ high_part X (east +ℤ pos 1) (from_cut X west t))) r2
    ∙ ap (λ (t : Extent). l0 ++ (low_part Y south a ++ high_part Y (north +ℤ pos 1) t ++ low_part X west (below_cut Y (north +ℤ pos 1) t) ++ high_part X (east +ℤ pos 1) (from_cut X west (below_cut Y (north +ℤ pos 1) t)))) r1
    ∙ ap (λ (t : ℤ). l0 ++ four_parts a t north west east) e1
    ∙ ap (λ (t : ℤ). l0 ++ four_parts a m.lo.y t west east) e2
    ∙ ap (λ (t : ℤ). l0 ++ four_parts a m.lo.y m.hi.y t east) e3
    ∙ ap (λ (t : ℤ). l0 ++ four_parts a m.lo.y m.hi.y m.lo.x t) e4
  where
    four : (l p q r s : List Extent) → (((l ++ p) ++ q) ++ r) ++ s ≡ l ++ (((p ++ q) ++ r) ++ s)
    four l p q r s = simp append_assoc
