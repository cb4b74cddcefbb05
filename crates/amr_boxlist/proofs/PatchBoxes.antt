-- The patch boxes of a box hold each of its cells once.
use Rattle.std.proofs.Common.{◌≡◌, ℕ, zero, suc, ◌+◌, ◌-◌, ◌*◌, ◌<◌, ◌≤◌, Bool, true, false, ◌&&◌, cond, ◌⊎◌, inl, inr, ℤ, pos, ◌+ℤ◌, ◌-ℤ◌, ◌≤ℤ◌, ◌<ℤ◌, refl, sym, ap, ◌∙◌, arith, List, [], ◌∷◌, ◌++◌, map, subst, append_assoc, zero-add}
use Rattle.std.specs.Prelude.{int_le, int_lt}
use Rattle.std.specs.List.{flat_map, range_with_len}
use Rattle.std.specs.Int.{int_min}
use Rattle.std.proofs.Math.Nat.{mul-le-mul_left}
use Rattle.std.proofs.lemmas.Int.{ints, clamps}
use Rattle.std.proofs.lemmas.List.Concat.{flat_map-append, flat_map-cons}
use Rattle.std.proofs.lemmas.List.FromFn.{map-range_with_len_more}
use Rattle.amr_box.specs.declared.Cell.{Cell}
use Rattle.amr_box.specs.Cells.{Extent, at_least_zero, height, holds, width, within}
use Rattle.amr_box.proofs.CellLists.{up_to}
use Rattle.amr_boxlist.specs.Lists.{holders}
use Rattle.amr_boxlist.specs.Chopped.{chopped, patch_box, patch_box_count, patch_box_row}
use Rattle.amr_boxlist.proofs.Sets.{HoldOnce, holders-append, one_if}

-- how many of the m numbers from a on pass a test
abbrev count_from : (ℕ → Bool) → ℕ → ℕ → ℕ
count_from p a zero = 0
count_from p a (suc m) = one_if (p a) + count_from p (a + 1) m

-- ---- along one axis

-- whether a coordinate is in patch box k
abbrev in_patch_box : ℕ → ℤ → ℤ → ℕ → ℤ → Bool
in_patch_box n lo hi k z = within (lo +ℤ pos (n * k)) (int_min (lo +ℤ pos (n * k + (n - 1))) hi) z

-- in the patch boxes from the one that begins s cells from the low end, up to e cells from there
abbrev in_patch_boxes : ℤ → ℤ → ℕ → ℕ → ℤ → Bool
in_patch_boxes lo hi s e z = (int_le (lo +ℤ pos s) z && int_lt z (lo +ℤ pos e)) && int_le z hi

none_yet : (lo hi : ℤ) (s : ℕ) (z : ℤ) → in_patch_boxes lo hi s s z ≡ false
none_yet lo hi s z = grind (arith, ints)

in_first : (n s e : ℕ) (lo hi z : ℤ) → 1 ≤ n → s + n ≤ e → z <ℤ (lo +ℤ pos (s + n)) → one_if (within (lo +ℤ pos s) (int_min (lo +ℤ pos (s + (n - 1))) hi) z) + one_if (in_patch_boxes lo hi (s + n) e z) ≡ one_if (in_patch_boxes lo hi s e z)
in_first n s e lo hi z some fits h =
    let rest : in_patch_boxes lo hi (s + n) e z ≡ false = grind (arith, ints) in
    let first : within (lo +ℤ pos s) (int_min (lo +ℤ pos (s + (n - 1))) hi) z ≡ in_patch_boxes lo hi s e z = grind (arith, ints, clamps) in
    rw (rest, first) (plus-none _)
  where
    plus-none : (n : ℕ) → n + 0 ≡ n
    plus-none n = omega arith

in_others : (n s e : ℕ) (lo hi z : ℤ) → 1 ≤ n → (lo +ℤ pos (s + n)) ≤ℤ z → one_if (within (lo +ℤ pos s) (int_min (lo +ℤ pos (s + (n - 1))) hi) z) + one_if (in_patch_boxes lo hi (s + n) e z) ≡ one_if (in_patch_boxes lo hi s e z)
in_others n s e lo hi z some h =
    let first : within (lo +ℤ pos s) (int_min (lo +ℤ pos (s + (n - 1))) hi) z ≡ false = grind (arith, ints, clamps) in
    let rest : in_patch_boxes lo hi (s + n) e z ≡ in_patch_boxes lo hi s e z = grind (arith, ints) in
    rw (first, rest) (none-plus _)
  where
    none-plus : (n : ℕ) → 0 + n ≡ n
    none-plus n = omega arith

one_more : (n s e : ℕ) (lo hi z : ℤ) → 1 ≤ n → s + n ≤ e → one_if (within (lo +ℤ pos s) (int_min (lo +ℤ pos (s + (n - 1))) hi) z) + one_if (in_patch_boxes lo hi (s + n) e z) ≡ one_if (in_patch_boxes lo hi s e z)
one_more n s e lo hi z some fits = step (int_lt z (lo +ℤ pos (s + n))) refl
  where
    step : (t : Bool) → int_lt z (lo +ℤ pos (s + n)) ≡ t → one_if (within (lo +ℤ pos s) (int_min (lo +ℤ pos (s + (n - 1))) hi) z) + one_if (in_patch_boxes lo hi (s + n) e z) ≡ one_if (in_patch_boxes lo hi s e z)
    step true f = in_first n s e lo hi z some fits (grind (arith, ints))
    step false f = in_others n s e lo hi z some (grind (arith, ints))

patch_boxes_count : (n : ℕ) (lo hi z : ℤ) (a m s e : ℕ) → 1 ≤ n → s ≡ n * a → e ≡ s + n * m → count_from (λ k. in_patch_box n lo hi k z) a m ≡ one_if (in_patch_boxes lo hi s e z)
patch_boxes_count n lo hi z a zero s e some f g =
    let same : e ≡ s = omega arith in
    sym (ap (λ t. one_if (in_patch_boxes lo hi s t z)) same ∙ ap one_if (none_yet lo hi s z))
patch_boxes_count n lo hi z a (suc m) s e some f g =
    ap (λ t. one_if (within (lo +ℤ pos t) (int_min (lo +ℤ pos (t + (n - 1))) hi) z) + count_from (λ k. in_patch_box n lo hi k z) (a + 1) m) (sym f)
    ∙ ap (λ t. one_if (within (lo +ℤ pos s) (int_min (lo +ℤ pos (s + (n - 1))) hi) z) + t) (patch_boxes_count n lo hi z (a + 1) m (s + n) e some (omega arith) (omega arith))
    ∙ one_more n s e lo hi z some (omega arith)

covering : (n side : ℕ) → 1 ≤ n → side ≤ n * patch_box_count n side
covering n side some = omega arith

side_count : (n : ℕ) (lo hi z : ℤ) → 1 ≤ n → count_from (λ k. in_patch_box n lo hi k z) 0 (patch_box_count n (at_least_zero (hi +ℤ pos 1 -ℤ lo))) ≡ one_if (within lo hi z)
side_count n lo hi z some =
    patch_boxes_count n lo hi z 0 (patch_box_count n side) 0 (n * patch_box_count n side) some (omega arith) (omega arith)
    ∙ ap one_if (tests (n * patch_box_count n side) side (covering n side some) (up_to (hi +ℤ pos 1 -ℤ lo) _ refl))
  where
    side : ℕ
    side = at_least_zero (hi +ℤ pos 1 -ℤ lo)

    tests : (e s : ℕ) → s ≤ e → (hi +ℤ pos 1 -ℤ lo ≡ pos s) ⊎ (((hi +ℤ pos 1 -ℤ lo) <ℤ pos 0) × (s ≡ 0)) → in_patch_boxes lo hi 0 e z ≡ within lo hi z
    tests e s h (inl f) = grind (arith, ints)
    tests e s h (inr f) = grind (arith, ints)

-- patch box k begins within the side
pub patch_box_start : (n side k : ℕ) → 1 ≤ n → k < patch_box_count n side → n * k < side
patch_box_start n side k some h = let more : n * (k + 1) ≤ n * patch_box_count n side = mul-le-mul_left n h' in omega arith
  where
    h' : k + 1 ≤ patch_box_count n side
    h' = omega arith

-- ---- over both axes

row_holders : (n : ℕ) (b : Extent) (j : ℕ) (c : Cell) (a m : ℕ) → holders (map (λ i. patch_box n b i j) (range_with_len a m)) c ≡ cond (in_patch_box n b.lo.y b.hi.y j c.y) (count_from (λ k. in_patch_box n b.lo.x b.hi.x k c.x) a m) 0
row_holders n b j c a zero = either (in_patch_box n b.lo.y b.hi.y j c.y)
  where
    either : (t : Bool) → ◌≡◌ {A = ℕ} 0 (cond t 0 0)
    either true = refl
    either false = refl
row_holders n b j c a (suc m) =
    ap (λ t. one_if (in_patch_box n b.lo.x b.hi.x a c.x && in_patch_box n b.lo.y b.hi.y j c.y) + t) (row_holders n b j c (a + 1) m)
    ∙ both (in_patch_box n b.lo.x b.hi.x a c.x) (in_patch_box n b.lo.y b.hi.y j c.y) (count_from (λ k. in_patch_box n b.lo.x b.hi.x k c.x) (a + 1) m)
  where
    both : (s t : Bool) (k : ℕ) → one_if (s && t) + cond t k 0 ≡ cond t (one_if s + k) 0
    both true true k = refl
    both false true k = refl
    both true false k = refl
    both false false k = refl

rows_holders : (n : ℕ) (b : Extent) (c : Cell) (t : Bool) (a m : ℕ) → count_from (λ k. in_patch_box n b.lo.x b.hi.x k c.x) 0 (patch_box_count n (width b)) ≡ one_if t → holders (flat_map (patch_box_row n b) (range_with_len a m)) c ≡ cond t (count_from (λ k. in_patch_box n b.lo.y b.hi.y k c.y) a m) 0
rows_holders n b c t a zero e = either t
  where
    either : (t : Bool) → ◌≡◌ {A = ℕ} 0 (cond t 0 0)
    either true = refl
    either false = refl
rows_holders n b c t a (suc m) e =
    rw flat_map-cons
    (holders-append (patch_box_row n b a) (flat_map (patch_box_row n b) (range_with_len (a + 1) m)) c
    ∙ sums _ _ _ _ (row_holders n b a c 0 (patch_box_count n (width b)) ∙ ap (λ k. cond (in_patch_box n b.lo.y b.hi.y a c.y) k 0) e) (rows_holders n b c t (a + 1) m e)
    ∙ both t (in_patch_box n b.lo.y b.hi.y a c.y) (count_from (λ k. in_patch_box n b.lo.y b.hi.y k c.y) (a + 1) m))
  where
    sums : (a b c d : ℕ) → a ≡ c → b ≡ d → a + b ≡ c + d
    sums a b c d e f = rw (e, f)

    both : (t s : Bool) (k : ℕ) → cond s (one_if t) 0 + cond t k 0 ≡ cond t (one_if s + k) 0
    both true true k = refl
    both true false k = refl
    both false true k = refl
    both false false k = refl

pub chopped-hold : (n : ℕ) → 1 ≤ n → (b : Extent) → HoldOnce (chopped n b) (λ c. holds b c && true)
chopped-hold n some b = record {
  at = λ c.
      rows_holders n b c (within b.lo.x b.hi.x c.x) 0 (patch_box_count n (height b)) (side_count n b.lo.x b.hi.x c.x some)
      ∙ ap (λ k. cond (within b.lo.x b.hi.x c.x) k 0) (side_count n b.lo.y b.hi.y c.y some)
      ∙ both (within b.lo.x b.hi.x c.x) (within b.lo.y b.hi.y c.y);
}
  where
    both : (s t : Bool) → cond s (one_if t) 0 ≡ one_if ((s && t) && true)
    both true true = refl
    both true false = refl
    both false t = refl

-- ---- what the code pushes

pub start_within : (n k m : ℕ) (low high lo hi : ℤ) → 1 ≤ n → lo ≤ℤ hi → low ≡ lo → high ≡ hi → m ≡ patch_box_count n (at_least_zero (high +ℤ pos 1 -ℤ low)) → k < m → pos (n * k) ≤ℤ (hi -ℤ lo)
start_within n k m low high lo hi some order e f is h = step (up_to (high +ℤ pos 1 -ℤ low) _ refl)
  where
    begins : n * k < at_least_zero (high +ℤ pos 1 -ℤ low)
    begins = patch_box_start n (at_least_zero (high +ℤ pos 1 -ℤ low)) k some (subst (λ (t : ℕ). k < t) is h)

    step : (high +ℤ pos 1 -ℤ low ≡ pos (at_least_zero (high +ℤ pos 1 -ℤ low))) ⊎ (((high +ℤ pos 1 -ℤ low) <ℤ pos 0) × (at_least_zero (high +ℤ pos 1 -ℤ low) ≡ 0)) → pos (n * k) ≤ℤ (hi -ℤ lo)
    step (inl g) = omega (arith, ints, begins, g)
    step (inr g) = omega (arith, ints, begins, g)

pub side_value : (z : ℤ) (n : ℕ) → pos n ≡ z → n ≡ at_least_zero z
side_value z n e = ap at_least_zero e

pub patch_box_is : (n : ℕ) (b e : Extent) (i j : ℕ) (low high : Cell) → e ≡ record { lo = low; hi = high } → low.x ≡ b.lo.x +ℤ pos (n * i) → high.x ≡ int_min (b.lo.x +ℤ pos (n * i + (n - 1))) b.hi.x → low.y ≡ b.lo.y +ℤ pos (n * j) → high.y ≡ int_min (b.lo.y +ℤ pos (n * j + (n - 1))) b.hi.y → e ≡ patch_box n b i j
patch_box_is n b e i j low high is w x y z = is ∙ (λ t. record { lo = record { x = w t; y = y t }; hi = record { x = x t; y = z t } })

pub row_more : (n : ℕ) (b e : Extent) (i j : ℕ) (l k : List Extent) → k ≡ l ++ map (λ i. patch_box n b i j) (range_with_len 0 i) → e ≡ patch_box n b i j → k ++ e ∷ [] ≡ l ++ map (λ i. patch_box n b i j) (range_with_len 0 (i + 1))
row_more n b e i j l k is f =
    ap (λ t. t ++ e ∷ []) is
    ∙ append_assoc l (map (λ i. patch_box n b i j) (range_with_len 0 i)) (e ∷ [])
    ∙ ap (λ (t : Extent). l ++ (map (λ i. patch_box n b i j) (range_with_len 0 i) ++ t ∷ [])) f
    ∙ ap (λ t. l ++ t) (sym (map-range_with_len_more (λ i. patch_box n b i j) 0 i i (omega arith)))

pub range_more : (a n : ℕ) → range_with_len a (n + 1) ≡ range_with_len a n ++ (a + n) ∷ []
range_more a n = sym (plain (range_with_len a (n + 1))) ∙ map-range_with_len_more (λ k. k) a n (a + n) refl ∙ ap (λ t. t ++ (a + n) ∷ []) (plain (range_with_len a n))
  where
    plain : (xs : List ℕ) → map (λ k. k) xs ≡ xs
    plain [] = refl
    plain (x ∷ xs) = ap (λ t. x ∷ t) (plain xs)

append-nil : (xs : List Extent) → xs ++ [] ≡ xs
append-nil [] = refl
append-nil (x ∷ xs) = ap (λ t. x ∷ t) (append-nil xs)

pub rows_more : (f : ℕ → List Extent) (j : ℕ) (l k more : List Extent) → k ≡ l ++ flat_map f (range_with_len 0 j) → more ≡ k ++ f j → more ≡ l ++ flat_map f (range_with_len 0 (j + 1))
rows_more f j l k more is e =
    e
    ∙ ap (λ t. t ++ f j) is
    ∙ append_assoc l (flat_map f (range_with_len 0 j)) (f j)
    ∙ ap (λ t. l ++ t) (sym (ap (flat_map f) (range_more 0 j) ∙ flat_map-append f (range_with_len 0 j) ((0 + j) ∷ []) ∙ last))
  where
    last : flat_map f (range_with_len 0 j) ++ flat_map f ((0 + j) ∷ []) ≡ flat_map f (range_with_len 0 j) ++ f j
    last = ap (λ (k : ℕ). flat_map f (range_with_len 0 j) ++ flat_map f (k ∷ [])) (zero-add j) ∙ ap (λ t. flat_map f (range_with_len 0 j) ++ t) (append-nil (f j))

pub span_end : (n k : ℕ) (r low high lo hi s : ℤ) → s ≡ r → r ≡ int_min (low +ℤ pos (n * k + (n - 1))) high → low ≡ lo → high ≡ hi → s ≡ int_min (lo +ℤ pos (n * k + (n - 1))) hi
span_end n k r low high lo hi s e f g h = e ∙ f ∙ ap (λ t. int_min (t +ℤ pos (n * k + (n - 1))) high) g ∙ ap (λ t. int_min (lo +ℤ pos (n * k + (n - 1))) t) h
