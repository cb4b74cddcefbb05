-- Lists of boxes as sets, and boxes that give way to the boxes of parts of them.
use Rattle.std.proofs.Common.{◌≡◌, ℕ, ◌+◌, ◌≤◌, Bool, true, false, ◌&&◌, ◌||◌, cond, refl, sym, ap, ◌∙◌, arith, List, [], ◌∷◌, ◌++◌, add_assoc}
use Rattle.std.specs.List.{flat_map}
use Rattle.std.proofs.Math.Bool.{and-true, and-or_distrib_right}
use Rattle.std.proofs.lemmas.List.Folds.{list_any-append}
use Rattle.std.proofs.lemmas.List.Concat.{flat_map-cons}
use Rattle.amr_box.specs.declared.Cell.{Cell}
use Rattle.amr_box.specs.Cells.{Extent, holds, in_boxes}
use Rattle.amr_boxlist.specs.Lists.{AreApart, holders}

-- a test as a number
abbrev pub one_if : Bool → ℕ
one_if b = cond b 1 0

pub holders-append : (xs bs : List Extent) (c : Cell) → holders (xs ++ bs) c ≡ holders xs c + holders bs c
holders-append [] bs c = omega arith
holders-append (a ∷ xs) bs c = ap (λ n. one_if (holds a c) + n) (holders-append xs bs c) ∙ sym (add_assoc (one_if (holds a c)) (holders xs c) (holders bs c))

none_here : (s t : Bool) (n : ℕ) → (s || t) ≡ false → (t ≡ false → n ≡ 0) → one_if s + n ≡ 0
none_here true t n h k = absurd (cc)
none_here false t n h k = let e : n ≡ 0 = k h in omega arith

some_here : (s t : Bool) (n : ℕ) → (s || t) ≡ true → (t ≡ true → 1 ≤ n) → 1 ≤ one_if s + n
some_here true t n h k = omega arith
some_here false t n h k = let e : 1 ≤ n = k h in omega arith

-- a cell is in some box where it is in at least one
pub in_boxes-holders : (bs : List Extent) (c : Cell) → in_boxes bs c ≡ false → holders bs c ≡ 0
in_boxes-holders [] c h = refl
in_boxes-holders (b ∷ bs) c h = none_here (holds b c) (in_boxes bs c) (holders bs c) h (in_boxes-holders bs c)

pub apart-push : (bs : List Extent) (b : Extent) → AreApart bs → ((c : Cell) → (in_boxes bs c && holds b c) ≡ false) → AreApart (bs ++ b ∷ [])
apart-push bs b h n = λ c. step c (holds b c) refl
  where
    step : (c : Cell) (t : Bool) → holds b c ≡ t → holders (bs ++ b ∷ []) c ≤ 1
    step c true e =
        let none : in_boxes bs c ≡ false = and-true-out (in_boxes bs c) (holds b c) e (n c) in
        let one : one_if (holds b c) ≡ 1 = ap one_if e in
        omega (arith, holders-append bs (b ∷ []) c, in_boxes-holders bs c none)
      where
        and-true-out : (s t : Bool) → t ≡ true → (s && t) ≡ false → s ≡ false
        and-true-out true t e h = sym e ∙ h
        and-true-out false t e h = refl
    step c false e =
        let one : one_if (holds b c) ≡ 0 = ap one_if e in
        omega (arith, holders-append bs (b ∷ []) c, h c)

-- ---- each box gives way to the boxes of a part of it

-- the boxes hold each cell that passes the test once, and no other
pub record HoldOnce (bs : List Extent) (test : Cell → Bool) : Type 0 where
  pub at : (c : Cell) → holders bs c ≡ one_if (test c)

pub in_boxes-some : (bs : List Extent) (c : Cell) → in_boxes bs c ≡ true → 1 ≤ holders bs c
in_boxes-some [] c h = absurd (cc)
in_boxes-some (b ∷ bs) c h = some_here (holds b c) (in_boxes bs c) (holders bs c) h (in_boxes-some bs c)

once-in_boxes : (bs : List Extent) (c : Cell) (t : Bool) → holders bs c ≡ one_if t → in_boxes bs c ≡ t
once-in_boxes bs c t e = step t (in_boxes bs c) refl e
  where
    step : (t s : Bool) → in_boxes bs c ≡ s → holders bs c ≡ one_if t → in_boxes bs c ≡ t
    step true true f e = f
    step true false f e = absurd (omega (arith, in_boxes-holders bs c f))
    step false true f e = absurd (omega (arith, in_boxes-some bs c f))
    step false false f e = f

-- where each box b gives way to boxes that hold, once, its cells that pass the test, those of the list give way so too
pub parts-in_boxes : (f : Extent → List Extent) (test : Cell → Bool) (bs : List Extent) → ((b : Extent) → HoldOnce (f b) (λ c. holds b c && test c)) → (c : Cell) → in_boxes (flat_map f bs) c ≡ (in_boxes bs c && test c)
parts-in_boxes f test [] h c = refl
parts-in_boxes f test (b ∷ bs) h c =
    rw flat_map-cons
    (list_any-append (λ b. holds b c) (f b) (flat_map f bs)
    ∙ ap (λ t. t || in_boxes (flat_map f bs) c) (once-in_boxes (f b) c (holds b c && test c) ((h b).at c))
    ∙ ap (λ t. (holds b c && test c) || t) (parts-in_boxes f test bs h c)
    ∙ sym (and-or_distrib_right (holds b c) (in_boxes bs c) (test c)))

one_if-and : (a b : Bool) → one_if (a && b) ≤ one_if a
one_if-and true true = omega arith
one_if-and true false = omega arith
one_if-and false b = omega arith

parts-holders : (f : Extent → List Extent) (test : Cell → Bool) (bs : List Extent) → ((b : Extent) → HoldOnce (f b) (λ c. holds b c && test c)) → (c : Cell) → holders (flat_map f bs) c ≤ holders bs c
parts-holders f test [] h c = omega arith
parts-holders f test (b ∷ bs) h c =
    rw flat_map-cons (omega (arith, holders-append (f b) (flat_map f bs) c, (h b).at c, one_if-and (holds b c) (test c), parts-holders f test bs h c))

pub parts-apart : (f : Extent → List Extent) (test : Cell → Bool) (bs : List Extent) → ((b : Extent) → HoldOnce (f b) (λ c. holds b c && test c)) → AreApart bs → AreApart (flat_map f bs)
parts-apart f test bs h apart = λ c. omega (arith, parts-holders f test bs h c, apart c)

pub parts-same_cells : (f : Extent → List Extent) (bs : List Extent) → ((b : Extent) → HoldOnce (f b) (λ c. holds b c && true)) → (c : Cell) → in_boxes (flat_map f bs) c ≡ in_boxes bs c
parts-same_cells f bs h c = parts-in_boxes f (λ c. true) bs h c ∙ and-true (in_boxes bs c)
