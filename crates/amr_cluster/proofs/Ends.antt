-- The tags of a box by its signatures: where an entry is 0 there is none, and else there is one.
use Rattle.std.proofs.Common.{◌≡◌, ◌⊎◌, inl, inr, ℕ, ◌+◌, ◌<◌, ◌≤◌, Bool, true, false, cond, ◌&&◌, ℤ, pos, negsuc, ◌+ℤ◌, ◌-ℤ◌, ◌≤ℤ◌, List, [], ◌∷◌, length, refl, sym, ap, subst, ◌∙◌, arith}
use Rattle.std.specs.Prelude.{slice_index}
use Rattle.std.specs.List.{count_by}
use Rattle.std.specs.Ordering.{int_eq}
use Rattle.std.proofs.lemmas.Int.{ints}
use Rattle.std.proofs.lemmas.Bool.{cases_lt, false≢true}
use Rattle.std.proofs.lemmas.List.Sums.{sum_by-cons}
use Rattle.std.proofs.lemmas.Bool.Decides.{Decides-int_eq}
use Rattle.amr_box.specs.declared.Cell.{Cell}
use Rattle.amr_box.proofs.CellEquality.{same_number}
use Rattle.amr_box.specs.declared.Axis.{Axis}
use Rattle.amr_box.specs.declared.Axis.TheVariants.{X, Y}
use Rattle.amr_box.specs.Cells.{Extent, IsNear, along, cells_of, holds}
use Rattle.amr_box.proofs.Numbers.{side-is}
use Rattle.amr_def.specs.Signature.{signature}
use Rattle.amr_def.proofs.ClusterLaws.{Each, both_true, each_both, each_kept, each_passes}
use Rattle.amr_tags.specs.TagSets.{IsLeastBox}
use Rattle.amr_tags.specs.Stored.{IsIn, IsPart}
use Rattle.amr_tags.proofs.Places.{in_holds, is_in}
use Rattle.amr_cluster.specs.Work.{AreEnds, cells_in}
use Rattle.amr_cluster.proofs.Rounds.{member, own_cells}
use Rattle.amr_cluster.proofs.Tagged.{signature-at, signature-length, size_along}

bit_some : (t : Bool) (n : ℕ) → cond t 1 0 + n ≡ 0 → (t ≡ false) × (n ≡ 0)
bit_some true n e = absurd (omega arith)
bit_some false n e = (refl, omega arith)

count_none : (p : Cell → Bool) (cs : List Cell) → count_by p cs ≡ 0 → Each (λ c. p c ≡ false) cs
count_none p [] e = tt
count_none p (c ∷ cs) e =
    let parts = bit_some (p c) (count_by p cs) (sym (sum_by-cons (λ c. cond (p c) 1 0) c cs) ∙ e) in
    (parts.0, count_none p cs parts.1)

count_some : (p : Cell → Bool) (Q : Cell → Type 0) (cs : List Cell) → 1 ≤ count_by p cs → Each Q cs → (c : Cell) × Q c × (p c ≡ true)
count_some p Q [] h all = absurd (omega arith)
count_some p Q (c ∷ cs) h all = choose (p c) refl (subst (λ (n : ℕ). 1 ≤ n) (sum_by-cons (λ c. cond (p c) 1 0) c cs) h) (λ g. count_some p Q cs g all.1)
  where
    choose : (t : Bool) → p c ≡ t → 1 ≤ cond t 1 0 + count_by p cs → (1 ≤ count_by p cs → (c : Cell) × Q c × (p c ≡ true)) → (c : Cell) × Q c × (p c ≡ true)
    choose true e g rest = (c, all.0, e)
    choose false e g rest = rest (omega arith)

pub size_along-is : (a : Axis) (b : Extent) → IsNear b → pos (size_along a b) ≡ along a b.hi +ℤ pos 1 -ℤ along a b.lo
size_along-is X b near = side-is b.lo.x b.hi.x near.wide
size_along-is Y b near = side-is b.lo.y b.hi.y near.high

along_in : (a : Axis) (b : Extent) (c : Cell) → IsIn b c → (along a b.lo ≤ℤ along a c) × (along a c ≤ℤ along a b.hi)
along_in X b c h = (h.west, h.east)
along_in Y b c h = (h.south, h.north)

module _ (has : Cell → Bool) (part larger : Extent) (near : IsNear part) (inside : IsPart larger part) where
  listed : Each (λ c. (holds part c && has c) ≡ true) (cells_in has part)
  listed = each_both (λ c. has c ≡ true) (λ c. holds part c ≡ true) (λ c. (holds part c && has c) ≡ true) (λ c t h. ap (λ (b : Bool). b && has c) h ∙ t) (cells_in has part)
      (each_passes has (cells_of part)) (each_kept (λ c. holds part c ≡ true) has (cells_of part) (own_cells part larger inside))

  -- an entry that is not 0 has a tag
  found : (a : Axis) (i : ℕ) → i < size_along a part → 1 ≤ slice_index (signature a (cells_in has part) part) i → (c : Cell) × ((holds part c && has c) ≡ true) × (along a c ≡ along a part.lo +ℤ pos i)
  found a i h some =
      let one = count_some (λ c. int_eq (along a c) (along a part.lo +ℤ pos i)) (λ c. (holds part c && has c) ≡ true) (cells_in has part) (subst (λ (n : ℕ). 1 ≤ n) (signature-at a (cells_in has part) part i h) some) listed in
      (one.0, one.1, same_number (along a one.0) (along a part.lo +ℤ pos i) one.2)

  -- the entry of a tag
  offset_of : (a : Axis) (c : Cell) → (holds part c && has c) ≡ true → (i : ℕ) × (i < size_along a part) × (along a c ≡ along a part.lo +ℤ pos i)
  offset_of a c h =
      let place = along_in a part c (is_in part c (both_true _ _ h).0) in
      of (along a c -ℤ along a part.lo) refl place.0 place.1
    where
      of : (z : ℤ) → along a c -ℤ along a part.lo ≡ z → along a part.lo ≤ℤ along a c → along a c ≤ℤ along a part.hi → (i : ℕ) × (i < size_along a part) × (along a c ≡ along a part.lo +ℤ pos i)
      of (pos n) e g k = (n, omega (arith, ints, size_along-is a part near), omega (arith, ints))
      of (negsuc n) e g k = absurd (omega (arith, ints))

  not_zero : (a : Axis) (c : Cell) (i : ℕ) → (holds part c && has c) ≡ true → i < size_along a part → along a c ≡ along a part.lo +ℤ pos i → slice_index (signature a (cells_in has part) part) i ≡ 0 → ⊥
  not_zero a c i h inside_i at none =
      let all = count_none (λ c. int_eq (along a c) (along a part.lo +ℤ pos i)) (cells_in has part) (sym (signature-at a (cells_in has part) part i inside_i) ∙ none) in
      let no = member (λ c. int_eq (along a c) (along a part.lo +ℤ pos i) ≡ false) has part c all (both_true _ _ h).1 (both_true _ _ h).0 in
      false≢true (sym no ∙ (Decides-int_eq (along a c) (along a part.lo +ℤ pos i)).1 at)

  pub no_tags : (a : Axis) (counts : List ℕ) → counts ≡ signature a (cells_in has part) part → ((k : ℕ) → slice_index counts k ≡ 0) → (c : Cell) → (holds part c && has c) ≡ false
  no_tags a counts e none c = choose (holds part c && has c) refl
    where
      choose : (t : Bool) → (holds part c && has c) ≡ t → t ≡ false
      choose true h = let at = offset_of a c h in absurd (not_zero a c at.0 h at.1 at.2 (ap (λ (s : List ℕ). slice_index s at.0) (sym e) ∙ none at.0))
      choose false h = refl

-- the ends of a signature: they have tags, and no tag lies outside
pub record IsAlong (has : Cell → Bool) (part : Extent) (a : Axis) (low high : ℤ) : Type 0 where
  pub first : (c : Cell) × ((holds part c && has c) ≡ true) × (along a c ≡ low)
  pub last : (c : Cell) × ((holds part c && has c) ≡ true) × (along a c ≡ high)
  pub from : (c : Cell) → (holds part c && has c) ≡ true → low ≤ℤ along a c
  pub to : (c : Cell) → (holds part c && has c) ≡ true → along a c ≤ℤ high

pub ends_along : (has : Cell → Bool) (part larger : Extent) → IsNear part → IsPart larger part → (a : Axis) (counts : List ℕ) (first last : ℕ) → counts ≡ signature a (cells_in has part) part → AreEnds counts first last → IsAlong has part a (along a part.lo +ℤ pos first) (along a part.lo +ℤ pos last)
ends_along has part larger near inside a counts first last e ends =
    let size : length counts ≡ size_along a part = ap length e ∙ signature-length a (cells_in has part) part in
    let entry : (k : ℕ) → slice_index counts k ≡ slice_index (signature a (cells_in has part) part) k = λ k. ap (λ (s : List ℕ). slice_index s k) e in
    record {
      first = found has part larger near inside a first (omega (arith, ends.order, ends.inside)) (omega (arith, ends.first_some, entry first));
      last = found has part larger near inside a last (omega (arith, ends.inside)) (omega (arith, ends.last_some, entry last));
      from = λ c h.
          let at = offset_of has part larger near inside a c h in
          low_side c h at.0 at.1 at.2 (cases_lt at.0 first) (λ k less. sym (entry k) ∙ ends.below k less);
      to = λ c h.
          let at = offset_of has part larger near inside a c h in
          high_side c h at.0 at.1 at.2 (cases_lt last at.0) (λ k more. sym (entry k) ∙ ends.above k more);
    }
  where
    low_side : (c : Cell) → (holds part c && has c) ≡ true → (i : ℕ) → i < size_along a part → along a c ≡ along a part.lo +ℤ pos i → (i < first) ⊎ (first ≤ i) → ((k : ℕ) → k < first → slice_index (signature a (cells_in has part) part) k ≡ 0) → (along a part.lo +ℤ pos first) ≤ℤ along a c
    low_side c h i g at (inl less) none = absurd (not_zero has part larger near inside a c i h g at (none i less))
    low_side c h i g at (inr more) none = omega (arith, ints)

    high_side : (c : Cell) → (holds part c && has c) ≡ true → (i : ℕ) → i < size_along a part → along a c ≡ along a part.lo +ℤ pos i → (last < i) ⊎ (i ≤ last) → ((k : ℕ) → last < k → slice_index (signature a (cells_in has part) part) k ≡ 0) → along a c ≤ℤ (along a part.lo +ℤ pos last)
    high_side c h i g at (inl more) none = absurd (not_zero has part larger near inside a c i h g at (none i more))
    high_side c h i g at (inr less) none = omega (arith, ints)

pub least_of : (has : Cell → Bool) (part b : Extent) (west east south north : ℤ) → b.lo.x ≡ west → b.hi.x ≡ east → b.lo.y ≡ south → b.hi.y ≡ north → IsAlong has part X west east → IsAlong has part Y south north → IsLeastBox b (λ c. holds part c && has c)
least_of has part b west east south north w e s n xs ys = record {
  inside = λ c h. in_holds b c (omega (arith, ints, xs.from c h)) (omega (arith, ints, xs.to c h)) (omega (arith, ints, ys.from c h)) (omega (arith, ints, ys.to c h));
  west = (xs.first.0, xs.first.1, xs.first.2 ∙ sym w);
  south = (ys.first.0, ys.first.1, ys.first.2 ∙ sym s);
  east = (xs.last.0, xs.last.1, xs.last.2 ∙ sym e);
  north = (ys.last.0, ys.last.1, ys.last.2 ∙ sym n);
}

-- the ends of a signature lie in the box
pub ends_inside : (a : Axis) (cells : List Cell) (part : Extent) (counts : List ℕ) (first last : ℕ) → counts ≡ signature a cells part → AreEnds counts first last → last < size_along a part
ends_inside a cells part counts first last e ends =
    let size : length counts ≡ size_along a part = ap length e ∙ signature-length a cells part in
    omega (arith, ends.inside)
