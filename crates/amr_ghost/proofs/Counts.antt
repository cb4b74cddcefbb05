-- Numbers in a list that are of copies or of spans, those of one after those of another: how many there are, and where those of one stand.
use Rattle.std.proofs.Common.{◌≡◌, ◌∙◌, ℕ, zero, suc, ◌+◌, ◌-◌, ◌^◌, ◌<◌, ◌≤◌, Bool, false, true, List, [], ◌∷◌, ◌++◌, length, get_or, take, drop, Some, SomeIff, Fits, w64, refl, sym, ap, subst, arith}
use Rattle.std.specs.Prelude.{nat_lt, slice_index, slice_range}
use Rattle.std.specs.declared.option.Option.{Option}
use Rattle.std.proofs.lemmas.Bool.Decides.{nat_tests}
use Rattle.std.proofs.lemmas.List.{get_or-append_right, get_or-drop, get_or-take, get_or_append_left, length-drop, length-take-le, take_more}
use borrow.Rule.Slice.PartMut.{put_mid, same_len_mid}
use Rattle.amr_box.specs.declared.Cell.{Cell}
use Rattle.amr_ghost.specs.GhostCells.{AreGiven}
use Rattle.amr_ghost.specs.Messages.{mass_count}
use Rattle.amr_ghost.specs.Outer.{value_count}
use Rattle.amr_ghost.specs.declared.sides.Strip.{Strip}
use Rattle.amr_ghost.specs.declared.sources.GhostSpan.{GhostSpan}
use Rattle.amr_ghost.specs.declared.parts.FrameCopy.{FrameCopy}
use Rattle.amr_ghost.proofs.GhostStrips.{same_given}

-- ---- how many there are

-- the items of a list have as many together as all of them have
pub record IsCount {A : Type 0} (size : A → ℕ) (count : List A → ℕ) : Type 0 where
  pub none : count [] ≡ 0
  pub more : (x : A) (xs : List A) → count (x ∷ xs) ≡ size x + count xs

pub copies_counted : IsCount (λ (c : FrameCopy). c.strip.count) mass_count
copies_counted = record { none = refl; more = λ c cs. refl }

pub spans_counted : IsCount (λ (s : GhostSpan). s.strip.count) value_count
spans_counted = record { none = refl; more = λ s ss. refl }

module _ {A : Type 0} {size : A → ℕ} {count : List A → ℕ} (is : IsCount size count) where
  count_joined : (xs ys : List A) → count (xs ++ ys) ≡ count xs + count ys
  count_joined [] ys = let e = is.none in omega (arith, e)
  count_joined (x ∷ xs) ys = let e = count_joined xs ys in omega (arith, e, is.more x xs, is.more x (xs ++ ys))

  count_more : (xs : List A) (k : ℕ) (d : A) → k < length xs → count (take (k + 1) xs) ≡ count (take k xs) + size (get_or xs k d)
  count_more xs k d lt =
      let cut : count (take (k + 1) xs) ≡ count (take k xs ++ get_or xs k d ∷ []) = ap count (take_more xs k d lt) in
      let two = count_joined (take k xs) (get_or xs k d ∷ []) in
      let one = is.more (get_or xs k d) [] in
      let none = is.none in
      omega (arith, cut, two, one, none)

  -- counted one by one
  sum_is : (o : Option ℕ) (P : Type 0) (v n : ℕ) → SomeIff o P v → o ≡ Some n → n ≡ v
  sum_is o P v n h e = (subst (λ (x : Option ℕ). SomeIff x P v) e h).1

  pub counted_more : (xs : List A) (k : ℕ) (d : A) (P : Type 0) (o : Option ℕ) (so_far more : ℕ) → k < length xs → so_far ≡ count (take k xs) → SomeIff o P (so_far + size (get_or xs k d)) → o ≡ Some more → more ≡ count (take (k + 1) xs)
  counted_more xs k d P o so_far more lt before sum told = let e = sum_is o P (so_far + size (get_or xs k d)) more sum told in omega (arith, e, before, count_more xs k d lt)

  -- those of one item are among those of all
  within_all : (xs : List A) (k : ℕ) (d : A) → k < length xs → count (take k xs) + size (get_or xs k d) ≤ count xs
  within_all [] k d lt = absurd (omega (arith, lt))
  within_all (x ∷ xs) zero d lt = let none = is.none in omega (arith, none, is.more x xs)
  within_all (x ∷ xs) (suc k) d lt = let h = within_all xs k d (omega (arith, lt)) in omega (arith, h, is.more x xs, is.more x (take k xs))

  pub counted_next : (xs : List A) (k : ℕ) (d : A) (done : ℕ) → k < length xs → done ≡ count (take k xs) → done + size (get_or xs k d) ≡ count (take (k + 1) xs)
  counted_next xs k d done lt before = omega (arith, before, count_more xs k d lt)

  -- where they begin and end
  pub end_within : (xs : List A) (k : ℕ) (d : A) (done n : ℕ) → k < length xs → done ≡ count (take k xs) → n ≡ count xs → done + size (get_or xs k d) ≤ n
  end_within xs k d done n lt before all = let h = within_all xs k d lt in omega (arith, h, before, all)

  pub end_part : (xs : List A) (k : ℕ) (d : A) (done n : ℕ) → k < length xs → done ≡ count (take k xs) → n ≡ count xs → done + (done + size (get_or xs k d) - done) ≤ n
  end_part xs k d done n lt before all = let h = end_within xs k d done n lt before all in omega (arith, h)

  pub end_small : (xs : List A) (k : ℕ) (d : A) (done n : ℕ) → k < length xs → done ≡ count (take k xs) → n ≡ count xs → n < 2 ^ 63 → Fits w64 (done + size (get_or xs k d))
  end_small xs k d done n lt before all small = let h = end_within xs k d done n lt before all in omega (arith, h, small)

  first_within : (xs : List A) (k : ℕ) → count (take k xs) ≤ count xs
  first_within [] zero = omega arith
  first_within [] (suc k) = omega arith
  first_within (x ∷ xs) zero = let none = is.none in omega (arith, none)
  first_within (x ∷ xs) (suc k) = let h = first_within xs k in omega (arith, h, is.more x xs, is.more x (take k xs))

  pub start_within : (xs : List A) (k done n : ℕ) → done ≡ count (take k xs) → n ≡ count xs → done ≤ n
  start_within xs k done n before all = let h = first_within xs k in omega (arith, h, before, all)

-- ---- those that are the values of the cells of strips, and a mark for all of these

module _ {A : Type 0} (V : Cell → ℕ) (M : Cell → Bool) (mark : Bool) (strip : A → Strip) {count : List A → ℕ} (is : IsCount (λ (x : A). (strip x).count) count) (For : List A → List ℕ → Type 0) (split : (x : A) (xs : List A) (ms : List ℕ) → For (x ∷ xs) ms → AreGiven V M (strip x).axis (strip x).from (strip x).count (λ j. slice_index ms j) mark × For xs (drop (strip x).count ms)) where
  -- those of an item stand after those of the items before it
  given_at : (xs : List A) (k : ℕ) (d : A) (ms : List ℕ) → k < length xs → For xs ms → AreGiven V M (strip (get_or xs k d)).axis (strip (get_or xs k d)).from (strip (get_or xs k d)).count (λ j. slice_index ms (count (take k xs) + j)) mark
  given_at [] k d ms lt h = absurd (omega (arith, lt))
  given_at (x ∷ xs) zero d ms lt h =
      let none = is.none in
      let s = strip x in
      same_given V M s.axis s.from s.count (λ j. slice_index ms j) (λ j. slice_index ms (count [] + j)) mark (λ j t. ap (λ m. slice_index ms m) (omega (arith, none))) (split x xs ms h).0
  given_at (x ∷ xs) (suc k) d ms lt h =
      let n = count (take k xs) in
      let s = strip (get_or xs k d) in
      same_given V M s.axis s.from s.count (λ j. slice_index (drop (strip x).count ms) (n + j)) (λ j. slice_index ms (count (x ∷ take k xs) + j)) mark
      (λ j t. get_or-drop (strip x).count ms (n + j) 0 ∙ ap (λ m. slice_index ms m) (omega (arith, is.more x (take k xs))))
      (given_at xs k d (drop (strip x).count ms) (omega (arith, lt)) (split x xs ms h).1)

  pub part_given : (xs : List A) (k : ℕ) (d : A) (ms : List ℕ) (done : ℕ) → k < length xs → done ≡ count (take k xs) → For xs ms → AreGiven V M (strip (get_or xs k d)).axis (strip (get_or xs k d)).from (strip (get_or xs k d)).count (λ j. slice_index (slice_range ms done (done + (strip (get_or xs k d)).count)) j) mark
  part_given xs k d ms done lt before h =
      let s = strip (get_or xs k d) in
      same_given V M s.axis s.from s.count (λ j. slice_index ms (count (take k xs) + j)) (λ j. slice_index (slice_range ms done (done + s.count)) j) mark
      (λ j t. ap (λ n. slice_index ms (n + j)) (sym before) ∙ sym (get_or-drop done ms j 0) ∙ sym (get_or-take (done + s.count - done) (drop done ms) j 0 (omega (arith, t))))
      (given_at xs k d ms lt h)

-- ---- a part of a list

-- m numbers from place a on are written anew: what stands before them, and in them, and how long all is
module _ (xs ys : List ℕ) (a m : ℕ) (within : a + m ≤ length xs) where
  pub part_length : length (take m (drop a xs)) ≡ m
  part_length = length-take-le m (drop a xs) (omega (arith, within, length-drop a xs))

  front_length : length (take a xs) ≡ a
  front_length = length-take-le a xs (omega (arith, within))

  pub before_part : (j : ℕ) → j < a → slice_index (put_mid a m xs ys) j ≡ slice_index xs j
  before_part j lt = get_or_append_left (take a xs) (ys ++ drop m (drop a xs)) 0 j (omega (arith, lt, front_length)) ∙ get_or-take a xs j 0 lt

  pub in_part : (j : ℕ) → j < length ys → slice_index (put_mid a m xs ys) (a + j) ≡ slice_index ys j
  in_part j lt =
      let back : a + j - a ≡ j = omega arith in
      get_or-append_right (take a xs) (ys ++ drop m (drop a xs)) a (a + j) 0 front_length (omega arith)
      ∙ ap (λ n. get_or (ys ++ drop m (drop a xs)) n 0) back
      ∙ get_or_append_left ys (drop m (drop a xs)) 0 j lt

  pub whole_length : length ys ≡ length (take m (drop a xs)) → length (put_mid a m xs ys) ≡ length xs
  whole_length same = same_len_mid a m xs ys same

  -- the first numbers are what they should be: those before the part, and the first n in it
  pub first_written : (wanted : ℕ → ℕ) (n : ℕ) → n ≤ length ys → ((k : ℕ) → k < a → slice_index xs k ≡ wanted k) → ((j : ℕ) → j < n → slice_index ys j ≡ wanted (a + j)) → (k : ℕ) → k < a + n → slice_index (put_mid a m xs ys) k ≡ wanted k
  first_written wanted n few before here k lt = by_place (nat_lt k a) refl
    where
      later : (j : ℕ) → k ≡ a + j → j < n → slice_index (put_mid a m xs ys) k ≡ wanted k
      later j e t = ap (λ i. slice_index (put_mid a m xs ys) i) e ∙ in_part j (omega (arith, t, few)) ∙ here j t ∙ ap wanted (sym e)

      by_place : (b : Bool) → nat_lt k a ≡ b → slice_index (put_mid a m xs ys) k ≡ wanted k
      by_place true e = let low : k < a = grind (arith, nat_tests) in before_part k low ∙ before k low
      by_place false e = let at : k ≡ a + (k - a) = grind (arith, nat_tests) in later (k - a) at (omega (arith, at, lt))
