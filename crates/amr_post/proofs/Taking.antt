-- A node that takes its letters one after another.
use Rattle.std.proofs.Common.{◌≡◌, ◌∙◌, ℕ, zero, suc, ◌+◌, ◌^◌, ◌<◌, ◌≤◌, ◌==◌, cond, Bool, true, false, true≢false, refl, sym, ap, subst, ⊎_elim, List, [], ◌∷◌, ◌++◌, length, get_or, replicate, arith, eq-eqb}
use Rattle.std.specs.Prelude.{◌&&◌, IsTrue, map, slice_index}
use Rattle.std.specs.List.{All, list_all, range_with_len}
use Rattle.std.proofs.lemmas.Bool.{cases_Bool, cases_lt, eqb-true}
use Rattle.std.proofs.lemmas.List.{get_or_past, map-append, flat_map_more}
use Rattle.std.proofs.lemmas.List.Elements.{All-head, All-tail}
use Rattle.std.proofs.lemmas.List.FromFn.{length-map-range_with_len, get_or-map-range_with_len, fill_by_all}
use Rattle.amr_ranks.specs.declared.item.Item.{Item}
use Rattle.amr_ranks.specs.declared.item.FrameCell.{FrameCell}
use Rattle.amr_ranks.specs.declared.node.Taken.{Taken}
use Rattle.amr_ranks.specs.declared.node.Taken.TheVariants.{New, Again, Stranger}
use Rattle.amr_ranks.specs.Items.{total, times, cells_in, share_in, has_word, is_at}
use Rattle.amr_ranks.specs.Letters.{LetterOf, numbers_of, cells_of, shares_of}
use Rattle.amr_ranks.specs.Laws.{HasJust}
use Rattle.amr_ranks.specs.Nodes.{NodeOf, Fits, is_in, is_ready, answer, taking, with_letter}
use Rattle.amr_ranks.proofs.Sums.{one_if, total-append, total-map, total_ones, absent, present}
use Rattle.amr_ranks.proofs.Masses.{mass_alike}
use Rattle.amr_ranks.proofs.Weighs.{cells_weigh, cells_count}
use Rattle.amr_post.specs.Letters.{AreSame, Expects, having}

-- ---- what all letters of a list are, by weights

none_weighs : {X : Type 0} (P : X → Type 0) (f : X → ℕ) → ((x : X) → P x → f x ≡ 0) → (xs : List X) → All P xs → total f xs ≡ 0
none_weighs P f none [] all = refl
none_weighs P f none (x ∷ xs) all =
    let here = none x (All-head P x xs all) in
    let rest = none_weighs P f none xs (All-tail P x xs all) in
    let r : f x + total f xs ≡ 0 = omega arith in r

-- 0 where a test holds
abbrev unless : Bool → ℕ
unless b = cond b 0 1

passed : (b : Bool) → unless b ≡ 0 → b ≡ true
passed true e = refl
passed false e = absurd (omega (arith, e))

passes : (b : Bool) → b ≡ true → unless b ≡ 0
passes true e = refl
passes false e = absurd (true≢false (sym e))

all_pass : {X : Type 0} (t : X → Bool) (xs : List X) → total (λ (x : X). unless (t x)) xs ≡ 0 → All (λ (x : X). IsTrue (t x)) xs
all_pass {X = X} t xs none = λ k d lt. go xs k lt d none
  where
    go : (ys : List X) (j : ℕ) → j < length ys → (d : X) → total (λ (x : X). unless (t x)) ys ≡ 0 → t (get_or ys j d) ≡ true
    go [] j below d e = absurd (omega (arith, below))
    go (y ∷ ys) zero below d e = passed (t y) (let f : unless (t y) + total (λ (x : X). unless (t x)) ys ≡ 0 = e in omega arith)
    go (y ∷ ys) (suc j) below d e = go ys j (omega (arith, below)) d (let f : unless (t y) + total (λ (x : X). unless (t x)) ys ≡ 0 = e in omega arith)

-- how often a number stands among those of letters, as a weight of the letters
number_weighs : (k : ℕ) (ls : List LetterOf) → times k (numbers_of ls) ≡ total (λ (l : LetterOf). one_if (l.number == k)) ls
number_weighs k ls = total-map (λ m. one_if (m == k)) (λ (l : LetterOf). l.number) ls

module _ (n : NodeOf) (ls : List LetterOf) (e : Expects n ls) where
  module _ (taken : List LetterOf) (l : LetterOf) (beside : (g : LetterOf → ℕ) → total g taken + g l ≤ total g ls) where
    pub own : l.to ≡ n.rank
    own =
        let g : LetterOf → ℕ = λ (x : LetterOf). unless (x.to == n.rank) in
        let none = none_weighs (λ (x : LetterOf). x.to ≡ n.rank) g (λ x is. passes (x.to == n.rank) (eq-eqb x.to n.rank is)) ls e.to_it in
        let b = beside g in
        eqb-true l.to n.rank (passed (l.to == n.rank) (omega arith))

    abbrev was : NodeOf
    was = having n taken

    mine : is_in l.number n.numbers ≡ true
    mine = ⊎_elim (λ yes. yes)
        (λ no.
        let a = absent l.number n.numbers no in
        let b = beside (λ (x : LetterOf). one_if (x.number == l.number)) in
        let d = number_weighs l.number ls in
        let f = e.numbers l.number in
        let one : one_if (l.number == l.number) ≡ 1 = ap one_if (eq-eqb l.number l.number refl) in
        absurd (omega arith))
        (cases_Bool (is_in l.number n.numbers))

    out : is_in l.number (numbers_of taken) ≡ false
    out = ⊎_elim
        (λ yes.
        let a = present l.number (numbers_of taken) yes in
        let b = beside (λ (x : LetterOf). one_if (x.number == l.number)) in
        let d = number_weighs l.number ls in
        let f = number_weighs l.number taken in
        let once = e.once l.number in
        let one : one_if (l.number == l.number) ≡ 1 = ap one_if (eq-eqb l.number l.number refl) in
        absurd (omega arith))
        (λ no. no)
        (cases_Bool (is_in l.number (numbers_of taken)))

    pub is_new : answer was l ≡ New
    is_new = ap (λ b. cond b (cond (is_in l.number (numbers_of taken)) Again New) Stranger) mine ∙ ap (λ b. cond b Again New) out

    abbrev totals : List ℕ
    totals = map (λ w. shares_of w taken) (range_with_len 0 (length n.totals))

    total_count : length totals ≡ length n.totals
    total_count = length-map-range_with_len (λ w. shares_of w taken) 0 (length n.totals)

    zero_add : (k : ℕ) → 0 + k ≡ k
    zero_add k = omega arith

    total_read : (w : ℕ) → w < length n.totals → get_or totals w 0 ≡ shares_of w taken
    total_read w lt = get_or-map-range_with_len (λ x. shares_of x taken) 0 (length n.totals) w w 0 lt (zero_add w)

    pub fits : Fits was l
    fits = record {
      words_fit =
          let t : Item → Bool = has_word (length n.totals) in
          let g : LetterOf → ℕ = λ (x : LetterOf). total (λ (i : Item). unless (t i)) x.items in
          let none = none_weighs (λ (x : LetterOf). All (λ (i : Item). IsTrue (t i)) x.items) g
          (λ x has. none_weighs (λ (i : Item). IsTrue (t i)) (λ (i : Item). unless (t i)) (λ i yes. passes (t i) yes) x.items has) ls e.words_fit in
          let b = beside g in
          subst (λ m. All (λ (i : Item). IsTrue (has_word m i)) l.items) (sym total_count) (all_pass t l.items (omega arith));
      totals_fit = λ w.
          let b = beside (λ (x : LetterOf). share_in w x.items) in
          let t : total (λ (x : LetterOf). share_in w x.items) ls < 2 ^ 63 = e.totals_fit w in
          ⊎_elim
          (λ lt. let r : get_or totals w 0 ≡ total (λ (x : LetterOf). share_in w x.items) taken = total_read w lt in let z : get_or totals w 0 + share_in w l.items < 2 ^ 63 = omega arith in z)
          (λ ge. let r : get_or totals w 0 ≡ 0 = get_or_past totals w 0 (let m = total_count in omega arith) in let z : get_or totals w 0 + share_in w l.items < 2 ^ 63 = omega arith in z)
          (cases_lt w (length n.totals));
      cells_once = λ patch slot.
          let f : FrameCell → ℕ = λ (x : FrameCell). one_if (is_at patch slot x) in
          let a : total f (cells_of taken) ≡ total (λ (x : LetterOf). total f (cells_in x.items)) taken = cells_weigh f taken in
          let b = beside (λ (x : LetterOf). total f (cells_in x.items)) in
          let d : total f (cells_of ls) ≡ total (λ (x : LetterOf). total f (cells_in x.items)) ls = cells_weigh f ls in
          let c : total f (cells_of ls) ≤ 1 = e.cells_once patch slot in
          let z : total f (cells_of taken) + total f (cells_in l.items) ≤ 1 = omega arith in z;
      cells_fit =
          let a = cells_count taken in
          let b = beside (λ (x : LetterOf). total (λ (y : FrameCell). 1) (cells_in x.items)) in
          let d = cells_count ls in
          let f = total_ones (cells_in l.items) in
          let c = e.cells_fit in
          omega arith;
    }

    totals_more : map (λ w. slice_index totals w + share_in w l.items) (range_with_len 0 (length totals)) ≡ map (λ w. shares_of w (taken ++ l ∷ [])) (range_with_len 0 (length n.totals))
    totals_more = fill_by_all (λ w. shares_of w (taken ++ l ∷ [])) (map (λ w. slice_index totals w + share_in w l.items) (range_with_len 0 (length totals))) (length n.totals) 0
        (length-map-range_with_len (λ w. slice_index totals w + share_in w l.items) 0 (length totals) ∙ total_count)
        (λ w lt.
        let a : get_or (map (λ x. slice_index totals x + share_in x l.items) (range_with_len 0 (length totals))) w 0 ≡ get_or totals w 0 + share_in w l.items
        = get_or-map-range_with_len (λ x. slice_index totals x + share_in x l.items) 0 (length totals) w w 0 (let m = total_count in omega arith) (zero_add w) in
        let b = total_read w lt in
        let d : shares_of w (taken ++ l ∷ []) ≡ shares_of w taken + (share_in w l.items + 0) = total-append (λ (x : LetterOf). share_in w x.items) taken (l ∷ []) in
        omega arith)

    with_more : with_letter was l ≡ having n (taken ++ l ∷ [])
    with_more =
        let numbers : numbers_of taken ++ l.number ∷ [] ≡ numbers_of (taken ++ l ∷ []) = sym (map-append (λ (x : LetterOf). x.number) taken (l ∷ [])) in
        let cells : cells_of taken ++ cells_in l.items ≡ cells_of (taken ++ l ∷ []) = flat_map_more (λ (x : LetterOf). cells_in x.items) [] taken l in
        λ i. record n { taken = numbers i; cells = cells i; totals = totals_more i }

    -- it is taken
    pub takes : (a : Taken) (d : NodeOf) → a ≡ answer was l → d ≡ taking a was l → d ≡ having n (taken ++ l ∷ [])
    takes a d is after = after ∙ ap (λ (t : Taken). taking t was l) (is ∙ is_new) ∙ with_more

  -- ---- at the start and at the end

  zeros : (a m : ℕ) → ◌≡◌ {A = List ℕ} (replicate m 0) (map (λ w. 0) (range_with_len a m))
  zeros a zero = refl
  zeros a (suc m) = ap (λ (xs : List ℕ). 0 ∷ xs) (zeros (a + 1) m)

  pub none_yet : n ≡ having n []
  none_yet =
      e.fresh ∙ ap (λ (t : List ℕ). let d : NodeOf = record { rank = n.rank; numbers = n.numbers; room = n.room; taken = []; cells = []; totals = t } in d) (zeros 0 (length n.totals))

  module _ (taken : List LetterOf) (all : AreSame taken ls) where
    pub has_just : (xs : List LetterOf) → AreSame taken xs → HasJust (having n taken) (length n.totals) xs
    has_just xs same = record {
      numbers = λ k. number_weighs k taken ∙ same (λ (l : LetterOf). one_if (l.number == k)) ∙ sym (number_weighs k xs);
      once = λ k. (let a = number_weighs k taken in let b = all (λ (l : LetterOf). one_if (l.number == k)) in let d = number_weighs k ls in let c = e.once k in omega arith);
      cells = λ patch slot. mass_alike patch slot (cells_of taken) (cells_of xs)
          (λ f. cells_weigh f taken ∙ same (λ (l : LetterOf). total f (cells_in l.items)) ∙ sym (cells_weigh f xs))
          (let f : FrameCell → ℕ = λ (x : FrameCell). one_if (is_at patch slot x) in
          let a : total f (cells_of taken) ≡ total (λ (x : LetterOf). total f (cells_in x.items)) taken = cells_weigh f taken in
          let b = all (λ (x : LetterOf). total f (cells_in x.items)) in
          let d : total f (cells_of ls) ≡ total (λ (x : LetterOf). total f (cells_in x.items)) ls = cells_weigh f ls in
          let c : total f (cells_of ls) ≤ 1 = e.cells_once patch slot in
          let z : total f (cells_of taken) ≤ 1 = omega arith in z);
      totals = λ word lt. get_or-map-range_with_len (λ w. shares_of w taken) 0 (length n.totals) word word 0 lt (let z : 0 + word ≡ word = omega arith in z) ∙ same (λ (l : LetterOf). share_in word l.items);
    }

    in_all : (ms : List ℕ) → ((k : ℕ) → 0 < times k ms → is_in k (numbers_of taken) ≡ true) → list_all (λ m. is_in m (numbers_of taken)) ms ≡ true
    in_all [] h = refl
    in_all (m ∷ ms) h =
        let here : is_in m (numbers_of taken) ≡ true = h m (let one : one_if (m == m) ≡ 1 = ap one_if (eq-eqb m m refl) in let r : 0 < one_if (m == m) + times m ms = omega arith in r) in
        ap (λ b. b && list_all (λ k. is_in k (numbers_of taken)) ms) here ∙ in_all ms (λ k some. h k (let r : 0 < one_if (m == k) + times k ms = omega (arith, some) in r))

    pub ready : is_ready (having n taken) ≡ true
    ready = in_all n.numbers (λ k some.
        ⊎_elim (λ yes. yes)
        (λ no.
        let a = absent k (numbers_of taken) no in
        let b = number_weighs k taken in
        let d = all (λ (l : LetterOf). one_if (l.number == k)) in
        let f = number_weighs k ls in
        let g = e.numbers k in
        absurd (omega (arith, some)))
        (cases_Bool (is_in k (numbers_of taken))))
