-- Words numbered, and the flows of patches in one list, patch by patch.
use Rattle.std.proofs.Common.{◌≡◌, ◌≢◌, ◌∙◌, inl, inr, ◌⊎◌, ℕ, zero, suc, ◌+◌, ◌-◌, ◌<◌, ◌≤◌, cond, nat_lt, List, [], ◌∷◌, ◌++◌, length, get_or, map, take, drop, append-nil, refl, sym, ap, subst, arith}
use Rattle.std.specs.Prelude.{slice_index}
use Rattle.std.specs.List.{AllZip, count_by, range_with_len}
use Rattle.std.proofs.Math.ListN.{replicate, set}
use Rattle.std.proofs.Math.Seq.{drop-append_seam}
use Rattle.std.proofs.lemmas.Bool.{cases_eq, cases_lt}
use Rattle.std.proofs.lemmas.Bool.Decides.{Decides-ltb}
use Rattle.std.proofs.lemmas.List.{get_or-set_other, get_or-set_same, get_or_append_left, get_or_push, append_assoc, drop-append-le, length-append, length-drop, length-set, take-append-le, take_all}
use Rattle.std.proofs.lemmas.List.Elements.{All-push, AllZip-push}
use Rattle.std.proofs.lemmas.List.Folds.{sum_by-replicate}
use Rattle.std.proofs.lemmas.List.Sums.{count_by-le-length, sum_by-set}
use Rattle.amr_layout.specs.declared.FlowTo.{FlowTo}
use Rattle.amr_layout.specs.declared.level_flows.LevelFlows.{LevelFlows}
use Rattle.std.proofs.lemmas.List.FromFn.{get_or-range_with_len, length-range_with_len}
use Rattle.amr_layout.specs.LevelFlowLists.{HasFlowsAt, flow_lists, flows_at}
use Rattle.amr_layout.specs.PartFlows.{AppendsNumbered, AreNumbered, AreNumbersOf, AreOnce, IsLonger, IsNumbered}

-- ---- words numbered

abbrev mark : ℕ → ℕ
mark n = cond (nat_lt 0 n) 1 0

marked : (n : ℕ) → mark (n + 1) ≡ 1
marked n = ap (λ b. cond b 1 0) ((Decides-ltb 0 (n + 1)).1 (omega arith))

module _ {words numbers : List ℕ} (h : AreNumbersOf words numbers) where
  pub few_words : length words ≤ length numbers
  few_words = omega (arith, h.count, count_by-le-length (nat_lt 0) numbers)

  -- a word that is there
  pub place_there : (w number : ℕ) → number ≡ slice_index numbers w → 0 < number → (number - 1 < length words) × (slice_index words (number - 1) ≡ w)
  place_there w number is some =
      let within = h.within w in
      (omega (arith, within, is, some), subst (λ n. slice_index words (n - 1) ≡ w) (sym is) (h.places w (omega (arith, is, some))))

  -- one that is put at the end
  pub word_more : (w number : ℕ) (xs ys : List ℕ) → w < length numbers → slice_index numbers w ≡ 0 → number ≡ length words + 1 → xs ≡ words ++ w ∷ [] → ys ≡ set numbers w number → AreNumbersOf xs ys
  word_more w number xs ys there none is pushed put = subst (λ (zs : List ℕ). AreNumbersOf zs ys) (sym pushed) (subst (AreNumbersOf (words ++ w ∷ [])) (sym put) (record {
    count = omega (arith, more, h.count, counted);
    below = λ k d lt. omega (arith, All-push (λ v. v < length numbers) words w h.below there k d lt, length-set numbers w number);
    within = within;
    at = at;
    places = places;
  }))
    where
      more : length (words ++ w ∷ []) ≡ length words + 1
      more = length-append words (w ∷ [])

      counted : count_by (nat_lt 0) (set numbers w number) ≡ count_by (nat_lt 0) numbers + 1
      counted =
          let before : mark (slice_index numbers w) ≡ 0 = ap mark none in
          let after : mark number ≡ 1 = ap mark is ∙ marked (length words) in
          omega (arith, sum_by-set mark numbers w number 0 there, before, after)

      within : (v : ℕ) → slice_index (set numbers w number) v ≤ length (words ++ w ∷ [])
      within v = by_place (cases_eq v w)
        where
          by_place : (v ≡ w) ⊎ (v ≡ w → ⊥) → slice_index (set numbers w number) v ≤ length (words ++ w ∷ [])
          by_place (inl same) = let e : slice_index (set numbers w number) v ≡ number = ap (slice_index (set numbers w number)) same ∙ get_or-set_same numbers w number 0 there in omega (arith, e, is, more)
          by_place (inr other) = let n = h.within v in omega (arith, get_or-set_other numbers w v number 0 other, n, more)

      at : (k : ℕ) → k < length (words ++ w ∷ []) → slice_index (set numbers w number) (slice_index (words ++ w ∷ []) k) ≡ k + 1
      at k lt = by_end (cases_lt k (length words))
        where
          by_end : (k < length words) ⊎ (length words ≤ k) → slice_index (set numbers w number) (slice_index (words ++ w ∷ []) k) ≡ k + 1
          by_end (inl before) =
              let here : slice_index (words ++ w ∷ []) k ≡ slice_index words k = get_or_append_left words (w ∷ []) 0 k before in
              let other : slice_index words k ≢ w = λ e. omega (arith, ap (slice_index numbers) e, none, h.at k before) in
              ap (slice_index (set numbers w number)) here ∙ get_or-set_other numbers w (slice_index words k) number 0 other ∙ h.at k before
          by_end (inr past) =
              let last : length words ≡ k = omega (arith, past, lt, more) in
              ap (slice_index (set numbers w number)) (get_or_push words w 0 k last) ∙ get_or-set_same numbers w number 0 there ∙ omega (arith, is, last)

      places : (v : ℕ) → 0 < slice_index (set numbers w number) v → slice_index (words ++ w ∷ []) (slice_index (set numbers w number) v - 1) ≡ v
      places v some = by_place (cases_eq v w)
        where
          by_place : (v ≡ w) ⊎ (v ≡ w → ⊥) → slice_index (words ++ w ∷ []) (slice_index (set numbers w number) v - 1) ≡ v
          by_place (inl same) =
              let e : slice_index (set numbers w number) v ≡ number = ap (slice_index (set numbers w number)) same ∙ get_or-set_same numbers w number 0 there in
              let last : slice_index (set numbers w number) v - 1 ≡ length words = omega (arith, e, is) in
              ap (slice_index (words ++ w ∷ [])) last ∙ get_or_push words w 0 (length words) refl ∙ sym same
          by_place (inr other) =
              let e : slice_index (set numbers w number) v ≡ slice_index numbers v = get_or-set_other numbers w v number 0 other in
              let here : 0 < slice_index numbers v = omega (arith, e, some) in
              let low = h.within v in
              ap (λ n. slice_index (words ++ w ∷ []) (n - 1)) e ∙ get_or_append_left words (w ∷ []) 0 (slice_index numbers v - 1) (omega (arith, here, low)) ∙ h.places v here

-- no word stands there twice
pub numbered_once : {words numbers : List ℕ} → AreNumbersOf words numbers → AreOnce words
numbered_once {words = words} {numbers = numbers} h i j below below' e = omega (arith, h.at i below, h.at j below', ap (slice_index numbers) e)

-- no word is numbered at first
none_there : (n w : ℕ) → slice_index (replicate n 0) w ≡ 0
none_there zero w = refl
none_there (suc n) zero = refl
none_there (suc n) (suc w) = none_there n w

pub no_words : (n : ℕ) → AreNumbersOf [] (replicate n 0)
no_words n = record {
  count = omega (arith, sum_by-replicate mark n 0);
  below = λ k d lt. absurd (omega (arith, lt));
  within = λ w. omega (arith, none_there n w);
  at = λ k lt. absurd (omega (arith, lt));
  places = λ w some. absurd (omega (arith, none_there n w, some));
}

-- ---- lists of words that grow

pub same_words : (xs : List ℕ) → IsLonger xs xs
same_words xs = record { count = omega arith; same = λ k lt. refl }

pub more_words : (xs ys zs : List ℕ) → IsLonger xs ys → IsLonger ys zs → IsLonger xs zs
more_words xs ys zs h g = record { count = let a = h.count in let b = g.count in omega (arith, a, b); same = λ k lt. g.same k (let a = h.count in omega (arith, a, lt)) ∙ h.same k lt }

pub pushed_word : (xs ys : List ℕ) (w : ℕ) → ys ≡ xs ++ w ∷ [] → IsLonger xs ys
pushed_word xs ys w is = subst (IsLonger xs) (sym is) (record { count = omega (arith, length-append xs (w ∷ [])); same = λ k lt. get_or_append_left xs (w ∷ []) 0 k lt })

-- what is numbered stays so
still_numbered : (xs ys : List ℕ) (a b : FlowTo) → IsLonger xs ys → IsNumbered xs a b → IsNumbered ys a b
still_numbered xs ys a b longer h = record { face = h.face; there = let n = longer.count in let m = h.there in omega (arith, n, m); word = longer.same b.word h.there ∙ h.word }

pub all_still_numbered : (xs ys : List ℕ) (fs gs : List FlowTo) → IsLonger xs ys → AllZip (IsNumbered xs) fs gs → AllZip (IsNumbered ys) fs gs
all_still_numbered xs ys [] [] longer h = tt
all_still_numbered xs ys [] (b ∷ bs) longer h = absurd h
all_still_numbered xs ys (a ∷ fs) [] longer h = absurd h
all_still_numbered xs ys (a ∷ fs) (b ∷ bs) longer h = (still_numbered xs ys a b longer h.0, all_still_numbered xs ys fs bs longer h.1)

-- ---- flows that are appended

pub none_appended : (words : List ℕ) (all : List FlowTo) → AppendsNumbered words [] all all
none_appended words all = record { more = []; items = sym (append-nil all); numbered = tt }

-- one more
pub append_more : (xs words : List ℕ) (flows old all new : List FlowTo) (a b : FlowTo) → IsLonger xs words → new ≡ all ++ b ∷ [] → IsNumbered words a b → AppendsNumbered xs flows old all → AppendsNumbered words (flows ++ a ∷ []) old new
append_more xs words flows old all new a b longer pushed last h = record {
  more = h.more ++ b ∷ [];
  items = pushed ∙ ap (λ l. l ++ b ∷ []) h.items ∙ append_assoc old h.more (b ∷ []);
  numbered = AllZip-push (IsNumbered words) flows h.more a b (all_still_numbered xs words flows h.more longer h.numbered) last;
}

-- ---- parts of one list

part_still : {A : Type 0} (xs ys : List A) (n m : ℕ) → n ≤ m → m ≤ length xs → take (m - n) (drop n (xs ++ ys)) ≡ take (m - n) (drop n xs)
part_still xs ys n m le most = ap (take (m - n)) (drop-append-le n xs ys (omega (arith, le, most))) ∙ take-append-le (m - n) (drop n xs) ys (let e = length-drop n xs in omega (arith, e, most))

part_last : {A : Type 0} (xs ys : List A) (n m : ℕ) → n ≡ length xs → m ≡ length xs + length ys → take (m - n) (drop n (xs ++ ys)) ≡ ys
part_last xs ys n m at end =
    let count : m - n ≡ length ys = omega (arith, at, end) in
    (λ t. take (count t) (drop (at t) (xs ++ ys))) ∙ ap (take (length ys)) (drop-append_seam xs ys) ∙ take_all (length ys) ys (omega arith)

-- the flows of so many patches stand in the list, numbered
pub record ArePartFlows (level : LevelFlows) (first : ℕ) (words : List ℕ) (count : ℕ) (v : LevelFlows) : Type 0 where
  pub bounds : length v.bounds.items ≡ count + 1
  pub last : slice_index v.bounds.items count ≡ length v.flows.items
  pub there : (i : ℕ) → i < count → HasFlowsAt v i
  pub flows : (i : ℕ) → i < count → AllZip (IsNumbered words) (flows_at level (first + i)) (flows_at v i)

-- none yet
pub part_none : (level : LevelFlows) (first : ℕ) (words : List ℕ) (v : LevelFlows) → v.flows.items ≡ [] → v.bounds.items ≡ 0 ∷ [] → ArePartFlows level first words 0 v
part_none level first words v flows bounds = record {
  bounds = ap length bounds;
  last = ap (λ l. slice_index l 0) bounds ∙ sym (ap length flows);
  there = λ i lt. absurd (omega (arith, lt));
  flows = λ i lt. absurd (omega (arith, lt));
}

-- those of one patch more
pub part_more : (level : LevelFlows) (first : ℕ) (xs words : List ℕ) (i : ℕ) (v v' : LevelFlows) (flows : List FlowTo) → flows ≡ flows_at level (first + i) → IsLonger xs words → AppendsNumbered words flows v.flows.items v'.flows.items
    → v'.bounds.items ≡ v.bounds.items ++ length v'.flows.items ∷ [] → ArePartFlows level first xs i v → ArePartFlows level first words (i + 1) v'
part_more level first xs words i v v' flows is longer appended pushed h = record {
  bounds = omega (arith, ap length pushed, length-append v.bounds.items (length v'.flows.items ∷ []), h.bounds);
  last = last_bound;
  there = λ j lt. from_there j (cases_lt j i) lt;
  flows = λ j lt. from_flows j (cases_lt j i) lt;
}
  where
    last_bound : slice_index v'.bounds.items (i + 1) ≡ length v'.flows.items
    last_bound = ap (λ l. slice_index l (i + 1)) pushed ∙ get_or_push v.bounds.items (length v'.flows.items) 0 (i + 1) h.bounds

    old_bound : (j : ℕ) → j ≤ i → slice_index v'.bounds.items j ≡ slice_index v.bounds.items j
    old_bound j le = ap (λ l. slice_index l j) pushed ∙ get_or_append_left v.bounds.items (length v'.flows.items ∷ []) 0 j (omega (arith, le, h.bounds))

    total : length v'.flows.items ≡ length v.flows.items + length appended.more
    total = ap length appended.items ∙ length-append v.flows.items appended.more

    from_there : (j : ℕ) → (j < i) ⊎ (i ≤ j) → j < i + 1 → HasFlowsAt v' j
    from_there j (inl lt) below =
        let t = h.there j lt in
        record {
          there = omega (arith, ap length pushed, length-append v.bounds.items (length v'.flows.items ∷ []), t.there);
          order = omega (arith, old_bound j (omega (arith, lt)), old_bound (j + 1) (omega (arith, lt)), t.order);
          within = omega (arith, old_bound (j + 1) (omega (arith, lt)), t.within, total);
        }
    from_there j (inr past) below =
        let here : j ≡ i = omega (arith, past, below) in
        record {
          there = omega (arith, ap length pushed, length-append v.bounds.items (length v'.flows.items ∷ []), h.bounds, here);
          order = omega (arith, ap (slice_index v'.bounds.items) here, ap (λ n. slice_index v'.bounds.items (n + 1)) here, old_bound i (omega arith), h.last, last_bound, total);
          within = omega (arith, ap (λ n. slice_index v'.bounds.items (n + 1)) here, last_bound);
        }

    from_flows : (j : ℕ) → (j < i) ⊎ (i ≤ j) → j < i + 1 → AllZip (IsNumbered words) (flows_at level (first + j)) (flows_at v' j)
    from_flows j (inl lt) below =
        let t = h.there j lt in
        let low = old_bound j (omega (arith, lt)) in
        let high = old_bound (j + 1) (omega (arith, lt)) in
        let same : flows_at v' j ≡ flows_at v j
        = (λ t. take (high t - low t) (drop (low t) (appended.items t))) ∙ part_still v.flows.items appended.more (slice_index v.bounds.items j) (slice_index v.bounds.items (j + 1)) t.order t.within in
        subst (AllZip (IsNumbered words) (flows_at level (first + j))) (sym same) (all_still_numbered xs words (flows_at level (first + j)) (flows_at v j) longer (h.flows j lt))
    from_flows j (inr past) below =
        let here : j ≡ i = omega (arith, past, below) in
        let same : flows_at v' i ≡ appended.more
        = ap (λ l. take (slice_index v'.bounds.items (i + 1) - slice_index v'.bounds.items i) (drop (slice_index v'.bounds.items i) l)) appended.items
        ∙ part_last v.flows.items appended.more (slice_index v'.bounds.items i) (slice_index v'.bounds.items (i + 1)) (old_bound i (omega arith) ∙ h.last) (last_bound ∙ total) in
        let P : ℕ → Type 0 = λ n. AllZip (IsNumbered words) (flows_at level (first + n)) (flows_at v' n) in
        let Q : List FlowTo → Type 0 = λ l. AllZip (IsNumbered words) l appended.more in
        subst P (sym here) (subst (AllZip (IsNumbered words) (flows_at level (first + i))) (sym same) (subst Q is appended.numbered))

-- ---- patch by patch, as lists

zip_images : {A B C : Type 0} (R : B → C → Type 0) (f : A → B) (g : A → C) (xs : List A) → ((k : ℕ) (d : A) → k < length xs → R (f (get_or xs k d)) (g (get_or xs k d))) → AllZip R (map f xs) (map g xs)
zip_images R f g [] h = tt
zip_images R f g (x ∷ xs) h = (h 0 x (omega arith), zip_images R f g xs (λ k d lt. h (suc k) d (omega (arith, lt))))

pub all_numbered : (level : LevelFlows) (first : ℕ) (words : List ℕ) (count : ℕ) (v : LevelFlows) → ArePartFlows level first words count v
    → AreNumbered words (map (λ i. flows_at level (first + i)) (range_with_len 0 count)) (flow_lists v count)
all_numbered level first words count v h =
    zip_images (AllZip (IsNumbered words)) (λ i. flows_at level (first + i)) (flows_at v) (range_with_len 0 count) (λ k d lt.
    let below : k < count = omega (arith, lt, length-range_with_len 0 count) in
    let at : get_or (range_with_len 0 count) k d ≡ k = get_or-range_with_len 0 count k d below ∙ (let z : 0 + k ≡ k = omega arith in z) in
    let P : ℕ → Type 0 = λ n. AllZip (IsNumbered words) (flows_at level (first + n)) (flows_at v n) in
    subst P (sym at) (h.flows k below))
