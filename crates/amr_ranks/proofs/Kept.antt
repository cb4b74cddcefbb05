-- How a node keeps one letter more.
use Rattle.std.proofs.Common.{◌≡◌, ◌≢◌, ℕ, zero, suc, ◌+◌, ◌<◌, ◌≤◌, ◌==◌, cond, Bool, true, false, List, [], ◌∷◌, ◌++◌, length, take, set, refl, sym, ap, ◌∙◌, subst, ⊎_elim, arith, add-one}
use Rattle.std.specs.Prelude.{map, slice_range, ◌||◌}
use Rattle.std.specs.List.{list_any}
use Rattle.std.proofs.Math.ListN.{length-set}
use Rattle.std.proofs.lemmas.List.{get_or-set_same, get_or-set_other, take_more_set, take-take, take_at, map-append, length-map, length-take-le}
use Rattle.std.proofs.lemmas.Bool.{eqb-true, cases_eq}
use Rattle.amr_ranks.specs.declared.item.FrameCell.{FrameCell}
use Rattle.amr_ranks.specs.declared.node.Run.{Run}
use Rattle.amr_ranks.specs.Items.{total, times}
use Rattle.amr_ranks.specs.declared.node.Taken.TheVariants.{New, Again, Stranger}
use Rattle.amr_ranks.specs.Letters.{LetterOf}
use Rattle.amr_ranks.specs.Nodes.{NodeOf, Fits, is_in, answer}
use Rattle.amr_ranks.specs.Stored.{IsStored, Rises, start_of, run_at, no_run}
use Rattle.amr_ranks.proofs.Sums.{one_if, total-append, total_ones, total_within, absent, present}
use Rattle.amr_ranks.proofs.Events.{one_more}
use Rattle.amr_ranks.proofs.Found.{same_part}

pub any_map : {X Y : Type 0} (p : Y → Bool) (f : X → Y) (xs : List X) → list_any p (map f xs) ≡ list_any (λ (x : X). p (f x)) xs
any_map p f [] = refl
any_map p f (x ∷ xs) = ap (λ b. p (f x) || b) (any_map p f xs)

abbrev pub number_of : Run → ℕ
number_of r = r.number

-- a letter is new
pub answer_new : (d : NodeOf) (l : LetterOf) → is_in l.number d.numbers ≡ true → is_in l.number d.taken ≡ false → answer d l ≡ New
answer_new d l own out = ap (λ b. cond b (cond (is_in l.number d.taken) Again New) Stranger) own ∙ ap (λ b. cond b Again New) out

-- what a node's code knows of a letter whose number is the node's and was not taken
module _ (v d : NodeOf) (view_is : v ≡ d) (l : LetterOf) (number : ℕ) (number_is : number ≡ l.number) (nums : List ℕ) (nums_are : nums ≡ v.numbers) (own known : Bool) (own_is : own ≡ is_in number nums) (is_own : own ≡ true)
    (known_is : known ≡ is_in number d.taken) (is_new : known ≡ false) where
  pub number_own : is_in number v.numbers ≡ true
  number_own = sym (ap (is_in number) nums_are) ∙ (sym own_is ∙ is_own)

  pub number_new : is_in number v.taken ≡ false
  number_new = ap (λ (x : NodeOf). is_in number x.taken) view_is ∙ (sym known_is ∙ is_new)

  pub letter_fits : (answer d l ≡ New → Fits d l) → Fits v l
  letter_fits asked =
      let own' : is_in l.number d.numbers ≡ true = sym (ap (λ n. is_in n d.numbers) number_is) ∙ (sym (ap (λ (x : NodeOf). is_in number x.numbers) view_is) ∙ number_own) in
      let new' : is_in l.number d.taken ≡ false = sym (ap (λ n. is_in n d.taken) number_is) ∙ (sym known_is ∙ is_new) in
      subst (λ (x : NodeOf). Fits x l) (sym view_is) (asked (answer_new d l own' new'))

-- what was before stays in front
pub front_same : {X : Type 0} (xs ys zs : List X) (n e : ℕ) → n ≤ e → n ≤ length ys → take e xs ≡ take n ys ++ zs → take n xs ≡ take n ys
front_same xs ys zs n e le fits copied = sym (take-take n e xs le) ∙ (ap (take n) copied ∙ take_at (take n ys) zs n (length-take-le n ys fits))

-- nodes are the same where their parts are
pub node_same : (rank : ℕ) (numbers : List ℕ) (room room' : ℕ) (taken taken' : List ℕ) (cells cells' : List FrameCell) (totals totals' : List ℕ) → room ≡ room' → taken ≡ taken' → cells ≡ cells' → totals ≡ totals'
    → ◌≡◌ {A = NodeOf} (record { rank = rank; numbers = numbers; room = room; taken = taken; cells = cells; totals = totals }) (record { rank = rank; numbers = numbers; room = room'; taken = taken'; cells = cells'; totals = totals' })
node_same rank numbers room room' taken taken' cells cells' totals totals' a b d e =
    let made : ℕ → List ℕ → List FrameCell → List ℕ → NodeOf = λ (r : ℕ) (t : List ℕ) (x : List FrameCell) (s : List ℕ). record { rank = rank; numbers = numbers; room = r; taken = t; cells = x; totals = s } in
    ap (λ r. made r taken cells totals) a ∙ (ap (λ (t : List ℕ). made room' t cells totals) b ∙ (ap (λ (x : List FrameCell). made room' taken' x totals) d ∙ ap (made room' taken' cells') e))

module _ (numbers : List ℕ) (cells : List FrameCell) (filled : ℕ) (runs : List Run) (count : ℕ) (h : IsStored numbers cells filled runs count) (number : ℕ) where
  abbrev taken : List ℕ
  taken = map number_of (take count runs)

  module _ (own : is_in number numbers ≡ true) (out : is_in number taken ≡ false) where
    once_more : (n : ℕ) → times n (taken ++ number ∷ []) ≤ times n numbers
    once_more n =
        let sum : times n (taken ++ number ∷ []) ≡ times n taken + (one_if (number == n) + 0) = total-append (λ m. one_if (m == n)) taken (number ∷ []) in
        one_more (number == n) (times n taken) (times n (taken ++ number ∷ [])) (times n numbers) sum (h.once n) (λ e.
        let is : number ≡ n = eqb-true number n e in (
          subst (λ m. times m taken ≡ 0) is (absent number taken out),
          subst (λ m. 0 < times m numbers) is (present number numbers own),
        ))

    -- there is room for its run
    pub run_room : count < length runs
    run_room =
        let a = total_within (λ n. 1) (taken ++ number ∷ []) numbers once_more in
        let b : total (λ n. 1) (taken ++ number ∷ []) ≡ total (λ n. 1) taken + 1 = total-append (λ n. 1) taken (number ∷ []) in
        let d = total_ones taken in
        let e = total_ones numbers in
        let f : length taken ≡ count = length-map (take count runs) number_of ∙ length-take-le count runs h.counted in
        let g = h.room in
        omega arith

    module _ (cells' : List FrameCell) (end : ℕ) (rises : Bool) (size : length cells' ≡ length cells) (from : filled ≤ end) (to : end ≤ length cells) (front : take filled cells' ≡ take filled cells) (rising : rises ≡ true → Rises (slice_range cells' filled end)) where
      abbrev run : Run
      run = record { number = number; end = end; rises = rises }

      abbrev runs' : List Run
      runs' = set runs count run

      other : (i : ℕ) → i < count → run_at runs' i ≡ run_at runs i
      other i lt = get_or-set_other runs count i run no_run (let ne : i ≢ count = omega arith in ne)

      mine : run_at runs' count ≡ run
      mine = get_or-set_same runs count run no_run run_room

      starts : (i : ℕ) → i ≤ count → start_of runs' i ≡ start_of runs i
      starts zero le = refl
      starts (suc i) le = ap (λ (r : Run). r.end) (other i (omega arith))

      -- for each letter, and for the new one
      each : (P : ℕ → ℕ → Run → Type 0) → ((i : ℕ) → i < count → P i (start_of runs i) (run_at runs i)) → P count filled run → (i : ℕ) → i < count + 1 → P i (start_of runs' i) (run_at runs' i)
      each P old new i lt =
          ⊎_elim
          (λ e. subst (λ n. P n (start_of runs' n) (run_at runs' n)) (sym e) (subst (λ (r : Run). P count (start_of runs' count) r) (sym mine) (subst (λ s. P count s run) (sym (starts count (omega arith) ∙ h.last)) new)))
          (λ ne.
          let below : i < count = omega arith in
          subst (λ (r : Run). P i (start_of runs' i) r) (sym (other i below)) (subst (λ s. P i s (run_at runs i)) (sym (starts i (omega arith))) (old i below)))
          (cases_eq i count)

      pub taken_more : map number_of (take (count + 1) runs') ≡ taken ++ number ∷ []
      taken_more = ap (map number_of) (take_more_set runs count run run_room) ∙ map-append number_of (take count runs) (run ∷ [])

      pub stored : IsStored numbers cells' end runs' (count + 1)
      stored = record {
        room = length-set runs count run ∙ h.room;
        counted = (let n = length-set runs count run in let r = run_room in omega arith);
        inside = (let s = size in omega arith);
        once = λ n. subst (λ (ms : List ℕ). times n ms ≤ times n numbers) (sym taken_more) (once_more n);
        ordered = each (λ i s r. s ≤ r.end) h.ordered from;
        ended = each (λ i s r. r.end ≤ end) (λ i lt. (let e = h.ended i lt in let f = from in omega arith)) (let z : end ≤ end = omega arith in z);
        last = ap (start_of runs') (add-one count) ∙ ap (λ (r : Run). r.end) mine;
        rising = each (λ i s r. r.rises ≡ true → Rises (slice_range cells' s r.end))
            (λ i lt up. subst Rises (sym (same_part cells' cells filled (start_of runs i) (run_at runs i).end front (h.ended i lt))) (h.rising i lt up)) rising;
      }
