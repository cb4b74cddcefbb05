-- The nodes of a net have what its state says.
use Rattle.std.proofs.Common.{◌≡◌, ℕ, zero, suc, ◌+◌, ◌^◌, ◌<◌, ◌≤◌, ◌==◌, cond, Bool, true, false, List, [], ◌∷◌, ◌++◌, length, get_or, set, replicate, Some, None, refl, sym, ap, ◌∙◌, subst, ⊎_elim, arith, eq-eqb}
use Rattle.std.specs.Prelude.{Option, IsTrue, map, slice_index}
use Rattle.std.specs.List.{All, range_with_len}
use Rattle.std.proofs.lemmas.Bool.{cases_Bool, cases_lt, lt-ltb}
use Rattle.std.proofs.Math.ListN.{length-set, length-replicate}
use Rattle.std.proofs.lemmas.List.{get_or_past, get_or-replicate, get_or-set_same, get_or-set_other, set-get_or, map-append, map-set, flat_map_more}
use Rattle.std.proofs.lemmas.List.Elements.{All-get_or}
use Rattle.std.proofs.lemmas.List.FromFn.{length-map-range_with_len, get_or-map-range_with_len, fill_by_all}
use mathlib.Core.Logic.{dite}
use native.Mathlib.Decide.{ℕ_discrete}
use Rattle.amr_ranks.specs.declared.item.Item.{Item}
use Rattle.amr_ranks.specs.declared.item.FrameCell.{FrameCell}
use Rattle.amr_ranks.specs.declared.node.Taken.{Taken}
use Rattle.amr_ranks.specs.declared.node.Taken.TheVariants.{New, Again, Stranger}
use Rattle.amr_ranks.specs.Items.{total, cells_in, share_in, has_word, is_at}
use Rattle.amr_ranks.specs.Letters.{LetterOf, IsNet, no_letter, letter_at, letters_to, numbers_to, cells_of, shares_of}
use Rattle.amr_ranks.specs.Nodes.{NodeOf, Fits, fresh_node, is_in, answer, taking, with_letter}
use Rattle.amr_ranks.specs.Nets.{NetOf, IsConsistent, IsHeld, fresh, taken_by, letter_with, letters_taken, node_of, is_posted, with_taken, after_deliver, Moves}
use Rattle.amr_ranks.proofs.Sums.{one_if, total-append, total_ones, total_within, absent}
use Rattle.amr_ranks.proofs.Chosen.{letter_found, number_there}
use Rattle.amr_ranks.proofs.Weighs.{cells_weigh, cells_count, by_number, all_weigh, taken_weigh}
use Rattle.amr_ranks.proofs.Events.{once_more, keeps_new, taken_there, to_fits, fresh_is}

-- by itself
zero_add : (n : ℕ) → 0 + n ≡ n
zero_add n = omega arith

module _ (c : NetOf) (h : IsConsistent c) (k : ℕ) (lt : k < length c.letters) where
  abbrev l : LetterOf
  l = letter_at c.letters k

  abbrev with_number : ℕ → LetterOf
  with_number = letter_with l.to c.letters

  found : with_number l.number ≡ l
  found = letter_found c.letters h.net.numbers_differ l.to k lt refl

  -- its number is its rank's
  pub own_number : is_in l.number (numbers_to l.to c.letters) ≡ true
  own_number = ⊎_elim (λ yes. yes)
      (λ no. absurd (let a = absent l.number (numbers_to l.to c.letters) no in let b = number_there (λ (x : LetterOf). x.to == l.to) c.letters k lt (eq-eqb l.to l.to refl) in omega arith))
      (cases_Bool (is_in l.number (numbers_to l.to c.letters)))

  module _ (out : is_in l.number (taken_by c l.to) ≡ false) where
    abbrev more : List ℕ
    more = taken_by c l.to ++ l.number ∷ []

    abbrev next : NetOf
    next = record c { taken = set c.taken l.to more }

    -- beside what its rank has, the letter weighs at most as all
    beside : (g : LetterOf → ℕ) → total g (letters_taken c l.to) + g l ≤ total g (letters_to l.to c.letters)
    beside g =
        let a = taken_weigh c h l.to g (taken_by c l.to) in
        let b = total_within (by_number c h l.to g) more (numbers_to l.to c.letters) (once_more c h k lt out) in
        let d : total (by_number c h l.to g) more ≡ total (by_number c h l.to g) (taken_by c l.to) + (g (with_number l.number) + 0) = total-append (by_number c h l.to g) (taken_by c l.to) (l.number ∷ []) in
        let e = ap g found in
        let f = all_weigh c h l.to g in
        omega arith

    abbrev had : List LetterOf
    had = letters_taken c l.to

    abbrev totals : List ℕ
    totals = map (λ w. shares_of w had) (range_with_len 0 c.words)

    total_count : length totals ≡ c.words
    total_count = length-map-range_with_len (λ w. shares_of w had) 0 c.words

    total_read : (w : ℕ) → w < c.words → get_or totals w 0 ≡ shares_of w had
    total_read w w_lt = get_or-map-range_with_len (λ x. shares_of x had) 0 c.words w w 0 w_lt (zero_add w)

    pub fits : Fits (node_of c l.to) l
    fits = record {
      words_fit = subst (λ n. All (λ (i : Item). IsTrue (has_word n i)) l.items) (sym total_count) (All-get_or (λ (x : LetterOf). All (λ (i : Item). IsTrue (has_word c.words i)) x.items) c.letters k no_letter lt h.net.words_fit);
      totals_fit = λ w.
          let b = beside (λ (x : LetterOf). share_in w x.items) in
          let t : total (λ (x : LetterOf). share_in w x.items) (letters_to l.to c.letters) < 2 ^ 63 = h.net.totals_fit l.to w in
          ⊎_elim
          (λ w_lt. let r : get_or totals w 0 ≡ total (λ (x : LetterOf). share_in w x.items) had = total_read w w_lt in let z : get_or totals w 0 + share_in w l.items < 2 ^ 63 = omega arith in z)
          (λ ge. let r : get_or totals w 0 ≡ 0 = get_or_past totals w 0 (let n = total_count in omega arith) in let z : get_or totals w 0 + share_in w l.items < 2 ^ 63 = omega arith in z)
          (cases_lt w c.words);
      cells_once = λ patch slot.
          let f : FrameCell → ℕ = λ (x : FrameCell). one_if (is_at patch slot x) in
          let a : total f (cells_of had) ≡ total (λ (x : LetterOf). total f (cells_in x.items)) had = cells_weigh f had in
          let b = beside (λ (x : LetterOf). total f (cells_in x.items)) in
          let d : total f (cells_of (letters_to l.to c.letters)) ≡ total (λ (x : LetterOf). total f (cells_in x.items)) (letters_to l.to c.letters) = cells_weigh f (letters_to l.to c.letters) in
          let e : total f (cells_of (letters_to l.to c.letters)) ≤ 1 = h.net.cells_once l.to patch slot in
          let z : total f (cells_of had) + total f (cells_in l.items) ≤ 1 = omega arith in z;
      cells_fit =
          let one : FrameCell → ℕ = λ (x : FrameCell). 1 in
          let a = cells_count had in
          let b = beside (λ (x : LetterOf). total (λ (y : FrameCell). 1) (cells_in x.items)) in
          let d = cells_count (letters_to l.to c.letters) in
          let e = total_ones (cells_in l.items) in
          let f = h.net.cells_fit l.to in
          omega arith;
    }

    had_more : map with_number more ≡ had ++ l ∷ []
    had_more = map-append with_number (taken_by c l.to) (l.number ∷ []) ∙ ap (λ (x : LetterOf). had ++ x ∷ []) found

    totals_more : map (λ w. slice_index totals w + share_in w l.items) (range_with_len 0 (length totals)) ≡ map (λ w. shares_of w (map with_number more)) (range_with_len 0 c.words)
    totals_more = fill_by_all (λ w. shares_of w (map with_number more)) (map (λ w. slice_index totals w + share_in w l.items) (range_with_len 0 (length totals))) c.words 0
        (length-map-range_with_len (λ w. slice_index totals w + share_in w l.items) 0 (length totals) ∙ total_count)
        (λ w w_lt.
        let a : get_or (map (λ x. slice_index totals x + share_in x l.items) (range_with_len 0 (length totals))) w 0 ≡ get_or totals w 0 + share_in w l.items = get_or-map-range_with_len (λ x. slice_index totals x + share_in x l.items) 0 (length totals) w w 0 (let n = total_count in omega arith) (zero_add w) in
        let b = total_read w w_lt in
        let d : shares_of w (had ++ l ∷ []) ≡ shares_of w had + (share_in w l.items + 0) = total-append (λ (x : LetterOf). share_in w x.items) had (l ∷ []) in
        let e : shares_of w (map with_number more) ≡ shares_of w (had ++ l ∷ []) = ap (shares_of w) had_more in
        omega arith)

    -- what its rank has with the letter
    node_next : with_letter (node_of c l.to) l ≡ node_of next l.to
    node_next =
        let made : List ℕ → List FrameCell → List ℕ → NodeOf = λ (t : List ℕ) (x : List FrameCell) (s : List ℕ). record { rank = l.to; numbers = numbers_to l.to c.letters; room = c.room; taken = t; cells = x; totals = s } in
        let cells : cells_of had ++ cells_in l.items ≡ cells_of (map with_number more) = flat_map_more (λ (x : LetterOf). cells_in x.items) [] had l ∙ ap cells_of (sym had_more) in
        let a : with_letter (node_of c l.to) l ≡ made more (cells_of (map with_number more)) (map (λ w. slice_index totals w + share_in w l.items) (range_with_len 0 (length totals))) = ap (λ (x : List FrameCell). made more x (map (λ w. slice_index totals w + share_in w l.items) (range_with_len 0 (length totals)))) cells in
        let b : made more (cells_of (map with_number more)) (map (λ w. slice_index totals w + share_in w l.items) (range_with_len 0 (length totals))) ≡ made more (cells_of (map with_number more)) (map (λ w. shares_of w (map with_number more)) (range_with_len 0 c.words)) = ap (made more (cells_of (map with_number more))) totals_more in
        let d : made more (cells_of (map with_number more)) (map (λ w. shares_of w (map with_number more)) (range_with_len 0 c.words)) ≡ node_of next l.to
        = ap (λ (ms : List ℕ). made ms (cells_of (map with_number ms)) (map (λ w. shares_of w (map with_number ms)) (range_with_len 0 c.words))) (sym (taken_there c h k lt)) in
        a ∙ (b ∙ d)

    -- and any other
    node_other : (rank : ℕ) → (rank ≡ l.to → ⊥) → node_of c rank ≡ node_of next rank
    node_other rank ne =
        let made : List ℕ → NodeOf
        = λ (ms : List ℕ). record { rank = rank; numbers = numbers_to rank c.letters; room = c.room; taken = ms; cells = cells_of (map (letter_with rank c.letters) ms); totals = map (λ w. shares_of w (map (letter_with rank c.letters) ms)) (range_with_len 0 c.words) } in
        ap made (sym (get_or-set_other c.taken l.to rank more [] ne))

    pub nodes_next : (ns : List NodeOf) → ns ≡ map (node_of c) (range_with_len 0 (length c.taken)) → set ns l.to (with_letter (node_of c l.to) l) ≡ map (node_of next) (range_with_len 0 (length (set c.taken l.to more)))
    nodes_next ns all =
        let x : NodeOf = with_letter (node_of c l.to) l in
        let ranks : length (set c.taken l.to more) ≡ length c.taken = length-set c.taken l.to more in
        let count : length ns ≡ length c.taken = ap length all ∙ length-map-range_with_len (node_of c) 0 (length c.taken) in
        fill_by_all (node_of next) (set ns l.to x) (length (set c.taken l.to more)) (node_of c 0) (length-set ns l.to x ∙ (count ∙ sym ranks)) (λ r r_lt.
        dite (ℕ_discrete r l.to)
        (λ e. subst (λ q. get_or (set ns l.to x) q (node_of c 0) ≡ node_of next q) (sym e) (get_or-set_same ns l.to x (node_of c 0) (let f = to_fits c h k lt in omega arith) ∙ node_next))
        (λ ne. get_or-set_other ns l.to r x (node_of c 0) ne ∙ (ap (λ (xs : List NodeOf). get_or xs r (node_of c 0)) all ∙ (get_or-map-range_with_len (node_of c) 0 (length c.taken) r r (node_of c 0) (omega arith) (zero_add r) ∙ node_other r ne))))

-- a net of nodes
module _ (ls : List LetterOf) (words room : ℕ) (posted : List Bool) where
  abbrev pub seen : List NodeOf → NetOf
  seen ns = record { letters = ls; words = words; room = room; posted = posted; taken = map (λ (d : NodeOf). d.taken) ns }

  module _ (ns : List NodeOf) (h : IsHeld (seen ns) ns) (k : ℕ) (lt : k < length ls) (was : NodeOf) (at : was ≡ get_or ns (letter_at ls k).to was) where
    abbrev letter : LetterOf
    letter = letter_at ls k

    to_lt : letter.to < length (seen ns).taken
    to_lt = to_fits (seen ns) h.consistent k lt

    pub node_count : letter.to < length ns
    node_count = let a = to_lt in let n : length ns ≡ length (seen ns).taken = ap length h.all ∙ length-map-range_with_len (node_of (seen ns)) 0 (length (seen ns).taken) in omega arith

    pub was_is : was ≡ node_of (seen ns) letter.to
    was_is = at ∙ (ap (λ (xs : List NodeOf). get_or xs letter.to was) h.all ∙ get_or-map-range_with_len (node_of (seen ns)) 0 (length (seen ns).taken) letter.to letter.to was to_lt (zero_add letter.to))

    answered : (b : Bool) → is_in letter.number (taken_by (seen ns) letter.to) ≡ b → answer was letter ≡ cond b Again New
    answered b e =
        ap (λ (d : NodeOf). answer d letter) was_is
        ∙ (ap (λ t. cond t (cond (is_in letter.number (taken_by (seen ns) letter.to)) Again New) Stranger) (own_number (seen ns) h.consistent k lt) ∙ ap (λ t. cond t Again New) e)

    pub asks : answer was letter ≡ New → Fits was letter
    asks new =
        ⊎_elim
        (λ yes. absurd (let e : Again ≡ New = sym (answered true yes) ∙ new in cc))
        (λ no. subst (λ (d : NodeOf). Fits d letter) (sym was_is) (fits (seen ns) h.consistent k lt no))
        (cases_Bool (is_in letter.number (taken_by (seen ns) letter.to)))

    module _ (a : Taken) (new : NodeOf) (is : a ≡ answer was letter) (after : new ≡ taking a was letter) where
      pub delivered : IsHeld (seen (set ns letter.to new)) (set ns letter.to new) × (seen (set ns letter.to new) ≡ with_taken (seen ns) letter)
      delivered = ⊎_elim again fresh_one (cases_Bool (is_in letter.number (taken_by (seen ns) letter.to)))
        where
          again : is_in letter.number (taken_by (seen ns) letter.to) ≡ true → IsHeld (seen (set ns letter.to new)) (set ns letter.to new) × (seen (set ns letter.to new) ≡ with_taken (seen ns) letter)
          again had =
              let same : new ≡ was = after ∙ ap (λ (t : Taken). taking t was letter) (is ∙ answered true had) in
              let list : set ns letter.to new ≡ ns = ap (set ns letter.to) (same ∙ at) ∙ set-get_or ns letter.to was in
              let stays : with_taken (seen ns) letter ≡ seen ns = ap (λ b. cond b (seen ns) (record (seen ns) { taken = set (seen ns).taken letter.to (taken_by (seen ns) letter.to ++ letter.number ∷ []) })) had in (
                subst (λ (xs : List NodeOf). IsHeld (seen xs) xs) (sym list) h,
                ap seen list ∙ sym stays,
              )

          fresh_one : is_in letter.number (taken_by (seen ns) letter.to) ≡ false → IsHeld (seen (set ns letter.to new)) (set ns letter.to new) × (seen (set ns letter.to new) ≡ with_taken (seen ns) letter)
          fresh_one lacks =
              let more : List ℕ = taken_by (seen ns) letter.to ++ letter.number ∷ [] in
              let to_next : NetOf = record (seen ns) { taken = set (seen ns).taken letter.to more } in
              let new_is : new ≡ with_letter (node_of (seen ns) letter.to) letter = after ∙ (ap (λ (t : Taken). taking t was letter) (is ∙ answered false lacks) ∙ ap (λ (d : NodeOf). with_letter d letter) was_is) in
              let goes : with_taken (seen ns) letter ≡ to_next = ap (λ b. cond b (seen ns) (record (seen ns) { taken = set (seen ns).taken letter.to (taken_by (seen ns) letter.to ++ letter.number ∷ []) })) lacks in
              let taken : map (λ (d : NodeOf). d.taken) (set ns letter.to new) ≡ set (seen ns).taken letter.to more = map-set (λ (d : NodeOf). d.taken) ns letter.to new ∙ ap (λ (d : NodeOf). set (seen ns).taken letter.to d.taken) new_is in
              let now : seen (set ns letter.to new) ≡ to_next = ap (λ (t : List (List ℕ)). record { letters = ls; words = words; room = room; posted = posted; taken = t }) taken in
              let all : set ns letter.to new ≡ map (node_of to_next) (range_with_len 0 (length (set (seen ns).taken letter.to more))) = ap (set ns letter.to) new_is ∙ nodes_next (seen ns) h.consistent k lt lacks ns h.all in (
                subst (λ (d : NetOf). IsHeld d (set ns letter.to new)) (sym now) (record { consistent = keeps_new (seen ns) h.consistent k lt lacks; all = all }),
                now ∙ sym goes,
              )

  -- the same of a letter and a place that the code has read
  module _ (ns : List NodeOf) (h : IsHeld (seen ns) ns) (k : ℕ) (lt : k < length ls) (l : LetterOf) (l_is : l ≡ letter_at ls k) (to : ℕ) (to_is : to ≡ l.to) (was : NodeOf) (at : was ≡ get_or ns to was) where
    place : to ≡ (letter_at ls k).to
    place = to_is ∙ ap (λ (x : LetterOf). x.to) l_is

    at_place : was ≡ get_or ns (letter_at ls k).to was
    at_place = at ∙ ap (λ n. get_or ns n was) place

    pub rank_is : l.to ≡ was.rank
    rank_is = ap (λ (x : LetterOf). x.to) l_is ∙ sym (ap (λ (d : NodeOf). d.rank) (was_is ns h k lt was at_place))

    pub fits_there : answer was l ≡ New → Fits was l
    fits_there = subst (λ (x : LetterOf). answer was x ≡ New → Fits was x) (sym l_is) (asks ns h k lt was at_place)

    pub delivered_there : (a : Taken) (new : NodeOf) → a ≡ answer was l → new ≡ taking a was l → IsHeld (seen (set ns to new)) (set ns to new) × (seen (set ns to new) ≡ with_taken (seen ns) (letter_at ls k))
    delivered_there a new is after =
        subst (λ n. IsHeld (seen (set ns n new)) (set ns n new) × (seen (set ns n new) ≡ with_taken (seen ns) (letter_at ls k))) (sym place)
        (delivered ns h k lt was at_place a new (is ∙ ap (answer was) l_is) (after ∙ ap (taking a was) l_is))

-- a delivery that is enabled
pub moves_on : (c : NetOf) (k : ℕ) → k < length c.letters → is_posted c k ≡ true → (d : NetOf) → d ≡ with_taken c (letter_at c.letters k) → Moves (after_deliver c k) c true d
moves_on c k lt sent d is =
    let goes : after_deliver c k ≡ Some (with_taken c (letter_at c.letters k))
    = ap (λ b. cond b (cond (is_posted c k) (Some (with_taken c (letter_at c.letters k))) None) None) (lt-ltb k (length c.letters) lt) ∙ ap (λ b. cond b (Some (with_taken c (letter_at c.letters k))) None) sent in
    subst (λ (o : Option NetOf). Moves o c true d) (sym goes) (refl, is)

-- the start
none_taken : (f : ℕ → NodeOf) → ((r : ℕ) → (f r).taken ≡ []) → (a n : ℕ) → map (λ (d : NodeOf). d.taken) (map f (range_with_len a n)) ≡ replicate n []
none_taken f none a zero = refl
none_taken f none a (suc n) = ap (λ (t : List ℕ). t ∷ map (λ (d : NodeOf). d.taken) (map f (range_with_len (a + 1) n))) (none a) ∙ ap (λ (ts : List (List ℕ)). [] ∷ ts) (none_taken f none (a + 1) n)

zeros : (a n : ℕ) → ◌≡◌ {A = List ℕ} (replicate n 0) (map (λ w. 0) (range_with_len a n))
zeros a zero = refl
zeros a (suc n) = ap (λ (xs : List ℕ). 0 ∷ xs) (zeros (a + 1) n)

map_same : (f g : ℕ → NodeOf) → ((r : ℕ) → f r ≡ g r) → (xs : List ℕ) → map f xs ≡ map g xs
map_same f g same [] = refl
map_same f g same (x ∷ xs) = ap (λ (d : NodeOf). d ∷ map f xs) (same x) ∙ ap (λ (ds : List NodeOf). g x ∷ ds) (map_same f g same xs)

module _ (ls : List LetterOf) (ranks words room : ℕ) (net : IsNet ls ranks words room) where
  abbrev first : ℕ → NodeOf
  first r = fresh_node r (numbers_to r ls) words room

  abbrev start : NetOf
  start = fresh ls ranks words room

  first_is : (r : ℕ) → first r ≡ node_of start r
  first_is r =
      let made : List ℕ → NodeOf
      = λ (ms : List ℕ). record { rank = r; numbers = numbers_to r ls; room = room; taken = ms; cells = cells_of (map (letter_with r ls) ms); totals = map (λ w. shares_of w (map (letter_with r ls) ms)) (range_with_len 0 words) } in
      let none : get_or (replicate ranks []) r [] ≡ [] = ⊎_elim (λ lt. get_or-replicate ranks r [] [] lt) (λ ge. get_or_past (replicate ranks []) r [] (let n = length-replicate {A = List ℕ} ranks [] in omega arith)) (cases_lt r ranks) in
      let a : first r ≡ made [] = ap (λ (t : List ℕ). record { rank = r; numbers = numbers_to r ls; room = room; taken = []; cells = []; totals = t }) (zeros 0 words) in
      a ∙ ap made (sym none)

  pub made_held : (posted : List Bool) (ns : List NodeOf) → posted ≡ replicate (length ls) false → ns ≡ map first (range_with_len 0 ranks)
      → IsHeld (record { letters = ls; words = words; room = room; posted = posted; taken = map (λ (d : NodeOf). d.taken) ns }) ns × (record { letters = ls; words = words; room = room; posted = posted; taken = map (λ (d : NodeOf). d.taken) ns } ≡ start)
  made_held posted ns flags nodes =
      let taken : map (λ (d : NodeOf). d.taken) ns ≡ replicate ranks [] = ap (map (λ (d : NodeOf). d.taken)) nodes ∙ none_taken first (λ r. refl) 0 ranks in
      let now : record { letters = ls; words = words; room = room; posted = posted; taken = map (λ (d : NodeOf). d.taken) ns } ≡ start
      = ap (λ (p : List Bool). record { letters = ls; words = words; room = room; posted = p; taken = map (λ (d : NodeOf). d.taken) ns }) flags ∙ ap (λ (t : List (List ℕ)). record { letters = ls; words = words; room = room; posted = replicate (length ls) false; taken = t }) taken in
      let all : ns ≡ map (node_of start) (range_with_len 0 (length (replicate ranks []))) = nodes ∙ (map_same first (node_of start) first_is (range_with_len 0 ranks) ∙ ap (λ n. map (node_of start) (range_with_len 0 n)) (sym (length-replicate ranks []))) in (
        subst (λ (d : NetOf). IsHeld d ns) (sym now) (record { consistent = (fresh_is ls ranks words room net).consistent; all = all }),
        now,
      )
