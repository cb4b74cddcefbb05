-- What a rank has weighs as its letters do.
use Rattle.std.proofs.Common.{◌≡◌, ℕ, ◌+◌, ◌≤◌, ◌==◌, Bool, true, true≢false, List, length, sym, ap, ◌∙◌, subst, ⊎_elim, arith}
use Rattle.std.specs.Prelude.{◌&&◌, map, filter}
use Rattle.std.proofs.lemmas.Bool.{eqb-true, and_parts, cases_Bool}
use Rattle.std.proofs.lemmas.List.FromFn.{get_or-map-range_with_len}
use Rattle.amr_ranks.specs.declared.item.FrameCell.{FrameCell}
use Rattle.amr_ranks.specs.Items.{total, times, cells_in, share_in, is_at, count_at}
use Rattle.amr_ranks.specs.Letters.{LetterOf, letter_at, letters_to, numbers_of, numbers_to, cells_of, shares_of}
use Rattle.amr_ranks.specs.Nodes.{is_in, is_ready}
use Rattle.amr_ranks.specs.Nets.{NetOf, IsConsistent, taken_by, letter_with, letters_taken, node_of}
use Rattle.amr_ranks.specs.Laws.{HasJust}
use Rattle.amr_ranks.proofs.Sums.{one_if, total-map, total-flat_map, total_ones, total_within, total_alike, absent, present, none_there}
use Rattle.amr_ranks.proofs.Chosen.{letter_found, filter_sum, number_absent, number_once, filter_and}
use Rattle.amr_ranks.proofs.Masses.{mass_alike}

-- of cells that come from letters each weight is the sum over the letters
pub cells_weigh : (f : FrameCell → ℕ) (ls : List LetterOf) → total f (cells_of ls) ≡ total (λ (l : LetterOf). total f (cells_in l.items)) ls
cells_weigh f ls = total-flat_map f (λ (l : LetterOf). cells_in l.items) ls

pub cells_count : (ls : List LetterOf) → length (cells_of ls) ≡ total (λ (l : LetterOf). total (λ (x : FrameCell). 1) (cells_in l.items)) ls
cells_count ls = sym (total_ones (cells_of ls)) ∙ cells_weigh (λ (x : FrameCell). 1) ls

module _ (c : NetOf) (h : IsConsistent c) (rank : ℕ) where
  abbrev pub to_rank : LetterOf → Bool
  to_rank l = l.to == rank

  -- a weight of letters, by their numbers
  abbrev pub by_number : (LetterOf → ℕ) → ℕ → ℕ
  by_number g n = g (letter_with rank c.letters n)

  pub numbers_weigh : (T : LetterOf → Bool) (g : LetterOf → ℕ) → ((l : LetterOf) → T l ≡ true → l.to ≡ rank) → total (by_number g) (numbers_of (filter T c.letters)) ≡ total g (filter T c.letters)
  numbers_weigh T g own = filter_sum T (by_number g) g c.letters (λ k lt t. ap g (letter_found c.letters h.net.numbers_differ rank k lt (own (letter_at c.letters k) t)))

  pub all_weigh : (g : LetterOf → ℕ) → total (by_number g) (numbers_to rank c.letters) ≡ total g (letters_to rank c.letters)
  all_weigh g = numbers_weigh to_rank g (λ l t. eqb-true l.to rank t)

  pub taken_weigh : (g : LetterOf → ℕ) (ms : List ℕ) → total g (map (letter_with rank c.letters) ms) ≡ total (by_number g) ms
  taken_weigh g ms = total-map g (letter_with rank c.letters) ms

  -- what was taken weighs at most as much as all letters to the rank
  pub at_most_all : (g : LetterOf → ℕ) → total g (letters_taken c rank) ≤ total g (letters_to rank c.letters)
  at_most_all g =
      let a = taken_weigh g (taken_by c rank) in
      let b = total_within (by_number g) (taken_by c rank) (numbers_to rank c.letters) (h.once rank) in
      let d = all_weigh g in
      omega arith

  -- a list of letters of which the rank has taken each number as often
  module _ (T : LetterOf → Bool) (own : (l : LetterOf) → T l ≡ true → l.to ≡ rank) (just : (n : ℕ) → times n (taken_by c rank) ≡ times n (numbers_of (filter T c.letters))) where
    weighs : (g : LetterOf → ℕ) → total g (letters_taken c rank) ≡ total g (filter T c.letters)
    weighs g = taken_weigh g (taken_by c rank) ∙ (total_alike (by_number g) (taken_by c rank) (numbers_of (filter T c.letters)) just ∙ numbers_weigh T g own)

    once_at_most : (n : ℕ) → times n (taken_by c rank) ≤ 1
    once_at_most n = subst (λ m. m ≤ 1) (sym (just n)) (number_once T n c.letters (λ j k j_lt k_lt a b d e.
        h.net.numbers_differ j k j_lt k_lt (own (letter_at c.letters j) a ∙ sym (own (letter_at c.letters k) b)) (d ∙ sym e)))

    cells_once : (patch slot : ℕ) → count_at patch slot (cells_of (letters_taken c rank)) ≤ 1
    cells_once patch slot =
        let f : FrameCell → ℕ = λ (x : FrameCell). one_if (is_at patch slot x) in
        let a : count_at patch slot (cells_of (letters_taken c rank)) ≡ total (λ (l : LetterOf). total f (cells_in l.items)) (letters_taken c rank) = cells_weigh f (letters_taken c rank) in
        let b = at_most_all (λ (l : LetterOf). total f (cells_in l.items)) in
        let d : count_at patch slot (cells_of (letters_to rank c.letters)) ≡ total (λ (l : LetterOf). total f (cells_in l.items)) (letters_to rank c.letters) = cells_weigh f (letters_to rank c.letters) in
        let e = h.net.cells_once rank patch slot in
        omega arith

    pub has_just : HasJust (node_of c rank) c.words (filter T c.letters)
    has_just = record {
      numbers = just;
      once = once_at_most;
      cells = λ patch slot. mass_alike patch slot (cells_of (letters_taken c rank)) (cells_of (filter T c.letters))
          (λ f. cells_weigh f (letters_taken c rank) ∙ (weighs (λ (l : LetterOf). total f (cells_in l.items)) ∙ sym (cells_weigh f (filter T c.letters)))) (cells_once patch slot);
      totals = λ word lt. get_or-map-range_with_len (λ w. shares_of w (letters_taken c rank)) 0 c.words word word 0 lt (let e : 0 + word ≡ word = omega arith in e) ∙ weighs (λ (l : LetterOf). share_in word l.items);
    }

  -- the letters whose numbers are taken
  abbrev pub had : LetterOf → Bool
  had l = (l.to == rank) && is_in l.number (taken_by c rank)

  numbers_once : (n : ℕ) → times n (numbers_to rank c.letters) ≤ 1
  numbers_once n = number_once to_rank n c.letters (λ j k j_lt k_lt a b d e.
      h.net.numbers_differ j k j_lt k_lt (eqb-true (letter_at c.letters j).to rank a ∙ sym (eqb-true (letter_at c.letters k).to rank b)) (d ∙ sym e))

  had_just : (n : ℕ) → times n (taken_by c rank) ≡ times n (numbers_of (filter had c.letters))
  had_just n =
      ⊎_elim
      (λ yes.
      let some = present n (taken_by c rank) yes in
      let le = h.once rank n in
      let one = numbers_once n in
      let same = filter_and to_rank (λ m. is_in m (taken_by c rank)) n yes c.letters in
      omega arith)
      (λ no. absent n (taken_by c rank) no ∙ sym (number_absent had n c.letters (λ k lt t e.
      let p = and_parts ((letter_at c.letters k).to == rank) (is_in (letter_at c.letters k).number (taken_by c rank)) t in
      true≢false (sym p.1 ∙ (ap (λ m. is_in m (taken_by c rank)) e ∙ no)))))
      (cases_Bool (is_in n (taken_by c rank)))

  pub has_taken : HasJust (node_of c rank) c.words (filter had c.letters)
  has_taken = has_just had (λ l t. let p = and_parts (l.to == rank) (is_in l.number (taken_by c rank)) t in eqb-true l.to rank p.0) had_just

  pub has_all : is_ready (node_of c rank) ≡ true → HasJust (node_of c rank) c.words (letters_to rank c.letters)
  has_all ready = has_just to_rank (λ l t. eqb-true l.to rank t) (λ n.
      ⊎_elim
      (λ yes. (let some = present n (taken_by c rank) yes in let le = h.once rank n in let one = numbers_once n in omega arith))
      (λ no. absent n (taken_by c rank) no ∙ sym (none_there (taken_by c rank) n (numbers_to rank c.letters) ready no))
      (cases_Bool (is_in n (taken_by c rank))))
