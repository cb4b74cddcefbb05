-- The letters to a rank make a round: their numbers differ, no cell comes twice, and there is room.
use Rattle.std.proofs.Common.{◌≡◌, ◌∙◌, ℕ, ◌+◌, ◌*◌, ◌/◌, ◌^◌, ◌<◌, ◌≤◌, ◌==◌, cond, Bool, true, false, List, [], ◌∷◌, ◌++◌, length, refl, sym, ap, subst, arith}
use Rattle.std.specs.Prelude.{IsTrue, IfSome, filter, map}
use Rattle.std.specs.declared.option.Option.TheVariants.{Some}
use Rattle.std.specs.List.{All, range_with_len}
use Rattle.std.proofs.Math.Nat.{mul-div_cancel}
use Rattle.std.proofs.lemmas.List.Elements.{All-append, All-cons, All-head, All-nil, All-tail}
use Rattle.std.proofs.lemmas.List.FromFn.{get_or-map-range_with_len, length-map-range_with_len}
use Rattle.amr_ranks.specs.declared.item.Item.{Item}
use Rattle.amr_ranks.specs.declared.item.Item.TheVariants.{Cell, Share}
use Rattle.amr_ranks.specs.declared.item.FrameCell.{FrameCell}
use Rattle.amr_ranks.specs.Items.{cells_in, count_at, has_word, is_at, mass_at, share_in, total}
use Rattle.amr_ranks.specs.Letters.{IsNet, LetterOf, NumbersDiffer, cells_of, letter_at, no_letter, shares_of}
use Rattle.amr_ranks.proofs.Sums.{total-append, total_ones, one_if}
use Rattle.amr_letters.specs.Sources.{Sharing}
use Rattle.amr_letters.specs.Between.{AreSmallItems, IsSmallItem, between, item_of, letter_between, letters_for}
use Rattle.amr_letters.specs.Shared.{AreSmallLetters}
use Rattle.amr_letters.proofs.Known.{cells_told, once}

-- ---- letters that are chosen have no more cells

filter_less : (h : FrameCell → ℕ) (p : LetterOf → Bool) (ls : List LetterOf) → total h (cells_of (filter p ls)) ≤ total h (cells_of ls)
filter_less h p [] = let r : 0 ≤ 0 = omega arith in r
filter_less h p (l ∷ ls) = by_test (p l) (filter p ls) (filter_less h p ls)
  where
    by_test : (b : Bool) (ms : List LetterOf) → total h (cells_of ms) ≤ total h (cells_of ls) → total h (cells_of (cond b (l ∷ ms) ms)) ≤ total h (cells_in l.items ++ cells_of ls)
    by_test true ms le = let a = total-append h (cells_in l.items) (cells_of ms) in let b = total-append h (cells_in l.items) (cells_of ls) in omega (arith, le, a, b)
    by_test false ms le = let b = total-append h (cells_in l.items) (cells_of ls) in omega (arith, le, b)

-- no item is left out
pub cells_within : (items : List Item) → length (cells_in items) ≤ length items
cells_within [] = let r : 0 ≤ 0 = omega arith in r
cells_within (Cell p s m ∷ items) = let go = cells_within items in omega (arith, go)
cells_within (Share w a ∷ items) = let go = cells_within items in omega (arith, go)

pub all_within : (ls : List LetterOf) → length (cells_of ls) ≤ total (λ (l : LetterOf). length l.items) ls
all_within [] = let r : 0 ≤ 0 = omega arith in r
all_within (l ∷ ls) =
    let own = cells_within l.items in
    let rest = all_within ls in
    let count : (cs : List FrameCell) → total (λ (c : FrameCell). 1) cs ≡ length cs = total_ones in
    let both = total-append (λ (c : FrameCell). 1) (cells_in l.items) (cells_of ls) in
    let a = count (cells_in l.items ++ cells_of ls) in
    let b = count (cells_in l.items) in
    let d = count (cells_of ls) in
    omega (arith, own, rest, both, a, b, d)

-- ---- items of cells

no_share : (word : ℕ) (cs : List FrameCell) → share_in word (map item_of cs) ≡ 0
no_share word [] = refl
no_share word (c ∷ cs) = let go = no_share word cs in let r : 0 + share_in word (map item_of cs) ≡ 0 = omega (arith, go) in r

words_fit : (cs : List FrameCell) → All (λ (i : Item). IsTrue (has_word 0 i)) (map item_of cs)
words_fit [] = All-nil (λ (i : Item). IsTrue (has_word 0 i))
words_fit (c ∷ cs) = All-cons (λ (i : Item). IsTrue (has_word 0 i)) (item_of c) (map item_of cs) refl (words_fit cs)

module _ (s : Sharing) (ranks to : ℕ) where
  each : (P : LetterOf → Type 0) → ((from : ℕ) → P (letter_between s ranks to from)) → (us : List ℕ) → All P (map (letter_between s ranks to) us)
  each P h [] = All-nil P
  each P h (u ∷ us) = All-cons P (letter_between s ranks to u) (map (letter_between s ranks to) us) (h u) (each P h us)

  no_shares : (p : LetterOf → Bool) (word : ℕ) (us : List ℕ) → shares_of word (filter p (map (letter_between s ranks to) us)) ≡ 0
  no_shares p word [] = refl
  no_shares p word (u ∷ us) = by_test (p (letter_between s ranks to u)) (filter p (map (letter_between s ranks to) us)) (no_shares p word us)
    where
      by_test : (b : Bool) (ms : List LetterOf) → shares_of word ms ≡ 0 → shares_of word (cond b (letter_between s ranks to u ∷ ms) ms) ≡ 0
      by_test true ms none = let own = no_share word (between s u to) in let r : share_in word (map item_of (between s u to)) + shares_of word ms ≡ 0 = omega (arith, own, none) in r
      by_test false ms none = none

  pub count : length (letters_for s ranks to) ≡ ranks
  count = length-map-range_with_len (letter_between s ranks to) 0 ranks

  number_at : (j : ℕ) → j < ranks → (letter_at (letters_for s ranks to) j).number ≡ j * ranks + to
  number_at j lt = ap (λ (l : LetterOf). l.number) (get_or-map-range_with_len (letter_between s ranks to) 0 ranks j j no_letter lt (omega arith))

  differ : NumbersDiffer (letters_for s ranks to)
  differ j k j_lt k_lt same_to same =
      let c = count in
      let some : 0 < ranks = omega (arith, j_lt, c) in
      let a : (letter_at (letters_for s ranks to) j).number ≡ j * ranks + to = number_at j (omega (arith, j_lt, c)) in
      let b : (letter_at (letters_for s ranks to) k).number ≡ k * ranks + to = number_at k (omega (arith, k_lt, c)) in
      let sums : j * ranks + to ≡ k * ranks + to = sym a ∙ same ∙ b in
      let products : j * ranks ≡ k * ranks = omega (arith, sums) in
      sym (mul-div_cancel j some) ∙ ap (λ n. n / ranks) products ∙ mul-div_cancel k some

  pub own : All (λ (l : LetterOf). l.to ≡ to) (letters_for s ranks to)
  own = each (λ l. l.to ≡ to) (λ from. refl) (range_with_len 0 ranks)

  pub net : (room : ℕ) → total (λ (l : LetterOf). length l.items) (letters_for s ranks to) ≤ room → IsNet (letters_for s ranks to) (to + 1) 0 room
  net room fits = record {
    ranks_fit = each (λ l. l.to < to + 1) (λ from. omega arith) (range_with_len 0 ranks);
    words_fit = each (λ l. All (λ (i : Item). IsTrue (has_word 0 i)) l.items) (λ from. words_fit (between s from to)) (range_with_len 0 ranks);
    numbers_differ = differ;
    cells_once = λ rank patch slot.
        (let less = filter_less (λ (c : FrameCell). one_if (is_at patch slot c)) (λ (l : LetterOf). l.to == rank) (letters_for s ranks to) in
        let one : count_at patch slot (cells_of (letters_for s ranks to)) ≤ 1 = subst (λ (cs : List FrameCell). count_at patch slot cs ≤ 1) (sym (cells_told s ranks to (range_with_len 0 ranks))) (once s to patch slot ranks) in
        omega (arith, less, one));
    totals_fit = λ rank word. (let none = no_shares (λ (l : LetterOf). l.to == rank) word (range_with_len 0 ranks) in omega (arith, none));
    cells_fit = λ rank.
        (let less = filter_less (λ (c : FrameCell). 1) (λ (l : LetterOf). l.to == rank) (letters_for s ranks to) in
        let all = all_within (letters_for s ranks to) in
        let a = total_ones (cells_of (filter (λ (l : LetterOf). l.to == rank) (letters_for s ranks to))) in
        let b = total_ones (cells_of (letters_for s ranks to)) in
        omega (arith, less, all, a, b, fits));
  }

-- ---- masses that fit 32 bits

small_in : (items : List Item) → AreSmallItems items → All (λ (c : FrameCell). c.mass < 2 ^ 32) (cells_in items)
small_in [] all = All-nil (λ (c : FrameCell). c.mass < 2 ^ 32)
small_in (Cell p s m ∷ items) all =
    All-cons (λ (c : FrameCell). c.mass < 2 ^ 32) (record { patch = p; slot = s; mass = m }) (cells_in items) (All-head IsSmallItem (Cell p s m) items all) (small_in items (All-tail IsSmallItem (Cell p s m) items all))
small_in (Share w a ∷ items) all = small_in items (All-tail IsSmallItem (Share w a) items all)

small_of : (ls : List LetterOf) → AreSmallLetters ls → All (λ (c : FrameCell). c.mass < 2 ^ 32) (cells_of ls)
small_of [] all = All-nil (λ (c : FrameCell). c.mass < 2 ^ 32)
small_of (l ∷ ls) all =
    All-append (λ (c : FrameCell). c.mass < 2 ^ 32) (cells_in l.items) (cells_of ls) (small_in l.items (All-head (λ (x : LetterOf). AreSmallItems x.items) l ls all)) (small_of ls (All-tail (λ (x : LetterOf). AreSmallItems x.items) l ls all))

mass_small : (patch slot : ℕ) (cs : List FrameCell) → All (λ (c : FrameCell). c.mass < 2 ^ 32) cs → IfSome (mass_at patch slot cs) (λ m. m < 2 ^ 32)
mass_small patch slot [] all = record {}
mass_small patch slot (c ∷ cs) all = by_test (is_at patch slot c) (mass_small patch slot cs (All-tail (λ (x : FrameCell). x.mass < 2 ^ 32) c cs all))
  where
    by_test : (b : Bool) → IfSome (mass_at patch slot cs) (λ m. m < 2 ^ 32) → IfSome (cond b (Some c.mass) (mass_at patch slot cs)) (λ m. m < 2 ^ 32)
    by_test true go = All-head (λ (x : FrameCell). x.mass < 2 ^ 32) c cs all
    by_test false go = go

pub masses_small : (ls : List LetterOf) → AreSmallLetters ls → (patch slot : ℕ) → IfSome (mass_at patch slot (cells_of ls)) (λ m. m < 2 ^ 32)
masses_small ls all patch slot = mass_small patch slot (cells_of ls) (small_of ls all)
