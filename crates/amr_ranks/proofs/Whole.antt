-- After every list of events.
use Rattle.std.proofs.Common.{◌≡◌, ℕ, ◌+◌, ◌<◌, false, true, List, [], length, replicate, sym, ap, ◌∙◌, subst, ⊎_elim, arith}
use Rattle.std.specs.Prelude.{◌||◌, filter}
use Rattle.std.proofs.lemmas.List.{get_or-replicate, get_or_past}
use Rattle.std.proofs.Math.ListN.{length-replicate}
use Rattle.std.proofs.lemmas.Bool.{cases_lt}
use Rattle.amr_ranks.specs.declared.net.NetEvent.{NetEvent}
use Rattle.amr_ranks.specs.Letters.{LetterOf, IsNet, letter_at, letters_to}
use Rattle.amr_ranks.specs.Nodes.{is_in, is_ready}
use Rattle.amr_ranks.specs.Nets.{NetOf, fresh, taken_by, is_posted, node_of, after}
use Rattle.amr_ranks.specs.Laws.{HasJust, is_delivered, comes, delivered_to}
use Rattle.amr_ranks.proofs.Chosen.{chosen_same}
use Rattle.amr_ranks.proofs.Events.{IsOf, fresh_is, after_is}
use Rattle.amr_ranks.proofs.Came.{came}
use Rattle.amr_ranks.proofs.Weighs.{had, has_taken, has_all}

module _ (ls : List LetterOf) (ranks words room rank : ℕ) (es : List NetEvent) (net : IsNet ls ranks words room) (lt : rank < ranks) where
  abbrev start : NetOf
  start = fresh ls ranks words room

  abbrev now : NetOf
  now = after start es

  now_is : IsOf ls ranks words room now
  now_is = after_is ls ranks words room start (fresh_is ls ranks words room net) es

  none_taken : (r : ℕ) → taken_by start r ≡ []
  none_taken r = ⊎_elim (λ le. get_or-replicate ranks r [] [] le) (λ ge. get_or_past (replicate ranks []) r [] (let n = length-replicate {A = List ℕ} ranks [] in omega arith)) (cases_lt r ranks)

  none_sent : (k : ℕ) → is_posted start k ≡ false
  none_sent k = ⊎_elim (λ le. get_or-replicate (length ls) k false false le) (λ ge. get_or_past (replicate (length ls) false) k false (let n = length-replicate (length ls) false in omega arith)) (cases_lt k (length ls))

  came_just : (k : ℕ) → k < length ls → (letter_at ls k).to ≡ rank → is_in (letter_at ls k).number (taken_by now rank) ≡ is_delivered es (0 + k)
  came_just k k_lt to =
      let l : LetterOf = letter_at ls k in
      let all = came start (fresh_is ls ranks words room net).consistent es k k_lt in
      let none : is_in l.number (taken_by start l.to) ≡ false = ap (is_in l.number) (none_taken l.to) in
      ap (λ r. is_in l.number (taken_by now r)) (sym to)
      ∙ (all ∙ (ap (λ b. b || comes (is_posted start k) k es) none ∙ (ap (λ p. comes p k es) (none_sent k) ∙ ap (is_delivered es) (let e : k ≡ 0 + k = omega arith in e))))

  pub delivered_law : HasJust (node_of now rank) words (delivered_to rank ls es)
  delivered_law =
      let has = has_taken now now_is.consistent rank in
      let same : filter (had now now_is.consistent rank) ls ≡ delivered_to rank ls es = chosen_same (is_delivered es) rank (λ n. is_in n (taken_by now rank)) 0 ls came_just in
      subst (HasJust (node_of now rank) words) (ap (filter (had now now_is.consistent rank)) now_is.letters ∙ same)
      (subst (λ w. HasJust (node_of now rank) w (filter (had now now_is.consistent rank) now.letters)) now_is.words has)

  pub ready_law : is_ready (node_of now rank) ≡ true → HasJust (node_of now rank) words (letters_to rank ls)
  ready_law ready =
      subst (λ (xs : List LetterOf). HasJust (node_of now rank) words (letters_to rank xs)) now_is.letters
      (subst (λ w. HasJust (node_of now rank) w (letters_to rank now.letters)) now_is.words (has_all now now_is.consistent rank ready))
