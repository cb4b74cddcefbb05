-- What lots are handed run by run and what comes back: the first run goes to the first lot, and the runs of the rest to the others.
use Rattle.std.proofs.Common.{◌≡◌, ◌∙◌, ℕ, zero, suc, ◌+◌, ◌<◌, List, ◌∷◌, ◌++◌, length, get_or, take, drop, sym, ap, subst, arith}
use Rattle.std.specs.Prelude.{min}
use Rattle.std.specs.Global.{Box}
use Rattle.std.proofs.lemmas.List.{length-drop, length-take}
use Rattle.amr_lots.specs.declared.lot.Lot.{Lot}
use Rattle.amr_lots.specs.Runs.{run}
use Rattle.amr_lots.proofs.Runs.{drop_first, drop_joined, run_first, run_next, take_first, take_joined}

-- `items` are those of a lot that are exchanged, and `ps` those of the level, cut at n into the first run and the others
module _ {A : Type 0} (items : Box Lot → List A) (size n : ℕ) (ps front others : List A) (count : n ≡ min size (length ps)) (front_is : front ≡ take n ps) (others_is : others ≡ drop n ps)
    (xs rest : List (Box Lot)) (lot : Box Lot) (lots : xs ≡ lot ∷ rest) (counts : (k : ℕ) (x : Box Lot) → k < length xs → length (items (get_or xs k x)) ≡ length (run size k ps)) where
  first_run : front ≡ run size 0 ps
  first_run = front_is ∙ take_first size n ps count ∙ sym (run_first size ps)

  rest_run : (k : ℕ) → run size (suc k) ps ≡ run size k others
  rest_run k = run_next size ps k ∙ ap (run size k) (sym (others_is ∙ drop_first size n ps count))

  -- the others have as many items as their runs
  pub rest_counts : (k : ℕ) (x : Box Lot) → k < length rest → length (items (get_or rest k x)) ≡ length (run size k others)
  rest_counts k x lt = subst (λ ys. length (items (get_or ys (suc k) x)) ≡ length (run size (suc k) ps)) lots (counts (suc k) x (omega (arith, lt, ap length lots))) ∙ ap length (rest_run k)

  -- and so has the first
  first_count : length (items lot) ≡ length front
  first_count = subst (λ ys. length (items (get_or ys 0 lot)) ≡ length (run size 0 ps)) lots (counts 0 lot (let e = ap length lots in omega (arith, e))) ∙ ap length (sym first_run)

  pub handed_on : (new : Box Lot) (news : List (Box Lot)) → items new ≡ front → ((k : ℕ) (x : Box Lot) → k < length rest → items (get_or news k x) ≡ run size k others)
      → (k : ℕ) (x : Box Lot) → k < length xs → items (get_or (new ∷ news) k x) ≡ run size k ps
  handed_on new news first more zero x lt = first ∙ first_run
  handed_on new news first more (suc k) x lt = more k x (omega (arith, lt, ap length lots)) ∙ sym (rest_run k)

  -- the runs put one after the other
  module _ (ys zs : List A) (first : ys ≡ items lot) (same : length zs ≡ length others) (more : (k : ℕ) (x : Box Lot) → k < length rest → run size k zs ≡ items (get_or rest k x)) where
    whole : length ys ≡ min size (length ys + length zs)
    whole = omega (arith, ap length first, first_count, same, count, ap length front_is, ap length others_is, length-take n ps, length-drop n ps)

    pub taken_back : (k : ℕ) (x : Box Lot) → k < length xs → run size k (ys ++ zs) ≡ items (get_or xs k x)
    taken_back zero x lt = run_first size (ys ++ zs) ∙ take_joined size ys zs whole ∙ first ∙ ap (λ (us : List (Box Lot)). items (get_or us 0 x)) (sym lots)
    taken_back (suc k) x lt =
        run_next size (ys ++ zs) k
        ∙ ap (run size k) (drop_joined size ys zs whole)
        ∙ more k x (omega (arith, lt, ap length lots))
        ∙ ap (λ (us : List (Box Lot)). items (get_or us (suc k) x)) (sym lots)
