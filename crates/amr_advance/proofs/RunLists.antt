-- Runs of a list of patches, and totals over them.
use Rattle.std.proofs.Common.{◌≡◌, ◌∙◌, ℕ, zero, suc, ◌+◌, ◌*◌, ◌<◌, ◌≤◌, List, [], ◌∷◌, ◌++◌, length, get_or, map, take, drop, refl, sym, ap, arith}
use Rattle.std.proofs.lemmas.List.{ext_get_or, length-drop, length-map, length-take, take-append-drop}
use Rattle.amr_ghost.specs.Parts.{IsRun}
use Rattle.amr_lots.specs.Runs.{run}
use Rattle.amr_lots.proofs.Runs.{map_run, run_at, run_first, run_has, run_length, run_next, run_place}
use Rattle.amr_patch.specs.declared.patches.Patch.{Patch}
use Rattle.amr_patch.specs.Patches.{box}
use Rattle.amr_phase.specs.Plans.{total}
use Rattle.amr_phase.proofs.Sums.{total_take_drop}

-- lists of one length have runs of one length
pub same_run : {A B : Type 0} (each k : ℕ) (xs : List A) (ys : List B) → length xs ≡ length ys → length (run each k xs) ≡ length (run each k ys)
same_run each k xs ys e = omega (arith, e, length-take each (drop (k * each) xs), length-take each (drop (k * each) ys), length-drop (k * each) xs, length-drop (k * each) ys)

-- a run is one by its places, and the only one
pub run_is : (each k : ℕ) (qs : List Patch) → IsRun each k qs (run each k qs)
run_is each k qs = record { small = run_length each qs k; same = λ i q lt. run_at each qs k i q lt; there = λ i lt. run_place each qs k i lt; whole = λ i below lt. run_has each qs k i below lt }

run_count : (each k : ℕ) (qs rs us : List Patch) → IsRun each k qs rs → IsRun each k qs us → length rs ≤ length us
run_count each k qs rs us one other = by_end (length rs) refl
  where
    by_end : (n : ℕ) → length rs ≡ n → length rs ≤ length us
    by_end zero e = omega (arith, e)
    by_end (suc n) e = let small = one.small in let last = other.whole n (omega (arith, e, small)) (one.there n (omega (arith, e))) in omega (arith, e, last)

pub run_alone : (each k : ℕ) (qs us : List Patch) → IsRun each k qs us → us ≡ run each k qs
run_alone each k qs [] is = by_count (run each k qs) (run_count each k qs (run each k qs) [] (run_is each k qs) is)
  where
    by_count : (rs : List Patch) → length rs ≤ 0 → [] ≡ rs
    by_count [] le = refl
    by_count (r ∷ rs) le = absurd (omega (arith, le))
run_alone each k qs (u ∷ us) is =
    let most = run_count each k qs (run each k qs) (u ∷ us) (run_is each k qs) is in
    let least = run_count each k qs (u ∷ us) (run each k qs) is (run_is each k qs) in
    let same : length (u ∷ us) ≡ length (run each k qs) = omega (arith, most, least) in
    ext_get_or u (u ∷ us) (run each k qs) same (λ i lt. is.same i u lt ∙ sym (run_at each qs k i u (omega (arith, lt, same))))

-- numbers that are totals over the runs of a list make the total over all of it
pub total_runs : {A X : Type 0} (g : A → ℕ) (f : X → ℕ) (each : ℕ) (ys : List X) (xs : List A) → ((k : ℕ) (y : X) → k < length ys → f (get_or ys k y) ≡ total g (run each k xs)) → length xs ≤ length ys * each → total f ys ≡ total g xs
total_runs g f each [] [] h le = refl
total_runs g f each [] (x ∷ xs) h le = absurd (omega (arith, le))
total_runs g f each (y ∷ ys) xs h le =
    let first : f y ≡ total g (take each xs) = h 0 y (omega arith) ∙ ap (total g) (run_first each xs) in
    let rest : total f ys ≡ total g (drop each xs) = total_runs g f each ys (drop each xs) (λ k z lt. h (suc k) z (omega (arith, lt)) ∙ ap (total g) (run_next each xs k)) (omega (arith, le, length-drop each xs)) in
    let r : f y + total f ys ≡ total g xs = omega (arith, first, rest, total_take_drop g xs each) in r

-- and no run has more than the whole
pub total_run_most : {A : Type 0} (g : A → ℕ) (each k : ℕ) (xs : List A) → total g (run each k xs) ≤ total g xs
total_run_most g each k xs = omega (arith, total_take_drop g xs (k * each), total_take_drop g (drop (k * each) xs) each)

no_more : {A : Type 0} (xs : List A) → length xs ≤ 0 → xs ≡ []
no_more [] few = refl
no_more (x ∷ xs) few = absurd (omega (arith, few))

-- lists with the same runs are the same
pub same_runs : {A : Type 0} (each n : ℕ) (xs ys : List A) → length xs ≡ length ys → length xs ≤ n * each → ((k : ℕ) → k < n → run each k xs ≡ run each k ys) → xs ≡ ys
same_runs each zero xs ys same enough runs = no_more xs (omega (arith, enough)) ∙ sym (no_more ys (omega (arith, enough, same)))
same_runs each (suc n) xs ys same enough runs =
    let first : take each xs ≡ take each ys = sym (run_first each xs) ∙ runs 0 (omega arith) ∙ run_first each ys in
    let others : drop each xs ≡ drop each ys =
    same_runs each n (drop each xs) (drop each ys) (omega (arith, same, length-drop each xs, length-drop each ys)) (omega (arith, enough, length-drop each xs)) (λ k lt. sym (run_next each xs k) ∙ runs (suc k) (omega (arith, lt)) ∙ run_next each ys k) in
    sym (take-append-drop each xs) ∙ (λ i. first i ++ others i) ∙ take-append-drop each ys

-- patches with the same boxes have runs with the same boxes
pub run_boxes : (each k : ℕ) (ps qs : List Patch) → map box ps ≡ map box qs → map box (run each k qs) ≡ map box (run each k ps)
run_boxes each k ps qs same = map_run box each k qs ∙ ap (run each k) (sym same) ∙ sym (map_run box each k ps)

-- and are as many
pub count_of_boxes : (ps qs : List Patch) → map box ps ≡ map box qs → length ps ≡ length qs
count_of_boxes ps qs same = sym (length-map ps box) ∙ ap length same ∙ length-map qs box
