-- The parts of a regrid, a level at a time.
use Rattle.std.proofs.Common.{◌≡◌, ◌≢◌, ℕ, zero, suc, ◌+◌, ◌-◌, ◌<◌, Bool, true, false, refl, sym, ap, ◌∙◌, arith, add-one, List, [], ◌∷◌, length, map}
use Rattle.std.specs.Prelude.{◌==◌}
use Rattle.std.specs.Global.{Vec}
use Rattle.std.proofs.lemmas.Bool.Decides.{nat_tests}
use Rattle.amr_box.specs.declared.Cell.{Cell}
use Rattle.amr_box.specs.Cells.{Extent}
use Rattle.amr_def.specs.declared.problem.Problem.{Problem}
use Rattle.amr_def.specs.declared.problem.Row.{Row}
use Rattle.amr_def.specs.Cluster.{cluster}
use Rattle.amr_def.specs.Domain.{refined}
use Rattle.amr_def.specs.NewBoxes.{first_boxes, new_boxes, wanted_blocks}
use Rattle.amr_def.specs.Regrid.{first_masses, new_level_count, refill, refilled, regrid, regridded_levels, rest_of, regrid_by}
use Rattle.amr_def.specs.State.{Level, Masses, State}
use Rattle.amr_def.specs.Tags.{is_tagged}

-- ---- refilled levels

pub refill_none : (m : Masses) (olds : List Level) (boxes : List (List Extent)) → boxes ≡ [] → [] ≡ refill m olds boxes
unfolding refill
refill_none m olds boxes none = ap (refill m olds) (sym none)

pub refill_empty : (m : Masses) (olds : List Level) (boxes more : List (List Extent)) (here : List Extent) → boxes ≡ here ∷ more → here ≡ [] → [] ≡ refill m olds boxes
unfolding refill
refill_empty m olds boxes more here parts empty = ap (λ bs. refill m olds (bs ∷ more)) (sym empty) ∙ ap (refill m olds) (sym parts)

refill_first : (m new : Masses) (olds : List Level) (here : List Extent) (more : List (List Extent)) → 0 < length here → new ≡ refilled m (first_masses olds) here → record { boxes = here; masses = new } ∷ refill new (rest_of olds) more ≡ refill m olds (here ∷ more)
unfolding refill
refill_first m new olds [] more some is = absurd (omega arith)
refill_first m new olds (b ∷ bs) more some is = λ i. record { boxes = b ∷ bs; masses = is i } ∷ refill (is i) (rest_of olds) more

pub refill_more : (m new : Masses) (olds : List Level) (boxes more : List (List Extent)) (here : List Extent) → boxes ≡ here ∷ more → 0 < length here → new ≡ refilled m (first_masses olds) here → record { boxes = here; masses = new } ∷ refill new (rest_of olds) more ≡ refill m olds boxes
refill_more m new olds boxes more here parts some is = refill_first m new olds here more some is ∙ ap (refill m olds) (sym parts)

-- ---- new boxes

pub no_boxes : (p : Problem) (tagged : ℕ → Cell → Bool) (n l : ℕ) → n ≡ 0 → [] ≡ new_boxes p tagged n l
unfolding new_boxes
no_boxes p tagged n l none = ap (λ k. new_boxes p tagged k l) (sym none)

pub boxes_more : (p : Problem) (tagged : ℕ → Cell → Bool) (n l : ℕ) (bs : List Extent) (finer : List (List Extent)) → n ≢ 0 → finer ≡ new_boxes p tagged (n - 1) (l + 1)
    → bs ≡ map (refined p.blocking) (cluster p.efficiency p.min_width (wanted_blocks p tagged l (first_boxes finer))) → bs ∷ finer ≡ new_boxes p tagged n l
unfolding new_boxes
boxes_more p tagged zero l bs finer some is here = absurd (some refl)
boxes_more p tagged (suc n) l bs finer some is here =
    let less : suc n - 1 ≡ n = omega arith in
    let e : finer ≡ new_boxes p tagged n (suc l) = is ∙ (λ i. new_boxes p tagged (less i) (add-one l i)) in
    (λ i. here i ∷ finer) ∙ (λ i. map (refined p.blocking) (cluster p.efficiency p.min_width (wanted_blocks p tagged l (first_boxes (e i)))) ∷ e i)

-- ---- the state

pub regrid_is : (p : Problem) (s : State) (rows : List Row) (levels : List Level) → rows ≡ s.rows → levels ≡ regridded_levels s.levels (new_boxes p (is_tagged p s) (new_level_count p s) 0) → record { step = s.step; rows = rows; levels = levels } ≡ regrid p s
unfolding regrid regrid_by
regrid_is p s rows levels same is = λ i. record { step = s.step; rows = same i; levels = is i }

-- ---- empty lists

pub nil_of : (bs : List (Vec Extent)) → length bs ≡ 0 → bs ≡ []
nil_of [] e = refl
nil_of (b ∷ bs) e = absurd (omega (arith, e))

zero_of : (n : ℕ) → true ≡ (n == 0) → n ≡ 0
zero_of n e = grind (arith, nat_tests)

pub items_empty : (xs : List Extent) → true ≡ (length xs == 0) → xs ≡ []
items_empty [] e = refl
items_empty (x ∷ xs) e = absurd (omega (arith, zero_of (length (x ∷ xs)) e))

pub items_some : (xs : List Extent) → false ≡ (length xs == 0) → 0 < length xs
items_some [] e = cc
items_some (x ∷ xs) e = omega arith
