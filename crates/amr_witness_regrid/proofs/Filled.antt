-- Masses of boxes, filled a cell and a box at a time.
use Rattle.std.proofs.Common.{◌≡◌, ◌≢◌, ℕ, zero, suc, ◌+◌, ◌-◌, ◌<◌, Bool, true, false, ◌||◌, cond, is_some, refl, sym, ap, ◌∙◌, arith, List, [], ◌∷◌, length, take, get_or, map, slice_index_or}
use Rattle.std.specs.declared.option.Option.{Option}
use Rattle.std.specs.declared.option.Option.TheVariants.{None, Some}
use Rattle.std.specs.Option.{unwrap_or}
use Rattle.std.specs.List.{list_any}
use Rattle.std.specs.Ordering.{eq_by_cmp}
use Rattle.std.proofs.lemmas.List.Folds.{list_any_more}
use Rattle.amr_box.specs.declared.Cell.{Cell}
use Rattle.amr_box.specs.Cells.{cell_cmp}
use Rattle.amr_def.specs.State.{Masses, State, level_at, masses_below, no_level}
use Rattle.amr_def.proofs.Subcycle.{bool_cases}
use Rattle.amr_witness.specs.declared.PlainLevel.{PlainLevel}
use Rattle.amr_witness.specs.Maps.{level_of}
use Rattle.amr_box.proofs.CellEquality.{cell_itself, cell_same}
use Rattle.amr_witness.proofs.MapLaws.{other}

abbrev pub among : Cell → List Cell → Bool
among q cs = list_any (λ c. eq_by_cmp cell_cmp q c) cs

chosen_or : (a b : Bool) (o m : Option ℕ) → cond b o (cond a o m) ≡ cond (a || b) o m
chosen_or true true o m = refl
chosen_or true false o m = refl
chosen_or false b o m = refl

pub box_more : (a b t : Bool) (o m : Option ℕ) → t ≡ (a || b) → cond b o (cond a o m) ≡ cond t o m
box_more a b t o m e = chosen_or a b o m ∙ sym (ap (λ (k : Bool). cond k o m) e)

pub cell_more : (f : Cell → ℕ) (before next next' : Masses) (cs : List Cell) (i : ℕ) (d : Cell) (w : ℕ) → i < length cs → ((q : Cell) → next q ≡ cond (among q (take i cs)) (Some (f q)) (before q))
    → ((q : Cell) → next' q ≡ cond (eq_by_cmp cell_cmp (get_or cs i d) q) (Some w) (next q)) → w ≡ f (get_or cs i d) → (q : Cell) → next' q ≡ cond (among q (take (i + 1) cs)) (Some (f q)) (before q)
cell_more f before next next' cs i d w inside left put value q =
    let k = get_or cs i d in
    let more = list_any_more (λ c. eq_by_cmp cell_cmp q c) cs i d inside in
    bool_cases (eq_by_cmp cell_cmp k q)
    (λ e.
    let same : k ≡ q = cell_same k q e in
    let back : eq_by_cmp cell_cmp q k ≡ true = ap (λ (x : Cell). eq_by_cmp cell_cmp x k) (sym same) ∙ cell_itself k in
    put q ∙ ap (λ (b : Bool). cond b (Some w) (next q)) e ∙ ap (λ (x : ℕ). Some x) (value ∙ ap f same)
    ∙ box_more (among q (take i cs)) true (among q (take (i + 1) cs)) (Some (f q)) (before q) (more ∙ ap (λ (b : Bool). among q (take i cs) || b) back))
    (λ e.
    put q ∙ ap (λ (b : Bool). cond b (Some w) (next q)) e ∙ left q
    ∙ box_more (among q (take i cs)) false (among q (take (i + 1) cs)) (Some (f q)) (before q) (more ∙ ap (λ (b : Bool). among q (take i cs) || b) (other k q e)))

-- a mass that is there exactly where a test holds
pub given_there : (o : Option ℕ) (t : Bool) → is_some o ≡ t → cond t (Some (unwrap_or o 0)) None ≡ o
given_there (Some m) true e = refl
given_there (Some m) false e = cc
given_there None true e = cc
given_there None false e = refl

-- ---- a level of a list

pub at_level : (ks : List PlainLevel) (l : ℕ) (k d : PlainLevel) → l < length ks → k ≡ get_or ks l d → slice_index_or (map level_of ks) l no_level ≡ level_of k
at_level [] l k d h e = absurd (omega arith)
at_level (x ∷ xs) zero k d h e = sym (ap level_of e)
at_level (x ∷ xs) (suc l) k d h e = at_level xs l k d (omega (arith, h)) e

pub below_is : (s : State) (l : ℕ) → l ≢ 0 → (level_at s (l - 1)).masses ≡ masses_below s l
below_is s zero h = absurd (h refl)
below_is s (suc l) h = let e : suc l - 1 ≡ l = omega arith in ap (λ i. (level_at s i).masses) e
