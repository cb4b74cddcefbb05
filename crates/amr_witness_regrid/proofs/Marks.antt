-- Tags marked one by one, and the list of the cells that a set has.
use Rattle.std.proofs.Common.{◌≡◌, ℕ, ◌+◌, ◌<◌, Bool, true, false, ◌&&◌, ◌||◌, refl, sym, ap, ◌∙◌, List, [], ◌∷◌, length, take, get_or}
use Rattle.std.specs.List.{list_any}
use Rattle.std.proofs.lemmas.List.Folds.{list_any_more}
use Rattle.amr_box.specs.declared.Cell.{Cell}
use Rattle.amr_box.specs.Cells.{cells_of, Extent, holds, is_same_cell}
use Rattle.amr_box.proofs.CellLists.{among_cells_of}
use Rattle.amr_def.proofs.Subcycle.{bool_cases, is_false}
use Rattle.amr_box.proofs.CellEquality.{cell_itself, cell_same, coordinates_itself, coordinates_same, is_cell}
use Rattle.amr_box.proofs.Tests.{opposite}
use Rattle.amr_witness_regrid.proofs.Filled.{among}

-- the marked cells, of those that were visited
abbrev pub marked : (Cell → Bool) → List Cell → Cell → Bool
marked f cs d = list_any (λ c. f c && is_same_cell c d) cs

pub mark_more : (f : Cell → Bool) (old new : Cell → Bool) (w : Bool) (cs : List Cell) (i : ℕ) (e : Cell) → i < length cs → ((d : Cell) → old d ≡ marked f (take i cs) d) → ((d : Cell) → new d ≡ (old d || (w && is_same_cell (get_or cs i e) d))) → w ≡ f (get_or cs i e) → (d : Cell) → new d ≡ marked f (take (i + 1) cs) d
mark_more f old new w cs i e inside before step is d =
    step d ∙ ap (λ (b : Bool). b || (w && is_same_cell (get_or cs i e) d)) (before d) ∙ ap (λ (b : Bool). marked f (take i cs) d || (b && is_same_cell (get_or cs i e) d)) is
    ∙ sym (list_any_more (λ c. f c && is_same_cell c d) cs i e inside)

differ : (c d : Cell) → is_cell d c ≡ false → is_same_cell c d ≡ false
differ c d h = is_false _ (λ (is : is_same_cell c d ≡ true). opposite (ap (λ (k : Cell). is_cell d k) (coordinates_same c d is) ∙ cell_itself d) h)

joined : (f r : Bool) → ((f && true) || (r && f)) ≡ f
joined true r = refl
joined false true = refl
joined false false = refl

left_out : (f m : Bool) → ((f && false) || m) ≡ m
left_out true m = refl
left_out false m = refl

marks : (f : Cell → Bool) (cs : List Cell) (d : Cell) → marked f cs d ≡ (among d cs && f d)
marks f [] d = refl
marks f (c ∷ cs) d =
    let rest : marked f cs d ≡ (among d cs && f d) = marks f cs d in
    bool_cases (is_cell d c)
    (λ e.
    let same : d ≡ c = cell_same d c e in
    let own : f c ≡ f d = ap f (sym same) in
    let it : is_same_cell c d ≡ true = ap (λ (k : Cell). is_same_cell c k) same ∙ coordinates_itself c in
    (λ i. (own i && it i) || rest i) ∙ joined (f d) (among d cs) ∙ sym (ap (λ (b : Bool). (b || among d cs) && f d) e))
    (λ e. (λ i. (f c && differ c d e i) || rest i) ∙ left_out (f c) (among d cs && f d) ∙ sym (ap (λ (b : Bool). (b || among d cs) && f d) e))

pub marked_box : (f : Cell → Bool) (b : Extent) (d : Cell) → marked f (cells_of b) d ≡ (holds b d && f d)
marked_box f b d = marks f (cells_of b) d ∙ ap (λ (t : Bool). t && f d) (among_cells_of b d)
