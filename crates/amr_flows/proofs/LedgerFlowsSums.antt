-- Sums over faces that pass a test, over the sides of a box, and over the patches that hold some cells.
use Rattle.std.proofs.Common.{◌≡◌, ℕ, zero, suc, ◌+◌, ◌-◌, ◌*◌, ◌<◌, ◌≤◌, Bool, true, false, ◌||◌, cond, List, [], ◌∷◌, refl, sym, ap, ◌∙◌, add-zero, add-suc, arith}
use Rattle.amr_box.specs.declared.Cell.{Cell}
use Rattle.amr_box.specs.declared.Face.{Face}
use Rattle.amr_box.specs.Cells.{Extent, height, holds, width}
use Rattle.amr_def.specs.Ledger.{sum_to}
use Rattle.amr_laws.proofs.Sides.{sum_add, sum_same}
use Rattle.amr_patch.specs.declared.patches.Patch.{Patch}
use Rattle.amr_patch.specs.Patches.{ArePatchesApart, box, in_patches}
use Rattle.amr_patch.proofs.Lookups.{in_none}
use Rattle.amr_phase.specs.Plans.{total}
use Rattle.amr_faces.specs.Faces.{passing, x_end, y_end}
use Rattle.amr_layout.specs.Surroundings.{edge_count, edge_face, x_start, y_start}
use Rattle.amr_layout.proofs.Totals.{total_append}
use Rattle.amr_layout.proofs.Edges.{edge_east, edge_north, edge_south, edge_west}

-- ---- over places

pub sum_none : (f : ℕ → ℕ) (n : ℕ) → ((i : ℕ) → i < n → f i ≡ 0) → sum_to f n ≡ 0
sum_none f zero h = refl
sum_none f (suc n) h = let last = h n (omega arith) in let rest = sum_none f n (λ i lt. h i (omega arith)) in omega (arith, last, rest)

pub sum_split : (f : ℕ → ℕ) (a b : ℕ) → sum_to f (a + b) ≡ sum_to f a + sum_to (λ i. f (a + i)) b
sum_split f a zero = let whole : sum_to f (a + 0) ≡ sum_to f a = ap (sum_to f) (add-zero a) in omega (arith, whole)
sum_split f a (suc b) =
    let whole : sum_to f (a + suc b) ≡ sum_to f (a + b) + f (a + b) = ap (sum_to f) (add-suc a b) in
    let before = sum_split f a b in
    omega (arith, whole, before)

-- over a run of h places from a on, as over all n places where it is 0 at all others
pub sum_run : (f g : ℕ → ℕ) (a h n : ℕ) → a + h ≤ n → ((j : ℕ) → j < h → f j ≡ g (a + j)) → ((y : ℕ) → y < a → g y ≡ 0) → ((y : ℕ) → a + h ≤ y → g y ≡ 0) → sum_to f h ≡ sum_to g n
sum_run f g a h n fits same before after =
    let late : ℕ = n - (a + h) in
    let parts : n ≡ (a + h) + late = omega (arith, fits) in
    let whole : sum_to g n ≡ sum_to g ((a + h) + late) = ap (sum_to g) parts in
    let cut = sum_split g (a + h) late in
    let first = sum_split g a h in
    let none = sum_none g a before in
    let rest = sum_none (λ i. g ((a + h) + i)) late (λ i lt. after ((a + h) + i) (omega arith)) in
    let run = sum_same f (λ j. g (a + j)) h same in
    omega (arith, whole, cut, first, none, rest, run)

-- over the faces that pass a test
pub total_passing : (size : Face → ℕ) (test : Face → Bool) (g : ℕ → Face) (n : ℕ) → total size (passing test g n) ≡ sum_to (λ i. cond (test (g i)) (size (g i)) 0) n
total_passing size test g zero = refl
total_passing size test g (suc n) = total_append size (passing test g n) (cond (test (g n)) (g n ∷ []) []) ∙ (λ i. total_passing size test g n i + one (test (g n)) i)
  where
    one : (t : Bool) → total size (cond t (g n ∷ []) []) ≡ cond t (size (g n)) 0
    one true = omega arith
    one false = refl

-- over the faces on the edges of a box, side by side
pub sum_edges : (f : Face → ℕ) (b : Extent)
    → sum_to (λ n. f (edge_face b n)) (edge_count b) ≡ (sum_to (λ j. f (x_start b j)) (height b) + sum_to (λ j. f (x_end b j)) (height b)) + (sum_to (λ i. f (y_start b i)) (width b) + sum_to (λ i. f (y_end b i)) (width b))
sum_edges f b =
    let h : ℕ = height b in
    let w : ℕ = width b in
    let g : ℕ → ℕ = λ n. f (edge_face b n) in
    let count : edge_count b ≡ ((h + h) + w) + w = omega arith in
    let whole : sum_to g (edge_count b) ≡ sum_to g (((h + h) + w) + w) = ap (sum_to g) count in
    let cut_3 = sum_split g ((h + h) + w) w in
    let cut_2 = sum_split g (h + h) w in
    let cut_1 = sum_split g h h in
    let west = sum_same g (λ j. f (x_start b j)) h (λ j lt. ap f (edge_west b j lt)) in
    let east = sum_same (λ j. g (h + j)) (λ j. f (x_end b j)) h (λ j lt. ap f (edge_east b (h + j) (omega arith) (omega (arith, lt)) ∙ ap (x_end b) (back h j))) in
    let south = sum_same (λ i. g ((h + h) + i)) (λ i. f (y_start b i)) w (λ i lt. ap f (edge_south b ((h + h) + i) (omega arith) (omega (arith, lt)) ∙ ap (y_start b) (back_2 h i))) in
    let north = sum_same (λ i. g (((h + h) + w) + i)) (λ i. f (y_end b i)) w (λ i lt. ap f (edge_north b (((h + h) + w) + i) (omega arith) ∙ ap (y_end b) (back_3 h w i))) in
    omega (arith, whole, cut_3, cut_2, cut_1, west, east, south, north)
  where
    back : (h j : ℕ) → (h + j) - h ≡ j
    back h j = omega arith

    back_2 : (h i : ℕ) → ((h + h) + i) - 2 * h ≡ i
    back_2 h i = omega arith

    back_3 : (h w i : ℕ) → (((h + h) + w) + i) - (2 * h + w) ≡ i
    back_3 h w i = omega arith

-- ---- over patches

-- sums one in the other, in either order
pub total_sums : {X : Type 0} (f : X → ℕ → ℕ) (n : ℕ) (xs : List X) → total (λ x. sum_to (f x) n) xs ≡ sum_to (λ y. total (λ x. f x y) xs) n
total_sums f n [] = sym (sum_none (λ y. 0) n (λ i lt. refl))
total_sums f n (x ∷ xs) = ap (λ t. sum_to (f x) n + t) (total_sums f n xs) ∙ sym (sum_add (f x) (λ y. total (λ z. f z y) xs) n)

-- a cell is in one patch at most
pub one_holder : (ps : List Patch) → ArePatchesApart ps → (c : Cell) (v : ℕ) → total (λ (q : Patch). cond (holds (box q) c) v 0) ps ≡ cond (in_patches ps c) v 0
one_holder [] apart c v = refl
one_holder (q ∷ ps) apart c v =
    from (holds (box q) c) refl (one_holder ps (λ i j d lt k. apart (suc i) (suc j) d (omega arith) (omega arith)) c v)
  where
    from : (t : Bool) → holds (box q) c ≡ t → total (λ (r : Patch). cond (holds (box r) c) v 0) ps ≡ cond (in_patches ps c) v 0 → cond t v 0 + total (λ (r : Patch). cond (holds (box r) c) v 0) ps ≡ cond (t || in_patches ps c) v 0
    from true e rest =
        let none : in_patches ps c ≡ false = in_none ps c (λ k d lt h. apart 0 (suc k) d (omega arith) (omega arith) c e h) in
        let others : cond (in_patches ps c) v 0 ≡ 0 = ap (λ (u : Bool). cond u v 0) none in
        omega (arith, rest, others)
    from false e rest = omega (arith, rest)

-- over the patches, of sums over those of n cells that a patch holds
pub cells_total : (ps : List Patch) → ArePatchesApart ps → (at : ℕ → Cell) (v : ℕ → ℕ) (n : ℕ) → total (λ (q : Patch). sum_to (λ y. cond (holds (box q) (at y)) (v y) 0) n) ps ≡ sum_to (λ y. cond (in_patches ps (at y)) (v y) 0) n
cells_total ps apart at v n =
    total_sums (λ (q : Patch) y. cond (holds (box q) (at y)) (v y) 0) n ps
    ∙ sum_same (λ y. total (λ (q : Patch). cond (holds (box q) (at y)) (v y) 0) ps) (λ y. cond (in_patches ps (at y)) (v y) 0) n (λ y lt. one_holder ps apart (at y) (v y))
