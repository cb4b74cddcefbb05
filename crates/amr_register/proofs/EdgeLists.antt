-- Lists of edge cells, place by place.
use Rattle.std.proofs.Common.{◌≡◌, ◌∙◌, ℕ, zero, suc, ◌<◌, true, List, [], ◌∷◌, length, get_or, refl, sym, ap, subst, arith}
use Rattle.std.specs.List.{All, AllZip}
use Rattle.amr_box.specs.declared.Cell.{Cell}
use Rattle.amr_box.specs.Cells.{Extent, holds}
use Rattle.amr_def.specs.declared.problem.Problem.{Problem}
use Rattle.amr_def.specs.Domain.{Domain}
use Rattle.amr_def.specs.State.{Masses, is_covered}
use Rattle.amr_patch.specs.declared.patches.Patch.{Patch}
use Rattle.amr_register.specs.declared.edges.EdgeCell.{EdgeCell}
use Rattle.amr_register.specs.declared.sides.CoveredSides.{CoveredSides}
use Rattle.amr_register.specs.RegisterCells.{is_register_cell}
use Rattle.amr_register.specs.Beside.{HasSides}
use Rattle.amr_register.specs.EdgeCells.{AreEdges, AreEdgesIn, HasNet, HaveNets, IsEdge, IsSameEdge, SameEdges}
use Rattle.amr_register.proofs.Taken.{same_at}

pub first_of : {A : Type 0} (xs : List A) (k : ℕ) → k < length xs → A
first_of [] k lt = absurd (omega arith)
first_of (x ∷ xs) k lt = x

-- ---- two lists

pub zip_at : {A B : Type 0} (R : A → B → Type 0) (xs : List A) (ys : List B) (k : ℕ) (d : A) (e : B) → AllZip R xs ys → k < length xs → R (get_or xs k d) (get_or ys k e)
zip_at R [] ys k d e h lt = absurd (omega arith)
zip_at R (x ∷ xs) [] k d e h lt = absurd h
zip_at R (x ∷ xs) (y ∷ ys) zero d e h lt = h.0
zip_at R (x ∷ xs) (y ∷ ys) (suc k) d e h lt = zip_at R xs ys k d e h.1 (omega arith)

pub zip_from : {A B : Type 0} (R : A → B → Type 0) (xs : List A) (ys : List B) → length ys ≡ length xs → ((k : ℕ) (d : A) (e : B) → k < length xs → R (get_or xs k d) (get_or ys k e)) → AllZip R xs ys
zip_from R [] [] n h = tt
zip_from R [] (y ∷ ys) n h = absurd (omega arith)
zip_from R (x ∷ xs) [] n h = absurd (omega arith)
zip_from R (x ∷ xs) (y ∷ ys) n h = (h 0 x y (omega arith), zip_from R xs ys (omega arith) (λ k d e lt. h (suc k) d e (omega arith)))

pub zip_weak : {A B : Type 0} (R S : A → B → Type 0) (xs : List A) (ys : List B) → ((x : A) (y : B) → R x y → S x y) → AllZip R xs ys → AllZip S xs ys
zip_weak R S [] [] f h = tt
zip_weak R S [] (y ∷ ys) f h = absurd h
zip_weak R S (x ∷ xs) [] f h = absurd h
zip_weak R S (x ∷ xs) (y ∷ ys) f h = (f x y h.0, zip_weak R S xs ys f h.1)

pub zip_twice : {A B C : Type 0} (R : A → B → Type 0) (S : B → C → Type 0) (T : A → C → Type 0) (xs : List A) (ys : List B) (zs : List C) → ((x : A) (y : B) (z : C) → R x y → S y z → T x z) → AllZip R xs ys → AllZip S ys zs → AllZip T xs zs
zip_twice R S T [] [] [] f h k = tt
zip_twice R S T [] [] (z ∷ zs) f h k = absurd k
zip_twice R S T [] (y ∷ ys) zs f h k = absurd h
zip_twice R S T (x ∷ xs) [] zs f h k = absurd h
zip_twice R S T (x ∷ xs) (y ∷ ys) [] f h k = absurd k
zip_twice R S T (x ∷ xs) (y ∷ ys) (z ∷ zs) f h k = (f x y z h.0 k.0, zip_twice R S T xs ys zs f h.1 k.1)

pub zip_same : {A : Type 0} (R : A → A → Type 0) (xs : List A) → ((x : A) → R x x) → AllZip R xs xs
zip_same R [] f = tt
zip_same R (x ∷ xs) f = (f x, zip_same R xs f)

all_with : {A : Type 0} (P : A → Type 0) (x : A) (xs : List A) → P x → All P xs → All P (x ∷ xs)
all_with P x xs h all zero d lt = h
all_with P x xs h all (suc k) d lt = all k d (omega (arith, lt))

-- what holds of each of the first holds of each of the second
pub all_along : {A B : Type 0} (P : A → Type 0) (Q : B → Type 0) (R : A → B → Type 0) (xs : List A) (ys : List B) → ((x : A) (y : B) → R x y → P x → Q y) → AllZip R xs ys → All P xs → All Q ys
all_along P Q R [] [] f h all = λ k d lt. absurd (omega (arith, lt))
all_along P Q R [] (y ∷ ys) f h all = absurd h
all_along P Q R (x ∷ xs) [] f h all = absurd h
all_along P Q R (x ∷ xs) (y ∷ ys) f h all = all_with Q y ys (f x y h.0 (all 0 x (omega arith))) (all_along P Q R xs ys f h.1 (λ i e below. all (suc i) e (omega (arith, below))))

-- ---- the same cells with the same sides and numbers

one_same : (a : EdgeCell) → IsSameEdge a a
one_same a = record { cell = refl; sides = refl; number = refl }

one_twice : (a b c : EdgeCell) → IsSameEdge a b → IsSameEdge b c → IsSameEdge a c
one_twice a b c h k = record { cell = k.cell ∙ h.cell; sides = k.sides ∙ h.sides; number = k.number ∙ h.number }

pub same_edges_itself : (xs : List (List EdgeCell)) → SameEdges xs xs
same_edges_itself xs = zip_same (AllZip IsSameEdge) xs (λ es. zip_same IsSameEdge es one_same)

pub same_edges_twice : (xs ys zs : List (List EdgeCell)) → SameEdges xs ys → SameEdges ys zs → SameEdges xs zs
same_edges_twice xs ys zs h k = zip_twice (AllZip IsSameEdge) (AllZip IsSameEdge) (AllZip IsSameEdge) xs ys zs (λ a b c. zip_twice IsSameEdge IsSameEdge IsSameEdge a b c one_twice) h k

one_net : (p : Problem) (l : ℕ) (q : Patch) (a b : EdgeCell) → HasNet p l q a b → IsSameEdge a b
one_net p l q a b h = record { cell = h.cell; sides = h.sides; number = h.number }

pub same_edges : (p : Problem) (l : ℕ) (qs : List Patch) (xs ys : List (List EdgeCell)) → HaveNets p l qs xs ys → SameEdges xs ys
same_edges p l qs xs ys h =
    zip_from (AllZip IsSameEdge) xs ys (h.after_count ∙ sym h.before_count) (λ k d e lt.
    let inside : k < length qs = omega (arith, lt, h.before_count) in
    let q : Patch = first_of qs k inside in
    let each : AllZip IsSameEdge (get_or xs k []) (get_or ys k []) = zip_weak (HasNet p l (get_or qs k q)) IsSameEdge (get_or xs k []) (get_or ys k []) (one_net p l (get_or qs k q)) (h.each k q inside) in
    subst (λ (es : List EdgeCell). AllZip IsSameEdge es (get_or ys k e)) (same_at xs k [] d lt)
    (subst (λ (bs : List EdgeCell). AllZip IsSameEdge (get_or xs k []) bs) (same_at ys k [] e (omega (arith, lt, h.before_count, h.after_count))) each))

-- lists in boxes stay there
pub kept_in : (boxes : List Extent) (xs ys : List (List EdgeCell)) → SameEdges xs ys → AllZip AreEdgesIn boxes xs → AllZip AreEdgesIn boxes ys
kept_in boxes xs ys same h = zip_twice AreEdgesIn (AllZip IsSameEdge) AreEdgesIn boxes xs ys each h same
  where
    each : (b : Extent) (es fs : List EdgeCell) → AreEdgesIn b es → AllZip IsSameEdge es fs → AreEdgesIn b fs
    each b es fs inside alike = all_along (λ (e : EdgeCell). holds b e.cell ≡ true) (λ (e : EdgeCell). holds b e.cell ≡ true) IsSameEdge es fs (λ x y s t. ap (holds b) s.cell ∙ t) alike inside

-- edges stay edges
pub kept_edges : (d : Domain) (m fine : Masses) (xs ys : List (List EdgeCell)) → SameEdges xs ys → AreEdges d m fine xs → AreEdges d m fine ys
kept_edges d m fine xs ys same h = all_along (All (IsEdge d m fine)) (All (IsEdge d m fine)) (AllZip IsSameEdge) xs ys each same h
  where
    one : (a b : EdgeCell) → IsSameEdge a b → IsEdge d m fine a → IsEdge d m fine b
    one a b s e = record {
      cell = ap (is_register_cell d m fine) s.cell ∙ e.cell;
      sides = subst (λ (c : Cell). HasSides d (is_covered fine) c b.sides) (sym s.cell) (subst (λ (t : CoveredSides). HasSides d (is_covered fine) a.cell t) (sym s.sides) e.sides);
    }

    each : (es fs : List EdgeCell) → AllZip IsSameEdge es fs → All (IsEdge d m fine) es → All (IsEdge d m fine) fs
    each es fs alike all = all_along (IsEdge d m fine) (IsEdge d m fine) IsSameEdge es fs one alike all

-- ---- runs one after the other
