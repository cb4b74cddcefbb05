-- The lists of register cells of a level, lent to the lots that have its patches.
use Rattle.std.proofs.Common.{◌≡◌, ◌∙◌, ℕ, zero, suc, ◌<◌, List, [], ◌∷◌, length, get_or, map, refl, sym, subst, arith}
use Rattle.std.specs.Global.{Vec}
use Rattle.std.specs.List.{All, AllZip}
use Rattle.std.proofs.lemmas.List.{get_or-map, length-map}
use Rattle.amr_box.specs.Cells.{Extent}
use Rattle.amr_patch.specs.declared.patches.Patch.{Patch}
use Rattle.amr_patch.specs.Patches.{box}
use Rattle.amr_register.specs.declared.edges.EdgeCell.{EdgeCell}
use Rattle.amr_register.specs.EdgeCells.{AreEdgesIn, IsSameEdge, SameEdges, lists_of}
use Rattle.amr_register.proofs.EdgeLists.{zip_from}
use Rattle.amr_lots.specs.Runs.{run}
use Rattle.amr_lots.proofs.Runs.{map_run}
use Rattle.amr_advance.specs.Registers.{AreEdgesFor}
use Rattle.amr_advance.proofs.RunZips.{zip_length, zip_run}

-- ---- lists

-- empty ones
abbrev pub AreEmpty : List (Vec EdgeCell) → Type 0
AreEmpty vs = All (λ (v : Vec EdgeCell). v.items ≡ []) vs

pub lists_count : (vs : List (Vec EdgeCell)) → length (lists_of vs) ≡ length vs
lists_count vs = length-map vs (λ (v : Vec EdgeCell). v.items)

pub list_at : (vs : List (Vec EdgeCell)) (i : ℕ) (v : Vec EdgeCell) (d : List EdgeCell) → i < length vs → get_or (lists_of vs) i d ≡ (get_or vs i v).items
list_at vs i v d lt = get_or-map (λ (v : Vec EdgeCell). v.items) vs i v d lt

some_list : (vs : List (Vec EdgeCell)) (i : ℕ) → i < length vs → Vec EdgeCell
some_list [] i lt = absurd (omega (arith, lt))
some_list (v ∷ vs) i lt = v

-- each empty list has cells of any box
pub empty_in : (bs : List Extent) (vs : List (Vec EdgeCell)) → length vs ≡ length bs → AreEmpty vs → AllZip AreEdgesIn bs (lists_of vs)
empty_in bs vs same empty = zip_from AreEdgesIn bs (lists_of vs) (lists_count vs ∙ same) (λ i b d lt.
    let here : i < length vs = omega (arith, lt, same) in
    let v : Vec EdgeCell = some_list vs i here in
    subst (AreEdgesIn (get_or bs i b)) (sym (list_at vs i v d here ∙ empty i v here)) (λ k e below. absurd (omega (arith, below))))

-- what has the same cells as empty lists is empty
pub still_empty : (vs ws : List (Vec EdgeCell)) → SameEdges (lists_of vs) (lists_of ws) → AreEmpty vs → AreEmpty ws
still_empty [] [] same empty = empty
still_empty [] (w ∷ ws) same empty = absurd same
still_empty (v ∷ vs) [] same empty = absurd same
still_empty (v ∷ vs) (w ∷ ws) same empty =
    let first : w.items ≡ [] = no_more v.items w.items same.0 (empty 0 v (omega arith)) in
    let others : AreEmpty ws = still_empty vs ws same.1 (λ k u below. empty (suc k) u (omega (arith, below))) in
    joined first others
  where
    no_more : (xs ys : List EdgeCell) → AllZip IsSameEdge xs ys → xs ≡ [] → ys ≡ []
    no_more xs [] h is = refl
    no_more xs (y ∷ ys) h is = absurd (subst (λ zs. AllZip IsSameEdge zs (y ∷ ys)) is h)

    joined : w.items ≡ [] → AreEmpty ws → AreEmpty (w ∷ ws)
    joined first others zero d lt = first
    joined first others (suc i) d lt = others i d (omega (arith, lt))

-- ---- the lists of a level

module _ (each : ℕ) (ps : List Patch) (es : List (Vec EdgeCell)) (fit : AreEdgesFor (map box ps) (lists_of es)) where
  -- all of them, where there are any
  pub all_in : 0 < length es → AllZip AreEdgesIn (map box ps) (lists_of es)
  all_in some = by_list es fit some
    where
      by_list : (vs : List (Vec EdgeCell)) → AreEdgesFor (map box ps) (lists_of vs) → 0 < length vs → AllZip AreEdgesIn (map box ps) (lists_of vs)
      by_list [] h some = absurd (omega (arith, some))
      by_list (v ∷ vs) h some = h

  -- one for each patch
  pub as_many : 0 < length es → length es ≡ length ps
  as_many some = omega (arith, lists_count es, length-map ps box, zip_length AreEdgesIn (map box ps) (lists_of es) (all_in some))

  -- and so of each run
  pub run_in : 0 < length es → (k : ℕ) → AllZip AreEdgesIn (map box (run each k ps)) (lists_of (run each k es))
  run_in some k =
      subst (λ bs. AllZip AreEdgesIn bs (lists_of (run each k es))) (sym (map_run box each k ps))
      (subst (AllZip AreEdgesIn (run each k (map box ps))) (sym (map_run (λ (v : Vec EdgeCell). v.items) each k es)) (zip_run AreEdgesIn each k (map box ps) (lists_of es) (all_in some)))
