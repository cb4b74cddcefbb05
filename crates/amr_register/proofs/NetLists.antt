-- Net flows that are found list by list.
use Rattle.std.proofs.Common.{◌≡◌, ◌∙◌, ℕ, ◌<◌, ◌≤◌, List, [], length, map, get_or, sym, ap, subst, arith}
use Rattle.std.specs.List.{All, AllZip}
use Rattle.std.specs.Global.{Vec}
use Rattle.std.proofs.lemmas.List.{get_or-map, length-map}
use Rattle.std.proofs.lemmas.Slice.Zip.{AllZip-long}
use Rattle.amr_box.specs.Cells.{Extent}
use Rattle.amr_def.specs.declared.problem.Problem.{Problem}
use Rattle.amr_patch.specs.declared.patches.Patch.{Patch}
use Rattle.amr_patch.specs.Patches.{box}
use Rattle.amr_register.specs.declared.edges.EdgeCell.{EdgeCell}
use Rattle.amr_register.specs.EdgeCells.{AreEdgesIn, HasNet, HaveNets, IsSmallNet, lists_of}
use Rattle.amr_register.proofs.Changed.{AreChanged}
use Rattle.amr_register.proofs.EdgeLists.{first_of, zip_at}

-- each box has a list of cells
pub boxes_count : (qs : List Patch) (xs : List (List EdgeCell)) → AllZip AreEdgesIn (map box qs) xs → length xs ≡ length qs
boxes_count qs xs h = AllZip-long AreEdgesIn (map box qs) xs h ∙ length-map qs box

pub list_in_box : (qs : List Patch) (xs : List (List EdgeCell)) (k : ℕ) (q : Patch) → AllZip AreEdgesIn (map box qs) xs → k < length qs → AreEdgesIn (box (get_or qs k q)) (get_or xs k [])
list_in_box qs xs k q h lt = subst (λ (b : Extent). AreEdgesIn b (get_or xs k [])) (get_or-map box qs k q (box q) lt) (zip_at AreEdgesIn (map box qs) xs k (box q) [] h (omega (arith, lt, length-map qs box)))

pub lists_count : (qs : List Patch) (vs : List (Vec EdgeCell)) → AllZip AreEdgesIn (map box qs) (lists_of vs) → length vs ≡ length qs
lists_count qs vs h = sym (length-map vs (λ (v : Vec EdgeCell). v.items)) ∙ boxes_count qs (lists_of vs) h

pub list_inside : (qs : List Patch) (vs : List (Vec EdgeCell)) (k : ℕ) (q : Patch) (v : Vec EdgeCell) → AllZip AreEdgesIn (map box qs) (lists_of vs) → k < length qs → AreEdgesIn (box (get_or qs k q)) (get_or vs k v).items
list_inside qs vs k q v h lt = subst (AreEdgesIn (box (get_or qs k q))) (get_or-map (λ (w : Vec EdgeCell). w.items) vs k v [] (omega (arith, lt, lists_count qs vs h))) (list_in_box qs (lists_of vs) k q h lt)

-- list k of all lists
pub lists_number : (vs : List (Vec EdgeCell)) (k : ℕ) → k < length vs → k < length (lists_of vs)
lists_number vs k lt = omega (arith, lt, length-map vs (λ (v : Vec EdgeCell). v.items))

pub list_of : (vs : List (Vec EdgeCell)) (k : ℕ) (v : Vec EdgeCell) → k < length vs → v ≡ get_or vs k v → v.items ≡ get_or (lists_of vs) k []
list_of vs k v lt is = ap (λ (w : Vec EdgeCell). w.items) is ∙ sym (get_or-map (λ (w : Vec EdgeCell). w.items) vs k v [] lt)

-- a list before and after, whose place is k
abbrev pub IsFound : Problem → ℕ → List Patch → ℕ → Vec EdgeCell → Vec EdgeCell → Type 0
IsFound p l qs k v w = ((q : Patch) → AllZip (HasNet p l (get_or qs k q)) v.items w.items) × All IsSmallNet w.items

pub all_found : (p : Problem) (l : ℕ) (qs : List Patch) (vs ws : List (Vec EdgeCell)) (n : ℕ) → length vs ≡ length qs → length qs ≤ n → AreChanged (IsFound p l qs) vs ws n → HaveNets p l qs (lists_of vs) (lists_of ws)
all_found p l qs vs ws n count all h = record {
  before_count = length-map vs (λ (v : Vec EdgeCell). v.items) ∙ count;
  after_count = length-map ws (λ (v : Vec EdgeCell). v.items) ∙ h.count ∙ count;
  each = λ k q lt.
      let there : k < length vs = omega (arith, lt, count) in
      let v = first_of vs k there in
      subst (λ (es : List EdgeCell). AllZip (HasNet p l (get_or qs k q)) es (get_or (lists_of ws) k [])) (sym (get_or-map (λ (w : Vec EdgeCell). w.items) vs k v [] there))
      (subst (AllZip (HasNet p l (get_or qs k q)) (get_or vs k v).items) (sym (get_or-map (λ (w : Vec EdgeCell). w.items) ws k v [] (omega (arith, there, h.count)))) ((h.done k v v (omega (arith, lt, all)) there).0 q));
}

pub all_small : (p : Problem) (l : ℕ) (qs : List Patch) (vs ws : List (Vec EdgeCell)) (n : ℕ) → length vs ≡ length qs → length qs ≤ n → AreChanged (IsFound p l qs) vs ws n → All (All IsSmallNet) (lists_of ws)
all_small p l qs vs ws n count all h k d lt =
    let there : k < length ws = omega (arith, lt, length-map ws (λ (v : Vec EdgeCell). v.items)) in
    let v = first_of ws k there in
    subst (All IsSmallNet) (sym (get_or-map (λ (w : Vec EdgeCell). w.items) ws k v d there)) (h.done k v v (omega (arith, there, h.count, count, all)) (omega (arith, there, h.count))).1
