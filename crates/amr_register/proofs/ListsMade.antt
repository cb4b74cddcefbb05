-- Lists of edge cells that are made cell by cell.
use Rattle.std.proofs.Common.{◌≡◌, ◌∙◌, ℕ, zero, suc, ◌+◌, ◌-◌, ◌<◌, ◌≤◌, true, ◌⊎◌, inl, inr, List, [], ◌∷◌, ◌++◌, length, map, get_or, set, replicate, refl, sym, ap, subst, arith}
use Rattle.std.specs.List.{All, AllZip}
use Rattle.std.proofs.lemmas.Bool.{cases_eq}
use Rattle.std.proofs.lemmas.List.{get_or-append_right, get_or-map, get_or-replicate, get_or-set_other, get_or-set_same, get_or_append_left, length-map, length-replicate, length-set, length_push}
use Rattle.amr_box.specs.declared.Cell.{Cell}
use Rattle.amr_box.specs.Cells.{Extent, holds}
use Rattle.amr_patch.specs.declared.patches.Patch.{Patch}
use Rattle.amr_patch.specs.Orders.{IsHolder}
use Rattle.amr_patch.specs.Patches.{box}
use Rattle.amr_register.specs.declared.edges.EdgeCell.{EdgeCell}
use Rattle.amr_register.specs.declared.sides.CoveredSides.{CoveredSides}
use Rattle.amr_register.specs.EdgeCells.{AreEdgesIn, AreOnceBy, HaveEachOnce, IsAmong, IsListed, IsPlaceIn, Place, edge_at, new_edge, number_of}
use Rattle.amr_register.proofs.EdgeLists.{first_of, zip_from}
use Rattle.amr_register.proofs.Taken.{same_at}

-- the first n cells stand in the lists, each once, and no others
pub record AreListed (qs : List Patch) (cs : List Cell) (ss : List CoveredSides) (xs : List (List EdgeCell)) (n : ℕ) : Type 0 where
  pub lists : length xs ≡ length qs
  pub inside : (j : ℕ) (q : Patch) → j < length qs → AreEdgesIn (box (get_or qs j q)) (get_or xs j [])
  pub among : (j : ℕ) → j < length qs → All (IsAmong cs ss) (get_or xs j [])
  pub below : (w : Place) (e : EdgeCell) → IsPlaceIn xs w → (edge_at xs w e).number < n
  pub listed : (k : ℕ) → k < n → IsListed xs k
  pub once : AreOnceBy number_of xs

pub none_listed : (qs : List Patch) (cs : List Cell) (ss : List CoveredSides) (xs : List (List EdgeCell)) → xs ≡ replicate (length qs) [] → AreListed qs cs ss xs 0
none_listed qs cs ss xs e = record {
  lists = count;
  inside = λ j q lt k d under. absurd (omega (arith, under, ap length (empty j lt)));
  among = λ j lt k d under. absurd (omega (arith, under, ap length (empty j lt)));
  below = λ w d inside. absurd (no_place w inside);
  listed = λ k lt. absurd (omega (arith, lt));
  once = λ v w d inside. absurd (no_place v inside);
}
  where
    count : length xs ≡ length qs
    count = ap length e ∙ length-replicate (length qs) []

    empty : (j : ℕ) → j < length qs → get_or xs j [] ≡ []
    empty j lt = ap (λ (ys : List (List EdgeCell)). get_or ys j []) e ∙ get_or-replicate (length qs) j [] [] lt

    no_place : (w : Place) → IsPlaceIn xs w → ⊥
    no_place w inside = omega (arith, inside.at, ap length (empty w.list (omega (arith, inside.list, count))))

-- one more element at the end
pub all_pushed : {A : Type 0} (P : A → Type 0) (xs : List A) (x : A) → All P xs → P x → All P (xs ++ x ∷ [])
all_pushed P [] x h p zero d lt = p
all_pushed P [] x h p (suc k) d lt = absurd (omega (arith, lt))
all_pushed P (y ∷ ys) x h p zero d lt = h 0 d (omega arith)
all_pushed P (y ∷ ys) x h p (suc k) d lt = all_pushed P ys x (λ i e below. h (suc i) e (omega (arith, below))) p k d (omega (arith, lt))

module _ (qs : List Patch) (cs : List Cell) (ss : List CoveredSides) (xs ys : List (List EdgeCell)) (n i : ℕ) (c : Cell) (s : CoveredSides) (h : AreListed qs cs ss xs n) (there : n < length cs) (is_c : (d : Cell) → c ≡ get_or cs n d) (is_s : (t : CoveredSides) → s ≡ get_or ss n t) (found : IsHolder qs c i) (wrote : ys ≡ set xs i (get_or xs i [] ++ new_edge n c s ∷ [])) where
  fits : i < length xs
  fits = omega (arith, found.inside, h.lists)

  abbrev longer : List EdgeCell
  longer = get_or xs i [] ++ new_edge n c s ∷ []

  here : get_or ys i [] ≡ get_or xs i [] ++ new_edge n c s ∷ []
  here = ap (λ (zs : List (List EdgeCell)). get_or zs i []) wrote ∙ get_or-set_same xs i longer [] fits

  beside : (j : ℕ) → (j ≡ i → ⊥) → get_or ys j [] ≡ get_or xs j []
  beside j ne = ap (λ (zs : List (List EdgeCell)). get_or zs j []) wrote ∙ get_or-set_other xs i j longer [] ne

  long : length ys ≡ length xs
  long = ap length wrote ∙ length-set xs i longer

  inside_by : (j : ℕ) (q : Patch) → j < length qs → (j ≡ i) ⊎ (j ≡ i → ⊥) → AreEdgesIn (box (get_or qs j q)) (get_or ys j [])
  inside_by j q lt (inl e) =
      subst (λ (k : ℕ). AreEdgesIn (box (get_or qs k q)) (get_or ys k [])) (sym e)
      (subst (λ (es : List EdgeCell). AreEdgesIn (box (get_or qs i q)) es) (sym here)
      (all_pushed (λ (x : EdgeCell). holds (box (get_or qs i q)) x.cell ≡ true) (get_or xs i []) (new_edge n c s) (h.inside i q found.inside) (found.holds_it q)))
  inside_by j q lt (inr ne) = subst (λ (es : List EdgeCell). AreEdgesIn (box (get_or qs j q)) es) (sym (beside j ne)) (h.inside j q lt)

  among_by : (j : ℕ) → j < length qs → (j ≡ i) ⊎ (j ≡ i → ⊥) → All (IsAmong cs ss) (get_or ys j [])
  among_by j lt (inl e) =
      subst (λ (k : ℕ). All (IsAmong cs ss) (get_or ys k [])) (sym e)
      (subst (All (IsAmong cs ss)) (sym here)
      (all_pushed (IsAmong cs ss) (get_or xs i []) (new_edge n c s) (h.among i found.inside) (record { numbered = record { inside = there; cell = is_c }; sides = is_s })))
  among_by j lt (inr ne) = subst (All (IsAmong cs ss)) (sym (beside j ne)) (h.among j lt)

  -- ---- places

  abbrev last : Place
  last = record { list = i; at = length (get_or xs i []) }

  last_in : IsPlaceIn ys last
  last_in = record { list = omega (arith, fits, long); at = omega (arith, ap length here, length_push (get_or xs i []) (new_edge n c s)) }

  last_is : (x : EdgeCell) → edge_at ys last x ≡ new_edge n c s
  last_is x =
      let none : length (get_or xs i []) - length (get_or xs i []) ≡ 0 = omega arith in
      ap (λ (es : List EdgeCell). get_or es (length (get_or xs i [])) x) here
      ∙ get_or-append_right (get_or xs i []) (new_edge n c s ∷ []) (length (get_or xs i [])) (length (get_or xs i [])) x refl (omega arith)
      ∙ ap (λ (k : ℕ). get_or (new_edge n c s ∷ []) k x) none

  -- what stood at a place stands there still
  still : (w : Place) (x : EdgeCell) → IsPlaceIn xs w → (w.list ≡ i) ⊎ (w.list ≡ i → ⊥) → IsPlaceIn ys w × (edge_at ys w x ≡ edge_at xs w x)
  still w x p (inl e) =
      let at : w.at < length (get_or xs i []) = subst (λ (k : ℕ). w.at < length (get_or xs k [])) e p.at in
      let list : get_or ys w.list [] ≡ longer = ap (λ (k : ℕ). get_or ys k []) e ∙ here in (
        record { list = omega (arith, p.list, long); at = omega (arith, at, ap length list, length_push (get_or xs i []) (new_edge n c s)) },
        ap (λ (es : List EdgeCell). get_or es w.at x) list ∙ get_or_append_left (get_or xs i []) (new_edge n c s ∷ []) x w.at at ∙ ap (λ (k : ℕ). get_or (get_or xs k []) w.at x) (sym e),
      )
  still w x p (inr ne) = (record { list = omega (arith, p.list, long); at = omega (arith, p.at, ap length (beside w.list ne)) }, ap (λ (es : List EdgeCell). get_or es w.at x) (beside w.list ne))

  -- a place is the new one, or was there
  new_or_old : (w : Place) → IsPlaceIn ys w → (w ≡ last) ⊎ IsPlaceIn xs w
  new_or_old w p = by_list (cases_eq w.list i)
    where
      by_place : w.list ≡ i → (w.at ≡ length (get_or xs i [])) ⊎ (w.at ≡ length (get_or xs i []) → ⊥) → (w ≡ last) ⊎ IsPlaceIn xs w
      by_place e (inl f) = inl (λ t. record { list = e t; at = f t })
      by_place e (inr ne) =
          let at : w.at < length (get_or ys i []) = subst (λ (k : ℕ). w.at < length (get_or ys k [])) e p.at in
          let early : w.at < length (get_or xs i []) = omega (arith, at, ne, ap length here, length_push (get_or xs i []) (new_edge n c s)) in
          inr (record { list = omega (arith, p.list, long); at = subst (λ (k : ℕ). w.at < length (get_or xs k [])) (sym e) early })

      by_list : (w.list ≡ i) ⊎ (w.list ≡ i → ⊥) → (w ≡ last) ⊎ IsPlaceIn xs w
      by_list (inl e) = by_place e (cases_eq w.at (length (get_or xs i [])))
      by_list (inr ne) = inr (record { list = omega (arith, p.list, long); at = omega (arith, p.at, ap length (beside w.list ne)) })

  -- ---- numbers

  new_number : (w : Place) (x : EdgeCell) → w ≡ last → (edge_at ys w x).number ≡ n
  new_number w x e = ap (λ (v : Place). (edge_at ys v x).number) e ∙ ap (λ (y : EdgeCell). y.number) (last_is x)

  old_number : (w : Place) (x : EdgeCell) → IsPlaceIn xs w → (edge_at ys w x).number ≡ (edge_at xs w x).number
  old_number w x p = ap (λ (y : EdgeCell). y.number) (still w x p (cases_eq w.list i)).1

  below_by : (w : Place) (x : EdgeCell) → (w ≡ last) ⊎ IsPlaceIn xs w → (edge_at ys w x).number < n + 1
  below_by w x (inl e) = omega (arith, new_number w x e)
  below_by w x (inr p) = omega (arith, old_number w x p, h.below w x p)

  listed_by : (k : ℕ) → k < n + 1 → (k ≡ n) ⊎ (k ≡ n → ⊥) → IsListed ys k
  listed_by k lt (inl e) = record { place = last; has = record { inside = last_in; number = λ x. new_number last x refl ∙ sym e } }
  listed_by k lt (inr ne) =
      let was = h.listed k (omega (arith, lt, ne)) in
      record { place = was.place; has = record { inside = (still was.place (new_edge n c s) was.has.inside (cases_eq was.place.list i)).0; number = λ x. old_number was.place x was.has.inside ∙ was.has.number x } }

  once_by : (v w : Place) (x : EdgeCell) → (edge_at ys v x).number ≡ (edge_at ys w x).number → (v ≡ last) ⊎ IsPlaceIn xs v → (w ≡ last) ⊎ IsPlaceIn xs w → v ≡ w
  once_by v w x same (inl e) (inl f) = e ∙ sym f
  once_by v w x same (inl e) (inr q) = absurd (omega (arith, same, new_number v x e, old_number w x q, h.below w x q))
  once_by v w x same (inr p) (inl f) = absurd (omega (arith, same, new_number w x f, old_number v x p, h.below v x p))
  once_by v w x same (inr p) (inr q) = h.once v w x p q (sym (old_number v x p) ∙ same ∙ old_number w x q)

  pub one_listed : AreListed qs cs ss ys (n + 1)
  one_listed = record {
    lists = long ∙ h.lists;
    inside = λ j q lt. inside_by j q lt (cases_eq j i);
    among = λ j lt. among_by j lt (cases_eq j i);
    below = λ w x p. below_by w x (new_or_old w p);
    listed = λ k lt. listed_by k lt (cases_eq k n);
    once = λ v w x p q same. once_by v w x same (new_or_old v p) (new_or_old w q);
  }

-- ---- all cells

pub all_inside : (qs : List Patch) (cs : List Cell) (ss : List CoveredSides) (xs : List (List EdgeCell)) (n : ℕ) → AreListed qs cs ss xs n → AllZip AreEdgesIn (map box qs) xs
all_inside qs cs ss xs n h = zip_from AreEdgesIn (map box qs) xs (h.lists ∙ sym (length-map qs box)) (λ k b es lt.
    let below : k < length qs = omega (arith, lt, length-map qs box) in
    let q = first_of qs k below in
    subst (λ (x : Extent). AreEdgesIn x (get_or xs k es)) (sym (get_or-map box qs k q b below))
    (subst (AreEdgesIn (box (get_or qs k q))) (same_at xs k [] es (omega (arith, below, h.lists))) (h.inside k q below)))

pub all_among : (qs : List Patch) (cs : List Cell) (ss : List CoveredSides) (xs : List (List EdgeCell)) (n : ℕ) → AreListed qs cs ss xs n → All (All (IsAmong cs ss)) xs
all_among qs cs ss xs n h k d lt = subst (All (IsAmong cs ss)) (same_at xs k [] d lt) (h.among k (omega (arith, lt, h.lists)))

pub all_once : (qs : List Patch) (cs : List Cell) (ss : List CoveredSides) (xs : List (List EdgeCell)) (n : ℕ) → length cs ≤ n → AreListed qs cs ss xs n → HaveEachOnce cs xs
all_once qs cs ss xs n all h = record {
  numbered = λ k d lt i e under. (all_among qs cs ss xs n h k d lt i e under).numbered;
  listed = λ k lt. h.listed k (omega (arith, lt, all));
  once = h.once;
}
