-- What is found among cells, whole and by halves.
use Rattle.std.proofs.Common.{◌≡◌, ℕ, ◌+◌, ◌*◌, ◌^◌, ◌<◌, ◌≤◌, ◌==◌, cond, Bool, true, false, List, [], ◌∷◌, ◌++◌, length, take, drop, get_or, Some, None, refl, sym, ap, ◌∙◌, subst, ⊎_elim, arith}
use Rattle.std.specs.Prelude.{slice_range}
use Rattle.std.proofs.lemmas.Bool.{eqb-true, and_parts, false_from_ne_true, cases_order}
use Rattle.std.proofs.lemmas.List.{take-append-drop, take-take}
use Rattle.std.proofs.lemmas.Slice.{between_is}
use Rattle.std.proofs.lemmas.List.Recursion.{found_at, found_nowhere}
use Rattle.amr_ranks.specs.declared.item.FrameCell.{FrameCell}
use Rattle.amr_ranks.specs.Items.{is_at, mass_at, place_of}
use Rattle.amr_ranks.specs.Stored.{Rises, no_cell}

-- a front of a list, in two parts
pub take_parts : {X : Type 0} (xs : List X) (s e : ℕ) → s ≤ e → take e xs ≡ take s xs ++ slice_range xs s e
take_parts xs s e le = sym (take-append-drop s (take e xs)) ∙ (ap (λ l. l ++ drop s (take e xs)) (take-take s e xs le) ∙ ap (λ l. take s xs ++ l) (sym (between_is xs s e)))

-- lists with one front have its parts
pub same_part : {X : Type 0} (xs ys : List X) (n s e : ℕ) → take n xs ≡ take n ys → e ≤ n → slice_range xs s e ≡ slice_range ys s e
same_part xs ys n s e same le =
    let front : take e xs ≡ take e ys = sym (take-take e n xs le) ∙ (ap (take e) same ∙ take-take e n ys le) in
    between_is xs s e ∙ (ap (drop s) front ∙ sym (between_is ys s e))

module _ (patch slot : ℕ) where
  pub mass_left : (xs ys : List FrameCell) (m : ℕ) → Some m ≡ mass_at patch slot xs → Some m ≡ mass_at patch slot (xs ++ ys)
  mass_left [] ys m e = absurd (cc)
  mass_left (c ∷ xs) ys m e = by_test (is_at patch slot c) e (λ f. mass_left xs ys m f)
    where
      by_test : (b : Bool) → Some m ≡ cond b (Some c.mass) (mass_at patch slot xs) → (Some m ≡ mass_at patch slot xs → Some m ≡ mass_at patch slot (xs ++ ys)) → Some m ≡ cond b (Some c.mass) (mass_at patch slot (xs ++ ys))
      by_test true f go = f
      by_test false f go = go f

  pub mass_right : (xs ys : List FrameCell) → None ≡ mass_at patch slot xs → mass_at patch slot (xs ++ ys) ≡ mass_at patch slot ys
  mass_right [] ys e = refl
  mass_right (c ∷ xs) ys e = by_test (is_at patch slot c) e (λ f. mass_right xs ys f)
    where
      by_test : (b : Bool) → None ≡ cond b (Some c.mass) (mass_at patch slot xs) → (None ≡ mass_at patch slot xs → mass_at patch slot (xs ++ ys) ≡ mass_at patch slot ys) → cond b (Some c.mass) (mass_at patch slot (xs ++ ys)) ≡ mass_at patch slot ys
      by_test true f go = absurd (cc)
      by_test false f go = go f

  pub mass_found : (cells : List FrameCell) (i : ℕ) → i < length cells → ((k : ℕ) → k < i → is_at patch slot (get_or cells k no_cell) ≡ false) → is_at patch slot (get_or cells i no_cell) ≡ true → Some (get_or cells i no_cell).mass ≡ mass_at patch slot cells
  mass_found cells i lt before here = sym (found_at (mass_at patch slot) (is_at patch slot) (λ (c : FrameCell). Some c.mass) None refl (λ _ _. refl) cells i no_cell lt before here)

  pub mass_nowhere : (cells : List FrameCell) → ((k : ℕ) → k < length cells → is_at patch slot (get_or cells k no_cell) ≡ false) → None ≡ mass_at patch slot cells
  mass_nowhere cells none = sym (found_nowhere (mass_at patch slot) (is_at patch slot) (λ (c : FrameCell). Some c.mass) None refl (λ _ _. refl) cells no_cell none)

  abbrev pub wanted : ℕ
  wanted = patch * 2 ^ 32 + slot

  -- a cell at another place of the order is another
  pub elsewhere : (c : FrameCell) → (place_of c ≡ wanted → ⊥) → is_at patch slot c ≡ false
  elsewhere c ne = false_from_ne_true (is_at patch slot c) (λ t.
      let p = and_parts (c.patch == patch) (c.slot == slot) t in
      let a : c.patch ≡ patch = eqb-true c.patch patch p.0 in
      let b : c.slot ≡ slot = eqb-true c.slot slot p.1 in
      ne (ap (λ n. n * 2 ^ 32 + c.slot) a ∙ ap (λ n. patch * 2 ^ 32 + n) b))

  module _ (cells : List FrameCell) (low : ℕ) (below : (k : ℕ) → k < low → place_of (get_or cells k no_cell) < wanted) where
    none_below : (k : ℕ) → k < low → is_at patch slot (get_or cells k no_cell) ≡ false
    none_below k lt = elsewhere (get_or cells k no_cell) (λ e. (let b = below k lt in omega arith))

    pub found_low : low < length cells → is_at patch slot (get_or cells low no_cell) ≡ true → Some (get_or cells low no_cell).mass ≡ mass_at patch slot cells
    found_low lt here = mass_found cells low lt none_below here

    pub found_none : Rises cells → ((k : ℕ) → low ≤ k → k < length cells → wanted ≤ place_of (get_or cells k no_cell)) → (low < length cells → is_at patch slot (get_or cells low no_cell) ≡ false) → None ≡ mass_at patch slot cells
    found_none rises above other = mass_nowhere cells (λ k lt.
        ⊎_elim
        (λ e. subst (λ n. is_at patch slot (get_or cells n no_cell) ≡ false) (sym e) (other (omega arith)))
        (⊎_elim
        (λ lower. none_below k lower)
        (λ higher. elsewhere (get_or cells k no_cell) (λ e. (let a = above low (let z : low ≤ low = omega arith in z) (omega arith) in let r = rises low k higher lt in omega arith))))
        (cases_order k low))
