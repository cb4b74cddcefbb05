-- A patch to whose masses the entries of its register cells are added.
use Rattle.std.proofs.Common.{◌≡◌, ◌∙◌, ℕ, ◌+◌, ◌<◌, Bool, true, false, ◌⊎◌, inl, inr, ℤ, pos, ◌+ℤ◌, List, [], length, get_or, refl, sym, ap, subst, arith}
use Rattle.std.specs.List.{All, Contains}
use Rattle.std.proofs.lemmas.Bool.{cond-false, cond-true}
use Rattle.amr_box.specs.declared.Cell.{Cell}
use Rattle.amr_box.specs.Cells.{Extent, at_least_zero, holds}
use Rattle.amr_patch.specs.declared.patches.Patch.{Patch}
use Rattle.amr_patch.specs.Patches.{KeepsFrameAndFluxes, SameFluxes, SameMarks, SameOtherValues, box, mass_in}
use Rattle.amr_patch.proofs.Entries.{in_grown}
use Rattle.amr_patch.proofs.Keeping.{kept_twice}
use Rattle.amr_patch.proofs.LevelLaws.{ghosts_stay, itself}
use Rattle.amr_register.specs.declared.edges.EdgeCell.{EdgeCell}
use Rattle.amr_register.specs.EdgeCells.{AreEdgesIn, HaveEachOnce, IsNumbered, IsPlaceIn, Place, cell_of, edge_at}
use Rattle.amr_register.specs.Entries.{AreRising, entry_at}
use Rattle.amr_register.specs.Written.{AreKeysApart, AreWritten, by_number, own_mass, with_entry}
use Rattle.amr_register.proofs.EntryLaws.{entry_of_none}
use Rattle.amr_register.proofs.Numbers.{edge_entry, edge_listed, numbered_at}
use Rattle.amr_register.proofs.Taken.{no_edge}
use Rattle.amr_register.proofs.Writes.{none_written, not_yet, one_written}

-- ---- its own masses

own_there : (p : Patch) (c : Cell) → holds (box p) c ≡ true → own_mass p c ≡ mass_in p c
own_there p c h = cond-true _ _ _ h

own_none : (p : Patch) (c : Cell) → holds (box p) c ≡ false → own_mass p c ≡ 0
own_none p c h = cond-false _ _ _ h

still_held : (p q : Patch) (c : Cell) → box q ≡ box p → holds (box p) c ≡ true → holds (box q) c ≡ true
still_held p q c same h = ap (λ (b : Extent). holds b c) same ∙ h

-- ---- cell by cell

-- the first n cells of a list have their entries, and the patch keeps all else
pub record IsPartly (es : List ℤ) (list : List EdgeCell) (old now : Patch) (n : ℕ) : Type 0 where
  pub masses : AreWritten cell_of (with_entry es) list (own_mass old) (own_mass now) n
  pub kept : KeepsFrameAndFluxes old now

pub at_start : (es : List ℤ) (list : List EdgeCell) (p : Patch) → IsPartly es list p p 0
at_start es list p = record { masses = none_written cell_of (with_entry es) list (own_mass p); kept = itself p }

module _ (es : List ℤ) (list : List EdgeCell) (old now : Patch) (n : ℕ) (d : EdgeCell) (once : AreKeysApart cell_of list) (inside : AreEdgesIn (box old) list) (h : IsPartly es list old now n) (lt : n < length list) where
  abbrev pub next : Cell
  next = (get_or list n d).cell

  -- the next cell is one of the patch, and has the mass of before
  pub next_held : holds (box now) next ≡ true
  next_held = still_held old now next h.kept.of_box (inside n d lt)

  pub next_mass : mass_in now next ≡ mass_in old next
  next_mass = sym (own_there now next next_held) ∙ not_yet cell_of (with_entry es) list (own_mass old) (own_mass now) n d once h.masses lt ∙ own_there old next (inside n d lt)

  pub one_further : (new : Patch) → mass_in new next ≡ with_entry es (get_or list n d) (mass_in now next) → SameOtherValues next now new → SameMarks now new → SameFluxes now new → box new ≡ box now → IsPartly es list old new (n + 1)
  one_further new set others marks fluxes of_box = record {
    masses = one_written cell_of (with_entry es) list (own_mass old) (own_mass now) (own_mass new) n d once h.masses lt here (λ k ne. elsewhere k ne (holds (box now) k) refl);
    kept = kept_twice old now new h.kept (record { of_box = of_box; ghosts = ghosts_stay next now new next_held others; marks = marks; fluxes = fluxes });
  }
    where
      here : own_mass new next ≡ with_entry es (get_or list n d) (own_mass now next)
      here = own_there new next (still_held now new next of_box next_held) ∙ set ∙ ap (with_entry es (get_or list n d)) (sym (own_there now next next_held))

      elsewhere : (k : Cell) → (next ≡ k → ⊥) → (t : Bool) → holds (box now) k ≡ t → own_mass new k ≡ own_mass now k
      elsewhere k ne true s = own_there new k (still_held now new k of_box s) ∙ others k (in_grown (box now) k s) (λ e. ne (sym e)) ∙ sym (own_there now k s)
      elsewhere k ne false s = own_none new k (ap (λ (b : Extent). holds b k) of_box ∙ s) ∙ sym (own_none now k s)

-- ---- all cells of list k

module _ (cs : List Cell) (es : List ℤ) (xs : List (List EdgeCell)) (k : ℕ) (rises : AreRising cs) (count : length es ≡ length cs) (placed : HaveEachOnce cs xs) (lt : k < length xs) where
  -- what holds of the sum of a mass and its entry, at each cell of the list
  pub each_sum : (P : ℤ → Type 0) (p : Patch) (list : List EdgeCell) (zs : List ℤ) → list ≡ get_or xs k [] → zs ≡ es → ((c : Cell) → Contains cs c → holds (box p) c ≡ true → P (pos (mass_in p c) +ℤ entry_at cs es c)) → AreEdgesIn (box p) list → All (λ e. P (pos (mass_in p e.cell) +ℤ by_number zs e.number)) list
  each_sum P p list zs is_list are_entries h inside i e below =
      let x : EdgeCell = get_or list i e in
      let numbered : IsNumbered cs x = subst (All (IsNumbered cs)) (sym is_list) (placed.numbered k [] lt) i e below in
      let entry = edge_entry cs es x rises count numbered ∙ ap (λ (ys : List ℤ). by_number ys x.number) (sym are_entries) in
      subst (λ (z : ℤ). P (pos (mass_in p x.cell) +ℤ z)) entry (h x.cell (edge_listed cs x numbered) (inside i e below))

  -- no other list has cells of the patch, so each cell has its entry, which is 0 where it is no register cell
  pub patch_refluxed : (old new : Patch) → ((w : Place) (e : EdgeCell) → IsPlaceIn xs w → holds (box old) (edge_at xs w e).cell ≡ true → w.list ≡ k) → box new ≡ box old → AreWritten cell_of (with_entry es) (get_or xs k []) (own_mass old) (own_mass new) (length (get_or xs k []))
      → (c : Cell) → holds (box old) c ≡ true → Contains cs c ⊎ (Contains cs c → ⊥) → mass_in new c ≡ at_least_zero (pos (mass_in old c) +ℤ entry_at cs es c)
  patch_refluxed old new others of_box wrote c held among =
      sym (own_there new c (still_held old new c of_box held)) ∙ own among ∙ ap (λ (v : ℕ). at_least_zero (pos v +ℤ entry_at cs es c)) (own_there old c held)
    where
      HasEntry : Cell → ℤ → Type 0
      HasEntry q z = own_mass new q ≡ at_least_zero (pos (own_mass old q) +ℤ z)

      unchanged : (v : ℕ) → v ≡ at_least_zero (pos v +ℤ pos 0)
      unchanged v = omega arith

      own : Contains cs c ⊎ (Contains cs c → ⊥) → HasEntry c (entry_at cs es c)
      own (inl (n, below, s)) =
          let p = placed.listed n below in
          let inside = p.has.inside in
          let x : EdgeCell = edge_at xs p.place no_edge in
          let numbered = numbered_at cs xs p.place no_edge placed inside in
          let is_c : x.cell ≡ c = numbered.cell c ∙ ap (λ (j : ℕ). get_or cs j c) (p.has.number no_edge) ∙ s in
          let list : p.place.list ≡ k = others p.place no_edge inside (ap (holds (box old)) is_c ∙ held) in
          let here : AreWritten cell_of (with_entry es) (get_or xs p.place.list []) (own_mass old) (own_mass new) (length (get_or xs p.place.list [])) = subst (λ (j : ℕ). AreWritten cell_of (with_entry es) (get_or xs j []) (own_mass old) (own_mass new) (length (get_or xs j []))) (sym list) wrote in
          subst (λ (q : Cell). HasEntry q (entry_at cs es q)) is_c (subst (HasEntry x.cell) (sym (edge_entry cs es x rises count numbered)) (here.done p.place.at no_edge inside.at inside.at))
      own (inr none) =
          wrote.left c (λ i e below inside s. none (subst (Contains cs) s (edge_listed cs (get_or (get_or xs k []) i e) (placed.numbered k [] lt i e inside))))
          ∙ unchanged (own_mass old c)
          ∙ ap (λ (z : ℤ). at_least_zero (pos (own_mass old c) +ℤ z)) (sym (entry_of_none cs es c none))
