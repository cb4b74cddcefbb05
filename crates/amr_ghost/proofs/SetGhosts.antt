-- Ghost cells of a strip that are given their values together: what a patch keeps, and what it gains.
use Rattle.std.proofs.Common.{◌≡◌, ◌≢◌, ℕ, zero, suc, ◌-◌, ◌<◌, ◌⊎◌, inl, inr, Bool, false, true, List, ◌++◌, length, set, get_or, IsTrue, refl, sym, ap, subst, ◌∙◌, arith, below_more}
use Rattle.std.specs.Prelude.{slice_index, slice_index_or}
use Rattle.std.specs.List.{AllZip}
use Rattle.std.specs.Vec.{with_items}
use Rattle.std.proofs.lemmas.List.{get_or-append_right, get_or-set_same, get_or_append_left, set-append_left, set-append_right, with_items_is}
use Rattle.amr_box.specs.declared.Cell.{Cell}
use Rattle.amr_box.specs.declared.Axis.{Axis}
use Rattle.amr_box.specs.Cells.{Extent, holds}
use Rattle.amr_patch.specs.declared.patches.Patch.{Patch}
use Rattle.amr_patch.specs.declared.patches.PatchData.{PatchData}
use Rattle.amr_patch.specs.Places.{grown, in_frame, place}
use Rattle.amr_patch.specs.Patches.{SameFluxes, box, mark_in, mass_in, value_in}
use Rattle.amr_patch.proofs.Edges.{kept_edges}
use Rattle.amr_patch.proofs.Entries.{in_grown, in_the_frame, place-same}
use Rattle.amr_patch.proofs.Lookups.{same_default}
use Rattle.amr_ghost.specs.declared.entries.Entries.{Entries}
use Rattle.amr_ghost.specs.declared.sides.Strip.{Strip}
use Rattle.amr_ghost.specs.Strips.{AreWritten, nth_place, step}
use Rattle.amr_ghost.specs.Frames.{is_beside}
use Rattle.amr_ghost.specs.GhostCells.{AreCopied, AreGhostsSet, AreGiven, HasGhost, HasGhosts, KeepsCells, KeepsGhosts}
use Rattle.amr_ghost.proofs.Steps.{apart_cells, corner_apart, corner_grown, frame_grown, ghosts_refl, same_or_other}
use Rattle.amr_ghost.proofs.StripPlaces.{nth_is, within_marks, within_values}
use Rattle.amr_ghost.proofs.WrittenEntries.{same_written}
use Rattle.amr_ghost.proofs.Zips.{keeps_refl, zip_set}

-- a cell is one of a strip or it isn't
abbrev IsOneOf : Axis → Cell → ℕ → Cell → Type 0
IsOneOf axis c n d = (k : ℕ) × (k < n) × (d ≡ step axis c k)

abbrev IsNoneOf : Axis → Cell → ℕ → Cell → Type 0
IsNoneOf axis c n d = (k : ℕ) → k < n → d ≢ step axis c k

next_of : (axis : Axis) (c d : Cell) (n : ℕ) → IsOneOf axis c n d ⊎ IsNoneOf axis c n d → (d ≡ step axis c n) ⊎ (d ≢ step axis c n) → IsOneOf axis c (suc n) d ⊎ IsNoneOf axis c (suc n) d
next_of axis c d n (inl one) u = inl (one.0, omega (arith, one.1), one.2)
next_of axis c d n (inr none) (inl e) = inl (n, omega arith, e)
next_of axis c d n (inr none) (inr other) = inr (λ k t. below_more (λ j. d ≢ step axis c j) n none other k (omega (arith, t)))

one_or_none : (axis : Axis) (c d : Cell) (n : ℕ) → IsOneOf axis c n d ⊎ IsNoneOf axis c n d
one_or_none axis c d zero = inr (λ k t. absurd (omega arith))
one_or_none axis c d (suc n) = next_of axis c d n (one_or_none axis c d n) (same_or_other (step axis c n) d)

-- ---- what a patch whose lists are written keeps

module _ (q : Patch) (e : Entries) (axis : Axis) (to : Cell) (n : ℕ) (places : (k : ℕ) → nth_place e k ≡ place (box q) (step axis to k)) (ghosts : (k : ℕ) → k < n → IsTrue (in_frame (box q) (step axis to k))) where
  other_places : (c : Cell) → IsTrue (holds (grown (box q)) c) → IsNoneOf axis to n c → (k : ℕ) → k < n → place (box q) c ≢ nth_place e k
  other_places c h none k t at = none k t (place-same (box q) c (step axis to k) q.near h (in_the_frame (box q) (step axis to k) (ghosts k t)) (at ∙ places k))

  -- no cell of the box has a place of the strip
  pub box_elsewhere : (c : Cell) (at : ℕ) → at ≡ place (box q) c → IsTrue (holds (box q) c) → (k : ℕ) → k < n → at ≢ nth_place e k
  box_elsewhere c at is h k t same = other_places c (in_grown (box q) c h) (λ j u. apart_cells (box q) (step axis to j) c (ghosts j u) h) k t (sym is ∙ same)

  written_ghosts : (r : Patch) (given : ℕ → ℕ) (m : Bool) → box r ≡ box q → AreWritten 0 e n given q.data.value.values.items r.data.value.values.items → AreWritten false e n (λ k. m) q.data.value.marks.items r.data.value.marks.items → SameFluxes q r → AreGhostsSet q r axis to n given m
  unfolding value_in mark_in
  written_ghosts r given m same values marks fluxes = record {
    set = λ k t. ap (λ (b : Extent). slice_index r.data.value.values.items (place b (step axis to k))) same ∙ ap (λ (i : ℕ). slice_index r.data.value.values.items i) (sym (places k)) ∙ values.written k t;
    marked = λ k t. ap (λ (b : Extent). slice_index_or r.data.value.marks.items (place b (step axis to k)) false) same ∙ ap (λ (i : ℕ). slice_index_or r.data.value.marks.items i false) (sym (places k)) ∙ marks.written k t;
    others = λ c h none. ap (λ (b : Extent). slice_index r.data.value.values.items (place b c)) same ∙ values.others (place (box q) c) (other_places c h none);
    marks = λ c h none. ap (λ (b : Extent). slice_index_or r.data.value.marks.items (place b c) false) same ∙ marks.others (place (box q) c) (other_places c h none);
    fluxes = fluxes;
    of_box = same;
  }

-- ---- a patch whose lists are lent, and written at the entries of a strip of ghost cells

module _ (q : Patch) (s : Strip) (e : Entries) {d : PatchData} {b : Extent} (held : d ≡ q.data.value) (same : b ≡ box q) (places : (k : ℕ) → nth_place e k ≡ place b (step s.axis s.from k)) (ghosts : (k : ℕ) → k < s.count → IsTrue (in_frame (box q) (step s.axis s.from k))) where
  pub lent_places : (k : ℕ) → nth_place e k ≡ place (box q) (step s.axis s.from k)
  lent_places = nth_is (box q) b e s.axis s.from same places

  cells : (k : ℕ) → k < s.count → IsTrue (holds (grown (box q)) (step s.axis s.from k))
  cells k t = frame_grown (box q) (step s.axis s.from k) (ghosts k t)

  pub in_lent_values : {xs : List ℕ} → xs ≡ d.values.items → (k : ℕ) → k < s.count → nth_place e k < length xs
  in_lent_values {xs} are = within_values q e s.axis s.from s.count lent_places cells xs (are ∙ ap (λ (t : PatchData). t.values.items) held)

  pub in_lent_marks : {xs : List Bool} → xs ≡ d.marks.items → (k : ℕ) → k < s.count → nth_place e k < length xs
  in_lent_marks {xs} are = within_marks q e s.axis s.from s.count lent_places cells xs (are ∙ ap (λ (t : PatchData). t.marks.items) held)

  pub lent_written : (r : Patch) {given wanted : ℕ → ℕ} {m : Bool} {n : ℕ} {xs vs : List ℕ} {bs ms : List Bool} → box r ≡ box q → r.data.value ≡ record { values = with_items d.values vs; marks = with_items d.marks ms; x_low = d.x_low; x_high = d.x_high; y_low = d.y_low; y_high = d.y_high } → xs ≡ d.values.items → length xs ≡ d.values.len → bs ≡ d.marks.items → length bs ≡ d.marks.len → n ≡ s.count → ((k : ℕ) → k < n → given k ≡ wanted k) → AreWritten 0 e n given xs vs → AreWritten false e s.count (λ k. m) bs ms → AreGhostsSet q r s.axis s.from s.count wanted m
  lent_written r {given} {wanted} {m} {n} {xs} {vs} {bs} {ms} of_box now values value_count marks mark_count counts are written marked =
      let new_values : r.data.value.values.items ≡ vs = ap (λ (t : PatchData). t.values.items) now ∙ with_items_is d.values vs (written.same_length ∙ value_count) in
      let new_marks : r.data.value.marks.items ≡ ms = ap (λ (t : PatchData). t.marks.items) now ∙ with_items_is d.marks ms (marked.same_length ∙ mark_count) in
      written_ghosts q e s.axis s.from s.count lent_places ghosts r wanted m of_box
      (same_written 0 e given wanted n s.count xs q.data.value.values.items vs r.data.value.values.items counts are (values ∙ ap (λ (t : PatchData). t.values.items) held) new_values written)
      (same_written false e (λ k. m) (λ k. m) s.count s.count bs q.data.value.marks.items ms r.data.value.marks.items refl (λ k t. refl) (marks ∙ ap (λ (t : PatchData). t.marks.items) held) new_marks marked)
      (kept_edges q r of_box (ap (λ (t : PatchData). t.x_low.items) now ∙ ap (λ (t : PatchData). t.x_low.items) held) (ap (λ (t : PatchData). t.x_high.items) now ∙ ap (λ (t : PatchData). t.x_high.items) held) (ap (λ (t : PatchData). t.y_low.items) now ∙ ap (λ (t : PatchData). t.y_low.items) held) (ap (λ (t : PatchData). t.y_high.items) now ∙ ap (λ (t : PatchData). t.y_high.items) held))

-- ---- one of a list of patches is given its ghost cells

abbrev pub HasGiven : List Patch → List Patch → ℕ → Axis → Cell → ℕ → (ℕ → ℕ) → Bool → Type 0
HasGiven ps qs i axis to n given m = record {
  kept : AllZip KeepsCells ps qs;
  ghosts : (value : Cell → ℕ) (mark : Cell → Bool) → AreGiven value mark axis to n given m → AllZip (KeepsGhosts value mark) ps qs;
  set : (value : Cell → ℕ) (mark : Cell → Bool) (q : Patch) → AreGiven value mark axis to n given m → HasGhosts value mark (get_or qs i q) axis to n;
}

module _ (ps : List Patch) (i : ℕ) (d : Patch) {r : Patch} {axis : Axis} {to : Cell} {n : ℕ} {given : ℕ → ℕ} {m : Bool} (there : i < length ps) (ghosts : (q : Patch) (k : ℕ) → k < n → IsTrue (in_frame (box (get_or ps i q)) (step axis to k))) (beside : (q : Patch) (k : ℕ) → k < n → IsTrue (is_beside (box (get_or ps i q)) (step axis to k))) (s : AreGhostsSet (get_or ps i d) r axis to n given m) where
  abbrev b : Extent
  b = box (get_or ps i d)

  keeps_cells : KeepsCells (get_or ps i d) r
  keeps_cells = record {
    of_box = s.of_box;
    masses = λ c h. s.others c (in_grown b c h) (λ k t. apart_cells b (step axis to k) c (ghosts d k t) h);
    fluxes = s.fluxes;
    corners = record {
      values = λ c h. s.others c (corner_grown b c h) (λ k t. corner_apart b (step axis to k) c (beside d k t) h);
      marks = λ c h. s.marks c (corner_grown b c h) (λ k t. corner_apart b (step axis to k) c (beside d k t) h);
    };
  }

  set_keeps_cells : AllZip KeepsCells ps (set ps i r)
  set_keeps_cells = zip_set KeepsCells keeps_refl ps i d r keeps_cells

  module _ (value : Cell → ℕ) (mark : Cell → Bool) (are : AreGiven value mark axis to n given m) where
    gained : (k : ℕ) → k < n → HasGhost value mark r (step axis to k)
    gained k t = record { valued = s.set k t ∙ sym (are.values k t); marked = s.marked k t ∙ sym (are.marks k t) }

    stays : (c : Cell) → IsTrue (in_frame b c) → HasGhost value mark (get_or ps i d) c → IsOneOf axis to n c ⊎ IsNoneOf axis to n c → HasGhost value mark r c
    stays c t h (inl one) = subst (λ (u : Cell). HasGhost value mark r u) (sym one.2) (gained one.0 one.1)
    stays c t h (inr none) = record { valued = s.others c (frame_grown b c t) none ∙ h.valued; marked = s.marks c (frame_grown b c t) none ∙ h.marked }

    set_keeps_ghosts : AllZip (KeepsGhosts value mark) ps (set ps i r)
    set_keeps_ghosts = zip_set (KeepsGhosts value mark) (ghosts_refl value mark) ps i d r (record { at = λ c t h. stays c t h (one_or_none axis to c n) })

    set_has_ghosts : (o : Patch) → HasGhosts value mark (get_or (set ps i r) i o) axis to n
    set_has_ghosts o = subst (λ (u : Patch). HasGhosts value mark u axis to n) (sym (get_or-set_same ps i r o there)) (record { at = gained })

  pub one_given : HasGiven ps (set ps i r) i axis to n given m
  one_given = record {
    kept = set_keeps_cells;
    ghosts = λ value mark are. set_keeps_ghosts value mark are;
    set = λ value mark o are. set_has_ghosts value mark are o;
  }

-- ---- one of a list of patches is given masses of another, or of its own

abbrev pub HasCopied : List Patch → List Patch → ℕ → ℕ → Axis → Cell → Cell → ℕ → Type 0
HasCopied ps qs i j axis to from n = record {
  kept : AllZip KeepsCells ps qs;
  ghosts : (value : Cell → ℕ) (mark : Cell → Bool) (d : Patch) → AreCopied value mark (get_or ps j d) axis to from n → AllZip (KeepsGhosts value mark) ps qs;
  set : (value : Cell → ℕ) (mark : Cell → Bool) (q d : Patch) → AreCopied value mark (get_or ps j d) axis to from n → HasGhosts value mark (get_or qs i q) axis to n;
}

pub copied : (ps qs : List Patch) (i j : ℕ) (d e q t r : Patch) (axis : Axis) (to from : Cell) (n : ℕ) → i < length ps → j < length ps → ((p : Patch) (k : ℕ) → k < n → IsTrue (in_frame (box (get_or ps i p)) (step axis to k))) → ((p : Patch) (k : ℕ) → k < n → IsTrue (is_beside (box (get_or ps i p)) (step axis to k))) → q ≡ get_or ps i d → t ≡ get_or ps j e → qs ≡ set ps i r → AreGhostsSet q r axis to n (λ k. mass_in t (step axis from k)) true → HasCopied ps qs i j axis to from n
copied ps qs i j d e q t r axis to from n there source ghosts beside at_i at_j now s =
    let given : ℕ → ℕ = λ k. mass_in (get_or ps j e) (step axis from k) in
    let here : AreGhostsSet (get_or ps i d) r axis to n given true = rw (sym at_i, sym at_j) s in
    let told : (value : Cell → ℕ) (mark : Cell → Bool) (p : Patch) → AreCopied value mark (get_or ps j p) axis to from n → AreGiven value mark axis to n given true = λ value mark p are. subst (λ (u : Patch). AreCopied value mark u axis to from n) (same_default ps j p e source) are in
    let one : HasGiven ps (set ps i r) i axis to n given true = one_given ps i d there ghosts beside here in
    rw now (record {
      kept = one.kept;
      ghosts = λ value mark p are. one.ghosts value mark (told value mark p are);
      set = λ value mark o p are. one.set value mark o (told value mark p are);
    })

-- ---- a list in two parts, one of which is written

module _ (ps front back : List Patch) (m : ℕ) (parts : ps ≡ front ++ back) (count : length front ≡ m) where
  pub in_front : (i : ℕ) (d : Patch) → i < m → get_or front i d ≡ get_or ps i d
  in_front i d lt = sym (ap (λ (xs : List Patch). get_or xs i d) parts ∙ get_or_append_left front back d i (omega (arith, lt, count)))

  pub in_back : (d : Patch) → get_or back 0 d ≡ get_or ps m d
  in_back d =
      let first : m - m ≡ 0 = omega arith in
      sym (ap (λ (xs : List Patch). get_or xs m d) parts ∙ get_or-append_right front back m m d count (omega arith) ∙ ap (λ (k : ℕ). get_or back k d) first)

  pub front_set : (i : ℕ) (r : Patch) → i < m → set front i r ++ back ≡ set ps i r
  front_set i r lt = sym (ap (λ (xs : List Patch). set xs i r) parts ∙ set-append_left front back i r (omega (arith, lt, count)))

  pub back_set : (r : Patch) → front ++ set back 0 r ≡ set ps m r
  back_set r =
      let first : m - m ≡ 0 = omega arith in
      sym (ap (λ (xs : List Patch). set xs m r) parts ∙ set-append_right front back m m r count (omega arith) ∙ ap (λ (k : ℕ). front ++ set back k r) first)
