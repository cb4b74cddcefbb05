-- A frame is filled slot by slot: what a patch gains, and what it keeps.
use Rattle.std.proofs.Common.{◌≡◌, ◌≢◌, ◌∙◌, ℕ, ◌+◌, ◌<◌, Bool, ◌||◌, IsTrue, inl, inr, refl, sym, ap, subst, arith, below_more}
use Rattle.std.specs.Prelude.{◌⊎◌, not}
use Rattle.std.proofs.lemmas.Bool.{and_parts}
use Rattle.amr_box.specs.declared.Cell.{Cell}
use Rattle.amr_box.specs.Cells.{Extent, IsNear, IsProper, holds, within}
use Rattle.amr_def.specs.declared.problem.Problem.{Problem}
use Rattle.amr_def.specs.State.{Masses}
use Rattle.amr_def.specs.Value.{value_at}
use Rattle.amr_patch.specs.declared.patches.Patch.{Patch}
use Rattle.amr_patch.specs.Places.{grown, in_frame}
use Rattle.amr_patch.specs.Patches.{SameFluxes, SameOtherMarks, SameOtherValues, box, ghost_in, mark_in}
use Rattle.amr_patch.proofs.Entries.{in_grown}
use Rattle.amr_ghost.specs.Frames.{HasGhostValues, KeepsCorners, SameMasses, is_beside, is_corner}
use Rattle.amr_ghost.proofs.Steps.{apart_cells, corner_apart, corner_grown, frame_grown, same_or_other}
use Rattle.amr_letters.specs.Beside.{beside_cell, beside_count, slot_of}
use Rattle.amr_letters.specs.Filled.{AreSlotsFilled, IsValueSet}
use Rattle.amr_letters.proofs.Slots.{all_beside, slots_held, slots_one, slots_within}

proper : (b : Extent) → IsNear b → IsProper b
proper b near = record { wide = near.wide; high = near.high }

beside_in_frame : (b : Extent) (c : Cell) → IsTrue (is_beside b c) → IsTrue (in_frame b c)
beside_in_frame b c h = (and_parts (in_frame b c) (within b.lo.x b.hi.x c.x || within b.lo.y b.hi.y c.y) h).0

corner_in_frame : (b : Extent) (c : Cell) → IsTrue (is_corner b c) → IsTrue (in_frame b c)
corner_in_frame b c h = (and_parts (in_frame b c) (not (within b.lo.x b.hi.x c.x || within b.lo.y b.hi.y c.y)) h).0

pub slot_in_frame : (b b' : Extent) (c : Cell) (slot : ℕ) → b' ≡ b → IsNear b → slot < beside_count b → c ≡ beside_cell b' slot → IsTrue (in_frame b c)
slot_in_frame b b' c slot same near there is =
    subst (λ (d : Cell). IsTrue (in_frame b d)) (sym (is ∙ ap (λ (a : Extent). beside_cell a slot) same)) (beside_in_frame b (beside_cell b slot) (all_beside b slot (proper b near) there))

-- ---- one ghost cell is set

pub value_set : (q r : Patch) (c d : Cell) (value wanted : ℕ) (mark : Bool) → c ≡ d → value ≡ wanted → mark ≡ mark_in q c → ghost_in r c ≡ value → mark_in r c ≡ mark → SameOtherValues c q r → SameOtherMarks c q r → SameFluxes q r → box r ≡ box q → IsValueSet d wanted q r
value_set q r c d value wanted mark at is old set marked others marks fluxes of_box = subst (λ (x : Cell). IsValueSet x wanted q r) at here
  where
    kept : (e : Cell) → IsTrue (in_frame (box q) e) → (e ≡ c) ⊎ (e ≢ c) → mark_in r e ≡ mark_in q e
    kept e frame (inl same) = ap (mark_in r) same ∙ marked ∙ old ∙ ap (mark_in q) (sym same)
    kept e frame (inr other) = marks e (frame_grown (box q) e frame) other

    here : IsValueSet c wanted q r
    here = record {
      of_box = of_box;
      set = set ∙ is;
      others = others;
      marks = λ e frame. kept e frame (same_or_other c e);
      fluxes = fluxes;
    }

-- ---- slot by slot

pub none_filled : (value : ℕ → ℕ) (q : Patch) → AreSlotsFilled value 0 q q
none_filled value q = record {
  of_box = refl;
  set = λ slot lt. absurd (omega (arith, lt));
  others = λ c inside none. refl;
  marks = λ c frame. refl;
  fluxes = λ f. refl;
}

apart_slots : (b : Extent) (j n : ℕ) → IsNear b → n < beside_count b → j < n → beside_cell b j ≢ beside_cell b n
apart_slots b j n near there lt e =
    let same : j ≡ n = sym (slots_one b j (proper b near) (omega (arith, there, lt))) ∙ ap (slot_of b) e ∙ slots_one b n (proper b near) there in
    omega (arith, same, lt)

module _ (value : Extent → ℕ → ℕ) (n : ℕ) (q r s : Patch) (near : IsNear (box q)) (there : n < beside_count (box q)) (h : AreSlotsFilled (value (box q)) n q r) (k : IsValueSet (beside_cell (box r) n) (value (box r) n) r s) where
  one : IsValueSet (beside_cell (box q) n) (value (box q) n) r s
  one = subst (λ (a : Extent). IsValueSet (beside_cell a n) (value a n) r s) h.of_box k

  still_grown : (c : Cell) → IsTrue (holds (grown (box q)) c) → IsTrue (holds (grown (box r)) c)
  still_grown c inside = subst (λ (a : Extent). IsTrue (holds (grown a) c)) (sym h.of_box) inside

  slot_grown : (j : ℕ) → j < n → IsTrue (holds (grown (box r)) (beside_cell (box q) j))
  slot_grown j t = still_grown (beside_cell (box q) j) (frame_grown (box q) (beside_cell (box q) j) (beside_in_frame (box q) (beside_cell (box q) j) (all_beside (box q) j (proper (box q) near) (omega (arith, there, t)))))

  set_before : (j : ℕ) → j < n → ghost_in s (beside_cell (box q) j) ≡ value (box q) j
  set_before j t = one.others (beside_cell (box q) j) (slot_grown j t) (apart_slots (box q) j n near there t) ∙ h.set j t

  pub one_more : AreSlotsFilled (value (box q)) (n + 1) q s
  one_more = record {
    of_box = one.of_box ∙ h.of_box;
    set = λ m lt. below_more (λ j. ghost_in s (beside_cell (box q) j) ≡ value (box q) j) n set_before one.set m (omega (arith, lt));
    others = λ c inside none. one.others c (still_grown c inside) (none n (omega arith)) ∙ h.others c inside (λ j t. none j (omega (arith, t)));
    marks = λ c frame. one.marks c (subst (λ (a : Extent). IsTrue (in_frame a c)) (sym h.of_box) frame) ∙ h.marks c frame;
    fluxes = λ f. one.fluxes f ∙ h.fluxes f;
  }

-- ---- the whole frame

module _ (q r : Patch) (value : ℕ → ℕ) (near : IsNear (box q)) (h : AreSlotsFilled value (beside_count (box q)) q r) where
  abbrev b : Extent
  b = box q

  beside : (slot : ℕ) → slot < beside_count b → IsTrue (is_beside b (beside_cell b slot))
  beside slot t = all_beside b slot (proper b near) t

  pub masses_stay : SameMasses q r
  masses_stay = λ c inside. h.others c (in_grown b c inside) (λ slot t. apart_cells b (beside_cell b slot) c (beside_in_frame b (beside_cell b slot) (beside slot t)) inside)

  pub corners_stay : KeepsCorners q r
  corners_stay = record {
    values = λ c corner. h.others c (corner_grown b c corner) (λ slot t. corner_apart b (beside_cell b slot) c (beside slot t) corner);
    marks = λ c corner. h.marks c (corner_in_frame b c corner);
  }

  at_slot : (right : Cell → ℕ) → ((slot : ℕ) → slot < beside_count b → value slot ≡ right (beside_cell b slot)) → (c : Cell) → IsTrue (is_beside b c) → ghost_in r c ≡ right c
  at_slot right told c side =
      let within : slot_of b c < beside_count b = slots_within b c (proper b near) side in
      let is : beside_cell b (slot_of b c) ≡ c = slots_held b c (proper b near) side in
      ap (ghost_in r) (sym is) ∙ h.set (slot_of b c) within ∙ told (slot_of b c) within ∙ ap right is

  pub values_right : (p : Problem) (l : ℕ) (m old : Masses) → ((slot : ℕ) → slot < beside_count b → value slot ≡ value_at p l m old (beside_cell b slot)) → HasGhostValues p l m old r
  values_right p l m old told c side = at_slot (value_at p l m old) told c (subst (λ (a : Extent). IsTrue (is_beside a c)) h.of_box side)
