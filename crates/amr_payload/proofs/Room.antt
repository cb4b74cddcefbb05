-- How long a payload is, and that a slot has room for it.
use Rattle.std.proofs.Common.{◌≡◌, ℕ, zero, suc, ◌+◌, ◌*◌, ◌^◌, ◌<◌, ◌≤◌, inr, Bool, true, false, if◌then◌else◌, ℤ, pos, negsuc, ◌+ℤ◌, ◌-ℤ◌, map, drop, length-drop, List, [], ◌∷◌, ◌++◌, length, refl, sym, ap, subst, ◌∙◌, arith, flat_map, length-append, mul-le-mul_left, mul-add, add-mul, mul-zero, mul-suc, ◌-◌}
use Rattle.std.specs.Int.{Width, w8, w32, w64, byte_len}
use Rattle.std.specs.List.{range_with_len}
use Rattle.std.proofs.lemmas.Int.{ints}
use Rattle.std.proofs.lemmas.List.{length-map}
use Rattle.std.proofs.lemmas.List.FromFn.{length-range_with_len}
use Rattle.amr_box.specs.declared.Cell.{Cell}
use Rattle.amr_box.specs.Cells.{Extent, IsProper, at_least_zero, cell, cells_of, height, width}
use Rattle.amr_def.specs.declared.problem.Problem.{Problem}
use Rattle.amr_def.specs.declared.problem.Row.{Row}
use Rattle.amr_def.specs.State.{Masses, Level, State, level_at, mass_of}
use Rattle.amr_def.specs.Ledger.{sum_to}
use Rattle.amr_def.specs.Facts.{IsSound}
use Rattle.amr_payload.specs.Payload.{IsMassWidth, Form, whole, changed, Basis, alone, older, number_bytes, row_bytes, corner_bytes, have_masses, changed_bytes, masses_bytes, cell_rows, box_bytes, level_bytes, levels_bytes, state_bytes, payload, level_cells, room, slot_size}
use Rattle.amr_payload.specs.Delta.{delta_bytes, delta_size}
use Rattle.amr_payload.proofs.Numbers.{IsCode, code_8, code_32, code_64, mass_code}
use Rattle.amr_payload.proofs.Counting.{level_few, few_boxes, next_cells}
use Rattle.amr_payload.proofs.ReadStates.{IsGood, IsOver, IsTower}
use Rattle.amr_payload.proofs.WriteStates.{has_tower}
use Rattle.amr_payload.proofs.WriteLevels.{each_from}
use Rattle.amr_payload.proofs.Fields.{Each}
use Rattle.amr_payload.proofs.Forms.{cells_joined}

pub length-row : (r : Row) → length (row_bytes r) ≡ 24
unfolding row_bytes
length-row r =
    let m = number_bytes w64 r.mass in
    let i = number_bytes w64 r.inflow in
    let o = number_bytes w64 r.outflow in
    let a : length m ≡ 8 = code_64.len r.mass in
    let b : length i ≡ 8 = code_64.len r.inflow in
    let c : length o ≡ 8 = code_64.len r.outflow in
    omega (arith, length-append (m ++ i) o, length-append m i, a, b, c)

pub length-rows : (rs : List Row) → length (flat_map row_bytes rs) ≡ 24 * length rs
length-rows [] = refl
length-rows (r ∷ rs) = omega (arith, length-append (row_bytes r) (flat_map row_bytes rs), length-row r, length-rows rs)

pub length-corner : (c : Cell) → length (corner_bytes c) ≡ 8
unfolding corner_bytes
length-corner c =
    let x = number_bytes w32 (at_least_zero c.x) in
    let y = number_bytes w32 (at_least_zero c.y) in
    let a : length x ≡ 4 = code_32.len (at_least_zero c.x) in
    let b : length y ≡ 4 = code_32.len (at_least_zero c.y) in
    omega (arith, length-append x y, a, b)

module _ (w : Width) (code : IsCode w (2 ^ 32)) where
  length-masses : (m : Masses) (cs : List Cell) → length (flat_map (λ c. number_bytes w (mass_of m c)) cs) ≡ byte_len w * length cs
  length-masses m [] = sym (mul-zero (byte_len w))
  length-masses m (c ∷ cs) =
      length-append (number_bytes w (mass_of m c)) (flat_map (λ c. number_bytes w (mass_of m c)) cs) ∙ (λ i. code.len (mass_of m c) i + length-masses m cs i) ∙ sum_of (byte_len w) (length cs)
    where
      sum_of : (a n : ℕ) → a + a * n ≡ a * suc n
      sum_of a n = omega (arith, mul-suc a n)

-- a form takes at most so many bytes a cell
pub record TakesAtMost (f : Form) (each : ℕ) : Type 0 where
  pub at : (m : Masses) (b : Extent) → IsProper b → length (masses_bytes f m b) ≤ each * length (cells_of b)

pub whole_takes : (w : Width) → IsMassWidth w → TakesAtMost (whole w) (byte_len w)
whole_takes w width = record { at = λ m b proper. at_most (length-masses w (mass_code w width) m (cells_of b)) }
  where
    at_most : {m n : ℕ} → m ≡ n → m ≤ n
    at_most {m} {n} e = omega (arith, e)

length-changed : (old m : Masses) (cs : List Cell) → 0 < length cs → length (changed_bytes old m cs) ≤ 5 * length cs
unfolding changed_bytes
length-changed old m cs some = by_test (have_masses old cs (map (mass_of m) cs))
  where
    by_test : (t : Bool) → length (if t then number_bytes w8 0 else number_bytes w8 1 ++ flat_map (λ c. number_bytes w32 (mass_of m c)) cs) ≤ 5 * length cs
    by_test true = let one : length (number_bytes w8 0) ≡ 1 = code_8.len 0 in omega (arith, one, some)
    by_test false =
        let one : length (number_bytes w8 1) ≡ 1 = code_8.len 1 in
        let masses : length (flat_map (λ c. number_bytes w32 (mass_of m c)) cs) ≡ 4 * length cs = length-masses w32 code_32 m cs in
        omega (arith, length-append (number_bytes w8 1) (flat_map (λ c. number_bytes w32 (mass_of m c)) cs), one, masses, some)

length-all-changed : (old m : Masses) (css : List (List Cell)) → Each (λ cs. 0 < length cs) css → length (flat_map (changed_bytes old m) css) ≤ 5 * length (flat_map (λ cs. cs) css)
length-all-changed old m [] some = omega arith
length-all-changed old m (cs ∷ css) some =
    omega (arith, length-append (changed_bytes old m cs) (flat_map (changed_bytes old m) css), length-append cs (flat_map (λ cs. cs) css), length-changed old m cs some.0, length-all-changed old m css some.1)

some_cells : (b : Extent) (js : List ℕ) → 0 < width b → Each (λ cs. 0 < length cs) (map (λ j. map (λ i. cell (b.lo.x +ℤ pos i) (b.lo.y +ℤ pos j)) (range_with_len 0 (width b))) js)
some_cells b [] some = tt
some_cells b (j ∷ js) some = (
  omega (arith, length-map (range_with_len 0 (width b)) (λ i. cell (b.lo.x +ℤ pos i) (b.lo.y +ℤ pos j)), length-range_with_len 0 (width b), some),
  some_cells b js some,
)

wide : (b : Extent) → IsProper b → 0 < width b
wide b proper = by_gap (b.hi.x +ℤ pos 1 -ℤ b.lo.x) refl
  where
    by_gap : (z : ℤ) → b.hi.x +ℤ pos 1 -ℤ b.lo.x ≡ z → 0 < at_least_zero z
    by_gap (pos n) e = omega (arith, ints, proper.wide)
    by_gap (negsuc n) e = absurd (omega (arith, ints, proper.wide))

pub changed_takes : (old : Masses) → TakesAtMost (changed old) 5
changed_takes old = record {
  at = λ m b proper. subst (λ (cs : List Cell). length (flat_map (changed_bytes old m) (cell_rows b)) ≤ 5 * length cs) (cells_joined b)
      (length-all-changed old m (cell_rows b) (some_cells b (range_with_len 0 (height b)) (wide b proper)));
}

module _ (f : Form) (each : ℕ) (takes : TakesAtMost f each) where
  length-box : (m : Masses) (b : Extent) → IsProper b → length (box_bytes f m b) ≤ 16 + each * length (cells_of b)
  unfolding box_bytes
  length-box m b proper =
      let ms = masses_bytes f m b in
      omega (arith, length-append (corner_bytes b.lo ++ corner_bytes b.hi) ms, length-append (corner_bytes b.lo) (corner_bytes b.hi), length-corner b.lo, length-corner b.hi, takes.at m b proper)

  length-boxes : (m : Masses) (bs : List Extent) → Each IsProper bs → length (flat_map (box_bytes f m) bs) ≤ 16 * length bs + each * length (flat_map cells_of bs)
  length-boxes m [] proper = omega (arith, mul-zero each)
  length-boxes m (b ∷ bs) proper =
      let all : length (cells_of b ++ flat_map cells_of bs) ≡ length (cells_of b) + length (flat_map cells_of bs) = length-append (cells_of b) (flat_map cells_of bs) in
      let product : each * length (cells_of b ++ flat_map cells_of bs) ≡ each * length (cells_of b) + each * length (flat_map cells_of bs) = ap (λ k. each * k) all ∙ mul-add each (length (cells_of b)) (length (flat_map cells_of bs)) in
      omega (arith, length-append (box_bytes f m b) (flat_map (box_bytes f m) bs), length-box m b proper.0, length-boxes m bs proper.1, product)

  length-level : (k : Level) → Each IsProper k.boxes → length (level_bytes f k) ≤ 4 + 16 * length k.boxes + each * length (flat_map cells_of k.boxes)
  unfolding level_bytes
  length-level k proper =
      let n : length (number_bytes w32 (length k.boxes)) ≡ 4 = code_32.len (length k.boxes) in
      omega (arith, length-append (number_bytes w32 (length k.boxes)) (flat_map (box_bytes f k.masses) k.boxes), n, length-boxes k.masses k.boxes proper)

  level_fits : (p : Problem) (n l : ℕ) (k : Level) → IsGood p n l k → length (level_bytes f k) ≤ 4 + 16 * length k.boxes + each * level_cells p l
  level_fits p n l k good =
      let most : each * length (flat_map cells_of k.boxes) ≤ each * level_cells p l = mul-le-mul_left each (level_few p l k good.level) in
      omega (arith, length-level k (each_from IsProper k.boxes good.level.proper), most)

  fine_fits : (p : Problem) (n l : ℕ) (below k : Level) → IsOver p n l below k → length (level_bytes f k) ≤ 4 + (each + 4) * level_cells p (suc l)
  fine_fits p n l below k over =
      let level = level_fits p n (suc l) k over.good in
      let few = few_boxes p l k over.good.level over.aligned in
      let sum : (each + 4) * level_cells p (suc l) ≡ each * level_cells p (suc l) + 4 * level_cells p (suc l) = add-mul each 4 (level_cells p (suc l)) in
      omega (arith, level, few, next_cells p l, sum)

sum_grows : (f : ℕ → ℕ) (m d : ℕ) → sum_to f m ≤ sum_to f (m + d)
sum_grows f m zero = let same : m + 0 ≡ m = omega arith in subst (λ (k : ℕ). sum_to f m ≤ sum_to f k) (sym same) (omega arith)
sum_grows f m (suc d) =
    let more = sum_grows f m d in
    let same : suc (m + d) ≡ m + suc d = omega arith in
    subst (λ (k : ℕ). sum_to f m ≤ sum_to f k) same (omega (arith, more))

sum_below : (f : ℕ → ℕ) (m n : ℕ) → m ≤ n → sum_to f m ≤ sum_to f n
sum_below f m n h = let same : m + (n - m) ≡ n = omega arith in subst (λ (k : ℕ). sum_to f m ≤ sum_to f k) same (sum_grows f m (n - m))

module _ (fs : ℕ → Form) (each : ℕ) (takes : (l : ℕ) → TakesAtMost (fs l) each) (p : Problem) (n : ℕ) where
  -- room for a level
  abbrev level_room : ℕ → ℕ
  level_room l = 4 + (each + 4) * level_cells p l

  finer_fit : (l : ℕ) (below : Level) (ks : List Level) → IsTower p n l below ks → sum_to level_room (suc l) + length (levels_bytes fs (suc l) ks) ≤ sum_to level_room (suc l + length ks)
  finer_fit l below [] tower = let same : suc l + 0 ≡ suc l = omega arith in subst (λ (m : ℕ). sum_to level_room (suc l) + 0 ≤ sum_to level_room m) (sym same) (omega arith)
  finer_fit l below (k ∷ ks) tower =
      let more = finer_fit (suc l) k ks tower.1 in
      let same : suc (suc l) + length ks ≡ suc l + suc (length ks) = omega arith in
      let whole : sum_to level_room (suc l) + level_room (suc l) + length (levels_bytes fs (suc (suc l)) ks) ≤ sum_to level_room (suc l + suc (length ks)) = subst (λ (m : ℕ). sum_to level_room (suc (suc l)) + length (levels_bytes fs (suc (suc l)) ks) ≤ sum_to level_room m) same more in
      let one = fine_fits (fs (suc l)) each (takes (suc l)) p n l below k tower.0 in
      omega (arith, length-append (level_bytes (fs (suc l)) k) (levels_bytes fs (suc (suc l)) ks), whole, one)

pub state_fits : (on : Basis) (each : ℕ) (p : Problem) (s : State) → ((l : ℕ) → TakesAtMost (on.forms l) each) → IsSound p s → length (state_bytes on s) ≤ room 21 each p
unfolding state_bytes
state_fits on each p s takes sound =
    let tower = has_tower p s sound in
    let f = λ (l : ℕ). 4 + (each + 4) * level_cells p l in
    let n = number_bytes w32 s.step in
    let rs = flat_map row_bytes (drop (length on.rows) s.rows) in
    let t = number_bytes w8 (length s.levels) in
    let ks = levels_bytes on.forms 0 s.levels in
    let of_n : length n ≡ 4 = code_32.len s.step in
    let of_t : length t ≡ 1 = code_8.len (length s.levels) in
    let of_ks : length ks ≡ length (level_bytes (on.forms 0) tower.base) + length (levels_bytes on.forms 1 tower.finer) = ap (λ (ls : List Level). length (levels_bytes on.forms 0 ls)) tower.is ∙ length-append (level_bytes (on.forms 0) tower.base) (levels_bytes on.forms 1 tower.finer) in
    let of_rs : length rs ≡ 24 * length (drop (length on.rows) s.rows) = length-rows (drop (length on.rows) s.rows) in
    let few_rows : length (drop (length on.rows) s.rows) ≤ s.step + 1 = omega (arith, length-drop (length on.rows) s.rows, sound.telescoped.count) in
    let one_box : length tower.base.boxes ≡ 1 = ap (λ (bs : List Extent). length bs) tower.boxes in
    let base : length (level_bytes (on.forms 0) tower.base) ≤ 4 + 16 * length tower.base.boxes + each * level_cells p 0 = level_fits (on.forms 0) each (takes 0) p s.step 0 tower.base tower.good in
    let sum : (each + 4) * level_cells p 0 ≡ each * level_cells p 0 + 4 * level_cells p 0 = add-mul each 4 (level_cells p 0) in
    let finer : 0 + f 0 + length (levels_bytes on.forms 1 tower.finer) ≤ sum_to f (1 + length tower.finer) = finer_fit on.forms each takes p s.step 0 tower.base tower.finer tower.tower in
    let all : sum_to f (1 + length tower.finer) ≤ sum_to f (p.max_level + 1) = sum_below f (1 + length tower.finer) (p.max_level + 1) (omega (arith, tower.few)) in
    omega (arith, length-append (n ++ rs ++ t) ks, length-append (n ++ rs) t, length-append n rs, of_n, of_t, of_ks, of_rs, few_rows, one_box, base, sum, finer, all, sound.within)

pub fits_slot : (w : Width) (p : Problem) (s : State) → IsMassWidth w → IsSound p s → length (payload w s) ≤ slot_size w p
unfolding slot_size
fits_slot w p s width sound = state_fits (alone w) (byte_len w) p s (λ l. whole_takes w width) sound

pub delta_fits : (p : Problem) (old s : State) (q : ℕ) → IsSound p s → length (delta_bytes old q s) ≤ delta_size p
unfolding delta_bytes delta_size
delta_fits p old s q sound =
    let eight : length (number_bytes w64 q) ≡ 8 = code_64.len q in
    omega (arith, length-append (number_bytes w64 q) (state_bytes (older old) s), eight, state_fits (older old) 5 p s (λ l. changed_takes (level_at old l).masses) sound)

-- a slot for records has room for a payload 2 too
pub payload_fits_delta : (p : Problem) (s : State) → IsSound p s → length (payload w32 s) ≤ delta_size p
unfolding delta_size
payload_fits_delta p s sound =
    let fits : length (payload w32 s) ≤ room 21 4 p = state_fits (alone w32) 4 p s (λ l. whole_takes w32 (inr refl)) sound in
    omega (arith, fits, sums_in_order (λ l. 4 + 8 * level_cells p l) (λ l. 4 + 9 * level_cells p l) (p.max_level + 1) (λ l. omega arith))
  where
    sums_in_order : (f g : ℕ → ℕ) (n : ℕ) → ((l : ℕ) → f l ≤ g l) → sum_to f n ≤ sum_to g n
    sums_in_order f g zero h = omega arith
    sums_in_order f g (suc n) h = omega (arith, sums_in_order f g n h, h n)
