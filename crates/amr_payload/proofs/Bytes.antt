-- A payload is a list of bytes.
use Rattle.std.proofs.Common.{ℕ, suc, ◌<◌, ◌++◌, Bool, true, false, if◌then◌else◌, List, [], ◌∷◌, length, drop, map, sym, subst, arith, flat_map, inl, inr, All}
use Rattle.std.specs.Int.{Width, w8, w32, w64}
use Rattle.amr_box.specs.declared.Cell.{Cell}
use Rattle.amr_box.specs.Cells.{Extent, at_least_zero, cells_of}
use Rattle.amr_def.specs.declared.problem.Row.{Row}
use Rattle.amr_def.specs.State.{Masses, Level, State, mass_of}
use Rattle.amr_payload.specs.Payload.{IsMassWidth, Form, whole, changed, Basis, alone, older, number_bytes, row_bytes, corner_bytes, have_masses, changed_bytes, masses_bytes, cell_rows, box_bytes, level_bytes, levels_bytes, state_bytes, payload}
use Rattle.amr_payload.specs.Delta.{delta_bytes}
use Rattle.amr_payload.proofs.Fields.{Each}
use Rattle.amr_payload.proofs.GridLevels.{all_from}

abbrev pub IsByte : ℕ → Type 0
IsByte b = b < 256

abbrev AreSmall : List ℕ → Type 0
AreSmall bs = Each IsByte bs

small_8 : (n : ℕ) → AreSmall (number_bytes w8 n)
unfolding number_bytes
small_8 n = (omega arith, tt)

small_32 : (n : ℕ) → AreSmall (number_bytes w32 n)
unfolding number_bytes
small_32 n = (omega arith, (omega arith, (omega arith, (omega arith, tt))))

small_64 : (n : ℕ) → AreSmall (number_bytes w64 n)
unfolding number_bytes
small_64 n = (omega arith, (omega arith, (omega arith, (omega arith, (omega arith, (omega arith, (omega arith, (omega arith, tt))))))))

small_mass : (w : Width) → IsMassWidth w → (n : ℕ) → AreSmall (number_bytes w n)
small_mass w (inl is) n = subst (λ (w : Width). AreSmall (number_bytes w n)) (sym is) (small_64 n)
small_mass w (inr is) n = subst (λ (w : Width). AreSmall (number_bytes w n)) (sym is) (small_32 n)

joined : (xs ys : List ℕ) → AreSmall xs → AreSmall ys → AreSmall (xs ++ ys)
joined [] ys one other = other
joined (x ∷ xs) ys one other = (one.0, joined xs ys one.1 other)

all_joined : {A : Type 0} (f : A → List ℕ) (xs : List A) → ((x : A) → AreSmall (f x)) → AreSmall (flat_map f xs)
all_joined f [] h = tt
all_joined f (x ∷ xs) h = joined (f x) (flat_map f xs) (h x) (all_joined f xs h)

small_row : (r : Row) → AreSmall (row_bytes r)
unfolding row_bytes
small_row r = joined (number_bytes w64 r.mass ++ number_bytes w64 r.inflow) (number_bytes w64 r.outflow) (joined (number_bytes w64 r.mass) (number_bytes w64 r.inflow) (small_64 r.mass) (small_64 r.inflow)) (small_64 r.outflow)

small_corner : (c : Cell) → AreSmall (corner_bytes c)
unfolding corner_bytes
small_corner c = joined (number_bytes w32 (at_least_zero c.x)) (number_bytes w32 (at_least_zero c.y)) (small_32 (at_least_zero c.x)) (small_32 (at_least_zero c.y))

-- a form whose bytes are bytes
abbrev IsByteForm : Form → Type 0
IsByteForm (whole w) = IsMassWidth w
IsByteForm (changed old) = Unit {0}

small_changed : (old m : Masses) (cs : List Cell) → AreSmall (changed_bytes old m cs)
unfolding changed_bytes
small_changed old m cs = by_test (have_masses old cs (map (mass_of m) cs))
  where
    by_test : (t : Bool) → AreSmall (if t then number_bytes w8 0 else number_bytes w8 1 ++ flat_map (λ c. number_bytes w32 (mass_of m c)) cs)
    by_test true = small_8 0
    by_test false = joined (number_bytes w8 1) (flat_map (λ c. number_bytes w32 (mass_of m c)) cs) (small_8 1) (all_joined (λ c. number_bytes w32 (mass_of m c)) cs (λ c. small_32 (mass_of m c)))

small_masses : (f : Form) → IsByteForm f → (m : Masses) (b : Extent) → AreSmall (masses_bytes f m b)
small_masses (whole w) form m b = all_joined (λ c. number_bytes w (mass_of m c)) (cells_of b) (λ c. small_mass w form (mass_of m c))
small_masses (changed old) form m b = all_joined (changed_bytes old m) (cell_rows b) (small_changed old m)

small_box : (f : Form) → IsByteForm f → (m : Masses) (b : Extent) → AreSmall (box_bytes f m b)
unfolding box_bytes
small_box f form m b =
    joined (corner_bytes b.lo ++ corner_bytes b.hi) (masses_bytes f m b) (joined (corner_bytes b.lo) (corner_bytes b.hi) (small_corner b.lo) (small_corner b.hi)) (small_masses f form m b)

small_level : (f : Form) → IsByteForm f → (k : Level) → AreSmall (level_bytes f k)
unfolding level_bytes
small_level f form k = joined (number_bytes w32 (length k.boxes)) (flat_map (box_bytes f k.masses) k.boxes) (small_32 (length k.boxes)) (all_joined (box_bytes f k.masses) k.boxes (small_box f form k.masses))

small_levels : (fs : ℕ → Form) → ((l : ℕ) → IsByteForm (fs l)) → (l : ℕ) (ks : List Level) → AreSmall (levels_bytes fs l ks)
small_levels fs forms l [] = tt
small_levels fs forms l (k ∷ ks) = joined (level_bytes (fs l) k) (levels_bytes fs (suc l) ks) (small_level (fs l) (forms l) k) (small_levels fs forms (suc l) ks)

small_state : (on : Basis) (s : State) → ((l : ℕ) → IsByteForm (on.forms l)) → AreSmall (state_bytes on s)
unfolding state_bytes
small_state on s forms =
    let n = number_bytes w32 s.step in
    let rs = flat_map row_bytes (drop (length on.rows) s.rows) in
    let t = number_bytes w8 (length s.levels) in
    let ks = levels_bytes on.forms 0 s.levels in
    joined (n ++ rs ++ t) ks (joined (n ++ rs) t (joined n rs (small_32 s.step) (all_joined row_bytes (drop (length on.rows) s.rows) small_row)) (small_8 (length s.levels))) (small_levels on.forms forms 0 s.levels)

pub payload_small : (w : Width) (s : State) → IsMassWidth w → All (λ b. b < 256) (payload w s)
payload_small w s width = all_from IsByte (payload w s) (small_state (alone w) s (λ l. width))

pub delta_small : (old : State) (q : ℕ) (s : State) → All (λ b. b < 256) (delta_bytes old q s)
unfolding delta_bytes
delta_small old q s = all_from IsByte (number_bytes w64 q ++ state_bytes (older old) s) (joined (number_bytes w64 q) (state_bytes (older old) s) (small_64 q) (small_state (older old) s (λ l. tt)))
