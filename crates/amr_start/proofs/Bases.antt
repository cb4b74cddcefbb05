-- Level 0 before any regrid, by the list of its masses.
use Rattle.std.proofs.Common.{◌≡◌, ℕ, zero, suc, ◌+◌, ◌*◌, ◌<◌, Bool, true, false, cond, ℤ, pos, negsuc, ◌-ℤ◌, List, [], ◌∷◌, refl, sym, ap, ◌∙◌, arith}
use Rattle.std.specs.Prelude.{slice_index}
use Rattle.std.specs.Option.{unwrap_or}
use Rattle.std.specs.declared.option.Option.{Option}
use Rattle.std.specs.declared.option.Option.TheVariants.{None, Some}
use Rattle.std.proofs.lemmas.Int.{ints}
use Rattle.std.proofs.lemmas.Bool.{and_parts}
use Rattle.amr_box.specs.declared.Cell.{Cell}
use Rattle.amr_box.specs.Cells.{Extent, cell, holds, within}
use Rattle.amr_def.specs.declared.problem.Problem.{Problem}
use Rattle.amr_def.specs.Domain.{columns, rows as domain_rows, domain, domain_box}
use Rattle.amr_def.specs.Ledger.{sum_to, mass_at, row_mass, total_mass}
use Rattle.amr_def.specs.Run.{block_mass, base_level, plain_start}
use Rattle.amr_def.specs.State.{Masses, State}
use Rattle.amr_start.specs.Rows.{HasBlocks, box_of, masses_on, row_mass_in}

within_below : (k n : ℕ) → k < n → within (pos 0) (pos n -ℤ pos 1) (pos k) ≡ true
within_below k n h = grind (arith, ints)

holds_inside : (columns rows x y : ℕ) → x < columns → y < rows → holds (box_of columns rows) (cell (pos x) (pos y)) ≡ true
holds_inside columns rows x y hx hy = rw (within_below x columns hx, within_below y rows hy) refl

masses_here : (columns rows : ℕ) (ms : List ℕ) (x y : ℕ) → x < columns → y < rows → masses_on columns rows ms (cell (pos x) (pos y)) ≡ Some (slice_index ms (y * columns + x))
masses_here columns rows ms x y hx hy = rw (holds_inside columns rows x y hx hy) refl

columns_0 : (p : Problem) → columns p 0 ≡ p.nx
columns_0 p = omega arith

rows_0 : (p : Problem) → domain_rows p 0 ≡ p.ny
rows_0 p = omega arith

-- ---- a box's cells

record IsAt (columns rows : ℕ) (c : Cell) : Type 0 where
  pub x : ℕ
  pub y : ℕ
  pub column : x < columns
  pub row : y < rows
  pub is : c ≡ cell (pos x) (pos y)

below_end : (k n : ℕ) → within (pos 0) (pos n -ℤ pos 1) (pos k) ≡ true → k < n
below_end k n e = grind (arith, ints)

at_pos : (columns rows : ℕ) (x y : ℤ) → within (pos 0) (pos columns -ℤ pos 1) x ≡ true → within (pos 0) (pos rows -ℤ pos 1) y ≡ true → IsAt columns rows (cell x y)
at_pos columns rows (pos x) (pos y) hx hy = record { x = x; y = y; column = below_end x columns hx; row = below_end y rows hy; is = refl }
at_pos columns rows (pos x) (negsuc y) hx hy = cc
at_pos columns rows (negsuc x) y hx hy = cc

inside_at : (columns rows : ℕ) (c : Cell) → holds (box_of columns rows) c ≡ true → IsAt columns rows c
inside_at columns rows c h =
    let both = and_parts (within (pos 0) (pos columns -ℤ pos 1) c.x) (within (pos 0) (pos rows -ℤ pos 1) c.y) h in
    at_pos columns rows c.x c.y both.0 both.1

-- masses that agree at each cell of a box are one
module _ (columns rows : ℕ) (ms : List ℕ) (m : Masses) (off : (c : Cell) → holds (box_of columns rows) c ≡ false → m c ≡ None) (on : (x y : ℕ) → x < columns → y < rows → m (cell (pos x) (pos y)) ≡ Some (slice_index ms (y * columns + x))) where
  same_at : (c : Cell) (inside : Bool) → holds (box_of columns rows) c ≡ inside → m c ≡ masses_on columns rows ms c
  same_at c false e = off c e ∙ rw e refl
  same_at c true e =
      let place = inside_at columns rows c e in
      ap m place.is ∙ on place.x place.y place.column place.row ∙ sym (masses_here columns rows ms place.x place.y place.column place.row) ∙ ap (masses_on columns rows ms) (sym place.is)

  pub same_masses : m ≡ masses_on columns rows ms
  same_masses = λ i c. same_at c (holds (box_of columns rows) c) refl i

-- the state at step 0 with a mass in its row and the masses of a list
abbrev pub state_with : Problem → ℕ → List ℕ → State
state_with p mass ms = record { step = 0; rows = record { mass = mass; inflow = 0; outflow = 0 } ∷ []; levels = record { boxes = box_of p.nx p.ny ∷ []; masses = masses_on p.nx p.ny ms } ∷ [] }

-- ---- the start

pub sum_to-same_below : (f g : ℕ → ℕ) (n : ℕ) → ((k : ℕ) → k < n → f k ≡ g k) → sum_to f n ≡ sum_to g n
sum_to-same_below f g zero h = refl
sum_to-same_below f g (suc n) h = omega (arith, sum_to-same_below f g n (λ k below. h k (omega arith)), h n (omega arith))

pub whole_box : (p : Problem) → domain_box (domain p 0) ≡ box_of p.nx p.ny
whole_box p = λ i. box_of (columns_0 p i) (rows_0 p i)

module _ (p : Problem) (ms : List ℕ) (has : HasBlocks p ms) where
  base : Masses
  base = (base_level p).masses

  base_off : (c : Cell) → holds (box_of p.nx p.ny) c ≡ false → base c ≡ None
  unfolding base
  base_off c h = ap (λ (b : Extent). cond (holds b c) (Some (block_mass p.blocks c)) None) (whole_box p) ∙ ap (λ (t : Bool). cond t (Some (block_mass p.blocks c)) None) h

  base_on : (x y : ℕ) → x < p.nx → y < p.ny → base (cell (pos x) (pos y)) ≡ Some (slice_index ms (y * p.nx + x))
  unfolding base
  base_on x y hx hy =
      let c = cell (pos x) (pos y) in
      ap (λ (b : Extent). cond (holds b c) (Some (block_mass p.blocks c)) None) (whole_box p)
      ∙ ap (λ (t : Bool). cond t (Some (block_mass p.blocks c)) None) (holds_inside p.nx p.ny x y hx hy)
      ∙ ap Some (sym (has.at x y hx hy))

  base_masses : base ≡ masses_on p.nx p.ny ms
  base_masses = same_masses p.nx p.ny ms base base_off base_on

  base_total : total_mass p base ≡ sum_to (row_mass_in p.nx ms) p.ny
  unfolding total_mass base
  base_total = ap (sum_to (row_mass p base)) (rows_0 p)
      ∙ sum_to-same_below _ _ p.ny (λ y hy. ap (sum_to (λ x. mass_at base x y)) (columns_0 p)
      ∙ sum_to-same_below _ _ p.nx (λ x hx. ap (λ (o : Option ℕ). unwrap_or o 0) (base_on x y hx hy)))

  pub base-state_with : (mass : ℕ) → mass ≡ sum_to (row_mass_in p.nx ms) p.ny → state_with p mass ms ≡ plain_start p
  unfolding base
  base-state_with mass is =
      λ i. record { step = 0; rows = record { mass = (is ∙ sym base_total) i; inflow = 0; outflow = 0 } ∷ []; levels = record { boxes = sym (whole_box p) i ∷ []; masses = sym base_masses i } ∷ [] }
