-- Where the domain has the cell that a cell stands for: on each axis it is periodic, or the cell is among its own.
use Rattle.std.proofs.Common.{◌≡◌, ℕ, ◌<◌, ◌⊎◌, inl, inr, Bool, true, false, ℤ, pos, negsuc, ◌≤ℤ◌, ◌<ℤ◌, refl, ap, arith}
use Rattle.std.specs.Prelude.{◌||◌, not}
use Rattle.std.proofs.lemmas.Int.{ints}
use Rattle.amr_box.specs.declared.Cell.{Cell}
use Rattle.amr_box.specs.declared.Face.{Face}
use Rattle.amr_box.specs.Cells.{Extent}
use Rattle.amr_def.specs.declared.problem.Problem.{Problem}
use Rattle.amr_def.specs.Domain.{columns, domain, home_cell, in_domain, is_periodic, rows, wrapped}
use Rattle.amr_def.proofs.Courants.{power_positive, some_columns}
use Rattle.amr_def.proofs.Uncovered.{in_domain-yes}
use Rattle.amr_layout.specs.Grounds.{has_open_side}
use Rattle.amr_layout.specs.Surroundings.{Around, is_open, outside}

abbrev pub IsAmong : ℕ → ℤ → Type 0
IsAmong n z = (pos 0 ≤ℤ z) × (z <ℤ pos n)

wrapped_among : (wrap : Bool) (n : ℕ) (z : ℤ) → 0 < n → (wrap ≡ true) ⊎ IsAmong n z → IsAmong n (wrapped wrap n z)
wrapped_among true n (pos a) some h = (omega (arith, ints), omega (arith, ints, some))
wrapped_among true n (negsuc a) some h = (omega (arith, ints), omega (arith, ints, some))
wrapped_among false n z some (inl e) = absurd (cc)
wrapped_among false n z some (inr h) = h

pub has : (p : Problem) (l : ℕ) → 0 < columns p l → 0 < rows p l → (k : Cell) → (is_periodic p.x_sides ≡ true) ⊎ IsAmong (columns p l) k.x → (is_periodic p.y_sides ≡ true) ⊎ IsAmong (rows p l) k.y → in_domain (domain p l) (home_cell (domain p l) k) ≡ true
has p l some_x some_y k x y =
    let a = wrapped_among (is_periodic p.x_sides) (columns p l) k.x some_x x in
    let b = wrapped_among (is_periodic p.y_sides) (rows p l) k.y some_y y in
    in_domain-yes p l (home_cell (domain p l) k) (record { west = a.0; east = a.1; south = b.0; north = b.1 })

-- ---- where no side is open

both_periodic : (a b : Bool) → (not a || not b) ≡ false → (a ≡ true) × (b ≡ true)
both_periodic true true h = (refl, refl)
both_periodic true false h = absurd (cc)
both_periodic false b h = absurd (cc)

-- no face is one of an open side
pub none_open : (s : Around) → has_open_side s.problem ≡ false → (b : Extent) (f : Face) → is_open s b f ≡ false
unfolding is_open
none_open s h b f =
    let p = s.problem in
    let wraps = both_periodic (is_periodic p.x_sides) (is_periodic p.y_sides) h in
    ap not (has p s.level (power_positive p.nx s.level (some_columns p).x) (power_positive p.ny s.level (some_columns p).y) (outside b f) (inl wraps.0) (inl wraps.1))
