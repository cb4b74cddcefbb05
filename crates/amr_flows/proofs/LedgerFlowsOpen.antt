-- Which faces on the edges of a box of the domain are faces of its open sides.
use Rattle.std.proofs.Common.{◌≡◌, ℕ, ◌+◌, ◌<◌, ◌≤◌, ◌⊎◌, inl, inr, Bool, true, false, ◌&&◌, ℤ, pos, negsuc, ◌+ℤ◌, ◌≤ℤ◌, ◌<ℤ◌, refl, sym, ap, arith}
use Rattle.std.specs.Prelude.{not}
use Rattle.std.proofs.lemmas.Int.{ints}
use Rattle.std.proofs.lemmas.Bool.{false_from_ne_true}
use Rattle.amr_box.specs.declared.Cell.{Cell}
use Rattle.amr_box.specs.Cells.{Extent, IsNear, height, width}
use Rattle.amr_def.specs.declared.problem.Problem.{Problem}
use Rattle.amr_def.specs.Domain.{columns, domain, home_cell, in_domain, is_periodic, rows, wrapped}
use Rattle.amr_def.proofs.Nesting.{in_domain-inside}
use Rattle.amr_patch.proofs.Rows.{is_inside, sides}
use Rattle.amr_faces.specs.Faces.{IsInDomain}
use Rattle.amr_layout.proofs.OpenSides.{IsAmong, has}

-- ---- a box of the domain, by whole numbers

pub record IsPlaced (p : Problem) (l : ℕ) (b : Extent) : Type 0 where
  pub column : ℕ
  pub row : ℕ
  pub left : pos column ≡ b.lo.x
  pub below : pos row ≡ b.lo.y
  pub wide : pos (column + width b) ≡ b.hi.x +ℤ pos 1
  pub high : pos (row + height b) ≡ b.hi.y +ℤ pos 1
  pub some_columns : 0 < width b
  pub some_rows : 0 < height b
  pub within_columns : column + width b ≤ columns p l
  pub within_rows : row + height b ≤ rows p l

natural : (z : ℤ) → pos 0 ≤ℤ z → (n : ℕ) × (pos n ≡ z)
natural (pos n) h = (n, refl)
natural (negsuc n) h = absurd (omega (arith, ints, h))

pub placed : (p : Problem) (l : ℕ) (b : Extent) → IsNear b → IsInDomain (domain p l) b → IsPlaced p l b
placed p l b near lies =
    let s = sides b near in
    let low = in_domain-inside p l b.lo (lies.at b.lo (is_inside b b.lo (record { west = omega (arith, ints); east = near.wide; south = omega (arith, ints); north = near.high }))) in
    let high = in_domain-inside p l b.hi (lies.at b.hi (is_inside b b.hi (record { west = near.wide; east = omega (arith, ints); south = near.high; north = omega (arith, ints) }))) in
    let x = natural b.lo.x low.west in
    let y = natural b.lo.y low.south in
    record {
      column = x.0;
      row = y.0;
      left = x.1;
      below = y.1;
      wide = omega (arith, ints, x.1, s.wide);
      high = omega (arith, ints, y.1, s.high);
      some_columns = s.some_columns;
      some_rows = s.some_rows;
      within_columns = omega (arith, ints, x.1, s.wide, high.east);
      within_rows = omega (arith, ints, y.1, s.high, high.north);
    }

-- ---- cells that the domain has, and cells past an open side

abbrev pub IsPast : ℕ → ℤ → Type 0
IsPast n z = (z <ℤ pos 0) ⊎ (pos n ≤ℤ z)

-- where an open axis ends
stays : (b : Bool) (n : ℕ) (z : ℤ) → b ≡ false → wrapped b n z ≡ z
stays b n z h = ap (λ (t : Bool). wrapped t n z) h

not_both : (n : ℕ) (z w : ℤ) → w ≡ z → IsAmong n w → IsPast n z → ⊥
not_both n z w e h (inl k) = omega (arith, ints, e, h.0, k)
not_both n z w e h (inr k) = omega (arith, ints, e, h.1, k)

module _ (p : Problem) (l : ℕ) (some_x : 0 < columns p l) (some_y : 0 < rows p l) where
  past_x : (k : Cell) → is_periodic p.x_sides ≡ false → IsPast (columns p l) k.x → in_domain (domain p l) (home_cell (domain p l) k) ≡ false
  past_x k e past = false_from_ne_true (in_domain (domain p l) (home_cell (domain p l) k)) (λ h.
      let at = in_domain-inside p l (home_cell (domain p l) k) h in
      not_both (columns p l) k.x (wrapped (is_periodic p.x_sides) (columns p l) k.x) (stays (is_periodic p.x_sides) (columns p l) k.x e) (at.west, at.east) past)

  past_y : (k : Cell) → is_periodic p.y_sides ≡ false → IsPast (rows p l) k.y → in_domain (domain p l) (home_cell (domain p l) k) ≡ false
  past_y k e past = false_from_ne_true (in_domain (domain p l) (home_cell (domain p l) k)) (λ h.
      let at = in_domain-inside p l (home_cell (domain p l) k) h in
      not_both (rows p l) k.y (wrapped (is_periodic p.y_sides) (rows p l) k.y) (stays (is_periodic p.y_sides) (rows p l) k.y e) (at.south, at.north) past)

  -- a cell in a row of the domain, where t tells whether it is past the row's ends: the domain lacks it where the axis is open
  pub lacks_x : (k : Cell) (t : Bool) → IsAmong (rows p l) k.y → (t ≡ true → IsPast (columns p l) k.x) → (t ≡ false → IsAmong (columns p l) k.x) → (not (is_periodic p.x_sides) && t) ≡ not (in_domain (domain p l) (home_cell (domain p l) k))
  lacks_x k t y past among = from (is_periodic p.x_sides) refl t refl
    where
      from : (u : Bool) → is_periodic p.x_sides ≡ u → (v : Bool) → t ≡ v → (not u && v) ≡ not (in_domain (domain p l) (home_cell (domain p l) k))
      from true e v g = sym (ap not (has p l some_x some_y k (inl e) (inr y)))
      from false e true g = sym (ap not (past_x k e (past g)))
      from false e false g = sym (ap not (has p l some_x some_y k (inr (among g)) (inr y)))

  pub lacks_y : (k : Cell) (t : Bool) → IsAmong (columns p l) k.x → (t ≡ true → IsPast (rows p l) k.y) → (t ≡ false → IsAmong (rows p l) k.y) → (not (is_periodic p.y_sides) && t) ≡ not (in_domain (domain p l) (home_cell (domain p l) k))
  lacks_y k t x past among = from (is_periodic p.y_sides) refl t refl
    where
      from : (u : Bool) → is_periodic p.y_sides ≡ u → (v : Bool) → t ≡ v → (not u && v) ≡ not (in_domain (domain p l) (home_cell (domain p l) k))
      from true e v g = sym (ap not (has p l some_x some_y k (inr x) (inl e)))
      from false e true g = sym (ap not (past_y k e (past g)))
      from false e false g = sym (ap not (has p l some_x some_y k (inr x) (inr (among g))))
