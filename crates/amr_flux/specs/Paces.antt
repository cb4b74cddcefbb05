-- A step of a patch where one Courant number holds along each axis: each cell gives its shares and gets those of the cells that
-- flow into it (donor cell), told by masses alone.
use Rattle.std.specs.Prelude.{◌≡◌, ◌≢◌, ℕ, zero, suc, ◌+◌, ◌-◌, ◌*◌, ◌^◌, ◌<◌, ◌≤◌, Bool, true, false, ◌&&◌, cond, nat_eq}
use Rattle.std.specs.Prelude.{ℤ, pos, negsuc, ◌+ℤ◌, ◌≤ℤ◌, ◌<ℤ◌, List, length, slice_index, IsTrue}
use Rattle.amr_flux.specs.declared.pace.Pace.{Pace}
use Rattle.amr_faces.specs.Shares.{signed, share_of}
use Rattle.amr_flux.specs.Tables.{count_below, net_inflow, value, x_marked, y_marked}
use Rattle.amr_def.specs.Flux.{flow}

-- ---- masses that a pace is for

-- below 2^31, and where one product is to give the shares, below the limits of both
pub record IsFit (pace : Pace) (v : ℕ) : Type 0 where
  pub small : v < 2 ^ 31
  pub x_near : IsTrue pace.near → v < pace.x.limit
  pub y_near : IsTrue pace.near → v < pace.y.limit

pub record AreFit (pace : Pace) (values : List ℕ) : Type 0 where
  pub at : (k : ℕ) → k < length values → IsFit pace (slice_index values k)

-- the values of a patch's cells and of those beside them
pub record IsFitPatch (pace : Pace) (w h : ℕ) (values : List ℕ) : Type 0 where
  pub x : (i j : ℕ) → i < w + 2 → j < h → IsFit pace (value w values i (j + 1))
  pub y : (i j : ℕ) → i < w → j < h + 2 → IsFit pace (value w values (i + 1) j)

-- ---- what flows out of a cell, and into it

abbrev pub x_share : Pace → ℕ → ℕ
x_share pace v = share_of pace.x.number pace.x.parts v

abbrev pub y_share : Pace → ℕ → ℕ
y_share pace v = share_of pace.y.number pace.y.parts v

-- along both axes
abbrev pub gone : Pace → ℕ → ℕ
gone pace v = x_share pace v + y_share pace v

-- what comes into cell k of a row from the cell before it; into the first one comes `first`
abbrev pub came : Pace → ℕ → List ℕ → ℕ → ℕ
came pace first row zero = first
came pace first row (suc k) = x_share pace (slice_index row k)

-- the mass that the flow through x face i of row j is a share of
abbrev pub x_donor : ℤ → ℕ → List ℕ → ℕ → ℕ → ℕ
x_donor (pos c) w values i j = value w values i (j + 1)
x_donor (negsuc c) w values i j = value w values (i + 1) (j + 1)

-- and the flow along the row into cell (i, j)
abbrev pub x_before : ℤ → ℕ → List ℕ → ℕ → ℕ → ℕ
x_before (pos c) w values i j = value w values i (j + 1)
x_before (negsuc c) w values i j = value w values (i + 2) (j + 1)

-- row j may be stepped: its cells and those beside it are fit, and what comes into a cell by `entering` and along the row is not
-- more than 2^31
pub record IsReadyRow (pace : Pace) (w j : ℕ) (values entering : List ℕ) : Type 0 where
  pub fit : (i : ℕ) → i < w + 2 → IsFit pace (value w values i (j + 1))
  pub room : (i : ℕ) → i < w → x_share pace (x_before pace.x.number w values i j) + slice_index entering i ≤ 2 ^ 31

-- each cell of row j has what it had, less what flowed out, and what flowed in along the row and by `entering`
pub record IsSteppedRow (pace : Pace) (w j : ℕ) (old new entering : List ℕ) : Type 0 where
  pub totals : (i : ℕ) → i < w → value w new (i + 1) (j + 1) + gone pace (value w old (i + 1) (j + 1))
      ≡ value w old (i + 1) (j + 1) + (x_share pace (x_before pace.x.number w old i j) + slice_index entering i)
  pub others : (k : ℕ) → ((i : ℕ) → i < w → k ≢ (j + 1) * (w + 2) + (i + 1)) → slice_index new k ≡ slice_index old k

-- ---- rows from the low one up, or from the high one down

-- the one after k others
abbrev pub row_at : Bool → ℕ → ℕ → ℕ
row_at false h k = k
row_at true h k = h - 1 - k

-- row j is one of the first k
abbrev pub IsDone : Bool → ℕ → ℕ → ℕ → Type 0
IsDone false h k j = j < k
IsDone true h k j = h ≤ j + k

-- the row of values that the flow across comes from, after k rows, and that into cell (i, j)
abbrev pub row_before : Bool → ℕ → ℕ → ℕ
row_before false h k = k
row_before true h k = h + 1 - k

abbrev pub y_before : Bool → ℕ → List ℕ → ℕ → ℕ → ℕ
y_before false w values i j = value w values (i + 1) j
y_before true w values i j = value w values (i + 1) (j + 2)

-- a cell of a row has what it had, less what flowed out, and what flowed in
pub record IsStepped (pace : Pace) (down : Bool) (w : ℕ) (old new : List ℕ) (i j : ℕ) : Type 0 where
  pub total : value w new (i + 1) (j + 1) + gone pace (value w old (i + 1) (j + 1))
      ≡ value w old (i + 1) (j + 1) + (x_share pace (x_before pace.x.number w old i j) + y_share pace (y_before down w old i j))

-- what flows through x face i of row j and y face j of column i, at Courant number c/d
abbrev pub x_between : ℤ → ℕ → ℕ → List ℕ → ℕ → ℕ → ℤ
x_between c d w values i j = flow c d (value w values i (j + 1)) (value w values (i + 1) (j + 1))

abbrev pub y_between : ℤ → ℕ → ℕ → List ℕ → ℕ → ℕ → ℤ
y_between c d w values i j = flow c d (value w values (i + 1) j) (value w values (i + 1) (j + 1))

-- a place that is no cell's of the first k rows
abbrev pub IsUndone : Bool → ℕ → ℕ → ℕ → ℕ → Type 0
IsUndone down w h k q = (i j : ℕ) → i < w → j < h → IsDone down h k j → q ≢ (j + 1) * (w + 2) + (i + 1)

-- rows go the way of the flow across them: down where it is towards the low side
abbrev pub GoesWith : Bool → ℤ → Type 0
GoesWith false c = pos 0 ≤ℤ c
GoesWith true c = c <ℤ pos 0

-- ---- border faces, by the sizes handed in: first of the x faces by y, then of the y faces by x

-- what flows through x face i of row j, and y face j of column i
unfoldable pub x_with : Pace → ℕ → List Bool → List ℕ → List ℕ → ℕ → ℕ → ℤ
x_with pace w marks border values i j =
    cond (nat_eq i w && x_marked w marks j)
    (signed pace.x.number (slice_index border (count_below (x_marked w marks) j)))
    (x_between pace.x.number pace.x.parts w values i j)

unfoldable pub y_with : Pace → ℕ → ℕ → List Bool → List ℕ → List ℕ → ℕ → ℕ → ℤ
y_with pace w h marks border values i j =
    cond (nat_eq j h && y_marked w h marks i)
    (signed pace.y.number (slice_index border (count_below (x_marked w marks) h + count_below (y_marked w h marks) i)))
    (y_between pace.y.number pace.y.parts w values i j)

-- the new mass of cell (i, j), where the ends of rows have the sizes handed in, and where all border faces have
abbrev pub mass_by_ends : Pace → ℕ → List Bool → List ℕ → List ℕ → ℕ → ℕ → ℤ
mass_by_ends pace w marks border values i j =
    pos (value w values (i + 1) (j + 1)) +ℤ net_inflow (x_with pace w marks border values) (y_between pace.y.number pace.y.parts w values) i j

abbrev pub mass_with : Pace → ℕ → ℕ → List Bool → List ℕ → List ℕ → ℕ → ℕ → ℤ
mass_with pace w h marks border values i j =
    pos (value w values (i + 1) (j + 1)) +ℤ net_inflow (x_with pace w marks border values) (y_with pace w h marks border values) i j

-- n is z but for a multiple of 2^32, as sums that wrap leave it
pub record IsWordOf (z : ℤ) (n : ℕ) : Type 0 where
  pub over : ℕ
  pub under : ℕ
  pub same : pos n +ℤ pos (over * 2 ^ 32) ≡ z +ℤ pos (under * 2 ^ 32)

-- what flows across through the top face of column i by the values beside it, after the rows are gone over: out of the last row
-- done, or into the first one
abbrev pub top_share : Bool → Pace → ℕ → ℕ → List ℕ → List ℕ → ℕ → ℕ
top_share false pace w h values across i = slice_index across i
top_share true pace w h values across i = y_share pace (value w values (i + 1) (h + 1))
