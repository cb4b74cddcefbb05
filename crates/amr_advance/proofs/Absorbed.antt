-- The entries of a register to which the totals of a level's step are added, cell by cell.
use Rattle.std.proofs.Common.{◌≡◌, ◌∙◌, ℕ, ◌+◌, ◌*◌, ◌^◌, ◌<◌, ◌≤◌, ◌⊎◌, inl, inr, ℤ, pos, negsuc, ◌+ℤ◌, ◌-ℤ◌, ◌<ℤ◌, List, length, refl, sym, ap, subst, arith}
use Rattle.std.specs.Prelude.{slice_index, slice_index_or, unsigned_abs}
use Rattle.std.proofs.lemmas.Bool.{cases_eq, cases_lt}
use Rattle.std.proofs.lemmas.Int.{ints}
use Rattle.amr_box.specs.declared.Cell.{Cell}
use Rattle.amr_def.specs.declared.problem.Problem.{Problem}
use Rattle.amr_def.specs.State.{Masses}
use Rattle.amr_flows.proofs.RegisterFlowsSigns.{register_cells_rise}
use Rattle.amr_flows.proofs.SubcycleSizes.{within_from}
use Rattle.amr_register.specs.declared.register.Register.{Register}
use Rattle.amr_register.specs.Entries.{AreRising}
use Rattle.amr_register.specs.Fields.{IsRegisterOf, SameCells, cells_in, entry_in}
use Rattle.amr_register.proofs.Refluxes.{apart_places}
use Rattle.amr_register.proofs.Taken.{same_at}
use Rattle.amr_register.proofs.SameCells.{same_itself, same_twice}

-- what flowed into register cell k less what flowed out of it
abbrev pub gain_of : List ℕ → ℕ → ℤ
gain_of ws k = pos (slice_index ws (2 + 2 * k)) -ℤ pos (slice_index ws (3 + 2 * k))

-- the entries of the first n cells have their gains, those of the others are as they were
pub record AreAbsorbedUpTo (ws : List ℕ) (old now : Register) (n : ℕ) : Type 0 where
  pub done : (k : ℕ) (c : Cell) → k < n → k < length (cells_in old) → c ≡ slice_index_or (cells_in old) k c → entry_in now c ≡ entry_in old c +ℤ gain_of ws k
  pub left : (k : ℕ) (c : Cell) → n ≤ k → k < length (cells_in old) → c ≡ slice_index_or (cells_in old) k c → entry_in now c ≡ entry_in old c
  pub cells : SameCells old now

pub none_absorbed : (ws : List ℕ) (r : Register) → AreAbsorbedUpTo ws r r 0
none_absorbed ws r = record { done = λ k c lt. absurd (omega (arith, lt)); left = λ k c le there at. refl; cells = same_itself r }

abbrev pub IsOfLevels : Register → Type 0
IsOfLevels r = (p : Problem) × ((l : ℕ) × ((m : Masses) × ((fine : Masses) × IsRegisterOf p l m fine r)))

pub rises : (r : Register) → IsOfLevels r → AreRising (cells_in r)
rises r made =
    let fine = made.1.1.1.0 in
    subst (λ (cs : List Cell). AreRising cs) (sym made.1.1.1.1.cells) (register_cells_rise made.0 made.1.0 made.1.1.0 fine)

-- ---- the entry of the next cell

module _ (ws : List ℕ) (old now : Register) (n : ℕ) (up : AreAbsorbedUpTo ws old now n) (lt : n < length (cells_in old)) where
  -- the cell at place n, whatever would stand past the end
  itself : (c : Cell) → slice_index_or (cells_in now) n c ≡ slice_index_or (cells_in old) n c
  itself c = ap (λ (cs : List Cell). slice_index_or cs n c) up.cells.cells

  pub entry_before : (c : Cell) → entry_in now (slice_index_or (cells_in now) n c) ≡ entry_in old (slice_index_or (cells_in old) n c)
  entry_before c =
      let q = slice_index_or (cells_in old) n c in
      ap (entry_in now) (itself c) ∙ up.left n q (omega arith) lt (same_at (cells_in old) n c q lt)

  module _ (room : (c : Cell) → unsigned_abs (entry_in old c) < 2 ^ 61) (gain loss : ℕ) (net : unsigned_abs (pos gain -ℤ pos loss) < 2 ^ 61) where
    pub above : (c : Cell) → negsuc (2 ^ 62) <ℤ (entry_in now (slice_index_or (cells_in now) n c) +ℤ pos gain -ℤ pos loss)
    above c =
        let u = within_from (2 ^ 61) (entry_in old (slice_index_or (cells_in old) n c)) (room (slice_index_or (cells_in old) n c)) in
        let v = within_from (2 ^ 61) (pos gain -ℤ pos loss) net in
        omega (arith, ints, entry_before c, u.low, v.low)

    pub below : (c : Cell) → (entry_in now (slice_index_or (cells_in now) n c) +ℤ pos gain -ℤ pos loss) <ℤ pos (2 ^ 62)
    below c =
        let u = within_from (2 ^ 61) (entry_in old (slice_index_or (cells_in old) n c)) (room (slice_index_or (cells_in old) n c)) in
        let v = within_from (2 ^ 61) (pos gain -ℤ pos loss) net in
        omega (arith, ints, entry_before c, u.high, v.high)

  -- ---- one more

  pub one_absorbed : (new : Register) (gain loss : ℕ) → IsOfLevels old → gain ≡ slice_index ws (2 + 2 * n) → loss ≡ slice_index ws (3 + 2 * n)
      → ((c : Cell) → c ≡ slice_index_or (cells_in now) n c → entry_in new c ≡ entry_in now c +ℤ pos gain -ℤ pos loss)
      → ((c : Cell) → (c ≡ slice_index_or (cells_in now) n c → ⊥) → entry_in new c ≡ entry_in now c) → SameCells now new → AreAbsorbedUpTo ws old new (n + 1)
  one_absorbed new gain loss made is_gain is_loss added others same = record {
    done = λ k c less there at. by_place k c less there at (cases_eq k n);
    left = λ k c le there at. others c (apart k c there at (λ e. omega (arith, le, e))) ∙ up.left k c (omega (arith, le)) there at;
    cells = same_twice old now new up.cells same;
  }
    where
      -- the cell at another place is another
      apart : (k : ℕ) (c : Cell) → k < length (cells_in old) → c ≡ slice_index_or (cells_in old) k c → (k ≡ n → ⊥) → c ≡ slice_index_or (cells_in now) n c → ⊥
      apart k c there at ne s = from (cases_lt k n)
        where
          same_cell : slice_index_or (cells_in old) k c ≡ slice_index_or (cells_in old) n c
          same_cell = sym at ∙ s ∙ itself c

          from : (k < n) ⊎ (n ≤ k) → ⊥
          from (inl h) = apart_places (cells_in old) k n c c (rises old made) h lt same_cell
          from (inr h) = by_order (cases_lt n k)
            where
              by_order : (n < k) ⊎ (k ≤ n) → ⊥
              by_order (inl j) = apart_places (cells_in old) n k c c (rises old made) j there (sym same_cell)
              by_order (inr j) = ne (omega (arith, h, j))

      by_place : (k : ℕ) (c : Cell) → k < n + 1 → k < length (cells_in old) → c ≡ slice_index_or (cells_in old) k c → (k ≡ n) ⊎ (k ≡ n → ⊥) → entry_in new c ≡ entry_in old c +ℤ gain_of ws k
      by_place k c less there at (inl e) =
          let here : c ≡ slice_index_or (cells_in old) n c = at ∙ ap (λ (i : ℕ). slice_index_or (cells_in old) i c) e in
          let step = added c (here ∙ sym (itself c)) in
          let before = up.left n c (omega arith) lt here in
          let sum : entry_in new c ≡ entry_in old c +ℤ (pos gain -ℤ pos loss) = omega (arith, ints, step, before) in
          sum ∙ (λ i. entry_in old c +ℤ (pos (is_gain i) -ℤ pos (is_loss i))) ∙ ap (λ (i : ℕ). entry_in old c +ℤ gain_of ws i) (sym e)
      by_place k c less there at (inr ne) = others c (apart k c there at ne) ∙ up.done k c (omega (arith, less, ne)) there at
