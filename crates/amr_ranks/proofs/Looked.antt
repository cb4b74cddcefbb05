-- A look at the cells of one letter after another.
use Rattle.std.proofs.Common.{◌≡◌, ℕ, ◌+◌, ◌<◌, true, false, true≢false, List, length, take, get_or, Some, None, refl, sym, ap, ◌∙◌, arith, add-one}
use Rattle.std.specs.Prelude.{Option, is_some, slice_range, ◌++◌}
use Rattle.std.proofs.lemmas.List.{length-take, get_or-take, get_or_default}
use Rattle.amr_ranks.specs.declared.item.FrameCell.{FrameCell}
use Rattle.amr_ranks.specs.declared.node.Run.{Run}
use Rattle.amr_ranks.specs.Items.{mass_at}
use Rattle.amr_ranks.specs.Stored.{IsStored, start_of, run_at, no_run}
use Rattle.amr_ranks.proofs.Found.{take_parts, mass_left, mass_right}

none_of : (o : Option ℕ) → is_some o ≡ false → None ≡ o
none_of None e = refl
none_of (Some m) e = absurd (true≢false e)

some_stays : (patch slot : ℕ) (xs ys : List FrameCell) (o : Option ℕ) → is_some o ≡ true → o ≡ mass_at patch slot xs → o ≡ mass_at patch slot (xs ++ ys)
some_stays patch slot xs ys None e is = absurd (true≢false (sym e))
some_stays patch slot xs ys (Some m) e is = mass_left patch slot xs ys m is

module _ (numbers : List ℕ) (cells : List FrameCell) (filled : ℕ) (runs : List Run) (count : ℕ) (h : IsStored numbers cells filled runs count) (patch slot : ℕ) (rs : List Run) (same : rs ≡ runs) (start i : ℕ) (d : Run) (lt : i < length (take count rs))
    (from : start ≡ start_of runs i) (none : None ≡ mass_at patch slot (take start cells)) (cs : List FrameCell) (cs_are : cs ≡ cells) (o : Option ℕ) (found : o ≡ mass_at patch slot (slice_range cs start (get_or (take count rs) i d).end)) where
  abbrev end : ℕ
  end = (get_or (take count rs) i d).end

  below : i < count
  below = let n = length-take count rs in omega arith

  run_is : get_or (take count rs) i d ≡ run_at runs i
  run_is = get_or-take count rs i d below ∙ (ap (λ (xs : List Run). get_or xs i d) same ∙ get_or_default runs i d no_run (let b = below in let k = h.counted in omega arith))

  end_is : end ≡ (run_at runs i).end
  end_is = ap (λ (r : Run). r.end) run_is

  part : o ≡ mass_at patch slot (take end cells)
  part =
      let e = end_is in
      let f = h.ordered i below in
      found ∙ (ap (λ (xs : List FrameCell). mass_at patch slot (slice_range xs start end)) cs_are
      ∙ (sym (mass_right patch slot (take start cells) (slice_range cells start end) none) ∙ ap (mass_at patch slot) (sym (take_parts cells start end (omega arith)))))

  pub there : is_some o ≡ true → o ≡ mass_at patch slot (take filled cells)
  there e =
      let f = end_is in
      let g = h.ended i below in
      some_stays patch slot (take end cells) (slice_range cells end filled) o e part ∙ ap (mass_at patch slot) (sym (take_parts cells end filled (omega arith)))

  pub not_there : is_some o ≡ false → None ≡ mass_at patch slot (take end cells)
  not_there e = none_of o e ∙ part

  pub next_start : end ≡ start_of runs (i + 1)
  next_start = end_is ∙ ap (start_of runs) (sym (add-one i))
