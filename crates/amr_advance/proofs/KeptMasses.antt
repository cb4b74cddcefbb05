-- Lots that are handed a level's patches and those that keep its masses: they copy the masses, and are handed what they had before.
use Rattle.std.proofs.Common.{◌≡◌, ◌∙◌, ℕ, ◌<◌, List, length, get_or, map, sym, ap, subst, arith}
use Rattle.std.specs.Global.{Box, Vec}
use Rattle.std.specs.List.{All, AllZip}
use Rattle.std.specs.Vec.{with_items}
use Rattle.std.proofs.lemmas.List.{length-map}
use Rattle.std.proofs.lemmas.List.Elements.{AllZip-get_or, length_all_zip}
use Rattle.amr_alike.specs.Copied.{IsCopied}
use Rattle.amr_layout.proofs.Planned.{nth}
use Rattle.amr_lots.specs.declared.lot.Duty.TheVariants.{Keep}
use Rattle.amr_lots.specs.declared.lot.Lot.{Lot}
use Rattle.amr_lots.specs.Runs.{KeepAllButBefore, KeepOthers, run, with_before}
use Rattle.amr_lots.specs.Duties.{HasKeptMasses, IsServed, MayServe}
use Rattle.amr_lots.proofs.Runs.{map_run}
use Rattle.amr_patch.specs.declared.patches.Patch.{Patch}
use Rattle.amr_patch.specs.Patches.{box}
use Rattle.amr_advance.specs.declared.lots.Lots.{Lots}
use Rattle.amr_advance.specs.Lots.{AreLotsFor}
use Rattle.amr_advance.proofs.KeptRuns.{AreServed, AreTraded, KeepRuns, KeepsRun, counts, enough, several_of}
use Rattle.amr_advance.proofs.LotsHanded.{when_lent}
use Rattle.amr_advance.proofs.RunLists.{same_runs}
use Rattle.amr_advance.proofs.RunZips.{zip_runs}

-- ---- what the calls do with the patches that keep masses

-- patches bs became cs, and lots xs became ys: they exchanged those that keep masses
pub record AreTradedBefore (each : ℕ) (bs cs : List Patch) (xs ys : List (Box Lot)) : Type 0 where
  pub handed : (k : ℕ) (x : Box Lot) → k < length xs → (get_or ys k x).value.before.items ≡ run each k bs
  pub back : (k : ℕ) (x : Box Lot) → k < length xs → run each k cs ≡ (get_or xs k x).value.before.items
  pub count : length cs ≡ length bs
  pub others : AllZip KeepAllButBefore xs ys

abbrev WasServed : Box Lot → Box Lot → Type 0
WasServed a b = IsServed Keep a.value b.value

pub all_traded_before : (each : ℕ) (bs cs : List Patch) (v : Vec (Box Lot)) (lent xs : List (Box Lot)) → lent ≡ v.items → AreTradedBefore each bs cs lent xs → AreTradedBefore each bs cs v.items (with_items v xs).items
all_traded_before each bs cs v lent xs is h = when_lent (AreTradedBefore each bs cs) v lent xs is (length_all_zip KeepAllButBefore lent xs h.others) h

-- patches with the same boxes are as many
pub as_many : (ps bs : List Patch) → map box bs ≡ map box ps → length bs ≡ length ps
as_many ps bs same = sym (length-map bs box) ∙ ap length same ∙ length-map ps box

-- and so are their runs, with the same boxes
same_boxes : (each k : ℕ) (ps bs : List Patch) → map box bs ≡ map box ps → map box (run each k bs) ≡ map box (run each k ps)
same_boxes each k ps bs same = map_run box each k bs ∙ ap (run each k) same ∙ sym (map_run box each k ps)

-- ---- handed the patches

module _ {t : Lots} (ps bs : List Patch) (made : AreLotsFor (map box ps) t) (same : map box bs ≡ map box ps) where
  before_count : (k : ℕ) (x : Box Lot) → k < length t.lots.items → length (get_or t.lots.items k x).value.before.items ≡ length (run t.each k bs)
  before_count k x lt =
      let others = ((several_of ps made).lots k x lt).others in
      others.before ∙ sym others.count ∙ counts ps made k x lt ∙ sym (as_many (run t.each k ps) (run t.each k bs) (same_boxes t.each k ps bs same))

  module _ {qs : List Patch} {ys : List (Box Lot)} (h : AreTraded t.each ps qs t.lots.items ys) where
    ys_count : length ys ≡ length t.lots.items
    ys_count = sym (length_all_zip KeepOthers t.lots.items ys h.others)

    one_handed : (k : ℕ) (x : Box Lot) → k < length t.lots.items → KeepOthers (get_or t.lots.items k x) (get_or ys k x)
    one_handed k x lt = AllZip-get_or KeepOthers t.lots.items ys k x x h.others lt

    -- so they may be handed those that keep masses
    pub before_counts : (k : ℕ) (x : Box Lot) → k < length ys → length (get_or ys k x).value.before.items ≡ length (run t.each k bs)
    before_counts k x lt = let below : k < length t.lots.items = omega (arith, lt, ys_count) in (λ i. length (one_handed k x below i).before.items) ∙ before_count k x below

    module _ {cs : List Patch} {zs : List (Box Lot)} (g : AreTradedBefore t.each bs cs ys zs) where
      zs_count : length zs ≡ length t.lots.items
      zs_count = sym (length_all_zip KeepAllButBefore ys zs g.others) ∙ ys_count

      in_ys : (k : ℕ) → k < length t.lots.items → k < length ys
      in_ys k lt = omega (arith, lt, ys_count)

      one_given : (k : ℕ) (x : Box Lot) → k < length t.lots.items → KeepAllButBefore (get_or ys k x) (get_or zs k x)
      one_given k x lt = AllZip-get_or KeepAllButBefore ys zs k x x g.others (in_ys k lt)

      patches_at : (k : ℕ) (x : Box Lot) → k < length t.lots.items → (get_or zs k x).value.patches.items ≡ run t.each k ps
      patches_at k x lt = (λ i. (one_given k x lt i).patches.items) ∙ h.handed k x lt

      before_at : (k : ℕ) (x : Box Lot) → k < length t.lots.items → (get_or zs k x).value.before.items ≡ run t.each k bs
      before_at k x lt = g.handed k x (in_ys k lt)

      pub all_may_keep : All (λ (x : Box Lot). MayServe Keep x.value) zs
      all_may_keep = λ k x lt.
          let below : k < length t.lots.items = omega (arith, lt, zs_count) in
          ap (map box) (before_at k x below) ∙ same_boxes t.each k ps bs same ∙ ap (map box) (sym (patches_at k x below))

      module _ {us : List (Box Lot)} (s : AreServed Keep zs us) where
        us_count : length us ≡ length t.lots.items
        us_count = sym (length_all_zip WasServed zs us s.served) ∙ zs_count

        in_us : (k : ℕ) → k < length t.lots.items → k < length us
        in_us k lt = omega (arith, lt, us_count)

        one_kept : (k : ℕ) (x : Box Lot) → k < length t.lots.items → HasKeptMasses (get_or zs k x).value (get_or us k x).value
        one_kept k x lt = AllZip-get_or WasServed zs us k x x s.served (omega (arith, lt, zs_count))

        run_copied : (k : ℕ) (x : Box Lot) → k < length t.lots.items → AllZip IsCopied (run t.each k ps) (get_or us k x).value.before.items
        run_copied k x lt = subst (λ (rs : List Patch). AllZip IsCopied rs (get_or us k x).value.before.items) (patches_at k x lt) (one_kept k x lt).copied

        -- what a lot has is that of before, but for the patches that keep masses
        still : (k : ℕ) (x : Box Lot) → k < length t.lots.items → (get_or us k x).value ≡ with_before (get_or us k x).value.before (get_or ys k x).value
        still k x lt = (one_kept k x lt).others ∙ ap (with_before (get_or us k x).value.before) (one_given k x lt)

        -- so they may be handed what they had before
        pub before_back : (k : ℕ) (x : Box Lot) → k < length us → length (get_or us k x).value.before.items ≡ length (run t.each k cs)
        before_back k x lt =
            let below : k < length t.lots.items = omega (arith, lt, us_count) in
            sym (length_all_zip IsCopied (run t.each k ps) (get_or us k x).value.before.items (run_copied k x below))
            ∙ sym (as_many (run t.each k ps) (run t.each k bs) (same_boxes t.each k ps bs same))
            ∙ sym (before_counts k x (in_ys k below))
            ∙ sym (ap length (g.back k x (in_ys k below)))

        module _ {ds : List Patch} {vs : List (Box Lot)} (b : AreTradedBefore t.each cs ds us vs) where
          vs_count : length vs ≡ length t.lots.items
          vs_count = sym (length_all_zip KeepAllButBefore us vs b.others) ∙ us_count

          in_vs : (k : ℕ) → k < length t.lots.items → k < length vs
          in_vs k lt = omega (arith, lt, vs_count)

          one_back : (k : ℕ) (x : Box Lot) → k < length t.lots.items → KeepAllButBefore (get_or us k x) (get_or vs k x)
          one_back k x lt = AllZip-get_or KeepAllButBefore us vs k x x b.others (in_us k lt)

          -- the masses were copied
          pub all_copied : AllZip IsCopied ps ds
          all_copied =
              zip_runs t.each (length t.lots.items) made.lots.some ps (enough ps made) IsCopied ds (sym (b.count ∙ g.count ∙ as_many ps bs same))
              (λ k lt. let x : Box Lot = nth t.lots.items k lt in subst (AllZip IsCopied (run t.each k ps)) (sym (b.back k x (in_us k lt))) (run_copied k x lt))

          now : (k : ℕ) (x : Box Lot) → k < length t.lots.items → (get_or vs k x).value ≡ with_before (get_or vs k x).value.before (get_or ys k x).value
          now k x lt = one_back k x lt ∙ ap (with_before (get_or vs k x).value.before) (still k x lt)

          patches_now : (k : ℕ) (x : Box Lot) → k < length t.lots.items → (get_or vs k x).value.patches.items ≡ run t.each k ps
          patches_now k x lt = (λ i. (now k x lt i).patches.items) ∙ h.handed k x lt

          pub patches_back : (k : ℕ) (x : Box Lot) → k < length vs → length (get_or vs k x).value.patches.items ≡ length (run t.each k qs)
          patches_back k x lt =
              let below : k < length t.lots.items = omega (arith, lt, vs_count) in
              ap length (patches_now k x below) ∙ sym (counts ps made k x below) ∙ sym (ap length (h.back k x below))

          module _ {rs : List Patch} {xs : List (Box Lot)} (last : AreTraded t.each qs rs vs xs) where
            one_last : (k : ℕ) (x : Box Lot) → k < length t.lots.items → KeepOthers (get_or vs k x) (get_or xs k x)
            one_last k x lt = AllZip-get_or KeepOthers vs xs k x x last.others (in_vs k lt)

            -- the patches are those of before
            pub same_patches : rs ≡ ps
            same_patches =
                same_runs t.each (length t.lots.items) rs ps (last.count ∙ h.count) (let n = enough ps made in omega (arith, n, last.count, h.count))
                (λ k lt. let x : Box Lot = nth t.lots.items k lt in last.back k x (in_vs k lt) ∙ patches_now k x lt)

            one_new : (k : ℕ) (x : Box Lot) → k < length t.lots.items → KeepsRun (get_or t.lots.items k x).value (get_or xs k x).value
            one_new k x lt =
                let first = one_handed k x lt in
                let mid = now k x lt in
                let end = one_last k x lt in
                record {
                  workspace = (λ i. (end i).workspace) ∙ (λ i. (mid i).workspace) ∙ (λ i. (first i).workspace);
                  patches = ap length (last.handed k x (in_vs k lt) ∙ h.back k x lt);
                  before = (λ i. length (end i).before.items) ∙ ap length (b.handed k x (in_us k lt) ∙ g.back k x (in_ys k lt)) ∙ (λ i. length (first i).before.items);
                  edges = (λ i. (end i).edges) ∙ (λ i. (mid i).edges) ∙ (λ i. (first i).edges);
                }

            -- all else of the lots is as before
            pub all_new : KeepRuns t.lots.items xs
            all_new = record { count = sym (length_all_zip KeepOthers vs xs last.others) ∙ vs_count; each = one_new }
