-- Lots that are made for a level.
use Rattle.std.proofs.Common.{◌≡◌, ◌∙◌, ℕ, ◌^◌, ◌<◌, ◌≤◌, false, true, List, [], ◌∷◌, length, get_or, drop, map, refl, sym, ap, subst, arith, zero, suc, ◌+◌, ◌*◌, max, length-append}
use Rattle.std.specs.Global.{Box}
use Rattle.std.proofs.lemmas.Grind.{div_ceil_times}
use Rattle.std.proofs.lemmas.Nat.{mul-le}
use Rattle.std.proofs.lemmas.Bool.{le-ltb, lt-ltb}
use Rattle.std.specs.List.{AllZip, range_with_len}
use Rattle.std.proofs.lemmas.List.FromFn.{get_or-range_with_len, length-range_with_len}
use Rattle.amr_ghost.specs.declared.parts.FrameParts.{FrameParts}
use Rattle.amr_layout.specs.declared.PatchLayout.{PatchLayout}
use Rattle.amr_layout.specs.Arounds.{HaveMasks, all_places_read, all_puts}
use Rattle.amr_layout.specs.Places.{HasMask, border_places, borders_of}
use Rattle.amr_layout.specs.Surroundings.{Around, domain_around, edge_count}
use Rattle.amr_layout.proofs.LevelPlaces.{borders_few}
use Rattle.amr_layout.proofs.Planned.{image_at}
use Rattle.amr_lots.specs.Runs.{lot_count, lot_size, run_count}
use Rattle.amr_lots.specs.declared.lot.Lot.{Lot}
use Rattle.amr_lots.specs.Works.{places_read}
use Rattle.amr_patch.specs.Patches.{box}
use Rattle.amr_patch.specs.declared.patches.Patch.{Patch}
use Rattle.amr_phase.specs.Plans.{total}
use Rattle.amr_advance.specs.declared.lots.Lots.{Lots}
use Rattle.amr_advance.specs.Cuts.{AreLayoutsFrom}
use Rattle.amr_advance.specs.Lots.{AreMade, AreSeveralLots, first_totals, is_one, totals_by, totals_of}
use Rattle.amr_flows.proofs.PutPlaces.{places_count}
use Rattle.amr_register.proofs.EdgeLists.{zip_from}
use Rattle.amr_advance.proofs.RunZips.{zip_length}

-- How many places the patches of a level read: no more than their edges have faces.

reads_most : (ts : List PatchLayout) (qs : List Patch) → AllZip (λ (t : PatchLayout) q. length t.border.items ≤ edge_count (box q)) ts qs → length (places_read ts) ≤ total (λ q. edge_count (box q)) qs
reads_most [] qs h = omega arith
reads_most (t ∷ ts) [] h = absurd h
reads_most (t ∷ ts) (q ∷ qs) h = let rest = reads_most ts qs h.1 in let first = h.0 in omega (arith, rest, first, length-append t.border.items (places_read ts))

pub few_reads : (s : Around) (each : ℕ) (ts : List PatchLayout) → length ts ≡ length s.patches → map (λ (t : PatchLayout). t.border.items) ts ≡ all_places_read s each → length (places_read ts) ≤ total (λ q. edge_count (box q)) s.patches
few_reads s each ts count same =
    reads_most ts s.patches (zip_from (λ (t : PatchLayout) q. length t.border.items ≤ edge_count (box q)) ts s.patches (omega (arith, count)) (λ k t q lt. few k t q (omega (arith, lt, count)) lt))
  where
    few : (k : ℕ) (t : PatchLayout) (q : Patch) → k < length s.patches → k < length ts → length (get_or ts k t).border.items ≤ edge_count (box (get_or s.patches k q))
    few k t q lt there =
        let d = domain_around s in
        let b = box (get_or s.patches k q) in
        let at : (get_or ts k t).border.items ≡ border_places d s.patches each k
        = image_at (λ (t : PatchLayout). t.border.items) (border_places d s.patches each) ts (range_with_len 0 (length s.patches)) k t 0 same there (omega (arith, lt, length-range_with_len 0 (length s.patches)))
        ∙ ap (border_places d s.patches each) (omega (arith, get_or-range_with_len 0 (length s.patches) k 0 lt)) in
        let long : length (border_places d s.patches each k) ≡ length (borders_of d s.patches each b) = ap length (places_count d s.patches each k q lt) ∙ length-range_with_len _ _ in
        omega (arith, ap length at, long, borders_few d s.patches each b)

-- ---- one or several

pub wants_one : (t : Lots) → t.wanted < 2 → is_one t ≡ true
wants_one t lt = lt-ltb t.wanted 2 lt

pub wants_several : (t : Lots) → 2 ≤ t.wanted → is_one t ≡ false
wants_several t le = le-ltb t.wanted 2 le

pub several_are : (s : Around) (t : Lots) (parts : FrameParts) → 2 ≤ t.wanted → AreSeveralLots s parts t → AreMade (is_one t) s parts t
several_are s t parts le h = subst (λ b. AreMade b s parts t) (sym (wants_several t le)) h

-- the totals of words are those of the one lot, or of all
pub first_is : (t : Lots) (x : Box Lot) → is_one t ≡ true → 0 < length t.lots.items → (get_or t.lots.items 0 x).value.workspace.totals.items ≡ totals_of t
first_is t x one there = first t.lots.items there ∙ ap (λ b. totals_by b t) (sym one)
  where
    first : (xs : List (Box Lot)) → 0 < length xs → (get_or xs 0 x).value.workspace.totals.items ≡ first_totals xs
    first [] lt = absurd (omega (arith, lt))
    first (y ∷ ys) lt = refl

pub all_are : (t : Lots) → is_one t ≡ false → t.totals.items ≡ totals_of t
all_are t several = ap (λ b. totals_by b t) (sym several)

-- where no more than one is wanted there is one
one_of : (n size count : ℕ) → 0 < n → n ≤ size → n ≤ count * size → count * size < n + size → count ≡ 1
one_of n size zero some all enough tight = absurd (omega (arith, enough, some))
one_of n size (suc zero) some all enough tight = refl
one_of n size (suc (suc count)) some all enough tight =
    let more : 2 * size ≤ suc (suc count) * size = mul-le 2 size (suc (suc count)) size (omega arith) (omega arith) in
    absurd (omega (arith, more, tight, all))

pub one_wanted : (wanted n : ℕ) → wanted < 2 → 0 < n → lot_count wanted n ≡ 1
one_wanted wanted n lt some =
    let none : 1 ≡ max 1 wanted = omega (arith, lt) in
    let all = (div_ceil_times n 1 (omega arith)).0 in
    let fits = div_ceil_times n (lot_size 1 n) (omega arith) in
    subst (λ w. run_count (max 1 (run_count w n)) n ≡ 1) none (one_of n (lot_size 1 n) (lot_count 1 n) some (omega (arith, all)) fits.0 fits.1)

-- ---- layouts of all patches, none of which is taken

pub layouts_made : (s : Around) (each : ℕ) (ts : List PatchLayout) → total (λ q. edge_count (box q)) s.patches ≤ 2 ^ 30 → map (λ (t : PatchLayout). t.puts.items) ts ≡ all_puts s each → map (λ (t : PatchLayout). t.border.items) ts ≡ all_places_read s each → HaveMasks s each ts → AreLayoutsFrom s each 0 ts
layouts_made s each ts edges puts borders masks = record {
  count = many;
  puts = ap (drop 0) puts;
  borders = ap (drop 0) borders;
  masks = masks;
  few = omega (arith, few_reads s each ts many borders, edges);
}
  where
    many : length ts ≡ length s.patches
    many = sym (zip_length (HasMask (domain_around s) s.patches each) s.patches ts masks)
