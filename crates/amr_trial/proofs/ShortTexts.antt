-- The text of a trial is ASCII and short.
use Rattle.std.proofs.Common.{length, ℕ, ◌+◌, ◌≤◌, ◌<◌, ◌^◌, List, [], ◌∷◌, ◌++◌, map, refl, arith}
use Rattle.std.specs.Prelude.{codes, decimal}
use Rattle.std.specs.List.{flat_map, range_with_len}
use Rattle.std.proofs.lemmas.Str.{IsUtf8-from_ascii, is_utf8-from_IsUtf8}
use Rattle.amr_def.specs.declared.problem.Block.{Block}
use Rattle.amr_def.specs.Plot.{line}
use Rattle.amr_trial.specs.Document.{trial_name}
use Rattle.amr_trial.specs.Laws.{LiesInside, TextsAreShort, TextsAreUtf8}
use Rattle.amr_trial.specs.Parts.{head_lines}
use Rattle.amr_trial.specs.Trial.{IsSize, array, block, block_text, blocks, courant_x, courant_y, text}
use Rattle.amr_trial.proofs.Inside.{blocks_inside, courant_below}
use Rattle.amr_trial.proofs.PlainTexts.{IsPlain, plain_append, plain_array, plain_codes, plain_line, plain_longer, plain_map, plain_number}

name_plain : (number size : ℕ) → number < 2 ^ 32 → IsSize size → IsPlain 29 (codes "name = \"trial-" ++ decimal number ++ codes "-" ++ decimal size ++ codes "\"")
name_plain number size small is =
    plain_append 28 1 (codes "name = \"trial-" ++ decimal number ++ codes "-" ++ decimal size) (codes "\"")
    (plain_append 25 3 (codes "name = \"trial-" ++ decimal number ++ codes "-") (decimal size)
    (plain_append 24 1 (codes "name = \"trial-" ++ decimal number) (codes "-") (plain_append 14 10 (codes "name = \"trial-") (decimal number) (plain_codes (codes "name = \"trial-") refl) (plain_number 10 number (omega arith) (omega (arith, small)) (omega (arith, small)))) (plain_codes (codes "-") refl))
    (plain_number 3 size (omega arith) (omega (arith, is.greatest)) (omega (arith, is.greatest))))
    (plain_codes (codes "\"") refl)

trial_name_plain : (number size : ℕ) → number < 2 ^ 32 → IsSize size → IsPlain 20 (trial_name number size)
trial_name_plain number size small is =
    plain_append 17 3 (codes "trial-" ++ decimal number ++ codes "-") (decimal size)
    (plain_append 16 1 (codes "trial-" ++ decimal number) (codes "-") (plain_append 6 10 (codes "trial-") (decimal number) (plain_codes (codes "trial-") refl) (plain_number 10 number (omega arith) (omega (arith, small)) (omega (arith, small)))) (plain_codes (codes "-") refl))
    (plain_number 3 size (omega arith) (omega (arith, is.greatest)) (omega (arith, is.greatest)))

pub name_short : (number size : ℕ) → number < 2 ^ 32 → IsSize size → length (trial_name number size) ≤ 20
name_short number size small is = (trial_name_plain number size small is).short

cells_plain : (size : ℕ) → IsSize size → IsPlain 18 (codes "cells = " ++ array (decimal size ∷ decimal size ∷ []))
cells_plain size is =
    let one = plain_number 3 size (omega arith) (omega (arith, is.greatest)) (omega (arith, is.greatest)) in
    plain_append 8 10 (codes "cells = ") (array (decimal size ∷ decimal size ∷ [])) (plain_codes (codes "cells = ") refl) (plain_array 3 (decimal size) (decimal size ∷ []) one (one, tt))

courant_plain : (cx cy : ℕ) → cx < 5 → cy < 4 → IsPlain 19 (codes "courant = " ++ array (decimal cx ∷ decimal cy ∷ codes "8" ∷ []))
courant_plain cx cy few_x few_y =
    let x = plain_number 1 cx (omega arith) (omega (arith, few_x)) (omega (arith, few_x)) in
    let y = plain_number 1 cy (omega arith) (omega (arith, few_y)) (omega (arith, few_y)) in
    plain_append 10 9 (codes "courant = ") (array (decimal cx ∷ decimal cy ∷ codes "8" ∷ [])) (plain_codes (codes "courant = ") refl) (plain_array 1 (decimal cx) (decimal cy ∷ codes "8" ∷ []) x (y, (plain_codes (codes "8") refl, tt)))

block_plain : (size : ℕ) (b : Block) → size ≤ 256 → LiesInside size b → IsPlain 30 (block_text b)
block_plain size b few is =
    let x1 = plain_number 4 b.x1 (omega arith) (omega (arith, few, is.east)) (omega (arith, few, is.east)) in
    let y1 = plain_number 4 b.y1 (omega arith) (omega (arith, few, is.north)) (omega (arith, few, is.north)) in
    let x0 = plain_number 4 b.x0 (omega arith) (omega (arith, few, is.east, is.columns)) (omega (arith, few, is.east, is.columns)) in
    let y0 = plain_number 4 b.y0 (omega arith) (omega (arith, few, is.north, is.rows)) (omega (arith, few, is.north, is.rows)) in
    let mass = plain_number 4 b.mass (omega arith) (omega (arith, is.mass)) (omega (arith, is.mass)) in
    plain_array 4 (decimal b.x0) (decimal b.y0 ∷ decimal b.x1 ∷ decimal b.y1 ∷ decimal b.mass ∷ []) x0 (y0, (x1, (y1, (mass, tt))))

blocks_plain : (number size : ℕ) → IsSize size → IsPlain 265 (codes "blocks = " ++ array (map block_text (blocks number size)))
blocks_plain number size is =
    let each : (k : ℕ) → IsPlain 30 (block_text (block number size k)) = λ k. block_plain size (block number size k) is.greatest (blocks_inside number size k is) in
    plain_append 9 256 (codes "blocks = ") (array (map block_text (blocks number size))) (plain_codes (codes "blocks = ") refl)
    (plain_array 30 (block_text (block number size 0)) (map (λ k. block_text (block number size k)) (range_with_len 1 7)) (each 0) (plain_map 30 (λ k. block_text (block number size k)) (range_with_len 1 7) each))

-- ---- the whole

-- each line has at most so many bytes
abbrev ArePlainLines : List ℕ → List (List ℕ) → Type 0
ArePlainLines [] [] = Unit {0}
ArePlainLines (k ∷ ks) (t ∷ ts) = IsPlain k t × ArePlainLines ks ts
ArePlainLines _ _ = ⊥

abbrev whole : List ℕ → ℕ
whole [] = 0
whole (k ∷ ks) = k + 1 + whole ks

lines_plain : (ks : List ℕ) (ts : List (List ℕ)) → ArePlainLines ks ts → IsPlain (whole ks) (flat_map line ts)
lines_plain [] [] are = plain_codes [] refl
lines_plain [] (t ∷ ts) are = elim are [ ]
lines_plain (k ∷ ks) [] are = elim are [ ]
lines_plain (k ∷ ks) (t ∷ ts) are = plain_append (k + 1) (whole ks) (line t) (flat_map line ts) (plain_line k t are.0) (lines_plain ks ts are.1)

text_plain : (number size : ℕ) → number < 2 ^ 32 → IsSize size → IsPlain 512 (text number size)
unfolding text
text_plain number size small is =
    let few = courant_below number in
    let ks : List ℕ = 11 ∷ 29 ∷ 18 ∷ 10 ∷ 19 ∷ 22 ∷ 13 ∷ 14 ∷ 18 ∷ 265 ∷ [] in
    let ts : List (List ℕ) = head_lines number size (courant_x number) (courant_y number) ++ ((codes "blocks = " ++ array (map block_text (blocks number size))) ∷ []) in
    let are : ArePlainLines ks ts = (
      plain_codes (codes "version = 1") refl,
      (
        name_plain number size small is,
        (
          cells_plain size is,
          (
            plain_codes (codes "steps = 16") refl,
            (
              courant_plain (courant_x number) (courant_y number) few.0 few.1,
              (plain_codes (codes "sides = [-1, -1, 0, 0]") refl, (plain_codes (codes "max_level = 2") refl, (plain_codes (codes "tag = [64, 16]") refl, (plain_codes (codes "max_grid_size = 16") refl, (blocks_plain number size is, tt))))),
            ),
          ),
        ),
      ),
    ) in
    plain_longer (whole ks) 512 (text number size) (omega arith) (lines_plain ks ts are)

pub texts_are_short : TextsAreShort
texts_are_short number size small is = (text_plain number size small is).short

pub texts_are_utf8 : TextsAreUtf8
texts_are_utf8 number size small is = is_utf8-from_IsUtf8 (text number size) (IsUtf8-from_ascii (text number size) (text_plain number size small is).ascii)
