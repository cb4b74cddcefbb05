-- The text of a trial is read as its document.
use Rattle.std.proofs.Common.{◌≡◌, ◌∙◌, ℕ, suc, pos, negsuc, ◌≤◌, ◌<◌, ◌^◌, Bool, true, false, List, [], ◌∷◌, ◌++◌, length, map, Some, option_map, refl, ap, arith}
use Rattle.std.specs.Prelude.{codes, decimal}
use Rattle.std.specs.Fmt.{digits}
use Rattle.std.specs.List.{flat_map, range_with_len}
use Rattle.amr_def.specs.declared.problem.Block.{Block}
use Rattle.amr_def.specs.Plot.{line}
use Rattle.toml.specs.Data.{Data, integer, string, depth, has_valid_dates}
use Rattle.toml.specs.Data.{array as array_data}
use Rattle.toml.specs.Parse.{lines, parse_document, skip_bom}
use Rattle.toml.specs.Tables.{Expression, along_dots, along_header, at_key, close, define, key_value, no_nodes}
use Rattle.toml.specs.Text.{IsLinesText, IsValueText}
use Rattle.toml.proofs.ReadLines.{AllPrinted, read_lines, run}
use Rattle.toml_writer.specs.Text.{key_text}
use Rattle.amr_trial.specs.Document.{block_data, document, items, numbers, trial_name}
use Rattle.amr_trial.specs.Laws.{LiesInside, TextsAreDocuments}
use Rattle.amr_trial.specs.Trial.{IsSize, array, block, block_text, blocks, courant_x, courant_y, text}
use Rattle.amr_trial.proofs.Inside.{blocks_inside, courant_below}
use Rattle.amr_trial.proofs.NameTexts.{name_text, trial_name_bytes}
use Rattle.amr_trial.proofs.ValueTexts.{array_text, lines_more, number_text, texts_of_map}

-- ---- lines, each a key, the text of its value, and the value

pub record Entry : Type 0 where
  pub key : List ℕ
  pub words : List ℕ
  pub value : Data

abbrev entry : List ℕ → List ℕ → Data → Entry
entry key words value = record { key = key; words = words; value = value }

pub record IsEntry (e : Entry) : Type 0 where
  pub bare : key_text e.key ≡ e.key
  pub writes : IsValueText false e.value e.words
  pub deep : depth e.value ≤ 80
  pub dates : has_valid_dates e.value ≡ true

abbrev AreEntries : List Entry → Type 0
AreEntries [] = Unit {0}
AreEntries (e ∷ es) = IsEntry e × AreEntries es

abbrev line_of : Entry → List ℕ
line_of e = line ((e.key ++ codes " = ") ++ e.words)

abbrev pair_of : Entry → Expression
pair_of e = (([], e.key), key_value e.value)

entries_lines : (started : Bool) (es : List Entry) → AreEntries es → IsLinesText false started (map pair_of es) (flat_map line_of es)
entries_lines started [] are = refl
entries_lines started (e ∷ es) are = lines_more started e.key e.words e.value (map pair_of es) (flat_map line_of es) are.0.bare are.0.writes (entries_lines true es are.1)

entries_printed : (es : List Entry) → AreEntries es → AllPrinted (map pair_of es)
entries_printed [] are = tt
entries_printed (e ∷ es) are = ((refl, are.0.deep, are.0.dates), entries_printed es are.1)

-- ---- those of a trial

version : Entry
version = entry (codes "version") (codes "1") (integer (pos 1))

is_version : IsEntry version
unfolding version key_text digits
is_version = record { bare = refl; writes = (refl, omega arith); deep = omega arith; dates = refl }

steps : Entry
steps = entry (codes "steps") (codes "16") (integer (pos 16))

is_steps : IsEntry steps
unfolding steps key_text digits
is_steps = record { bare = refl; writes = (refl, omega arith); deep = omega arith; dates = refl }

sides : Entry
sides = entry (codes "sides") (codes "[-1, -1, 0, 0]") (numbers (negsuc 0 ∷ negsuc 0 ∷ pos 0 ∷ pos 0 ∷ []))

is_sides : IsEntry sides
unfolding sides key_text digits
is_sides = record {
  bare = refl;
  writes = array_text (codes "-1") (codes "-1" ∷ codes "0" ∷ codes "0" ∷ []) (integer (negsuc 0)) (integer (negsuc 0) ∷ integer (pos 0) ∷ integer (pos 0) ∷ []) (refl, omega arith) ((refl, omega arith), ((refl, omega arith), ((refl, omega arith), tt)));
  deep = omega arith;
  dates = refl;
}

max_level : Entry
max_level = entry (codes "max_level") (codes "2") (integer (pos 2))

is_max_level : IsEntry max_level
unfolding max_level key_text digits
is_max_level = record { bare = refl; writes = (refl, omega arith); deep = omega arith; dates = refl }

tag : Entry
tag = entry (codes "tag") (codes "[64, 16]") (numbers (pos 64 ∷ pos 16 ∷ []))

is_tag : IsEntry tag
unfolding tag key_text digits
is_tag = record {
  bare = refl;
  writes = array_text (codes "64") (codes "16" ∷ []) (integer (pos 64)) (integer (pos 16) ∷ []) (refl, omega arith) ((refl, omega arith), tt);
  deep = omega arith;
  dates = refl;
}

max_grid_size : Entry
max_grid_size = entry (codes "max_grid_size") (codes "16") (integer (pos 16))

is_max_grid_size : IsEntry max_grid_size
unfolding max_grid_size key_text digits
is_max_grid_size = record { bare = refl; writes = (refl, omega arith); deep = omega arith; dates = refl }

eight : IsValueText false (integer (pos 8)) (codes "8")
unfolding digits
eight = (refl, omega arith)

bare_name : key_text (codes "name") ≡ codes "name"
unfolding key_text
bare_name = refl

bare_cells : key_text (codes "cells") ≡ codes "cells"
unfolding key_text
bare_cells = refl

bare_courant : key_text (codes "courant") ≡ codes "courant"
unfolding key_text
bare_courant = refl

bare_blocks : key_text (codes "blocks") ≡ codes "blocks"
unfolding key_text
bare_blocks = refl

abbrev name : ℕ → ℕ → Entry
name number size = entry (codes "name") (codes "\"" ++ trial_name number size ++ codes "\"") (string (trial_name number size))

is_name : (number size : ℕ) → number < 2 ^ 32 → IsSize size → IsEntry (name number size)
is_name number size small is = record {
  bare = bare_name;
  writes = name_text (trial_name number size) (trial_name_bytes number size (omega (arith, small)) (omega (arith, is.greatest)));
  deep = omega arith;
  dates = refl;
}

abbrev cells : ℕ → Entry
cells size = entry (codes "cells") (array (decimal size ∷ decimal size ∷ [])) (numbers (pos size ∷ pos size ∷ []))

is_cells : (size : ℕ) → IsSize size → IsEntry (cells size)
is_cells size is =
    let one = number_text size (omega (arith, is.greatest)) in
    record {
      bare = bare_cells;
      writes = array_text (decimal size) (decimal size ∷ []) (integer (pos size)) (integer (pos size) ∷ []) one (one, tt);
      deep = omega arith;
      dates = refl;
    }

abbrev courant : ℕ → ℕ → Entry
courant cx cy = entry (codes "courant") (array (decimal cx ∷ decimal cy ∷ codes "8" ∷ [])) (numbers (pos cx ∷ pos cy ∷ pos 8 ∷ []))

is_courant : (cx cy : ℕ) → cx < 5 → cy < 4 → IsEntry (courant cx cy)
is_courant cx cy few_x few_y = record {
  bare = bare_courant;
  writes = array_text (decimal cx) (decimal cy ∷ codes "8" ∷ []) (integer (pos cx)) (integer (pos cy) ∷ integer (pos 8) ∷ []) (number_text cx (omega (arith, few_x))) (number_text cy (omega (arith, few_y)), (eight, tt));
  deep = omega arith;
  dates = refl;
}

block_words : (size : ℕ) (b : Block) → size ≤ 256 → LiesInside size b → IsValueText false (block_data b) (block_text b)
block_words size b few is =
    let x1 : b.x1 < 2 ^ 63 = omega (arith, few, is.east) in
    let y1 : b.y1 < 2 ^ 63 = omega (arith, few, is.north) in
    let x0 : b.x0 < 2 ^ 63 = omega (arith, x1, is.columns) in
    let y0 : b.y0 < 2 ^ 63 = omega (arith, y1, is.rows) in
    let mass : b.mass < 2 ^ 63 = omega (arith, is.mass) in
    array_text (decimal b.x0) (decimal b.y0 ∷ decimal b.x1 ∷ decimal b.y1 ∷ decimal b.mass ∷ []) (integer (pos b.x0)) (integer (pos b.y0) ∷ integer (pos b.x1) ∷ integer (pos b.y1) ∷ integer (pos b.mass) ∷ [])
    (number_text b.x0 x0) (number_text b.y0 y0, (number_text b.x1 x1, (number_text b.y1 y1, (number_text b.mass mass, tt))))

abbrev all_blocks : List Block → Entry
all_blocks bs = entry (codes "blocks") (array (map block_text bs)) (array_data (items (map block_data bs)))

is_blocks : (number size : ℕ) → IsSize size → IsEntry (all_blocks (blocks number size))
is_blocks number size is =
    let each : (k : ℕ) → IsValueText false (block_data (block number size k)) (block_text (block number size k)) = λ k. block_words size (block number size k) is.greatest (blocks_inside number size k is) in
    record {
      bare = bare_blocks;
      writes = array_text (block_text (block number size 0)) (map (λ k. block_text (block number size k)) (range_with_len 1 7)) (block_data (block number size 0)) (map (λ k. block_data (block number size k)) (range_with_len 1 7)) (each 0)
          (texts_of_map (λ k. block_text (block number size k)) (λ k. block_data (block number size k)) (range_with_len 1 7) each);
      deep = omega arith;
      dates = refl;
    }

-- ---- the whole

abbrev entries : ℕ → ℕ → List Entry
entries number size = version ∷ name number size ∷ cells size ∷ steps ∷ courant (courant_x number) (courant_y number) ∷ sides ∷ max_level ∷ tag ∷ max_grid_size ∷ all_blocks (blocks number size) ∷ []

are_entries : (number size : ℕ) → number < 2 ^ 32 → IsSize size → AreEntries (entries number size)
are_entries number size small is =
    let few = courant_below number in
    (is_version, (is_name number size small is, (is_cells size is, (is_steps, (is_courant (courant_x number) (courant_y number) few.0 few.1, (is_sides, (is_max_level, (is_tag, (is_max_grid_size, (is_blocks number size is, tt))))))))))

text_is_lines : (number size : ℕ) → text number size ≡ flat_map line_of (entries number size)
unfolding text version steps sides max_level tag max_grid_size
text_is_lines number size = refl

no_mark : (number size : ℕ) → skip_bom (text number size) ≡ text number size
unfolding text skip_bom
no_mark number size = refl

defined : (number size : ℕ) → option_map (λ doc. close doc.0) (run (no_nodes, []) (map pair_of (entries number size))) ≡ Some (document number size)
unfolding define along_header along_dots at_key document version steps sides max_level tag max_grid_size
defined number size = refl

pub texts_are_documents : TextsAreDocuments
unfolding parse_document
texts_are_documents number size small is =
    let t = text number size in
    let are = are_entries number size small is in
    let whole : IsLinesText false false (map pair_of (entries number size)) t = rw (text_is_lines number size) (entries_lines false (entries number size) are) in
    let read = read_lines false false (map pair_of (entries number size)) t t (no_nodes, []) (suc (length t)) whole (entries_printed (entries number size) are) refl (omega arith) in
    ap (λ (x : List ℕ). option_map (λ doc. close doc.0) (lines (suc (length t)) (no_nodes, []) x)) (no_mark number size)
    ∙ ap (option_map (λ doc. close doc.0)) read
    ∙ defined number size
