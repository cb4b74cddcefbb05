-- The text of a trial has no fault.
use Rattle.std.proofs.Common.{◌≡◌, ◌∙◌, ℕ, ◌+◌, max, ◌%◌, ◌≤◌, ◌<◌, ◌^◌, ℤ, pos, negsuc, true, false, List, [], ◌∷◌, length, map, fold, option_and_then, option_map, Option, Some, None, nat_lt, int_le, int_lt, refl, ap, arith}
use Rattle.std.specs.Option.{option_or, unwrap_or}
use Rattle.toml.specs.Data.{no_members}
use Rattle.std.specs.List.{range_with_len}
use Rattle.std.proofs.lemmas.Bool.Decides.{nat_tests}
use Rattle.amr_def.specs.declared.problem.Block.{Block}
use Rattle.amr_problem.specs.declared.fault.ProblemFault.{ProblemFault}
use Rattle.amr_problem.specs.declared.fault.ProblemFault.TheVariants.{OutOfRange}
use Rattle.amr_problem.specs.declared.key.Key.TheVariants.{Version, Name, Cells, Courant, Sides, MaxLevel, Tag, Blocks, Blocking, Species}
use Rattle.amr_problem.specs.Document as bytes
use Rattle.amr_problem.specs.Faults.{too_long, not_toml, over_by, sides_differ, tag_count, block_outside, blocking_misfit, species_outside, courant_fault, fault_in, first_some, is_inside, key_outside, missing_key, out_of_range, unknown_key, version_in, wrong_kind}
use Rattle.amr_problem.specs.Judgement.{fault_of}
use Rattle.amr_problem.specs.Keys.{keys, ranges_of, first_outside, holds, range}
use Rattle.amr_problem.specs.Values.{integers_at, is_there, number_at, numbers_at, rows_at, shear_at, text_at}
use Rattle.amr_trial.specs.Document.{document, trial_name}
use Rattle.amr_trial.specs.Laws.{LiesInside}
use Rattle.amr_trial.specs.Trial.{IsSize, block, courant_x, courant_y, text}
use Rattle.amr_trial.proofs.Documents.{texts_are_documents}
use Rattle.amr_trial.proofs.Inside.{blocks_inside, courant_below}
use Rattle.amr_trial.proofs.NameTexts.{trial_name_bytes}
use Rattle.amr_trial.proofs.ShortTexts.{name_short, texts_are_short, texts_are_utf8}

-- ---- none of several

abbrev AllNone : {A : Type 0} → List (Option A) → Type 0
AllNone [] = Unit {0}
AllNone (o ∷ os) = (o ≡ None) × AllNone os

none_first : {A : Type 0} (os : List (Option A)) → AllNone os → first_some os ≡ None
none_first [] are = refl
none_first (o ∷ os) are = ap (λ x. fold option_or (option_or None x) os) are.0 ∙ none_first os are.1

-- ---- ranges

within : (low high n : ℕ) → low ≤ n → n ≤ high → holds (range (pos low) (pos high)) (pos n) ≡ true
within low high n least most = grind (arith, nat_tests)

-- ---- the keys

unknown : (number size : ℕ) → unknown_key (document number size) ≡ None
unfolding document number_at
unknown number size = refl

missing : (number size : ℕ) → missing_key (document number size) ≡ None
unfolding document is_there
missing number size = refl

wrong : (number size : ℕ) → wrong_kind (document number size) ≡ None
unfolding document number_at text_at numbers_at integers_at rows_at shear_at
wrong number size = refl

-- ---- numbers in their ranges

version_fits : (number size : ℕ) → key_outside (document number size) Version ≡ None
unfolding document number_at
version_fits number size = refl

levels_fit : (number size : ℕ) → key_outside (document number size) MaxLevel ≡ None
unfolding document number_at
levels_fit number size = refl

name_fits : (number size : ℕ) → number < 2 ^ 32 → IsSize size → key_outside (document number size) Name ≡ None
unfolding document text_at
name_fits number size small is =
    let bytes = trial_name_bytes number size (omega (arith, small)) (omega (arith, is.greatest)) in
    let long = within 1 32 (length (trial_name number size)) (omega arith) (omega (arith, name_short number size small is)) in
    rw (long, bytes) refl

cells_fit : (number size : ℕ) → IsSize size → key_outside (document number size) Cells ≡ None
unfolding document numbers_at
cells_fit number size is = rw (within 2 256 size (omega (arith, is.least)) is.greatest) refl

small_number : (n : ℕ) → n ≤ 1024 → holds (range (negsuc 1023) (pos 1024)) (pos n) ≡ true
small_number n most = grind (arith, nat_tests)

courant_fits : (number size : ℕ) → key_outside (document number size) Courant ≡ None
unfolding document numbers_at
courant_fits number size =
    let few = courant_below number in
    rw (small_number (courant_x number) (omega (arith, few.0)), small_number (courant_y number) (omega (arith, few.1))) refl

-- a block as it is read: of species 0
abbrev pub block_row : Block → List ℤ
block_row b = pos b.x0 ∷ pos b.y0 ∷ pos b.x1 ∷ pos b.y1 ∷ pos b.mass ∷ pos 0 ∷ []

block_fits : (size : ℕ) (b : Block) → size ≤ 256 → LiesInside size b → first_outside (ranges_of Blocks) (block_row b) ≡ None
block_fits size b few is =
    let x0 = within 0 255 b.x0 (omega arith) (omega (arith, few, is.columns, is.east)) in
    let y0 = within 0 255 b.y0 (omega arith) (omega (arith, few, is.rows, is.north)) in
    let x1 = within 0 255 b.x1 (omega arith) (omega (arith, few, is.east)) in
    let y1 = within 0 255 b.y1 (omega arith) (omega (arith, few, is.north)) in
    let mass = within 0 1073741824 b.mass (omega arith) (omega (arith, is.mass)) in
    rw (x0, y0, x1, y1, mass) refl

all_none_of : {A : Type 0} {B : Type 0} (f : A → Option B) (xs : List A) → ((x : A) → f x ≡ None) → AllNone (map f xs)
all_none_of f [] h = tt
all_none_of f (x ∷ xs) h = (h x, all_none_of f xs h)

blocks_fit : (number size : ℕ) → IsSize size → key_outside (document number size) Blocks ≡ None
unfolding document number_at rows_at
blocks_fit number size is =
    let each : (k : ℕ) → first_outside (ranges_of Blocks) (block_row (block number size k)) ≡ None = λ k. block_fits size (block number size k) is.greatest (blocks_inside number size k is) in
    let none = none_first (map (λ k. first_outside (ranges_of Blocks) (block_row (block number size k))) (range_with_len 0 8)) (all_none_of _ (range_with_len 0 8) each) in
    ap (option_map (λ z. OutOfRange Blocks z)) none

ranges_fit : (number size : ℕ) → number < 2 ^ 32 → IsSize size → out_of_range (document number size) ≡ None
unfolding document number_at numbers_at integers_at shear_at
ranges_fit number size small is =
    let t = document number size in
    let are : AllNone (map (key_outside t) keys) = (
      version_fits number size,
      (
        name_fits number size small is,
        (
          cells_fit number size is,
          (
            refl,
            (
              courant_fits number size,
              (
                refl,
                (
                  levels_fit number size,
                  (
                    refl,
                    (
                      refl,
                      (
                        refl,
                        (
                          refl,
                          (
                            refl,
                            (
                              refl,
                              (blocks_fit number size is, (refl, (refl, (refl, (refl, tt))))),
                            ),
                          ),
                        ),
                      ),
                    ),
                  ),
                ),
              ),
            ),
          ),
        ),
      ),
    ) in
    none_first (map (key_outside t) keys) are

-- ---- what the numbers say together

eighths_fit : (cx cy : ℕ) → cx < 5 → cy < 4 → over_by (max cx 0 + max cy 0) (pos 8) ≡ None
eighths_fit cx cy few_x few_y =
    let small : max cx 0 + max cy 0 ≤ 7 = omega (arith, few_x, few_y) in
    let less : int_lt (pos 8) (pos (max cx 0 + max cy 0)) ≡ false = grind (arith, nat_tests, small) in
    rw less refl

courant_clean : (number size : ℕ) → courant_fault (document number size) ≡ None
unfolding document numbers_at shear_at
courant_clean number size =
    let few = courant_below number in
    eighths_fit (courant_x number) (courant_y number) few.0 few.1

sides_clean : (number size : ℕ) → option_and_then sides_differ (numbers_at 4 (document number size) Sides) ≡ None
unfolding document numbers_at
sides_clean number size = refl

pub block_inside : (size : ℕ) (b : Block) → LiesInside size b → is_inside (pos size ∷ pos size ∷ []) (block_row b) ≡ true
block_inside size b is =
    let columns : int_le (pos b.x0) (pos b.x1) ≡ true = grind (arith, nat_tests, is.columns) in
    let rows : int_le (pos b.y0) (pos b.y1) ≡ true = grind (arith, nat_tests, is.rows) in
    let east : int_lt (pos b.x1) (pos size) ≡ true = grind (arith, nat_tests, is.east) in
    let north : int_lt (pos b.y1) (pos size) ≡ true = grind (arith, nat_tests, is.north) in
    rw (columns, rows, east, north) refl

blocks_clean : (number size : ℕ) → IsSize size → option_and_then (λ cells. option_and_then (block_outside cells) (rows_at (version_in (document number size)) (document number size) Blocks)) (numbers_at 2 (document number size) Cells) ≡ None
unfolding document number_at numbers_at rows_at
blocks_clean number size is =
    let each : (k : ℕ) → is_inside (pos size ∷ pos size ∷ []) (block_row (block number size k)) ≡ true = λ k. block_inside size (block number size k) (blocks_inside number size k is) in
    rw (each 0, each 1, each 2, each 3, each 4, each 5, each 6, each 7) refl

tags_clean : (number size : ℕ) → option_and_then (λ levels. option_and_then (tag_count levels) (integers_at (document number size) Tag)) (number_at (document number size) MaxLevel) ≡ None
unfolding document number_at integers_at
tags_clean number size = refl

blocking_clean : (number size : ℕ) → option_and_then (λ cells. option_and_then (blocking_misfit cells) (number_at (document number size) Blocking)) (numbers_at 2 (document number size) Cells) ≡ None
unfolding document number_at numbers_at
blocking_clean number size =
    let whole : size % 1 ≡ 0 = omega arith in
    rw whole refl

species_clean : (number size : ℕ) → option_and_then (λ many. option_and_then (species_outside many) (rows_at (version_in (document number size)) (document number size) Blocks)) (number_at (document number size) Species) ≡ None
unfolding document number_at rows_at
species_clean number size = refl

-- ---- the judgement

table_clean : (number size : ℕ) → number < 2 ^ 32 → IsSize size → fault_in (document number size) ≡ None
table_clean number size small is =
    let t = document number size in
    let cells = numbers_at 2 t Cells in
    let faults : List (Option ProblemFault) = unknown_key t ∷ missing_key t ∷ wrong_kind t ∷ out_of_range t ∷ courant_fault t
    ∷ option_and_then sides_differ (numbers_at 4 t Sides)
    ∷ option_and_then (λ cells. option_and_then (block_outside cells) (rows_at (version_in t) t Blocks)) cells
    ∷ option_and_then (λ levels. option_and_then (tag_count levels) (integers_at t Tag)) (number_at t MaxLevel)
    ∷ option_and_then (λ cells. option_and_then (blocking_misfit cells) (number_at t Blocking)) cells
    ∷ option_and_then (λ many. option_and_then (species_outside many) (rows_at (version_in t) t Blocks)) (number_at t Species) ∷ [] in
    let are : AllNone faults = (
      unknown number size,
      (missing number size, (wrong number size, (ranges_fit number size small is, (courant_clean number size, (sides_clean number size, (blocks_clean number size is, (tags_clean number size, (blocking_clean number size, (species_clean number size, tt))))))))),
    ) in
    none_first faults are

pub is_document : (number size : ℕ) → number < 2 ^ 32 → IsSize size → bytes.document (text number size) ≡ Some (document number size)
unfolding bytes.document
is_document number size small is = rw (texts_are_utf8 number size small is) (texts_are_documents number size small is)

short_enough : (number size : ℕ) → number < 2 ^ 32 → IsSize size → nat_lt 65536 (length (text number size)) ≡ false
short_enough number size small is =
    let short = texts_are_short number size small is in
    grind (arith, nat_tests)

not_too_long : (number size : ℕ) → number < 2 ^ 32 → IsSize size → too_long (text number size) ≡ None
not_too_long number size small is = rw (short_enough number size small is) refl

is_toml : (number size : ℕ) → number < 2 ^ 32 → IsSize size → not_toml (text number size) ≡ None
is_toml number size small is = rw (is_document number size small is) refl

no_fault_in_it : (number size : ℕ) → number < 2 ^ 32 → IsSize size → fault_in (bytes.table_of (text number size)) ≡ None
no_fault_in_it number size small is = ap (λ o. fault_in (unwrap_or o no_members)) (is_document number size small is) ∙ table_clean number size small is

pub no_fault : (number size : ℕ) → number < 2 ^ 32 → IsSize size → fault_of (text number size) ≡ None
unfolding fault_of
no_fault number size small is =
    let t = text number size in
    let faults : List (Option ProblemFault) = too_long t ∷ not_toml t ∷ fault_in (bytes.table_of t) ∷ [] in
    let are : AllNone faults = (not_too_long number size small is, (is_toml number size small is, (no_fault_in_it number size small is, tt))) in
    none_first faults are
