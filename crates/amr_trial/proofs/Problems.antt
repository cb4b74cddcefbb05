-- The text of a trial is a problem.
use Rattle.std.proofs.Common.{◌≡◌, ◌∙◌, ◌≤◌, ◌<◌, ◌^◌, ◌+◌, ◌*◌, max, ℕ, ℤ, pos, true, nat_le, nat_lt, le-leb, lt-ltb, List, [], ◌∷◌, map, length, refl, sym, ap, subst, arith}
use Rattle.std.specs.List.{list_all, range_with_len}
use Rattle.std.specs.Prelude.{Some}
use Rattle.std.proofs.lemmas.Int.{ints}
use Rattle.toml.specs.Data.{Members}
use Rattle.amr_problem.specs.declared.key.Key.{Key}
use Rattle.amr_problem.specs.declared.key.Key.TheVariants.{Steps, Species}
use Rattle.amr_def.specs.declared.problem.Problem.{Problem}
use Rattle.amr_def.specs.declared.problem.Block.{Block}
use Rattle.amr_def.specs.declared.problem.Sides.TheVariants.{Periodic, Open}
use Rattle.amr_def.specs.Limits.{Limits, is_block, is_of_species_below}
use Rattle.amr_problem.specs.Document.{table_of}
use Rattle.amr_problem.specs.Judgement.{HasKeys, IsProblemOf}
use Rattle.amr_problem.specs.Values.{integers_at, number_at, numbers_at, rows_at, shear_at, text_at}
use Rattle.amr_trial.specs.Document.{document, trial_name}
use Rattle.amr_trial.specs.Laws.{LiesInside, TextsAreAccepted}
use Rattle.amr_problem.specs.Fields.{block_numbers}
use Rattle.amr_trial.specs.Generator.{after}
use Rattle.amr_trial.specs.Trial.{IsSize, block, block_from, blocks, courant_x, courant_y, text}
use Rattle.amr_trial.proofs.Accepted.{block_row, is_document, no_fault}
use Rattle.amr_trial.proofs.Inside.{blocks_inside, courant_below}
use Rattle.amr_trial.proofs.NameTexts.{trial_name_bytes}
use Rattle.amr_trial.proofs.ShortTexts.{name_short}

-- ---- the limits

block_is : (size : ℕ) (b : Block) → LiesInside size b → is_block size size b ≡ true
block_is size b is =
    let columns : nat_le b.x0 b.x1 ≡ true = le-leb b.x0 b.x1 is.columns in
    let east : nat_lt b.x1 size ≡ true = lt-ltb b.x1 size is.east in
    let rows : nat_le b.y0 b.y1 ≡ true = le-leb b.y0 b.y1 is.rows in
    let north : nat_lt b.y1 size ≡ true = lt-ltb b.y1 size is.north in
    let mass : nat_le b.mass (2 ^ 30) ≡ true = le-leb b.mass (2 ^ 30) (omega (arith, is.mass)) in
    rw (columns, east, rows, north, mass) refl

blocks_are : (number size : ℕ) → IsSize size → list_all (is_block size size) (blocks number size) ≡ true
blocks_are number size is =
    let each : (k : ℕ) → is_block size size (block number size k) ≡ true = λ k. block_is size (block number size k) (blocks_inside number size k is) in
    rw (each 0, each 1, each 2, each 3, each 4, each 5, each 6, each 7) refl

species_is : (size state : ℕ) → (block_from size state).species ≡ 0
unfolding block_from
species_is size state = refl

blocks_are_of_one : (number size : ℕ) → list_all (is_of_species_below 1) (blocks number size) ≡ true
blocks_are_of_one number size =
    let each : (k : ℕ) → (block number size k).species ≡ 0 = λ k. species_is size (after (5 * k) (after 2 number)) in
    rw (each 0, each 1, each 2, each 3, each 4, each 5, each 6, each 7) refl

abbrev LimitsOfTrial : ℕ → ℕ → Type 0
LimitsOfTrial number size = Limits 1 (trial_name number size) size size 16 (pos (courant_x number)) (pos (courant_y number)) 8 [] [] Periodic (Open 0 0) 2 (64 ∷ 16 ∷ []) 1 70 2 2 2 16 (blocks number size) 1

limits : (number size : ℕ) → number < 2 ^ 32 → IsSize size → LimitsOfTrial number size
limits number size small is =
    let few = courant_below number in
    let few_x : courant_x number < 5 = few.0 in
    let few_y : courant_y number < 4 = few.1 in
    let sum : max (courant_x number) 0 + max (courant_y number) 0 ≤ 8 = omega (arith, few_x, few_y) in
    let least : 8 ≤ size = is.least in
    let greatest : size ≤ 256 = is.greatest in
    let short : length (trial_name number size) ≤ 20 = name_short number size small is in
    record {
      first_version = omega arith;
      last_version = omega arith;
      named = omega arith;
      short_name = omega (arith, short);
      name_bytes = trial_name_bytes number size (omega (arith, small)) (omega (arith, greatest));
      least_nx = omega (arith, least);
      greatest_nx = greatest;
      least_ny = omega (arith, least);
      greatest_ny = greatest;
      greatest_steps = omega arith;
      greatest_cx = omega (arith, few_x);
      greatest_cy = omega (arith, few_y);
      least_d = omega arith;
      greatest_d = omega arith;
      rows_shear = refl;
      columns_shear = refl;
      stable = sum;
      x_inflows = refl;
      y_inflows = refl;
      greatest_max_level = omega arith;
      tag_count = refl;
      thresholds = refl;
      greatest_n_error_buf = omega arith;
      least_efficiency = omega arith;
      greatest_efficiency = omega arith;
      least_min_width = omega arith;
      greatest_min_width = omega arith;
      least_regrid_int = omega arith;
      greatest_regrid_int = omega arith;
      blocking_factor = refl;
      x_blocks = omega arith;
      y_blocks = omega arith;
      least_max_grid_size = omega arith;
      greatest_max_grid_size = omega arith;
      even_max_grid_size = refl;
      block_count = omega arith;
      blocks_inside = blocks_are number size is;
      some_species = omega arith;
      few_species = omega arith;
      blocks_species = blocks_are_of_one number size;
    }

-- ---- the problem

abbrev problem : (number size : ℕ) → LimitsOfTrial number size → Problem
problem number size limits = record {
  version = 1;
  name = trial_name number size;
  nx = size;
  ny = size;
  steps = 16;
  cx = pos (courant_x number);
  cy = pos (courant_y number);
  d = 8;
  shear_x = [];
  shear_y = [];
  x_sides = Periodic;
  y_sides = Open 0 0;
  max_level = 2;
  tag = 64 ∷ 16 ∷ [];
  n_error_buf = 1;
  efficiency = 70;
  min_width = 2;
  regrid_int = 2;
  blocking = 2;
  max_grid_size = 16;
  blocks = blocks number size;
  species = 1;
  limits = limits;
}

rows_are : (number size : ℕ) (ks : List ℕ) → map (λ k. block_row (block number size k)) ks ≡ map (λ k. block_numbers (block number size k)) ks
rows_are number size [] = refl
rows_are number size (k ∷ ks) =
    let b = block number size k in
    let none = sym (species_is size (after (5 * k) (after 2 number))) in
    ap (λ (s : ℕ). (pos b.x0 ∷ pos b.y0 ∷ pos b.x1 ∷ pos b.y1 ∷ pos b.mass ∷ pos s ∷ []) ∷ map (λ k. block_row (block number size k)) ks) none
    ∙ ap (λ (rows : List (List ℤ)). block_numbers b ∷ rows) (rows_are number size ks)

has_keys : (number size : ℕ) (limits : LimitsOfTrial number size) → HasKeys (document number size) (problem number size limits)
unfolding document number_at text_at numbers_at integers_at rows_at shear_at
has_keys number size limits = record {
  version = refl;
  name = refl;
  cells = refl;
  steps = refl;
  courant = refl;
  sides = refl;
  max_level = refl;
  tag = refl;
  n_error_buf = refl;
  efficiency = refl;
  min_width = refl;
  regrid_int = refl;
  max_grid_size = refl;
  blocks = ap Some (rows_are number size (range_with_len 0 8));
  shear_x = refl;
  shear_y = refl;
  blocking = refl;
  species = refl;
}

is_table : (number size : ℕ) → number < 2 ^ 32 → IsSize size → table_of (text number size) ≡ document number size
is_table number size small is = rw (is_document number size small is) refl

pub texts_are_accepted : TextsAreAccepted
texts_are_accepted number size small is =
    let p : Problem = problem number size (limits number size small is) in
    let keys : HasKeys (table_of (text number size)) p = subst (λ (t : Members). HasKeys t p) (sym (is_table number size small is)) (has_keys number size (limits number size small is)) in (
      p,
      record {
        clean = no_fault number size small is;
        keys = keys;
      },
    )

-- ---- its steps and its species

-- a number of the text is the one of the document
one_number : (number size : ℕ) (key : Key) (given own : ℕ) → number < 2 ^ 32 → IsSize size → number_at (table_of (text number size)) key ≡ Some (pos given) → number_at (document number size) key ≡ Some (pos own) → given ≡ own
one_number number size key given own small is there defined =
    let here : number_at (document number size) key ≡ Some (pos given) = subst (λ (t : Members). number_at t key ≡ Some (pos given)) (is_table number size small is) there in
    let same : pos given ≡ pos own = cc in
    omega (arith, ints, same)

pub sixteen_steps : (number size : ℕ) (p : Problem) → number < 2 ^ 32 → IsSize size → IsProblemOf (text number size) p → p.steps ≡ 16
sixteen_steps number size p small is problem =
    one_number number size Steps p.steps 16 small is problem.keys.steps (has_keys number size (limits number size small is)).steps

pub one_species : (number size : ℕ) (p : Problem) → number < 2 ^ 32 → IsSize size → IsProblemOf (text number size) p → p.species ≡ 1
one_species number size p small is problem =
    one_number number size Species p.species 1 small is problem.keys.species (has_keys number size (limits number size small is)).species
