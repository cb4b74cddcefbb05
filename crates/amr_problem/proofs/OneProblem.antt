-- Two problems of the same bytes are the same.
use Rattle.std.proofs.Common.{◌≡◌, ◌∙◌, sym, ap, refl, subst, ℕ, ℤ, pos, Option, Some, List, [], ◌∷◌, ◌++◌, map, arith}
use Rattle.std.proofs.Props.{props}
use Rattle.std.proofs.lemmas.Int.{ints}
use Rattle.std.proofs.lemmas.List.{append-nil}
use Rattle.std.proofs.lemmas.Option.{same_Some}
use Rattle.toml.specs.Data.{Members}
use Rattle.amr_def.specs.declared.problem.Problem.{Problem}
use Rattle.amr_def.specs.declared.problem.Block.{Block}
use Rattle.amr_def.specs.declared.problem.Sides.{Sides}
use Rattle.amr_def.specs.declared.problem.Sides.TheVariants.{Periodic, Open}
use Rattle.amr_def.specs.Limits.{Limits}
use Rattle.amr_problem.specs.Document.{table_of}
use Rattle.amr_problem.specs.Fields.{sides_numbers, block_numbers}
use Rattle.amr_problem.specs.Judgement.{HasKeys, IsProblemOf}

-- ---- a problem by its fields

-- the fields of a problem without the fact that they are within the limits
record Fields : Type 0 where
  version : ℕ
  name : List ℕ
  nx : ℕ
  ny : ℕ
  steps : ℕ
  cx : ℤ
  cy : ℤ
  d : ℕ
  shear_x : List ℤ
  shear_y : List ℤ
  x_sides : Sides
  y_sides : Sides
  max_level : ℕ
  tag : List ℕ
  n_error_buf : ℕ
  efficiency : ℕ
  min_width : ℕ
  regrid_int : ℕ
  blocking : ℕ
  max_grid_size : ℕ
  blocks : List Block
  species : ℕ

fields_of : Problem → Fields
fields_of p = record { version = p.version; name = p.name; nx = p.nx; ny = p.ny; steps = p.steps; cx = p.cx; cy = p.cy; d = p.d; shear_x = p.shear_x; shear_y = p.shear_y; x_sides = p.x_sides; y_sides = p.y_sides; max_level = p.max_level; tag = p.tag; n_error_buf = p.n_error_buf; efficiency = p.efficiency; min_width = p.min_width; regrid_int = p.regrid_int; blocking = p.blocking; max_grid_size = p.max_grid_size; blocks = p.blocks; species = p.species }

abbrev LimitsOf : Fields → Type 0
LimitsOf f = Limits f.version f.name f.nx f.ny f.steps f.cx f.cy f.d f.shear_x f.shear_y f.x_sides f.y_sides f.max_level f.tag f.n_error_buf f.efficiency f.min_width f.regrid_int f.blocking f.max_grid_size f.blocks f.species

-- limits have one proof
limits_once : (f : Fields) → (l k : LimitsOf f) → l ≡ k
limits_once f = hlevel props

abbrev made : (f : Fields) → LimitsOf f → Problem
made f l = record {
  version = f.version;
  name = f.name;
  nx = f.nx;
  ny = f.ny;
  steps = f.steps;
  cx = f.cx;
  cy = f.cy;
  d = f.d;
  shear_x = f.shear_x;
  shear_y = f.shear_y;
  x_sides = f.x_sides;
  y_sides = f.y_sides;
  max_level = f.max_level;
  tag = f.tag;
  n_error_buf = f.n_error_buf;
  efficiency = f.efficiency;
  min_width = f.min_width;
  regrid_int = f.regrid_int;
  blocking = f.blocking;
  max_grid_size = f.max_grid_size;
  blocks = f.blocks;
  species = f.species;
  limits = l;
}

same_made : (f g : Fields) → f ≡ g → (l : LimitsOf f) → (k : LimitsOf g) → made f l ≡ made g k
same_made f g is l = subst (λ (h : Fields). (k : LimitsOf h) → made f l ≡ made h k) is (λ k. ap (made f) (limits_once f l k))

same_fields : (p q : Problem) → fields_of p ≡ fields_of q → p ≡ q
unfolding fields_of
same_fields p q is = same_made (fields_of p) (fields_of q) is p.limits q.limits

-- ---- what its text says of the fields

same_pos : {m n : ℕ} → pos m ≡ pos n → m ≡ n
same_pos is = grind (arith, ints)

-- the sides of the first axis, and what follows them
record IsSameFront (s t : Sides) (xs ys : List ℤ) : Type 0 where
  front : s ≡ t
  others : xs ≡ ys

same_front : (s t : Sides) (xs ys : List ℤ) → sides_numbers s ++ xs ≡ sides_numbers t ++ ys → IsSameFront s t xs ys
same_front Periodic Periodic xs ys is = record { front = refl; others = grind arith }
same_front Periodic (Open l h) xs ys is = absurd (grind (arith, ints))
same_front (Open l h) Periodic xs ys is = absurd (grind (arith, ints))
same_front (Open l h) (Open m i) xs ys is =
    let low : l ≡ m = grind (arith, ints) in
    let high : h ≡ i = grind (arith, ints) in
    record { front = rw (low, high); others = grind arith }

block : (x0 y0 x1 y1 mass species : ℕ) → Block
block x0 y0 x1 y1 mass species = record { x0 = x0; y0 = y0; x1 = x1; y1 = y1; mass = mass; species = species }

same_block : (b c : Block) → block_numbers b ≡ block_numbers c → b ≡ c
unfolding block
same_block b c is =
    let x0 : b.x0 ≡ c.x0 = grind (arith, ints) in
    let y0 : b.y0 ≡ c.y0 = grind (arith, ints) in
    let x1 : b.x1 ≡ c.x1 = grind (arith, ints) in
    let y1 : b.y1 ≡ c.y1 = grind (arith, ints) in
    let mass : b.mass ≡ c.mass = grind (arith, ints) in
    let species : b.species ≡ c.species = grind (arith, ints) in
    let same : block b.x0 b.y0 b.x1 b.y1 b.mass b.species ≡ block c.x0 c.y0 c.x1 c.y1 c.mass c.species = rw (x0, y0, x1, y1, mass, species) in
    same

same_blocks : (bs cs : List Block) → map block_numbers bs ≡ map block_numbers cs → bs ≡ cs
same_blocks [] [] is = refl
same_blocks [] (c ∷ cs) is = absurd (grind arith)
same_blocks (b ∷ bs) [] is = absurd (grind arith)
same_blocks (b ∷ bs) (c ∷ cs) is =
    let here : b ≡ c = same_block b c (grind arith) in
    let others : bs ≡ cs = same_blocks bs cs (grind arith) in
    rw (here, others)

same_numbers : (ms ns : List ℕ) → map pos ms ≡ map pos ns → ms ≡ ns
same_numbers [] [] is = refl
same_numbers [] (n ∷ ns) is = absurd (grind arith)
same_numbers (m ∷ ms) [] is = absurd (grind arith)
same_numbers (m ∷ ms) (n ∷ ns) is =
    let here : m ≡ n = grind (arith, ints) in
    let others : ms ≡ ns = same_numbers ms ns (grind arith) in
    rw (here, others)

-- ---- the problem of bytes

-- what stands at a key is one number
one_number : (at_key : Option ℤ) (m n : ℕ) → at_key ≡ Some (pos m) → at_key ≡ Some (pos n) → m ≡ n
one_number at_key m n is_m is_n = same_pos (same_Some _ _ (sym is_m ∙ is_n))

-- two problems of the same table have the same fields
one_of_keys : (table : Members) (p q : Problem) → HasKeys table p → HasKeys table q → fields_of p ≡ fields_of q
unfolding fields_of
one_of_keys table p q h k =
    let version : p.version ≡ q.version = one_number _ _ _ h.version k.version in
    let cells : pos p.nx ∷ pos p.ny ∷ [] ≡ pos q.nx ∷ pos q.ny ∷ [] = same_Some _ _ (sym h.cells ∙ k.cells) in
    let courant : p.cx ∷ p.cy ∷ pos p.d ∷ [] ≡ q.cx ∷ q.cy ∷ pos q.d ∷ [] = same_Some _ _ (sym h.courant ∙ k.courant) in
    let sides = same_front p.x_sides q.x_sides _ _ (same_Some _ _ (sym h.sides ∙ k.sides)) in
    let y = same_front p.y_sides q.y_sides [] [] (append-nil (sides_numbers p.y_sides) ∙ (sides.others ∙ sym (append-nil (sides_numbers q.y_sides)))) in
    let name : p.name ≡ q.name = same_Some _ _ (sym h.name ∙ k.name) in
    let nx : p.nx ≡ q.nx = grind (arith, ints) in
    let ny : p.ny ≡ q.ny = grind (arith, ints) in
    let steps : p.steps ≡ q.steps = one_number _ _ _ h.steps k.steps in
    let cx : p.cx ≡ q.cx = grind arith in
    let cy : p.cy ≡ q.cy = grind arith in
    let d : p.d ≡ q.d = grind (arith, ints) in
    let max_level : p.max_level ≡ q.max_level = one_number _ _ _ h.max_level k.max_level in
    let tag : p.tag ≡ q.tag = same_numbers _ _ (same_Some _ _ (sym h.tag ∙ k.tag)) in
    let n_error_buf : p.n_error_buf ≡ q.n_error_buf = one_number _ _ _ h.n_error_buf k.n_error_buf in
    let efficiency : p.efficiency ≡ q.efficiency = one_number _ _ _ h.efficiency k.efficiency in
    let min_width : p.min_width ≡ q.min_width = one_number _ _ _ h.min_width k.min_width in
    let regrid_int : p.regrid_int ≡ q.regrid_int = one_number _ _ _ h.regrid_int k.regrid_int in
    let max_grid_size : p.max_grid_size ≡ q.max_grid_size = one_number _ _ _ h.max_grid_size k.max_grid_size in
    let blocks : p.blocks ≡ q.blocks = same_blocks _ _ (same_Some _ _ (sym h.blocks ∙ (rw version k.blocks))) in
    let shear_x : p.shear_x ≡ q.shear_x = same_Some _ _ (sym h.shear_x ∙ (rw ny k.shear_x)) in
    let shear_y : p.shear_y ≡ q.shear_y = same_Some _ _ (sym h.shear_y ∙ (rw nx k.shear_y)) in
    let blocking : p.blocking ≡ q.blocking = one_number _ _ _ h.blocking k.blocking in
    let species : p.species ≡ q.species = one_number _ _ _ h.species k.species in
    rw (version, name, nx, ny, steps, cx, cy, d, shear_x, shear_y, sides.front, y.front, max_level, tag, n_error_buf, efficiency, min_width, regrid_int, blocking, max_grid_size, blocks, species) refl

pub one_problem : (bytes : List ℕ) (p q : Problem) → IsProblemOf bytes p → IsProblemOf bytes q → p ≡ q
one_problem bytes p q is_p is_q = same_fields p q (one_of_keys (table_of bytes) p q is_p.keys is_q.keys)
