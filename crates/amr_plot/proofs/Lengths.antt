-- How long the plot of a sound state is at most: its boxes have no cell in common, and a number has at most twenty digits.
use Rattle.std.proofs.Common.{◌≡◌, ◌∙◌, true, false, Bool, ℕ, zero, suc, ◌+◌, ◌*◌, ◌^◌, ◌<◌, ◌≤◌, ℤ, pos, negsuc, ◌+ℤ◌, ◌≤ℤ◌, List, [], ◌∷◌, ◌++◌, All, length, get_or, map, sym, ap, subst, length-append, flat_map, mul_assoc, mul_comm, zero-mul, suc-mul, arith}
use Rattle.std.specs.Prelude.{codes, decimal, if◌then◌else◌}
use Rattle.std.specs.List.{range_with_len}
use Rattle.std.proofs.lemmas.Fmt.{length-decimal-le}
use Rattle.std.proofs.lemmas.Int.{ints}
use Rattle.std.proofs.lemmas.List.{get_or-map, get_or_default, length-map}
use Rattle.std.proofs.lemmas.Nat.{mul-le}
use Rattle.amr_box.specs.declared.Cell.{Cell}
use Rattle.amr_box.specs.Cells.{Extent, cell, cells_of, height, holds, width}
use Rattle.amr_box.proofs.Parts.{length-cells_of}
use Rattle.amr_def.specs.declared.problem.Problem.{Problem}
use Rattle.amr_def.specs.declared.problem.Row.{Row}
use Rattle.amr_def.specs.Domain.{domain, in_domain}
use Rattle.amr_def.specs.Facts.{IsLevel, IsSmallRow, no_row, row_at}
use Rattle.amr_def.specs.Plot.{box_line, box_text, head_text, ledger_line, ledger_lines, level_line, level_text, line, mass_line, names_species, numbered, plot_all, rows_text, spaced, species_line}
use Rattle.amr_def.specs.State.{Level, Masses, State, level_at, mass_of, no_level, no_masses}
use Rattle.amr_def.specs.Species.{AreAlike, by_place, first_state, no_state, step_of}
use Rattle.amr_def.proofs.OneStep.{masses-small}
use Rattle.amr_def.proofs.Sizes.{doubled_small}
use Rattle.amr_patch.proofs.BoxEntries.{in_some, no_box}
use Rattle.amr_patch.proofs.Corners.{corners}
use Rattle.amr_patch.proofs.Rows.{sides}
use Rattle.amr_payload.specs.Payload.{level_cells}
use Rattle.amr_payload.proofs.Counting.{domain_cells, level_few}
use Rattle.amr_plot.specs.Texts.{level_head, texts, word}
use Rattle.amr_plot.proofs.Fragments.{box_fragments, head_fragments, ledger_fragments, level_fragments, species_ledger_fragments}
use Rattle.amr_plot.proofs.PlotTexts.{place_text, places_text}
use Rattle.amr_plot.proofs.Putting.{numbered_from_zero, texts_of_range}
use Rattle.amr_plot.proofs.Words.{none_before, space_before, spaced_words}

-- ---- numbers and words

number_short : (n : ℕ) → n < 2 ^ 64 → length (decimal n) ≤ 20
number_short n small = length-decimal-le 20 n (omega arith) (omega arith) small

word_short : (x v : ℕ) → v < 2 ^ 64 → length (word x v) ≤ 21
word_short zero v small = let few = number_short v small in subst (λ (l : List ℕ). length l ≤ 21) (none_before v) (omega arith)
word_short (suc i) v small = let few = number_short v small in subst (λ (l : List ℕ). length l ≤ 21) (space_before i v) (omega arith)

-- ---- texts in turn

texts_short : (f : ℕ → List ℕ) (n most : ℕ) → ((i : ℕ) → i < n → length (f i) ≤ most) → length (texts f n) ≤ n * most
texts_short f zero most each = omega (arith, zero-mul most)
texts_short f (suc n) most each =
    let before = texts_short f n most (λ i below. each i (omega arith)) in
    let last = each n (omega arith) in
    omega (arith, length-append (texts f n) (f n), before, last, suc-mul n most)

-- ---- boxes

-- the coordinates of a box are numbers of a few digits, and it has cells
record IsPlaced (b : Extent) : Type 0 where
  west : pos 0 ≤ℤ b.lo.x
  south : pos 0 ≤ℤ b.lo.y
  east : pos 0 ≤ℤ b.hi.x
  north : pos 0 ≤ℤ b.hi.y
  right : b.hi.x ≤ℤ pos (2 ^ 32)
  top : b.hi.y ≤ℤ pos (2 ^ 32)
  wide : b.lo.x ≤ℤ b.hi.x
  high : b.lo.y ≤ℤ b.hi.y
  some_columns : 0 < width b
  some_rows : 0 < height b

-- a coordinate as a number
record IsNumber (z : ℤ) : Type 0 where
  number : ℕ
  is : pos number ≡ z
  small : number < 2 ^ 64

number_of : (z : ℤ) → pos 0 ≤ℤ z → z ≤ℤ pos (2 ^ 32) → IsNumber z
number_of (pos n) low high = record { number = n; is = omega (arith, ints); small = omega (arith, ints, high) }
number_of (negsuc n) low high = absurd (omega (arith, ints, low))

box_line_short : (b : Extent) → IsPlaced b → length (box_line b) ≤ 88
box_line_short b is =
    let w = number_of b.lo.x is.west (omega (arith, ints, is.wide, is.right)) in
    let s = number_of b.lo.y is.south (omega (arith, ints, is.high, is.top)) in
    let e = number_of b.hi.x is.east is.right in
    let n = number_of b.hi.y is.north is.top in
    let a = decimal w.number in
    let c = decimal s.number in
    let d = decimal e.number in
    let f = decimal n.number in
    let end : List ℕ = 10 ∷ [] in
    let few_a = number_short w.number w.small in
    let few_c = number_short s.number s.small in
    let few_d = number_short e.number e.small in
    let few_f = number_short n.number n.small in
    let whole = codes "box " ++ (a ++ (codes " " ++ (c ++ (codes " " ++ (d ++ (codes " " ++ (f ++ end))))))) in
    let long : length whole ≡ 8 + length a + length c + length d + length f =
    omega (arith, length-append a (codes " " ++ (c ++ (codes " " ++ (d ++ (codes " " ++ (f ++ end)))))), length-append c (codes " " ++ (d ++ (codes " " ++ (f ++ end)))), length-append d (codes " " ++ (f ++ end)), length-append f end) in
    subst (λ (l : List ℕ). length l ≤ 88) (box_fragments b w.number s.number e.number n.number w.is s.is e.is n.is) (omega (arith, long, few_a, few_c, few_d, few_f))

species_line_short : (named : Bool) (s : ℕ) → s < 2 ^ 64 → length (species_line named s) ≤ 29
species_line_short true s small =
    let few = number_short s small in
    omega (arith, few, length-append (codes "species " ++ decimal s) (10 ∷ []), length-append (codes "species ") (decimal s))
species_line_short false s small = omega arith

module _ (m : Masses) (light : (c : Cell) → mass_of m c < 2 ^ 64) where
  row_short : (b : Extent) (j : ℕ) → 0 < width b → length (mass_line m b j) ≤ width b * 21 + 1
  unfolding mass_line
  row_short b j some =
      let v : ℕ → ℕ = λ i. mass_of m (cell (b.lo.x +ℤ pos i) (b.lo.y +ℤ pos j)) in
      let words = spaced (map (λ i. decimal (v i)) (range_with_len 0 (width b))) in
      let is : words ≡ texts (λ x. word x (v x)) (width b) = spaced_words v (width b) some in
      let few : length (texts (λ x. word x (v x)) (width b)) ≤ width b * 21 = texts_short (λ x. word x (v x)) (width b) 21 (λ i below. word_short i (v i) (light (cell (b.lo.x +ℤ pos i) (b.lo.y +ℤ pos j)))) in
      omega (arith, length-append words (10 ∷ []), ap length is, few)

  -- the rows of a species, with its line
  rows_short : (named : Bool) (n : ℕ) (b : Extent) → n < 2 ^ 64 → IsPlaced b → length (rows_text named b n m) ≤ 51 * length (cells_of b)
  unfolding rows_text
  rows_short named n b small is =
      let w = width b in
      let h = height b in
      let rows = flat_map (mass_line m b) (range_with_len 0 h) in
      let few : length (texts (mass_line m b) h) ≤ h * (w * 22) = texts_short (mass_line m b) h (w * 22) (λ j below. let one = row_short b j is.some_columns in omega (arith, one, is.some_columns)) in
      let size : h * (w * 22) ≡ w * h * 22 = sym (mul_assoc h w 22) ∙ ap (λ k. k * 22) (mul_comm h w) in
      let some : 1 * 1 ≤ w * h = mul-le 1 1 w h is.some_columns is.some_rows in
      omega (arith, length-append (species_line named n) rows, species_line_short named n small, ap length (texts_of_range (mass_line m b) h), few, size, some, length-cells_of b)

-- masses of each species that are numbers of 64 bits
abbrev AreLight : List Masses → Type 0
AreLight ms = (i : ℕ) (c : Cell) → i < length ms → mass_of (get_or ms i no_masses) c < 2 ^ 64

module _ (named : Bool) (ms : List Masses) (few_species : length ms ≤ 4) (light : AreLight ms) where
  box_short : (b : Extent) → IsPlaced b → length (box_text named ms b) ≤ 292 * length (cells_of b)
  unfolding box_text
  box_short b is =
      let n = length ms in
      let f : ℕ → List ℕ = λ i. rows_text named b i (get_or ms i no_masses) in
      let cells = length (cells_of b) in
      let some : 1 * 1 ≤ width b * height b = mul-le 1 1 (width b) (height b) is.some_columns is.some_rows in
      let rows : length (texts f n) ≤ n * (51 * cells) =
      texts_short f n (51 * cells) (λ i below. rows_short (get_or ms i no_masses) (λ c. light i c below) named i b (omega (arith, below, few_species)) is) in
      let most : n * (51 * cells) ≤ 4 * (51 * cells) = mul-le n (51 * cells) 4 (51 * cells) few_species (omega arith) in
      omega (arith, length-append (box_line b) (numbered (rows_text named b) 0 ms), box_line_short b is, ap length (numbered_from_zero (rows_text named b) no_masses ms), rows, most, some, length-cells_of b)

  boxes_short : (bs : List Extent) → All IsPlaced bs → length (flat_map (box_text named ms) bs) ≤ 292 * length (flat_map cells_of bs)
  boxes_short [] are = omega arith
  boxes_short (b ∷ bs) are =
      let one = box_short b (are 0 b (omega arith)) in
      let more = boxes_short bs (λ k d below. are (suc k) d (omega (arith, below))) in
      omega (arith, length-append (box_text named ms b) (flat_map (box_text named ms) bs), length-append (cells_of b) (flat_map cells_of bs), one, more)

boxes_few : (bs : List Extent) → All IsPlaced bs → length bs ≤ length (flat_map cells_of bs)
boxes_few [] are = omega arith
boxes_few (b ∷ bs) are =
    let is = are 0 b (omega arith) in
    let some : 1 * 1 ≤ width b * height b = mul-le 1 1 (width b) (height b) is.some_columns is.some_rows in
    let more = boxes_few bs (λ k d below. are (suc k) d (omega (arith, below))) in
    omega (arith, length-append (cells_of b) (flat_map cells_of bs), length-cells_of b, some, more)

-- ---- levels

placed : (p : Problem) (l : ℕ) (k : Level) → l ≤ 4 → IsLevel p l k → All IsPlaced k.boxes
placed p l k fine is i d below =
    let b = get_or k.boxes i no_box in
    let inside : (c : Cell) → holds b c ≡ true → in_domain (domain p l) c ≡ true = λ c held. is.inside c (in_some k.boxes i c below held) in
    let at = corners p l b fine (is.proper i no_box below) inside in
    let s = sides b at.near in
    subst (λ (e : Extent). IsPlaced e) (get_or_default k.boxes i no_box d below) (record {
      west = at.west;
      south = at.south;
      east = at.east;
      north = at.north;
      right = omega (arith, ints, at.near.east);
      top = omega (arith, ints, at.near.north);
      wide = at.near.wide;
      high = at.near.high;
      some_columns = s.some_columns;
      some_rows = s.some_rows;
    })

cells_few : (p : Problem) (l : ℕ) → l ≤ 4 → level_cells p l ≤ 16777216
cells_few p l fine =
    let wide : p.nx * 2 ^ l ≤ 4096 = doubled_small p.nx l p.limits.greatest_nx fine in
    let high : p.ny * 2 ^ l ≤ 4096 = doubled_small p.ny l p.limits.greatest_ny fine in
    let most : p.nx * 2 ^ l * (p.ny * 2 ^ l) ≤ 4096 * 4096 = mul-le (p.nx * 2 ^ l) (p.ny * 2 ^ l) 4096 4096 wide high in
    omega (arith, most, domain_cells p l)

level_short : (p : Problem) (named : Bool) (l : ℕ) (ks : List Level) → l ≤ 4 → length ks ≤ 4 → IsLevel p l (get_or ks 0 no_level) → AreLight (map (λ k. k.masses) ks)
    → length (level_text named l ks) ≤ 4898947120
unfolding level_text
level_short p named l ks fine few is light =
    let k = get_or ks 0 no_level in
    let ms = map (λ k. k.masses) ks in
    let are = placed p l k fine is in
    let count = length k.boxes in
    let cells = level_few p l k is in
    let most = cells_few p l fine in
    let boxes = boxes_few k.boxes are in
    let a = decimal l in
    let b = decimal count in
    let few_a = number_short l (omega (arith, fine)) in
    let few_b = number_short count (omega (arith, cells, most, boxes)) in
    let long : length (level_head l count) ≡ 8 + length a + length b = omega (arith, length-append a (codes " " ++ (b ++ 10 ∷ [])), length-append b (10 ∷ [])) in
    let rest = boxes_short named ms (omega (arith, few, length-map ks (λ (k : Level). k.masses))) light k.boxes are in
    omega (arith, length-append (level_line l k) (flat_map (box_text named ms) k.boxes), ap length (level_fragments l k), long, few_a, few_b, rest, cells, most)

-- ---- the ledger and the head

ledger_short : (named : Bool) (k s : ℕ) (r : Row) → k < 2 ^ 64 → s < 2 ^ 64 → IsSmallRow r → length (ledger_line named k s r) ≤ 112
ledger_short false k s r small tiny is =
    let n = decimal k in
    let a = decimal r.mass in
    let b = decimal r.inflow in
    let c = decimal r.outflow in
    let end : List ℕ = 10 ∷ [] in
    let few_n = number_short k small in
    let few_a = number_short r.mass is.mass in
    let few_b = number_short r.inflow is.inflow in
    let few_c = number_short r.outflow is.outflow in
    let whole = codes "ledger " ++ (n ++ (codes " " ++ (a ++ (codes " " ++ (b ++ (codes " " ++ (c ++ end))))))) in
    let long : length whole ≡ 11 + length n + length a + length b + length c =
    omega (arith, length-append n (codes " " ++ (a ++ (codes " " ++ (b ++ (codes " " ++ (c ++ end)))))), length-append a (codes " " ++ (b ++ (codes " " ++ (c ++ end)))), length-append b (codes " " ++ (c ++ end)), length-append c end) in
    subst (λ (l : List ℕ). length l ≤ 112) (ledger_fragments k s r) (omega (arith, long, few_n, few_a, few_b, few_c))
ledger_short true k s r small tiny is =
    let n = decimal k in
    let m = decimal s in
    let a = decimal r.mass in
    let b = decimal r.inflow in
    let c = decimal r.outflow in
    let end : List ℕ = 10 ∷ [] in
    let few_n = number_short k small in
    let few_m = number_short s tiny in
    let few_a = number_short r.mass is.mass in
    let few_b = number_short r.inflow is.inflow in
    let few_c = number_short r.outflow is.outflow in
    let rest = codes " " ++ (a ++ (codes " " ++ (b ++ (codes " " ++ (c ++ end))))) in
    let whole = codes "ledger " ++ (n ++ (codes " " ++ (m ++ rest))) in
    let long : length whole ≡ 12 + length n + length m + length a + length b + length c =
    omega (arith, length-append n (codes " " ++ (m ++ rest)), length-append m rest, length-append a (codes " " ++ (b ++ (codes " " ++ (c ++ end)))), length-append b (codes " " ++ (c ++ end)), length-append c end) in
    subst (λ (l : List ℕ). length l ≤ 112) (species_ledger_fragments k s r) (omega (arith, long, few_n, few_m, few_a, few_b, few_c))

head_short : (p : Problem) (step : ℕ) → step < 2 ^ 64 → length (head_text p step) ≤ 94
head_short p step small =
    let n = decimal step in
    let format = decimal (if names_species p then 2 else 1) in
    let end : List ℕ = 10 ∷ [] in
    let few = number_short step small in
    let few_f = number_short (if names_species p then 2 else 1) (one_or_two (names_species p)) in
    let rest = 10 ∷ (codes "step " ++ (n ++ end)) in
    let whole = codes "amr-plot " ++ (format ++ (10 ∷ (codes "name " ++ (p.name ++ rest)))) in
    let long : length whole ≡ 22 + length format + length p.name + length n =
    omega (arith, length-append format (10 ∷ (codes "name " ++ (p.name ++ rest))), length-append p.name rest, length-append n end) in
    subst (λ (l : List ℕ). length l ≤ 94) (head_fragments p step format (λ i. format)) (omega (arith, long, few, few_f, p.limits.short_name))
  where
    one_or_two : (t : Bool) → (if t then 2 else 1) < 2 ^ 64
    one_or_two true = omega arith
    one_or_two false = omega arith

-- ---- the plot

-- how much the first of alike states has at most
record IsShort (s : State) : Type 0 where
  few_rows : length s.rows ≤ 4097
  few_levels : length s.levels ≤ 5
  few_steps : s.step ≤ 4096

first_short : (p : Problem) (ss : List State) → AreAlike p ss → IsShort (first_state ss)
first_short p [] alike = record { few_rows = omega arith; few_levels = omega arith; few_steps = omega arith }
first_short p (s ∷ more) alike =
    let sound = alike.sound 0 s (omega arith) in
    record {
      few_rows = omega (arith, sound.telescoped.count, sound.within, p.limits.greatest_steps);
      few_levels = omega (arith, sound.few_levels, p.limits.greatest_max_level);
      few_steps = omega (arith, sound.within, p.limits.greatest_steps);
    }

module _ (p : Problem) (ss : List State) (alike : AreAlike p ss) (few : length ss ≤ 4) where
  -- row i of state j
  row_small : (i j : ℕ) → i < length (first_state ss).rows → j < length ss → IsSmallRow (get_or (map (λ s. row_at s i) ss) j no_row)
  row_small i j below there =
      let s = get_or ss j no_state in
      let sound = alike.sound j no_state there in
      let first = alike.sound 0 no_state (omega (arith, there)) in
      let same = alike.same_step j no_state there in
      subst (λ (r : Row). IsSmallRow r) (sym (get_or-map (λ (s : State). row_at s i) ss j no_state no_row there))
      (sound.small_rows i no_row (omega (arith, below, sound.telescoped.count, first.telescoped.count, same)))

  rows_short_at : (named : Bool) (i : ℕ) → i < length (first_state ss).rows → length (ledger_lines named i (map (λ s. row_at s i) ss)) ≤ 448
  unfolding ledger_lines
  rows_short_at named i below =
      let rs = map (λ s. row_at s i) ss in
      let count : length rs ≡ length ss = length-map ss (λ (s : State). row_at s i) in
      let f : ℕ → List ℕ = λ j. ledger_line named i j (get_or rs j no_row) in
      let short = (first_short p ss alike).few_rows in
      let all : length (texts f (length rs)) ≤ length rs * 112 =
      texts_short f (length rs) 112 (λ j there. ledger_short named i j (get_or rs j no_row) (omega (arith, below, short)) (omega (arith, there, count, few)) (row_small i j below (omega (arith, there, count)))) in
      omega (arith, ap length (numbered_from_zero (ledger_line named i) no_row rs), all, count, few)

  level_is_sound : (i : ℕ) → i < length (first_state ss).levels → IsLevel p i (get_or (map (λ s. level_at s i) ss) 0 no_level)
  level_is_sound i below = at ss alike below
    where
      at : (ss : List State) → AreAlike p ss → i < length (first_state ss).levels → IsLevel p i (get_or (map (λ s. level_at s i) ss) 0 no_level)
      at [] alike below = absurd (omega (arith, below))
      at (s ∷ more) alike below = (alike.sound 0 s (omega arith)).nested.each i below

  masses_light : (i : ℕ) → AreLight (map (λ k. k.masses) (map (λ s. level_at s i) ss))
  masses_light i j c there =
      let count : length (map (λ s. level_at s i) ss) ≡ length ss = length-map ss (λ (s : State). level_at s i) in
      let inside : j < length (map (λ s. level_at s i) ss) = omega (arith, there, length-map (map (λ s. level_at s i) ss) (λ (k : Level). k.masses)) in
      let one = get_or-map (λ (k : Level). k.masses) (map (λ s. level_at s i) ss) j no_level no_masses inside in
      let two = get_or-map (λ (s : State). level_at s i) ss j no_state no_level (omega (arith, inside, count)) in
      let small = masses-small p (get_or ss j no_state) i c (alike.sound j no_state (omega (arith, inside, count))) in
      let fits : mass_of (level_at (get_or ss j no_state) i).masses c < 2 ^ 64 = omega (arith, small) in
      subst (λ (m : Masses). mass_of m c < 2 ^ 64) (sym (one ∙ ap (λ (k : Level). k.masses) two)) fits

  pub plot_short : length (plot_all p ss) < 2 ^ 64
  unfolding plot_all
  plot_short =
      let named = names_species p in
      let is = first_short p ss alike in
      let rows = length (first_state ss).rows in
      let levels = length (first_state ss).levels in
      let ledger = numbered (ledger_lines named) 0 (by_place row_at rows ss) in
      let tables = numbered (level_text named) 0 (by_place level_at levels ss) in
      let end = line (codes "end") in
      let f : ℕ → List ℕ = place_text (ledger_lines named) row_at ss in
      let g : ℕ → List ℕ = place_text (level_text named) level_at ss in
      let first : length (head_text p (step_of ss)) ≤ 94 = head_short p (step_of ss) (omega (arith, is.few_steps)) in
      let second : length (texts f rows) ≤ rows * 448 = texts_short f rows 448 (rows_short_at named) in
      let third : length (texts g levels) ≤ levels * 4898947120 =
      texts_short g levels 4898947120 (λ i below. level_short p named i (map (λ s. level_at s i) ss) (omega (arith, below, is.few_levels))
      (omega (arith, few, length-map ss (λ (s : State). level_at s i))) (level_is_sound i below) (masses_light i)) in
      omega (arith, length-append (head_text p (step_of ss)) (ledger ++ (tables ++ end)), length-append ledger (tables ++ end), length-append tables end, ap length (places_text (ledger_lines named) row_at rows ss), ap length (places_text (level_text named) level_at levels ss), first, second, third, is.few_rows, is.few_levels)
