-- The entries of a table whose keys have no fault.
use denote.RawPtr.{null_ptr}
use Rattle.std.proofs.Common.{◌≡◌, ◌∙◌, sym, ap, refl, ℕ, ◌<◌, ◌≤◌, ◌^◌, ◌==◌, nat_lt, true, ℤ, pos, ◌≤ℤ◌, inl, inr, List, [], ◌∷◌, ◌++◌, map, length, take, drop, get_or, length-append, Option, None, Some, is_some, option_map, arith}
use Rattle.std.proofs.lemmas.Bool.{cases_Bool, eqb-true, true≢false}
use Rattle.std.proofs.lemmas.Bool.Decides.{Decides-int_eq}
use Rattle.std.proofs.lemmas.Int.{ints}
use Rattle.std.proofs.lemmas.Option.{same_Some}
use Rattle.std.specs.Global.{Vec}
use Rattle.std.specs.Ordering.{int_eq}
use Rattle.toml.specs.Data.{Data, Items, Members, as_array}
use Rattle.amr_problem.specs.declared.entries.Basics.{Basics}
use Rattle.amr_problem.specs.declared.entries.Entries.{Entries}
use Rattle.amr_problem.specs.declared.entries.Overlay.{Overlay}
use Rattle.amr_problem.specs.declared.entries.Refining.{Refining}
use Rattle.amr_problem.specs.declared.fault.ProblemFault.TheVariants.{OutOfRange}
use Rattle.amr_problem.specs.declared.key.Key.{Key}
use Rattle.amr_problem.specs.declared.key.Key.TheVariants.{Version, Name, Cells, Steps, Courant, Sides, MaxLevel, Tag, NErrorBuf, Efficiency, MinWidth, RegridInt, MaxGridSize, Blocks, ShearX, ShearY, Blocking, Species}
use Rattle.amr_problem.specs.Entries.{AreBasicsOf, AreRefiningOf, IsOverlayOf, IsReadOf, is_for_each}
use Rattle.amr_problem.specs.Faults.{first_some, wrong_kind, out_of_range, tag_count, first_wrong, is_read, key_outside, version_in}
use Rattle.amr_problem.specs.Keys.{keys, kind_of, range, cell_count}
use Rattle.amr_problem.specs.Values.{◌>>=◌, count, integers_at, number_at, numbers_at, numbers_in, numbers_of, block_of, rows_at, shear_at, text_at, value_at}
use Rattle.amr_problem.proofs.EntryLaws.{name_from_none, rows_from_none}
use Rattle.amr_problem.proofs.FirstSome.{fold-none, option_map-none}
use Rattle.amr_problem.proofs.RangeLaws.{first_outside-none}
use Rattle.amr_problem.proofs.ValueLaws.{length-integers, shear_at-for_each}

-- ---- what has no fault, key by key

-- nothing comes of a list, so nothing comes of one of its elements
none_of : {X A : Type 0} (f : X → Option A) (ks : List X) (k : X) (ls : List X) → first_some (map f (ks ++ k ∷ ls)) ≡ None → f k ≡ None
none_of f [] k ls h = (fold-none (f k) (map f ls) h).first
none_of f (x ∷ ks) k ls h = none_of f ks k ls (fold-none (f x) (map f (ks ++ k ∷ ls)) h).second

-- no value is of another kind than its key's, so that of one key is not
read_of : (table : Members) (ks : List Key) (k : Key) (ls : List Key) → first_wrong table (ks ++ k ∷ ls) ≡ None → is_read table k (kind_of k) ≡ true
read_of table [] k ls h =
    elim (cases_Bool (is_read table k (kind_of k))) [
      | inl read ↦ read
      | inr unread ↦ absurd (let e = rw unread at h in cc)
    ]
read_of table (x ∷ ks) k ls h =
    elim (cases_Bool (is_read table x (kind_of x))) [
      | inl read ↦ read_of table ks k ls (rw read at h)
      | inr unread ↦ absurd (let e = rw unread at h in cc)
    ]

-- a value that is there
record Found {A : Type 0} (o : Option A) : Type 0 where
  value : A
  is : o ≡ Some value

found : {A : Type 0} (o : Option A) → is_some o ≡ true → Found o
found None h = absurd (true≢false (sym h))
found (Some x) h = record { value = x; is = refl }

-- ---- how many numbers stand at a key

pub length-numbers_in : (many : ℕ) (d : Option Items) (zs : List ℤ) → d >>= numbers_in many ≡ Some zs → length zs ≡ many
length-numbers_in many None zs h = absurd (cc)
length-numbers_in many (Some items) zs h =
    elim (cases_Bool (count items == many)) [
      | inl same ↦ length-integers items zs (rw same at h) ∙ eqb-true (count items) many same
      | inr other ↦ absurd (let e = rw other at h in cc)
    ]

length-numbers_of : (many : ℕ) (d : Option Data) (zs : List ℤ) → d >>= numbers_of many ≡ Some zs → length zs ≡ many
length-numbers_of many None zs h = absurd (cc)
length-numbers_of many (Some d) zs h = length-numbers_in many (as_array d) zs h

length-numbers_at : (many : ℕ) (table : Members) (key : Key) (zs : List ℤ) → numbers_at many table key ≡ Some zs → length zs ≡ many
unfolding numbers_at
length-numbers_at many table key zs h = length-numbers_of many (value_at table key) zs h

pub length-block_of : (version : ℕ) (d : Data) (zs : List ℤ) → block_of version d ≡ Some zs → length zs ≡ 6
length-block_of version d zs h =
    elim (cases_Bool (nat_lt version 3)) [
      | inl early ↦ one_more (numbers_of 5 d) (λ ys is. length-numbers_in 5 (as_array d) ys is) (rw early at h)
      | inr late ↦ length-numbers_in 6 (as_array d) zs (rw late at h)
    ]
  where
    one_more : (o : Option (List ℤ)) → ((ys : List ℤ) → o ≡ Some ys → length ys ≡ 5) → option_map (λ ys. ys ++ pos 0 ∷ []) o ≡ Some zs → length zs ≡ 6
    one_more None five h = absurd (cc)
    one_more (Some ys) five h = let same = same_Some (ys ++ pos 0 ∷ []) zs h in ap length (sym same) ∙ omega (arith, length-append ys (pos 0 ∷ []), five ys refl)

two : (zs : List ℤ) → length zs ≡ 2 → zs ≡ get_or zs 0 (pos 0) ∷ get_or zs 1 (pos 0) ∷ []
two [] h = absurd (omega arith)
two (a ∷ []) h = absurd (omega arith)
two (a ∷ b ∷ []) h = refl
two (a ∷ b ∷ c ∷ rest) h = absurd (omega arith)

three : (zs : List ℤ) → length zs ≡ 3 → zs ≡ get_or zs 0 (pos 0) ∷ get_or zs 1 (pos 0) ∷ get_or zs 2 (pos 0) ∷ []
three [] h = absurd (omega arith)
three (a ∷ []) h = absurd (omega arith)
three (a ∷ b ∷ []) h = absurd (omega arith)
three (a ∷ b ∷ c ∷ []) h = refl
three (a ∷ b ∷ c ∷ d ∷ rest) h = absurd (omega arith)

four : (zs : List ℤ) → length zs ≡ 4 → zs ≡ get_or zs 0 (pos 0) ∷ get_or zs 1 (pos 0) ∷ get_or zs 2 (pos 0) ∷ get_or zs 3 (pos 0) ∷ []
four [] h = absurd (omega arith)
four (a ∷ []) h = absurd (omega arith)
four (a ∷ b ∷ []) h = absurd (omega arith)
four (a ∷ b ∷ c ∷ []) h = absurd (omega arith)
four (a ∷ b ∷ c ∷ d ∷ []) h = refl
four (a ∷ b ∷ c ∷ d ∷ e ∷ rest) h = absurd (omega arith)

-- ---- the entries of a table

-- a vector with these items
abbrev vec_of : {X : Type 0} (xs : List X) → length xs < 2 ^ 63 → Vec X
vec_of xs small = record { ptr = null_ptr; len = length xs; cap = length xs; alloc = record { memory = record { seal = tt } }; items = xs; ok = (refl, omega arith); small = small }

-- each key has its kind of value, and no number is out of its range
pub record IsFit (table : Members) : Type 0 where
  pub kinds : wrong_kind table ≡ None
  pub ranges : out_of_range table ≡ None
  pub tags : number_at table MaxLevel >>= (λ levels. integers_at table Tag >>= tag_count levels) ≡ None

basics_of : (table : Members) → IsFit table → (b : Basics) × AreBasicsOf table b
basics_of table fit =
    let version = found (number_at table Version) (read_of table (take 0 keys) Version (drop 1 keys) fit.kinds) in
    let name = found (text_at table Name) (read_of table (take 1 keys) Name (drop 2 keys) fit.kinds) in
    let cells = found (numbers_at 2 table Cells) (read_of table (take 2 keys) Cells (drop 3 keys) fit.kinds) in
    let steps = found (number_at table Steps) (read_of table (take 3 keys) Steps (drop 4 keys) fit.kinds) in
    let courant = found (numbers_at 3 table Courant) (read_of table (take 4 keys) Courant (drop 5 keys) fit.kinds) in
    let four_sides = found (numbers_at 4 table Sides) (read_of table (take 5 keys) Sides (drop 6 keys) fit.kinds) in
    let level = found (number_at table MaxLevel) (read_of table (take 6 keys) MaxLevel (drop 7 keys) fit.kinds) in
    let outside : key_outside table Name ≡ None = none_of (key_outside table) (take 1 keys) Name (drop 2 keys) fit.ranges in
    let short : length name.value ≤ 32 = (name_from_none name.value (option_map-none (OutOfRange Name) _ (rw name.is at outside))).short in
    let b : Basics = record {
      version = version.value;
      name = vec_of name.value (omega arith);
      nx = get_or cells.value 0 (pos 0);
      ny = get_or cells.value 1 (pos 0);
      steps = steps.value;
      cx = get_or courant.value 0 (pos 0);
      cy = get_or courant.value 1 (pos 0);
      d = get_or courant.value 2 (pos 0);
      x_low = get_or four_sides.value 0 (pos 0);
      x_high = get_or four_sides.value 1 (pos 0);
      y_low = get_or four_sides.value 2 (pos 0);
      y_high = get_or four_sides.value 3 (pos 0);
      max_level = level.value;
    } in (
      b,
      record {
        version = version.is;
        name = name.is;
        cells = cells.is ∙ ap Some (two cells.value (length-numbers_at 2 table Cells cells.value cells.is));
        steps = steps.is;
        courant = courant.is ∙ ap Some (three courant.value (length-numbers_at 3 table Courant courant.value courant.is));
        sides = four_sides.is ∙ ap Some (four four_sides.value (length-numbers_at 4 table Sides four_sides.value four_sides.is));
        max_level = level.is;
      },
    )

refining_of : (table : Members) → IsFit table → (r : Refining) × AreRefiningOf table r
refining_of table fit =
    let tag = found (integers_at table Tag) (read_of table (take 7 keys) Tag (drop 8 keys) fit.kinds) in
    let level = found (number_at table MaxLevel) (read_of table (take 6 keys) MaxLevel (drop 7 keys) fit.kinds) in
    let n_error_buf = found (number_at table NErrorBuf) (read_of table (take 8 keys) NErrorBuf (drop 9 keys) fit.kinds) in
    let efficiency = found (number_at table Efficiency) (read_of table (take 9 keys) Efficiency (drop 10 keys) fit.kinds) in
    let min_width = found (number_at table MinWidth) (read_of table (take 10 keys) MinWidth (drop 11 keys) fit.kinds) in
    let regrid_int = found (number_at table RegridInt) (read_of table (take 11 keys) RegridInt (drop 12 keys) fit.kinds) in
    let max_grid_size = found (number_at table MaxGridSize) (read_of table (take 12 keys) MaxGridSize (drop 13 keys) fit.kinds) in
    let outside : key_outside table MaxLevel ≡ None = none_of (key_outside table) (take 6 keys) MaxLevel (drop 7 keys) fit.ranges in
    let inside = first_outside-none (range (pos 0) (pos 4)) [] level.value [] (option_map-none (OutOfRange MaxLevel) _ (rw level.is at outside)) in
    let counted : tag_count level.value tag.value ≡ None = rw (level.is, tag.is) at fit.tags in
    let few : length tag.value < 2 ^ 63 = short_tag level.value tag.value inside.here.greatest counted in
    let r : Refining = record {
      tag = vec_of tag.value few;
      n_error_buf = n_error_buf.value;
      efficiency = efficiency.value;
      min_width = min_width.value;
      regrid_int = regrid_int.value;
      max_grid_size = max_grid_size.value;
    } in (
      r,
      record {
        tag = tag.is;
        n_error_buf = n_error_buf.is;
        efficiency = efficiency.is;
        min_width = min_width.is;
        regrid_int = regrid_int.is;
        max_grid_size = max_grid_size.is;
      },
    )
  where
    short_tag : (level : ℤ) (tag : List ℤ) → level ≤ℤ pos 4 → tag_count level tag ≡ None → length tag < 2 ^ 63
    short_tag level tag top counted =
        elim (cases_Bool (int_eq (pos (length tag)) level)) [
          | inl same ↦
              let is : pos (length tag) ≡ level = (Decides-int_eq (pos (length tag)) level).0 same in
              let within : pos (length tag) ≤ℤ pos 4 = rw (← is) at top in
              omega (arith, ints)
          | inr other ↦ absurd (let e = rw other at counted in cc)
        ]

-- one for each of at most 256
short_shear : (many : ℤ) (zs : List ℤ) → many ≤ℤ pos 256 → is_for_each many zs ≡ true → length zs < 2 ^ 63
short_shear many zs top each =
    elim (cases_Bool (length zs == 0)) [
      | inl none ↦ let is : length zs ≡ 0 = eqb-true (length zs) 0 none in omega arith
      | inr some ↦
          let is : pos (length zs) ≡ many = (Decides-int_eq (pos (length zs)) many).0 (rw some at each) in
          let within : pos (length zs) ≤ℤ pos 256 = rw (← is) at top in
          omega (arith, ints)
    ]

overlay_of : (table : Members) (nx ny : ℤ) → numbers_at 2 table Cells ≡ Some (nx ∷ ny ∷ []) → IsFit table → (o : Overlay) × IsOverlayOf nx ny table o
overlay_of table nx ny cells fit =
    let blocks = found (rows_at (version_in table) table Blocks) (read_of table (take 13 keys) Blocks (drop 14 keys) fit.kinds) in
    let shear_x = found (shear_at ny table ShearX) (rw cells at (read_of table (take 14 keys) ShearX (drop 15 keys) fit.kinds)) in
    let shear_y = found (shear_at nx table ShearY) (rw cells at (read_of table (take 15 keys) ShearY (drop 16 keys) fit.kinds)) in
    let blocking = found (number_at table Blocking) (read_of table (take 16 keys) Blocking (drop 17 keys) fit.kinds) in
    let species = found (number_at table Species) (read_of table (take 17 keys) Species (drop 18 keys) fit.kinds) in
    let cells_outside : key_outside table Cells ≡ None = none_of (key_outside table) (take 2 keys) Cells (drop 3 keys) fit.ranges in
    let columns = first_outside-none cell_count (cell_count ∷ []) nx (ny ∷ []) (option_map-none (OutOfRange Cells) _ (rw cells at cells_outside)) in
    let rows = first_outside-none cell_count [] ny [] columns.others in
    let blocks_outside : key_outside table Blocks ≡ None = none_of (key_outside table) (take 13 keys) Blocks (drop 14 keys) fit.ranges in
    let few : length blocks.value ≤ 256 = (rows_from_none blocks.value (option_map-none (OutOfRange Blocks) _ (rw blocks.is at blocks_outside))).many in
    let o : Overlay = record {
      blocks = vec_of blocks.value (omega arith);
      shear_x = vec_of shear_x.value (short_shear ny shear_x.value rows.here.greatest (shear_at-for_each ny table ShearX shear_x.value shear_x.is));
      shear_y = vec_of shear_y.value (short_shear nx shear_y.value columns.here.greatest (shear_at-for_each nx table ShearY shear_y.value shear_y.is));
      blocking = blocking.value;
      species = species.value;
    } in
    (o, record { blocks = blocks.is; shear_x = shear_x.is; shear_y = shear_y.is; blocking = blocking.is; species = species.is })

pub entries_of : (table : Members) → IsFit table → (e : Entries) × IsReadOf table e
entries_of table fit =
    let b = basics_of table fit in
    let r = refining_of table fit in
    let o = overlay_of table (b.0).nx (b.0).ny (b.1).cells fit in
    let e : Entries = record { basics = b.0; refining = r.0; overlay = o.0 } in
    (e, record { basics = b.1; refining = r.1; overlay = o.1 })
