-- Boxes with their masses, and levels: what is read was written, and what is written is read.
use Rattle.std.proofs.Common.{◌≡◌, ℕ, zero, suc, ◌*◌, ◌^◌, ◌<◌, true, pos, List, [], ◌∷◌, ◌++◌, length, refl, sym, ap, subst, ◌∙◌, append_assoc, flat_map}
use Rattle.std.specs.Int.{w32}
use Rattle.amr_box.specs.Cells.{cell, Extent, extent, width, height}
use Rattle.amr_def.specs.declared.problem.Problem.{Problem}
use Rattle.amr_def.specs.State.{Level}
use Rattle.amr_payload.specs.Payload.{Form, number_bytes, corner_bytes}
use Rattle.amr_payload.specs.Tests.{Left, read, then_read, tested, read_also, read_number, Grid, read_box, is_box_of, is_mass, read_box_masses, read_grid, read_grids, level_of, is_box_count, read_level}
use Rattle.amr_payload.proofs.Readings.{left, AreBytes, was_read, was_tested, also_read, Took, took_then, took_none, took_same, Gives, gives, gives_then, gives_tested, gives_also, gives_at}
use Rattle.amr_payload.proofs.Numbers.{code_32}
use Rattle.amr_payload.proofs.Fields.{Each, read_value, read_rest}
use Rattle.amr_payload.proofs.Forms.{IsForm, listed_bytes}

-- ---- boxes

abbrev pub corners : Extent → List ℕ
corners b = corner_bytes b.lo ++ corner_bytes b.hi

abbrev pub box_of : ℕ → ℕ → ℕ → ℕ → Extent
box_of x0 y0 x1 y1 = extent (cell (pos x0) (pos y0)) (cell (pos x1) (pos y1))

-- its corners are natural numbers of 32 bits
pub record IsWritable (b : Extent) : Type 0 where
  pub x0 : ℕ
  pub y0 : ℕ
  pub x1 : ℕ
  pub y1 : ℕ
  pub is : b ≡ box_of x0 y0 x1 y1
  pub west : x0 < 2 ^ 32
  pub south : y0 < 2 ^ 32
  pub east : x1 < 2 ^ 32
  pub north : y1 < 2 ^ 32

pub box_took : (r e : Left) (b : Extent) → AreBytes r.bytes → read_box r ≡ read b e → Took (corners b) r e
unfolding read_box corner_bytes
box_took r e b small h =
    let a0 = was_read (read_number w32 r) (λ x0 a. then_read (read_number w32 a) (λ y0 b. then_read (read_number w32 b) (λ x1 c. then_read (read_number w32 c) (λ y1 d. read (box_of x0 y0 x1 y1) d)))) b e h in
    let a1 = was_read (read_number w32 a0.rest) (λ y0 b. then_read (read_number w32 b) (λ x1 c. then_read (read_number w32 c) (λ y1 d. read (box_of a0.value y0 x1 y1) d))) b e a0.second in
    let a2 = was_read (read_number w32 a1.rest) (λ x1 c. then_read (read_number w32 c) (λ y1 d. read (box_of a0.value a1.value x1 y1) d)) b e a1.second in
    let a3 = was_read (read_number w32 a2.rest) (λ y1 d. read (box_of a0.value a1.value a2.value y1) d) b e a2.second in
    let t0 = code_32.took r a0.rest a0.value small a0.first in
    let t1 = code_32.took a0.rest a1.rest a1.value t0.small a1.first in
    let t2 = code_32.took a1.rest a2.rest a2.value t1.small a2.first in
    let t3 = code_32.took a2.rest a3.rest a3.value t2.small a3.first in
    took_same (corners (box_of a0.value a1.value a2.value a3.value)) (corners b) r a3.rest e
    (ap (λ (b : Extent). corners b) (read_value (box_of a0.value a1.value a2.value a3.value) b a3.rest e a3.second)) (read_rest (box_of a0.value a1.value a2.value a3.value) b a3.rest e a3.second)
    (took_then (number_bytes w32 a0.value ++ number_bytes w32 a1.value) (number_bytes w32 a2.value ++ number_bytes w32 a3.value) r a1.rest a3.rest
    (took_then (number_bytes w32 a0.value) (number_bytes w32 a1.value) r a0.rest a1.rest t0 t1) (took_then (number_bytes w32 a2.value) (number_bytes w32 a3.value) a1.rest a2.rest a3.rest t2 t3))

four_parts : (a b c d bs : List ℕ) → a ++ b ++ (c ++ d) ++ bs ≡ a ++ (b ++ (c ++ (d ++ bs)))
four_parts a b c d bs = append_assoc (a ++ b) (c ++ d) bs ∙ append_assoc a b (c ++ d ++ bs) ∙ ap (λ e. a ++ (b ++ e)) (append_assoc c d bs)

natural_gives : (x0 y0 x1 y1 k : ℕ) (bs : List ℕ) → x0 < 2 ^ 32 → y0 < 2 ^ 32 → x1 < 2 ^ 32 → y1 < 2 ^ 32 → Gives (read_box (left k (corners (box_of x0 y0 x1 y1) ++ bs))) (box_of x0 y0 x1 y1) bs
unfolding read_box corner_bytes
natural_gives x0 y0 x1 y1 k bs h0 h1 h2 h3 =
    let a = number_bytes w32 x0 in
    let b = number_bytes w32 y0 in
    let c = number_bytes w32 x1 in
    let d = number_bytes w32 y1 in
    gives_at (λ r. read_box r) k (box_of x0 y0 x1 y1) (a ++ b ++ (c ++ d) ++ bs) (a ++ (b ++ (c ++ (d ++ bs)))) bs (four_parts a b c d bs)
    (gives_then _ _ x0 (box_of x0 y0 x1 y1) (b ++ (c ++ (d ++ bs))) bs (code_32.gives x0 k (b ++ (c ++ (d ++ bs))) h0)
    (λ k. gives_then _ _ y0 (box_of x0 y0 x1 y1) (c ++ (d ++ bs)) bs (code_32.gives y0 k (c ++ (d ++ bs)) h1)
    (λ k. gives_then _ _ x1 (box_of x0 y0 x1 y1) (d ++ bs) bs (code_32.gives x1 k (d ++ bs) h2)
    (λ k. gives_then _ _ y1 (box_of x0 y0 x1 y1) bs bs (code_32.gives y1 k bs h3)
    (λ k. gives k (box_of x0 y0 x1 y1) bs)))))

pub box_gives : (b : Extent) (k : ℕ) (bs : List ℕ) → IsWritable b → Gives (read_box (left k (corners b ++ bs))) b bs
box_gives b k bs h =
    subst (λ (b : Extent). Gives (read_box (left k (corners b ++ bs))) b bs) (sym h.is) (natural_gives h.x0 h.y0 h.x1 h.y1 k bs h.west h.south h.east h.north)

-- ---- boxes with masses

abbrev pub grid_bytes : Form → Grid → List ℕ
grid_bytes f g = corners g.box ++ listed_bytes f g.box g.masses

abbrev pub grids_bytes : Form → List Grid → List ℕ
grids_bytes f gs = number_bytes w32 (length gs) ++ flat_map (grid_bytes f) gs

-- what is written fits
pub record IsFit (g : Grid) : Type 0 where
  pub box : IsWritable g.box
  pub masses : Each (λ m. m < 2 ^ 32) g.masses

pub record IsGrid (p : Problem) (n l : ℕ) (earlier : List Extent) (g : Grid) : Type 0 where
  pub box : is_box_of p l earlier g.box ≡ true
  pub count : length g.masses ≡ width g.box * height g.box
  pub each : Each (λ m. is_mass p n l m ≡ true) g.masses

abbrev pub AreGrids : Problem → ℕ → ℕ → List Extent → List Grid → Type 0
AreGrids p n l earlier [] = Unit {0}
AreGrids p n l earlier (g ∷ gs) = IsGrid p n l earlier g × AreGrids p n l (g.box ∷ earlier) gs

module _ (f : Form) (p : Problem) (n l : ℕ) (form : IsForm f p n l) where
  pub record IsGridRead (earlier : List Extent) (g : Grid) (r e : Left) : Type 0 where
    pub took : Took (grid_bytes f g) r e
    pub grid : IsGrid p n l earlier g

  grid_of : Extent → List ℕ → Grid
  grid_of b ms = record { box = b; masses = ms }

  pub grid_took : (earlier : List Extent) (r e : Left) (g : Grid) → AreBytes r.bytes → read_grid f p n l earlier r ≡ read g e → IsGridRead earlier g r e
  unfolding read_grid grid_of
  grid_took earlier r e g small h =
      let a = was_read (read_box r) (λ b a. then_read (tested (is_box_of p l earlier b) r.place b a) (λ b a. then_read (read_box_masses f p n l b a) (λ ms c. read (grid_of b ms) c))) g e h in
      let t = was_read (tested (is_box_of p l earlier a.value) r.place a.value a.rest) (λ b a. then_read (read_box_masses f p n l b a) (λ ms c. read (grid_of b ms) c)) g e a.second in
      let test = was_tested (is_box_of p l earlier a.value) r.place a.value t.value a.rest t.rest t.first in
      let m = was_read (read_box_masses f p n l t.value t.rest) (λ ms c. read (grid_of t.value ms) c) g e t.second in
      let box = took_same (corners a.value) (corners t.value) r a.rest t.rest (ap (λ (b : Extent). corners b) test.value) test.rest (box_took r a.rest a.value small a.first) in
      let masses = form.took t.value t.rest m.rest m.value box.small m.first in
      let same : grid_of t.value m.value ≡ g = read_value (grid_of t.value m.value) g m.rest e m.second in
      subst (λ (g : Grid). IsGridRead earlier g r e) same (record {
        took = took_same (grid_bytes f (grid_of t.value m.value)) (grid_bytes f (grid_of t.value m.value)) r m.rest e refl (read_rest (grid_of t.value m.value) g m.rest e m.second)
            (took_then (corners t.value) (listed_bytes f t.value m.value) r t.rest m.rest box masses.took);
        grid = record { box = subst (λ (b : Extent). is_box_of p l earlier b ≡ true) test.value test.passes; count = masses.count; each = masses.each };
      })

  pub grid_gives : (earlier : List Extent) (g : Grid) (k : ℕ) (bs : List ℕ) → IsGrid p n l earlier g → IsFit g → Gives (read_grid f p n l earlier (left k (grid_bytes f g ++ bs))) g bs
  unfolding read_grid
  grid_gives earlier g k bs is fit =
      let ms = listed_bytes f g.box g.masses ++ bs in
      gives_at (λ r. read_grid f p n l earlier r) k g (grid_bytes f g ++ bs) (corners g.box ++ ms) bs (append_assoc (corners g.box) (listed_bytes f g.box g.masses) bs)
      (gives_then (read_box (left k (corners g.box ++ ms))) (λ b a. then_read (tested (is_box_of p l earlier b) k b a) (λ b a. then_read (read_box_masses f p n l b a) (λ ms c. read (record { box = b; masses = ms }) c))) g.box g ms bs
      (box_gives g.box k ms fit.box)
      (λ j. gives_then (tested (is_box_of p l earlier g.box) k g.box (left j ms)) (λ b a. then_read (read_box_masses f p n l b a) (λ ms c. read (record { box = b; masses = ms }) c)) g.box g ms bs
      (gives_tested (is_box_of p l earlier g.box) k j g.box ms is.box)
      (λ j. gives_then (read_box_masses f p n l g.box (left j ms)) (λ ms c. read (record { box = g.box; masses = ms }) c) g.masses g bs bs
      (form.gives g.box g.masses j bs is.count is.each fit.masses)
      (λ j. gives j g bs))))

  pub record AreGridsRead (k : ℕ) (earlier : List Extent) (gs : List Grid) (r e : Left) : Type 0 where
    pub took : Took (flat_map (grid_bytes f) gs) r e
    pub count : length gs ≡ k
    pub each : AreGrids p n l earlier gs

  pub grids_took : (k : ℕ) (earlier : List Extent) (r e : Left) (gs : List Grid) → AreBytes r.bytes → read_grids f p n l k earlier r ≡ read gs e → AreGridsRead k earlier gs r e
  grids_took zero earlier r e [] small h = record { took = took_same [] [] r r e refl (read_rest [] [] r e h) (took_none r small); count = refl; each = tt }
  grids_took zero earlier r e (g ∷ gs) small h = absurd (cc)
  grids_took (suc k) earlier r e gs small h =
      let a = was_read (read_grid f p n l earlier r) (λ g a. read_also g (read_grids f p n l k (g.box ∷ earlier) a)) gs e h in
      let one = grid_took earlier r a.rest a.value small a.first in
      let others = also_read a.value (read_grids f p n l k (a.value.box ∷ earlier) a.rest) gs e a.second in
      let more = grids_took k (a.value.box ∷ earlier) a.rest e others.others one.took.small others.first in
      subst (λ (gs : List Grid). AreGridsRead (suc k) earlier gs r e) (sym others.all) (record {
        took = took_then (grid_bytes f a.value) (flat_map (grid_bytes f) others.others) r a.rest e one.took more.took;
        count = ap (λ k. suc k) more.count;
        each = (one.grid, more.each);
      })

  pub grids_give : (earlier : List Extent) (gs : List Grid) (k : ℕ) (bs : List ℕ) → AreGrids p n l earlier gs → Each IsFit gs → Gives (read_grids f p n l (length gs) earlier (left k (flat_map (grid_bytes f) gs ++ bs))) gs bs
  grids_give earlier [] k bs each fit = gives k [] bs
  grids_give earlier (g ∷ gs) k bs each fit =
      let rest = flat_map (grid_bytes f) gs ++ bs in
      gives_at (λ r. read_grids f p n l (suc (length gs)) earlier r) k (g ∷ gs) (grid_bytes f g ++ flat_map (grid_bytes f) gs ++ bs) (grid_bytes f g ++ rest) bs (append_assoc (grid_bytes f g) (flat_map (grid_bytes f) gs) bs)
      (gives_then (read_grid f p n l earlier (left k (grid_bytes f g ++ rest))) (λ g a. read_also g (read_grids f p n l (length gs) (g.box ∷ earlier) a)) g (g ∷ gs) rest bs
      (grid_gives earlier g k rest each.0 fit.0)
      (λ k. gives_also (read_grids f p n l (length gs) (g.box ∷ earlier) (left k rest)) g gs bs (grids_give (g.box ∷ earlier) gs k bs each.1 fit.1)))

  -- ---- a level

  pub record IsLevelRead (k : Level) (r e : Left) : Type 0 where
    pub grids : List Grid
    pub is : level_of grids ≡ k
    pub took : Took (grids_bytes f grids) r e
    pub count : is_box_count p l (length grids) ≡ true
    pub each : AreGrids p n l [] grids

  pub level_took : (r e : Left) (k : Level) → AreBytes r.bytes → read_level f p n l r ≡ read k e → IsLevelRead k r e
  unfolding read_level
  level_took r e k small h =
      let a = was_read (read_number w32 r) (λ k a. then_read (tested (is_box_count p l k) r.place k a) (λ k a. then_read (read_grids f p n l k [] a) (λ gs b. read (level_of gs) b))) k e h in
      let t = was_read (tested (is_box_count p l a.value) r.place a.value a.rest) (λ k a. then_read (read_grids f p n l k [] a) (λ gs b. read (level_of gs) b)) k e a.second in
      let test = was_tested (is_box_count p l a.value) r.place a.value t.value a.rest t.rest t.first in
      let g = was_read (read_grids f p n l t.value [] t.rest) (λ gs b. read (level_of gs) b) k e t.second in
      let number = took_same (number_bytes w32 a.value) (number_bytes w32 t.value) r a.rest t.rest (ap (λ m. number_bytes w32 m) test.value) test.rest (code_32.took r a.rest a.value small a.first) in
      let grids = grids_took t.value [] t.rest g.rest g.value number.small g.first in
      record {
        grids = g.value;
        is = read_value (level_of g.value) k g.rest e g.second;
        took = took_same (number_bytes w32 t.value ++ flat_map (grid_bytes f) g.value) (grids_bytes f g.value) r g.rest e (ap (λ m. number_bytes w32 m ++ flat_map (grid_bytes f) g.value) (sym grids.count)) (read_rest (level_of g.value) k g.rest e g.second)
            (took_then (number_bytes w32 t.value) (flat_map (grid_bytes f) g.value) r t.rest g.rest number grids.took);
        count = subst (λ (m : ℕ). is_box_count p l m ≡ true) (test.value ∙ sym grids.count) test.passes;
        each = grids.each;
      }

  pub level_gives : (gs : List Grid) (k : ℕ) (bs : List ℕ) → is_box_count p l (length gs) ≡ true → length gs < 2 ^ 32 → AreGrids p n l [] gs → Each IsFit gs → Gives (read_level f p n l (left k (grids_bytes f gs ++ bs))) (level_of gs) bs
  unfolding read_level
  level_gives gs k bs count few each fit =
      let rest = flat_map (grid_bytes f) gs ++ bs in
      gives_at (λ r. read_level f p n l r) k (level_of gs) (grids_bytes f gs ++ bs) (number_bytes w32 (length gs) ++ rest) bs (append_assoc (number_bytes w32 (length gs)) (flat_map (grid_bytes f) gs) bs)
      (gives_then (read_number w32 (left k (number_bytes w32 (length gs) ++ rest))) (λ m a. then_read (tested (is_box_count p l m) k m a) (λ m a. then_read (read_grids f p n l m [] a) (λ gs b. read (level_of gs) b))) (length gs) (level_of gs) rest bs
      (code_32.gives (length gs) k rest few)
      (λ j. gives_then (tested (is_box_count p l (length gs)) k (length gs) (left j rest)) (λ m a. then_read (read_grids f p n l m [] a) (λ gs b. read (level_of gs) b)) (length gs) (level_of gs) rest bs
      (gives_tested (is_box_count p l (length gs)) k j (length gs) rest count)
      (λ j. gives_then (read_grids f p n l (length gs) [] (left j rest)) (λ gs b. read (level_of gs) b) gs (level_of gs) bs bs
      (grids_give [] gs j bs each fit) (λ j. gives j (level_of gs) bs))))
