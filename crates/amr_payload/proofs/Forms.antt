-- The masses of a box by a form: what is read was written, and what is written is read.
use Rattle.std.proofs.Common.{◌≡◌, ℕ, zero, suc, ◌+◌, ◌*◌, ◌^◌, ◌<◌, ◌≤◌, Bool, true, false, not, pos, ◌+ℤ◌, List, [], ◌∷◌, ◌++◌, length, map, take, drop, refl, sym, ap, subst, ◌∙◌, append_assoc, arith, flat_map, length-append, length-take-le, length-drop, take_at, drop_at, take-append-drop, if◌then◌else◌, is_some, unwrap_or}
use Rattle.std.specs.Int.{Width, w8, w32}
use Rattle.std.specs.List.{list_all, range_with_len}
use Rattle.std.specs.declared.option.Option.{Option}
use Rattle.std.specs.declared.option.Option.TheVariants.{Some, None}
use Rattle.std.proofs.lemmas.Bool.{and_parts, and_from, eqb-true, eq-eqb, le-leb, not-true, not_from_false}
use Rattle.std.proofs.lemmas.List.{length-map, map-append}
use Rattle.amr_box.specs.declared.Cell.{Cell}
use Rattle.amr_box.specs.Cells.{Extent, cell, cells_of, width, height}
use Rattle.amr_box.proofs.Parts.{length-cells_of}
use Rattle.amr_def.specs.declared.problem.Problem.{Problem}
use Rattle.amr_def.specs.Facts.{growth}
use Rattle.amr_def.specs.State.{Masses, mass_of}
use Rattle.amr_payload.specs.Payload.{Form, whole, changed, IsMassWidth, number_bytes, is_mass_of, have_masses, changed_bytes, masses_bytes, cell_rows}
use Rattle.amr_payload.specs.Tests.{Left, read, tested, read_also, read_joined, read_number, is_mass, read_mass, read_masses, read_flagged, read_changed, read_all_changed, read_box_masses}
use Rattle.amr_payload.proofs.Readings.{left, AreBytes, was_read, was_tested, also_read, joined_read, Took, took_then, took_none, took_same, Gives, gives, gives_then, gives_tested, gives_also, gives_joined, gives_at}
use Rattle.amr_payload.proofs.Numbers.{IsCode, code_8, code_32, mass_code}
use Rattle.amr_payload.proofs.Fields.{Each, read_rest}

-- ---- masses of a width

module _ (w : Width) (code : IsCode w (2 ^ 32)) (p : Problem) (n l : ℕ) where
  pub record AreMassesRead (k : ℕ) (ms : List ℕ) (r e : Left) : Type 0 where
    pub took : Took (flat_map (number_bytes w) ms) r e
    pub count : length ms ≡ k
    pub each : Each (λ m. is_mass p n l m ≡ true) ms

  pub masses_took : (k : ℕ) (r e : Left) (ms : List ℕ) → AreBytes r.bytes → read_masses w p n l k r ≡ read ms e → AreMassesRead k ms r e
  unfolding read_mass
  masses_took zero r e [] small h = record { took = took_same [] [] r r e refl (read_rest [] [] r e h) (took_none r small); count = refl; each = tt }
  masses_took zero r e (m ∷ ms) small h = absurd (cc)
  masses_took (suc k) r e ms small h =
      let a = was_read (read_mass w p n l r) (λ m a. read_also m (read_masses w p n l k a)) ms e h in
      let t = was_read (read_number w r) (λ m a. tested (is_mass p n l m) r.place m a) a.value a.rest a.first in
      let test = was_tested (is_mass p n l t.value) r.place t.value a.value t.rest a.rest t.second in
      let others = also_read a.value (read_masses w p n l k a.rest) ms e a.second in
      let took = took_same (number_bytes w t.value) (number_bytes w a.value) r t.rest a.rest (ap (λ m. number_bytes w m) test.value) test.rest (code.took r t.rest t.value small t.first) in
      let more = masses_took k a.rest e others.others took.small others.first in
      subst (λ (ms : List ℕ). AreMassesRead (suc k) ms r e) (sym others.all) (record {
        took = took_then (number_bytes w a.value) (flat_map (number_bytes w) others.others) r a.rest e took more.took;
        count = ap (λ k. suc k) more.count;
        each = (subst (λ (m : ℕ). is_mass p n l m ≡ true) test.value test.passes, more.each);
      })

  pub masses_give : (ms : List ℕ) (k : ℕ) (bs : List ℕ) → Each (λ m. is_mass p n l m ≡ true) ms → Each (λ m. m < 2 ^ 32) ms → Gives (read_masses w p n l (length ms) (left k (flat_map (number_bytes w) ms ++ bs))) ms bs
  unfolding read_mass
  masses_give [] k bs each small = gives k [] bs
  masses_give (m ∷ ms) k bs each small =
      let rest = flat_map (number_bytes w) ms ++ bs in
      gives_at (λ r. read_masses w p n l (suc (length ms)) r) k (m ∷ ms) (number_bytes w m ++ flat_map (number_bytes w) ms ++ bs) (number_bytes w m ++ rest) bs (append_assoc (number_bytes w m) (flat_map (number_bytes w) ms) bs)
      (gives_then (read_mass w p n l (left k (number_bytes w m ++ rest))) (λ m a. read_also m (read_masses w p n l (length ms) a)) m (m ∷ ms) rest bs
      (gives_then (read_number w (left k (number_bytes w m ++ rest))) (λ m a. tested (is_mass p n l m) k m a) m m rest rest
      (code.gives m k rest small.0) (λ j. gives_tested (is_mass p n l m) k j m rest each.0))
      (λ k. gives_also (read_masses w p n l (length ms) (left k rest)) m ms bs (masses_give ms k bs each.1 small.1)))

-- ---- a row on an older level

-- its bytes, by the list of its masses
abbrev row_changes : Masses → List Cell → List ℕ → List ℕ
row_changes old cs ms = if have_masses old cs ms then number_bytes w8 0 else number_bytes w8 1 ++ flat_map (number_bytes w32) ms

own_mass : (o : Option ℕ) → is_some o ≡ true → is_mass_of o (unwrap_or o 0) ≡ true
own_mass (Some m) h = eq-eqb m m refl
own_mass None h = absurd (cc)

mass_there : (o : Option ℕ) (n : ℕ) → is_mass_of o n ≡ true → (is_some o ≡ true) × (unwrap_or o 0 ≡ n)
mass_there (Some m) n h = (refl, eqb-true m n h)
mass_there None n h = absurd (cc)

have_own : (old : Masses) (cs : List Cell) → list_all (λ c. is_some (old c)) cs ≡ true → have_masses old cs (map (mass_of old) cs) ≡ true
have_own old [] h = refl
have_own old (c ∷ cs) h =
    let parts = and_parts (is_some (old c)) (list_all (λ c. is_some (old c)) cs) h in
    and_from (is_mass_of (old c) (mass_of old c)) (have_masses old cs (map (mass_of old) cs)) (own_mass (old c) parts.0) (have_own old cs parts.1)

pub are_there : (old : Masses) (cs : List Cell) (ms : List ℕ) → have_masses old cs ms ≡ true → list_all (λ c. is_some (old c)) cs ≡ true
are_there old [] ms h = refl
are_there old (c ∷ cs) [] h = absurd (cc)
are_there old (c ∷ cs) (m ∷ ms) h =
    let parts = and_parts (is_mass_of (old c) m) (have_masses old cs ms) h in
    and_from (is_some (old c)) (list_all (λ c. is_some (old c)) cs) (mass_there (old c) m parts.0).0 (are_there old cs ms parts.1)

pub are_own : (old : Masses) (cs : List Cell) (ms : List ℕ) → length ms ≡ length cs → have_masses old cs ms ≡ true → map (mass_of old) cs ≡ ms
are_own old [] [] count h = refl
are_own old [] (m ∷ ms) count h = absurd (omega arith)
are_own old (c ∷ cs) [] count h = absurd (omega arith)
are_own old (c ∷ cs) (m ∷ ms) count h =
    let parts = and_parts (is_mass_of (old c) m) (have_masses old cs ms) h in
    let rest = are_own old cs ms (omega (arith, count)) parts.1 in
    λ i. (mass_there (old c) m parts.0).1 i ∷ rest i

each_own : (P : ℕ → Type 0) (old : Masses) (cs : List Cell) → ((c : Cell) → P (mass_of old c)) → Each P (map (mass_of old) cs)
each_own P old [] h = tt
each_own P old (c ∷ cs) h = (h c, each_own P old cs h)

each_take : (P : ℕ → Type 0) (k : ℕ) (ms : List ℕ) → Each P ms → Each P (take k ms)
each_take P zero ms h = tt
each_take P (suc k) [] h = tt
each_take P (suc k) (m ∷ ms) h = (h.0, each_take P k ms h.1)

each_drop : (P : ℕ → Type 0) (k : ℕ) (ms : List ℕ) → Each P ms → Each P (drop k ms)
each_drop P zero ms h = h
each_drop P (suc k) [] h = tt
each_drop P (suc k) (m ∷ ms) h = each_drop P k ms h.1

each_both : (P : ℕ → Type 0) (xs ys : List ℕ) → Each P xs → Each P ys → Each P (xs ++ ys)
each_both P [] ys one other = other
each_both P (x ∷ xs) ys one other = (one.0, each_both P xs ys one.1 other)

-- the cells of rows, one row after the other
abbrev pub joined : List (List Cell) → List Cell
joined css = flat_map (λ cs. cs) css

-- the bytes of rows, by the list of their masses
abbrev pub rows_changes : Masses → List (List Cell) → List ℕ → List ℕ
rows_changes old [] ms = []
rows_changes old (cs ∷ css) ms = row_changes old cs (take (length cs) ms) ++ rows_changes old css (drop (length cs) ms)

module _ (old : Masses) (p : Problem) (n l : ℕ) (bounded : (c : Cell) → 4 ^ l * mass_of old c ≤ 2 ^ 30 + growth p.max_level * (n + 1)) where
  record IsRowRead (cs : List Cell) (ms : List ℕ) (r e : Left) : Type 0 where
    took : Took (row_changes old cs ms) r e
    count : length ms ≡ length cs
    each : Each (λ m. is_mass p n l m ≡ true) ms

  abbrev row_by : Bool → List ℕ → List ℕ
  row_by t ms = if t then number_bytes w8 0 else number_bytes w8 1 ++ flat_map (number_bytes w32) ms

  row_took : (cs : List Cell) (r e : Left) (ms : List ℕ) → AreBytes r.bytes → read_changed old p n l cs r ≡ read ms e → IsRowRead cs ms r e
  unfolding read_changed
  row_took cs r e ms small h =
      let a = was_read (read_number w8 r) (λ flag a. read_flagged old p n l cs r.place flag a) ms e h in
      by_flag a.value a.rest a.first a.second
    where
      by_flag : (flag : ℕ) (a : Left) → read_number w8 r ≡ read flag a → read_flagged old p n l cs r.place flag a ≡ read ms e → IsRowRead cs ms r e
      by_flag zero a first second =
          let test = was_tested (list_all (λ c. is_some (old c)) cs) r.place (map (mass_of old) cs) ms a e second in
          subst (λ (ms : List ℕ). IsRowRead cs ms r e) test.value (record {
            took = took_same (number_bytes w8 0) (row_changes old cs (map (mass_of old) cs)) r a e (ap (λ t. row_by t (map (mass_of old) cs)) (sym (have_own old cs test.passes))) test.rest (code_8.took r a 0 small first);
            count = length-map cs (mass_of old);
            each = each_own (λ m. is_mass p n l m ≡ true) old cs (λ c. le-leb (4 ^ l * mass_of old c) (2 ^ 30 + growth p.max_level * (n + 1)) (bounded c));
          })
      by_flag (suc zero) a first second =
          let m = was_read (read_masses w32 p n l (length cs) a) (λ ms b. tested (not (have_masses old cs ms)) r.place ms b) ms e second in
          let flag = code_8.took r a 1 small first in
          let masses = masses_took w32 code_32 p n l (length cs) a m.rest m.value flag.small m.first in
          let test = was_tested (not (have_masses old cs m.value)) r.place m.value ms m.rest e m.second in
          subst (λ (ms : List ℕ). IsRowRead cs ms r e) test.value (record {
            took = took_same (number_bytes w8 1 ++ flat_map (number_bytes w32) m.value) (row_changes old cs m.value) r m.rest e (ap (λ t. row_by t m.value) (sym (not-true (have_masses old cs m.value) test.passes))) test.rest
                (took_then (number_bytes w8 1) (flat_map (number_bytes w32) m.value) r a m.rest flag masses.took);
            count = masses.count;
            each = masses.each;
          })
      by_flag (suc (suc flag)) a first second = absurd (cc)

  row_gives : (cs : List Cell) (ms : List ℕ) (k : ℕ) (bs : List ℕ) → length ms ≡ length cs → Each (λ m. is_mass p n l m ≡ true) ms → Each (λ m. m < 2 ^ 32) ms → Gives (read_changed old p n l cs (left k (row_changes old cs ms ++ bs))) ms bs
  unfolding read_changed
  row_gives cs ms k bs count each small = by_test (have_masses old cs ms) refl
    where
      by_test : (t : Bool) → have_masses old cs ms ≡ t → Gives (read_changed old p n l cs (left k (row_by t ms ++ bs))) ms bs
      by_test true kept =
          gives_then (read_number w8 (left k (number_bytes w8 0 ++ bs))) (λ flag a. read_flagged old p n l cs k flag a) 0 ms bs bs (code_8.gives 0 k bs (omega arith))
          (λ j. subst (λ (ns : List ℕ). Gives (tested (list_all (λ c. is_some (old c)) cs) k (map (mass_of old) cs) (left j bs)) ns bs) (are_own old cs ms count kept)
          (gives_tested (list_all (λ c. is_some (old c)) cs) k j (map (mass_of old) cs) bs (are_there old cs ms kept)))
      by_test false differs =
          let rest = flat_map (number_bytes w32) ms ++ bs in
          gives_at (λ r. read_changed old p n l cs r) k ms (number_bytes w8 1 ++ flat_map (number_bytes w32) ms ++ bs) (number_bytes w8 1 ++ rest) bs (append_assoc (number_bytes w8 1) (flat_map (number_bytes w32) ms) bs)
          (gives_then (read_number w8 (left k (number_bytes w8 1 ++ rest))) (λ flag a. read_flagged old p n l cs k flag a) 1 ms rest bs (code_8.gives 1 k rest (omega arith))
          (λ j. gives_then (read_masses w32 p n l (length cs) (left j rest)) (λ ms b. tested (not (have_masses old cs ms)) k ms b) ms ms bs bs
          (subst (λ (c : ℕ). Gives (read_masses w32 p n l c (left j rest)) ms bs) count (masses_give w32 code_32 p n l ms j bs each small))
          (λ i. gives_tested (not (have_masses old cs ms)) k i ms bs (not_from_false (have_masses old cs ms) differs))))

  record AreRowsRead (css : List (List Cell)) (ms : List ℕ) (r e : Left) : Type 0 where
    took : Took (rows_changes old css ms) r e
    count : length ms ≡ length (joined css)
    each : Each (λ m. is_mass p n l m ≡ true) ms

  rows_took : (css : List (List Cell)) (r e : Left) (ms : List ℕ) → AreBytes r.bytes → read_all_changed old p n l css r ≡ read ms e → AreRowsRead css ms r e
  rows_took [] r e [] small h = record { took = took_same [] [] r r e refl (read_rest [] [] r e h) (took_none r small); count = refl; each = tt }
  rows_took [] r e (m ∷ ms) small h = absurd (cc)
  rows_took (cs ∷ css) r e ms small h =
      let a = was_read (read_changed old p n l cs r) (λ ms a. read_joined ms (read_all_changed old p n l css a)) ms e h in
      let one = row_took cs r a.rest a.value small a.first in
      let j = joined_read a.value (read_all_changed old p n l css a.rest) ms e a.second in
      let more = rows_took css a.rest e j.others one.took.small j.first in
      let ms = a.value ++ j.others in
      let first : take (length cs) (a.value ++ j.others) ≡ a.value = take_at a.value j.others (length cs) one.count in
      let rest : drop (length cs) (a.value ++ j.others) ≡ j.others = drop_at a.value j.others (length cs) one.count in
      subst (λ (ms : List ℕ). AreRowsRead (cs ∷ css) ms r e) (sym j.all) (record {
        took = took_same (row_changes old cs a.value ++ rows_changes old css j.others) (rows_changes old (cs ∷ css) (a.value ++ j.others)) r e e (λ i. row_changes old cs (sym first i) ++ rows_changes old css (sym rest i)) refl
            (took_then (row_changes old cs a.value) (rows_changes old css j.others) r a.rest e one.took more.took);
        count = omega (arith, length-append a.value j.others, length-append cs (joined css), one.count, more.count);
        each = each_both (λ m. is_mass p n l m ≡ true) a.value j.others one.each more.each;
      })

  rows_give : (css : List (List Cell)) (ms : List ℕ) (k : ℕ) (bs : List ℕ) → length ms ≡ length (joined css) → Each (λ m. is_mass p n l m ≡ true) ms → Each (λ m. m < 2 ^ 32) ms
      → Gives (read_all_changed old p n l css (left k (rows_changes old css ms ++ bs))) ms bs
  rows_give [] [] k bs count each small = gives k [] bs
  rows_give [] (m ∷ ms) k bs count each small = absurd (omega arith)
  rows_give (cs ∷ css) ms k bs count each small =
      let first = take (length cs) ms in
      let others = drop (length cs) ms in
      let rest = rows_changes old css others ++ bs in
      let both = length-append cs (joined css) in
      let here : length first ≡ length cs = length-take-le (length cs) ms (omega (arith, count, both)) in
      let there : length others ≡ length (joined css) = omega (arith, length-drop (length cs) ms, count, both) in
      gives_at (λ r. read_all_changed old p n l (cs ∷ css) r) k ms (row_changes old cs first ++ rows_changes old css others ++ bs) (row_changes old cs first ++ rest) bs (append_assoc (row_changes old cs first) (rows_changes old css others) bs)
      (gives_then (read_changed old p n l cs (left k (row_changes old cs first ++ rest))) (λ ms a. read_joined ms (read_all_changed old p n l css a)) first ms rest bs
      (row_gives cs first k rest here (each_take (λ m. is_mass p n l m ≡ true) (length cs) ms each) (each_take (λ m. m < 2 ^ 32) (length cs) ms small))
      (λ j. subst (λ (ms : List ℕ). Gives (read_joined first (read_all_changed old p n l css (left j rest))) ms bs) (take-append-drop (length cs) ms)
      (gives_joined (read_all_changed old p n l css (left j rest)) first others bs
      (rows_give css others j bs there (each_drop (λ m. is_mass p n l m ≡ true) (length cs) ms each) (each_drop (λ m. m < 2 ^ 32) (length cs) ms small)))))

-- ---- any form

-- the bytes of the masses of a box, by their list
abbrev pub listed_bytes : Form → Extent → List ℕ → List ℕ
listed_bytes (whole w) b ms = flat_map (number_bytes w) ms
listed_bytes (changed old) b ms = rows_changes old (cell_rows b) ms

pub record AreMassesOf (p : Problem) (n l : ℕ) (f : Form) (b : Extent) (ms : List ℕ) (r e : Left) : Type 0 where
  pub took : Took (listed_bytes f b ms) r e
  pub count : length ms ≡ width b * height b
  pub each : Each (λ m. is_mass p n l m ≡ true) ms

-- masses within their bound are read back, and what is read is written back
pub record IsForm (f : Form) (p : Problem) (n l : ℕ) : Type 0 where
  pub took : (b : Extent) (r e : Left) (ms : List ℕ) → AreBytes r.bytes → read_box_masses f p n l b r ≡ read ms e → AreMassesOf p n l f b ms r e
  pub gives : (b : Extent) (ms : List ℕ) (k : ℕ) (bs : List ℕ) → length ms ≡ width b * height b → Each (λ m. is_mass p n l m ≡ true) ms → Each (λ m. m < 2 ^ 32) ms
      → Gives (read_box_masses f p n l b (left k (listed_bytes f b ms ++ bs))) ms bs

pub whole_form : (w : Width) (p : Problem) (n l : ℕ) → IsMassWidth w → IsForm (whole w) p n l
whole_form w p n l width_of = record {
  took = λ b r e ms small h. let m = masses_took w (mass_code w width_of) p n l (width b * height b) r e ms small h in record { took = m.took; count = m.count; each = m.each };
  gives = λ b ms k bs count each small. subst (λ (c : ℕ). Gives (read_masses w p n l c (left k (flat_map (number_bytes w) ms ++ bs))) ms bs) count (masses_give w (mass_code w width_of) p n l ms k bs each small);
}

rows_map : (f : ℕ → List Cell) (js : List ℕ) → joined (map f js) ≡ flat_map f js
rows_map f [] = refl
rows_map f (j ∷ js) = ap (λ (cs : List Cell). f j ++ cs) (rows_map f js)

pub cells_joined : (b : Extent) → joined (cell_rows b) ≡ cells_of b
cells_joined b = rows_map (λ j. map (λ i. cell (b.lo.x +ℤ pos i) (b.lo.y +ℤ pos j)) (range_with_len 0 (width b))) (range_with_len 0 (height b))

rows_count : (b : Extent) → length (joined (cell_rows b)) ≡ width b * height b
rows_count b = ap (λ (cs : List Cell). length cs) (cells_joined b) ∙ length-cells_of b

pub changed_form : (old : Masses) (p : Problem) (n l : ℕ) → ((c : Cell) → 4 ^ l * mass_of old c ≤ 2 ^ 30 + growth p.max_level * (n + 1)) → IsForm (changed old) p n l
changed_form old p n l bounded = record {
  took = λ b r e ms small h. let m = rows_took old p n l bounded (cell_rows b) r e ms small h in record { took = m.took; count = m.count ∙ rows_count b; each = m.each };
  gives = λ b ms k bs count each small. rows_give old p n l bounded (cell_rows b) ms k bs (count ∙ sym (rows_count b)) each small;
}

-- ---- the bytes of masses and of their list

flat_map-map : {A B C : Type 0} (f : B → List C) (g : A → B) (xs : List A) → flat_map f (map g xs) ≡ flat_map (λ x. f (g x)) xs
flat_map-map f g [] = refl
flat_map-map f g (x ∷ xs) = ap (λ ys. f (g x) ++ ys) (flat_map-map f g xs)

row_written : (old m : Masses) (cs : List Cell) → changed_bytes old m cs ≡ row_changes old cs (map (mass_of m) cs)
unfolding changed_bytes
row_written old m cs = ap (λ (bs : List ℕ). if have_masses old cs (map (mass_of m) cs) then number_bytes w8 0 else number_bytes w8 1 ++ bs) (sym (flat_map-map (number_bytes w32) (mass_of m) cs))

rows_written : (old m : Masses) (css : List (List Cell)) → flat_map (changed_bytes old m) css ≡ rows_changes old css (map (mass_of m) (joined css))
rows_written old m [] = refl
rows_written old m (cs ∷ css) =
    let both = map-append (mass_of m) cs (joined css) in
    let here : take (length cs) (map (mass_of m) (cs ++ joined css)) ≡ map (mass_of m) cs = ap (λ (ms : List ℕ). take (length cs) ms) both ∙ take_at (map (mass_of m) cs) (map (mass_of m) (joined css)) (length cs) (length-map cs (mass_of m)) in
    let there : drop (length cs) (map (mass_of m) (cs ++ joined css)) ≡ map (mass_of m) (joined css) = ap (λ (ms : List ℕ). drop (length cs) ms) both ∙ drop_at (map (mass_of m) cs) (map (mass_of m) (joined css)) (length cs) (length-map cs (mass_of m)) in
    λ i. (row_written old m cs ∙ ap (λ (ms : List ℕ). row_changes old cs ms) (sym here)) i ++ (rows_written old m css ∙ ap (λ (ms : List ℕ). rows_changes old css ms) (sym there)) i

pub masses_listed : (f : Form) (m : Masses) (b : Extent) → masses_bytes f m b ≡ listed_bytes f b (map (mass_of m) (cells_of b))
masses_listed (whole w) m b = sym (flat_map-map (number_bytes w) (mass_of m) (cells_of b))
masses_listed (changed old) m b = rows_written old m (cell_rows b) ∙ ap (λ (cs : List Cell). rows_changes old (cell_rows b) (map (mass_of m) cs)) (cells_joined b)
