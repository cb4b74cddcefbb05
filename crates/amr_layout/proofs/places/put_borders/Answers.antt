use Rattle.std.proofs.Common.{◌≡◌, ℕ, ◌+◌, ◌*◌, ◌<◌, ◌++◌, ◌∷◌, [], cond, false, List, length, set, ap, sym, subst, ◌∙◌, append-nil, length-append, append_assoc, arith}
use Rattle.std.specs.Prelude.{slice_index_or}
use Rattle.amr_box.specs.declared.Face.{Face}
use Rattle.amr_box.specs.Cells.{Extent, height, width}
use Rattle.amr_def.specs.Domain.{Domain, domain_of}
use Rattle.amr_patch.specs.declared.patches.Patch.{Patch}
use Rattle.amr_faces.specs.Faces.{passing, x_end, y_end}
use Rattle.amr_faces.proofs.MaskedEnds.{masked_by}
use Rattle.amr_layout.specs.Places.{HaveGot, borders_of, holder_of, leads_on}
use Rattle.amr_layout.proofs.LevelPlaces.{borders_is}
use Rattle.amr_layout.proofs.Masks.{end_and_top_apart, end_within, ends_apart, told_more, told_still, top_within, tops_apart}
use Rattle.amr_layout.proofs.Passing.{passing_length, passing_next}
use Rattle.amr_layout.proofs.Placing.{got_more, got_none}
use Rattle.amr_layout.proofs.places.put_borders.Goals as goal

reader_borders : (d : Domain) (ps : List Patch) (each i : ℕ) (b : Extent) → i ≡ holder_of ps b.lo
    → passing (leads_on d ps each i) (x_end b) (height b) ++ passing (leads_on d ps each i) (y_end b) (width b) ≡ borders_of d ps each b
reader_borders d ps each i b e =
    ap (λ k. passing (leads_on d ps each k) (x_end b) (height b) ++ passing (leads_on d ps each k) (y_end b) (width b)) e ∙ sym (borders_is d ps each b)

pub put_border-requires-clause-room : goal.put_border-requires-clause-room
put_border-requires-clause-room c =
    let t = leads_on (domain_of c.args.dom.now) c.args.patches.now c.args.reader.each c.args.reader.patch in
    omega (arith, c.loop-j.invariant.got.count, passing_length t (x_end c.args.b.now) c.loop-j.j, c.requires.room, c.height-j-end.ensures.value)

pub put_border-requires-in-loop-i-clause-room : goal.put_border-requires-in-loop-i-clause-room
put_border-requires-in-loop-i-clause-room c =
    let t = leads_on (domain_of c.args.dom.now) c.args.patches.now c.args.reader.each c.args.reader.patch in
    let b = c.args.b.now in
    omega (arith, c.loop-i.invariant.got.count, length-append (passing t (x_end b) (height b)) (passing t (y_end b) c.loop-i.i), passing_length t (x_end b) (height b), passing_length t (y_end b) c.loop-i.i, c.requires.room, c.width-i-end.ensures.value)

pub loop-j-init : goal.loop-j-init
loop-j-init c = record { got = got_none (domain_of c.args.dom.now) c.args.patches.now c.args.places.now c.requires.places; ends = λ k lt. absurd (omega (arith, lt)) }

pub loop-j-preserved : goal.loop-j-preserved
loop-j-preserved c =
    let t = leads_on (domain_of c.args.dom.now) c.args.patches.now c.args.reader.each c.args.reader.patch in
    let w = width c.args.b.now in
    let j = c.loop-j.j in
    record {
      got = subst (λ (l : List Face). HaveGot (domain_of c.args.dom.now) c.args.patches.now l c.args.places.now c.put_border.new.places)
          (ap (λ (f : Face). passing t (x_end c.args.b.now) j ++ cond (t f) (f ∷ []) []) c.x_end-end.ensures ∙ sym (passing_next t (x_end c.args.b.now) j))
          (got_more (domain_of c.args.dom.now) c.args.patches.now (passing t (x_end c.args.b.now) j) (cond (t c.x_end-end.result) (c.x_end-end.result ∷ []) []) c.args.places.now c.loop-j.places c.put_border.new.places c.loop-j.invariant.got c.in_ok-told.ensures.got);
      ends = λ k lt.
          let at : ℕ → ℕ = λ n. (n + 1) * (w + 2) + (w + 1) in
          let mask = c.loop-j.mask in
          let is : c.end_entry.result ≡ at j = c.end_entry.ensures in
          let value : c.in_ok-told.told ≡ t (x_end c.args.b.now j) = c.in_ok-told.ensures.told ∙ ap t c.x_end-end.ensures in
          let there : at j < length mask = end_within w (height c.args.b.now) j (length mask) (omega (arith, c.loop-j.auto.mask, c.requires.entries)) (omega arith) in
          let P : ℕ → Type 0 = λ n. slice_index_or (set mask n c.in_ok-told.told) (at k) false ≡ t (x_end c.args.b.now k) in
          subst P (sym is) (told_more at (λ n. t (x_end c.args.b.now n)) mask j c.in_ok-told.told there value (λ n below. ends_apart w n j below) c.loop-j.invariant.ends k lt);
    }

pub loop-i-init : goal.loop-i-init
loop-i-init c =
    let t = leads_on (domain_of c.args.dom.now) c.args.patches.now c.args.reader.each c.args.reader.patch in
    let all : c.loop-j.j ≡ height c.args.b.now = omega (arith, c.loop-j-test.false, c.loop-j.auto.j-end, c.height-j-end.ensures.value) in
    record {
      got = subst (λ (l : List Face). HaveGot (domain_of c.args.dom.now) c.args.patches.now l c.args.places.now c.loop-j.places)
          (ap (passing t (x_end c.args.b.now)) all ∙ sym (append-nil (passing t (x_end c.args.b.now) (height c.args.b.now)))) c.loop-j.invariant.got;
      ends = λ k lt. c.loop-j.invariant.ends k (omega (arith, lt, all));
      tops = λ k lt. absurd (omega (arith, lt));
    }

pub loop-i-preserved : goal.loop-i-preserved
loop-i-preserved c =
    let t = leads_on (domain_of c.args.dom.now) c.args.patches.now c.args.reader.each c.args.reader.patch in
    let xs = passing t (x_end c.args.b.now) (height c.args.b.now) in
    let w = width c.args.b.now in
    let h = height c.args.b.now in
    let i = c.loop-i.i in
    let ys = passing t (y_end c.args.b.now) i in
    let top : ℕ → ℕ = λ n. (h + 1) * (w + 2) + (n + 1) in
    let mask = c.loop-i.mask in
    let told = c.in_ok-above.above in
    record {
      got = subst (λ (l : List Face). HaveGot (domain_of c.args.dom.now) c.args.patches.now l c.args.places.now c.put_border-in-loop-i.new.places)
          (append_assoc xs ys (cond (t c.y_end-top.result) (c.y_end-top.result ∷ []) [])
          ∙ ap (λ (l : List Face). xs ++ l) (ap (λ (f : Face). ys ++ cond (t f) (f ∷ []) []) c.y_end-top.ensures ∙ sym (passing_next t (y_end c.args.b.now) i)))
          (got_more (domain_of c.args.dom.now) c.args.patches.now (xs ++ ys) (cond (t c.y_end-top.result) (c.y_end-top.result ∷ []) []) c.args.places.now c.loop-i.places c.put_border-in-loop-i.new.places c.loop-i.invariant.got c.in_ok-above.ensures.got);
      ends = λ k lt.
          let is : c.top_entry.result ≡ top i = c.top_entry.ensures in
          let P : ℕ → Type 0 = λ n. slice_index_or (set mask n told) ((k + 1) * (w + 2) + (w + 1)) false ≡ t (x_end c.args.b.now k) in
          subst P (sym is) (told_still mask (top i) ((k + 1) * (w + 2) + (w + 1)) told (t (x_end c.args.b.now k)) (end_and_top_apart w h k i lt (omega arith)) (c.loop-i.invariant.ends k lt));
      tops = λ k lt.
          let is : c.top_entry.result ≡ top i = c.top_entry.ensures in
          let value : told ≡ t (y_end c.args.b.now i) = c.in_ok-above.ensures.told ∙ ap t c.y_end-top.ensures in
          let there : top i < length mask = top_within w h i (length mask) (omega (arith, c.loop-i.auto.mask, c.loop-j.auto.mask, c.requires.entries)) (omega arith) in
          let P : ℕ → Type 0 = λ n. slice_index_or (set mask n told) (top k) false ≡ t (y_end c.args.b.now k) in
          subst P (sym is) (told_more top (λ n. t (y_end c.args.b.now n)) mask i told there value (λ n below. tops_apart w h n i below) c.loop-i.invariant.tops k lt);
    }

pub returns-clause-got : goal.returns-clause-got
returns-clause-got c =
    let d = domain_of c.args.dom.now in
    let ps = c.args.patches.now in
    let t = leads_on d ps c.args.reader.each c.args.reader.patch in
    let xs = passing t (x_end c.args.b.now) (height c.args.b.now) in
    let all : c.loop-i.i ≡ width c.args.b.now = omega (arith, c.loop-i-test.false, c.loop-i.auto.i-end, c.width-i-end.ensures.value) in
    subst (λ (l : List Face). HaveGot d ps l c.args.places.now c.loop-i.places)
    (ap (λ n. xs ++ passing t (y_end c.args.b.now) n) all ∙ reader_borders d ps c.args.reader.each c.args.reader.patch c.args.b.now c.requires.reader) c.loop-i.invariant.got

pub returns-clause-mask : goal.returns-clause-mask
returns-clause-mask c =
    let d = domain_of c.args.dom.now in
    let ps = c.args.patches.now in
    let all : c.loop-i.i ≡ width c.args.b.now = omega (arith, c.loop-i-test.false, c.loop-i.auto.i-end, c.width-i-end.ensures.value) in
    masked_by c.args.b.now c.requires.near c.loop-i.mask (leads_on d ps c.args.reader.each c.args.reader.patch) c.loop-i.invariant.ends (λ k lt. c.loop-i.invariant.tops k (omega (arith, lt, all)))
    ∙ reader_borders d ps c.args.reader.each c.args.reader.patch c.args.b.now c.requires.reader
