use Rattle.std.proofs.Common.{◌≡◌, ◌∙◌, ◌-◌, ◌+◌, ◌++◌, ◌∷◌, [], ℕ, List, map, sym, ap, subst, arith}
use Rattle.std.specs.List.{All}
use Rattle.std.proofs.lemmas.List.{map-append}
use Rattle.std.proofs.lemmas.List.Elements.{All-push}
use Rattle.std.proofs.lemmas.Result.{err_from_is_err_and}
use Rattle.amr_box.specs.Cells.{Extent}
use Rattle.amr_codec.specs.Forms.{form_of}
use Rattle.amr_payload.specs.Tests.{read, read_grid, read_grids}
use Rattle.amr_decoder.specs.declared.grid.Grid.{Grid}
use Rattle.amr_decoder.specs.Apart.{IsOverParents, newest_first}
use Rattle.amr_decoder.specs.Grids.{IsWhole, boxes_of, grid_of}
use Rattle.amr_decoder.specs.Lefts.{left_of, whole_of}
use Rattle.amr_decoder.proofs.GridReadings.{grid_bad, grid_next, grids_end, no_grid_yet}
use Rattle.amr_decoder.proofs.Lists.{all_read, also_all, bad_next, more}
use Rattle.amr_decoder.proofs.ParentSets.{newest}
use Rattle.amr_decoder.proofs.grids.read_grids.Goals as goal

pub loop-k-init : goal.loop-k-init
loop-k-init c =
    let f = form_of c.args.form.now in
    let p = c.args.p.now in
    let n = c.args.kind.step in
    let lev = c.args.kind.level in
    let whole = whole_of c.args.reader.now in
    let r0 = left_of c.args.reader.now in
    let e = c.in_ok-earlier.ensures in
    record {
      so_far = subst (λ (gs : List Grid). read_grids f p n lev c.args.count [] r0 ≡ also_all (map (grid_of whole) gs) (read_grids f p n lev (c.args.count - 0) (newest_first gs) r0)) (sym e.none) (no_grid_yet f p n lev c.args.count r0);
      of_level = record { below = e.below; over = λ some. subst (λ (gs : List Grid). All (IsOverParents c.in_ok-earlier.earlier.below) (boxes_of gs)) (sym e.none) (λ k d lt. absurd (omega arith)) };
      masses = subst (λ (gs : List Grid). All (IsWhole whole) gs) (sym e.none) (λ k d lt. absurd (omega arith));
      whole = λ i. whole;
    }

pub read_grid-requires-clause-earlier : goal.read_grid-requires-clause-earlier
read_grid-requires-clause-earlier c = c.loop-k.invariant.of_level

pub returns-in_err-grid-clause-bad : goal.returns-in_err-grid-clause-bad
returns-in_err-grid-clause-bad c =
    let l = c.loop-k in
    let f = form_of c.args.form.now in
    let p = c.args.p.now in
    let n = c.args.kind.step in
    let lev = c.args.kind.level in
    let q = err_from_is_err_and c.from_residual-in_err-grid.result c.from_residual-in_err-grid.ensures.1 in
    rw (q.1, q.2) (bad_next (read_grids f p n lev c.args.count [] (left_of c.args.reader.now)) (map (grid_of (whole_of c.args.reader.now)) l.earlier.grids) (read_grids f p n lev (c.args.count - l._k) (newest_first l.earlier.grids) (left_of l.reader)) c.in_err-grid.field-0.0 l.invariant.so_far
    (grid_bad f p n lev c.args.count l._k (newest_first l.earlier.grids) (left_of l.reader) c.in_err-grid.field-0.0 c.loop-k-test.true c.in_err-grid.ensures.bad))

pub loop-k-preserved : goal.loop-k-preserved
loop-k-preserved c =
    let l = c.loop-k in
    let f = form_of c.args.form.now in
    let p = c.args.p.now in
    let n = c.args.kind.step in
    let lev = c.args.kind.level in
    let whole = whole_of c.args.reader.now in
    let r0 = left_of c.args.reader.now in
    let r = left_of l.reader in
    let e = left_of c.read_grid.new.reader in
    let g = c.in_ok-grid.grid in
    let v = grid_of whole g in
    let gs = l.earlier.grids in
    let hs = c.push.new.self.grids in
    let pushed : hs ≡ gs ++ g ∷ [] = c.in_ok-push.ensures.grids in
    let here : read_grid f p n lev (newest_first gs) r ≡ read v e = c.in_ok-grid.ensures.read ∙ ap (λ (bs : List ℕ). read (grid_of bs g) e) l.invariant.whole in
    record {
      so_far = more (read_grids f p n lev c.args.count [] r0) (map (grid_of whole) gs) v (read_grids f p n lev (c.args.count - l._k) (newest_first gs) r) (read_grids f p n lev (c.args.count - (l._k + 1)) (g.bx ∷ newest_first gs) e) l.invariant.so_far
          (grid_next f p n lev c.args.count l._k (newest_first gs) v r e c.loop-k-test.true here)
          ∙ (λ i. also_all (sym (map-append (grid_of whole) gs (g ∷ [])) i) (read_grids f p n lev (c.args.count - (l._k + 1)) (sym (newest gs hs g pushed) i) e))
          ∙ ap (λ (ks : List Grid). also_all (map (grid_of whole) ks) (read_grids f p n lev (c.args.count - (l._k + 1)) (newest_first hs) e)) (sym pushed);
      of_level = record {
        below = λ some. c.in_ok-push.ensures.below ∙ l.invariant.of_level.below some;
        over = λ some.
            subst (λ (e : Extent). All (IsOverParents e) (boxes_of hs)) (sym c.in_ok-push.ensures.below)
            (subst (λ (ks : List Grid). All (IsOverParents l.earlier.below) (boxes_of ks)) (sym pushed)
            (subst (λ (bs : List Extent). All (IsOverParents l.earlier.below) bs) (sym (map-append (λ (g : Grid). g.bx) gs (g ∷ [])))
            (All-push (IsOverParents l.earlier.below) (boxes_of gs) g.bx (l.invariant.of_level.over some) (c.in_ok-grid.ensures.over some))));
      };
      masses = subst (λ (gs : List Grid). All (IsWhole whole) gs) (sym pushed)
          (All-push (IsWhole whole) gs g l.invariant.masses (subst (λ (bs : List ℕ). IsWhole bs g) l.invariant.whole c.in_ok-grid.ensures.masses));
      whole = c.in_ok-grid.ensures.whole ∙ l.invariant.whole;
    }

pub returns-clause-read : goal.returns-clause-read
returns-clause-read c =
    let l = c.loop-k in
    let f = form_of c.args.form.now in
    let p = c.args.p.now in
    let n = c.args.kind.step in
    let lev = c.args.kind.level in
    let whole = whole_of c.args.reader.now in
    all_read (read_grids f p n lev c.args.count [] (left_of c.args.reader.now)) (map (grid_of whole) l.earlier.grids) (read_grids f p n lev (c.args.count - l._k) (newest_first l.earlier.grids) (left_of l.reader)) (left_of l.reader) l.invariant.so_far
    (grids_end f p n lev c.args.count l._k (newest_first l.earlier.grids) (left_of l.reader) (omega (arith, l.auto._k-end, c.loop-k-test.false)))
    ∙ ap (λ (gs : List Grid). read (map (grid_of whole) gs) (left_of l.reader)) (sym c.into_grids.ensures)

pub returns-clause-masses : goal.returns-clause-masses
returns-clause-masses c = subst (λ (gs : List Grid). All (IsWhole (whole_of c.args.reader.now)) gs) (sym c.into_grids.ensures) c.loop-k.invariant.masses
