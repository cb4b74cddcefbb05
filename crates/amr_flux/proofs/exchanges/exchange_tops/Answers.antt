use Rattle.std.proofs.Common.{◌≡◌, ◌≢◌, ℕ, ◌+◌, ◌*◌, ◌<◌, Bool, true, false, ℤ, ◌+ℤ◌, ◌-ℤ◌, length, get_or-set_same, get_or-set_other, sym, ap, refl, ◌∙◌, arith, rules}
use mir.Val.{SFits}
use mir.Syntax.{w32}
use Rattle.std.specs.Prelude.{cond, slice_index}
use Rattle.std.proofs.lemmas.Int.{to_z-of_z}
use Rattle.amr_flux.specs.Paces.{IsWordOf, top_share}
use Rattle.amr_faces.specs.Shares.{signed}
use Rattle.amr_flux.specs.Tables.{count_below, value, y_marked}
use Rattle.amr_flux.proofs.Borders.{count_less, count_next, count_same}
use Rattle.amr_flux.proofs.Exchanged.{others_more, share_still, still, tops_more, word_same}
use Rattle.amr_flux.proofs.exchanges.exchange_tops.Goals as goal
use Rattle.amr_flux.proofs.exchanges.exchange_tops.Goals.{then-is_top_marked, else-is_top_marked}

pub bounds-border-used : goal.bounds-border-used
bounds-border-used c =
    let test : ℕ → Bool = y_marked c.args.shape.w c.args.shape.h c.args.border.marks.now in
    let is : test c.loop-i.i ≡ true = search rules in
    count_less test c.loop-i.i c.args.shape.w _ _ is (search rules) c.requires.enough c.loop-i.invariant.used

pub offset_bounds-border-used : goal.offset_bounds-border-used
offset_bounds-border-used c =
    let test : ℕ → Bool = y_marked c.args.shape.w c.args.shape.h c.args.border.marks.now in
    let is : test c.loop-i.i ≡ true = search rules in
    let below : c.loop-i.used < length c.args.border.sizes.now = count_less test c.loop-i.i c.args.shape.w _ _ is (search rules) c.requires.enough c.loop-i.invariant.used in
    search rules

pub overflow_add-used : goal.overflow_add-used
overflow_add-used c =
    let test : ℕ → Bool = y_marked c.args.shape.w c.args.shape.h c.args.border.marks.now in
    let is : test c.loop-i.i ≡ true = search rules in
    let below : c.loop-i.used < length c.args.border.sizes.now = count_less test c.loop-i.i c.args.shape.w _ _ is (search rules) c.requires.enough c.loop-i.invariant.used in
    search rules

pub loop-i-preserved : goal.loop-i-preserved
loop-i-preserved c =
    let pace = c.args.pace in
    let b = c.args.down in
    let w = c.args.shape.w in
    let h = c.args.shape.h in
    let i = c.loop-i.i in
    let across = c.args.across.now in
    let test : ℕ → Bool = y_marked w h c.args.border.marks.now in
    let old = c.args.values.now in
    let values = c.loop-i.values in
    let new = c.if-is_top_marked.values in
    let at = h * (w + 2) + (i + 1) in
    let frame : ℕ → ℤ = λ t. signed pace.y.number (top_share b pace w h old across t) in
    let size : ℕ → ℤ = λ t. signed pace.y.number (slice_index c.args.border.sizes.now (count_below test t)) in
    let f : ℕ → ℤ = λ t. frame t -ℤ cond (test t) (size t) (frame t) in
    let column : i < w = c.loop-i-test.true in
    let before = c.loop-i.invariant.others in
    let kept : Type 0 = (q : ℕ) → q ≢ at → slice_index new q ≡ slice_index values q in
    let turned : Type 0 = (z : ℤ) → IsWordOf z (value w values (i + 1) h) → IsWordOf (z +ℤ f i) (value w new (i + 1) h) in
    elim c.if-is_top_marked.branch [
      | then-is_top_marked e ↦
          let marked : test i ≡ true = search rules in
          let inside : at < length values = search rules in
          let stays : kept = λ q ne. ap (λ es. slice_index es q) e.values-is ∙ get_or-set_other values at q e.exchanged.result 0 ne in
          let is : e.exchanged.result ≡ value w new (i + 1) h = sym (get_or-set_same values at e.exchanged.result 0 inside) ∙ ap (λ es. slice_index es at) (sym e.values-is) in
          let share : e.top_share-share.result ≡ top_share b pace w h old across i = e.top_share-share.ensures ∙ share_still w h i values old new f column before stays b pace across in
          let number_fits : SFits w32 pace.y.number = search rules in
          let exchanged = rw to_z-of_z at e.exchanged.ensures in
          let here : turned = λ z has. word_same ((λ t. z +ℤ (signed pace.y.number (share t) -ℤ signed pace.y.number (slice_index c.args.border.sizes.now (c.loop-i.invariant.used t)))) ∙ ap (λ m. z +ℤ (frame i -ℤ cond m (size i) (frame i))) (sym marked)) is (exchanged z has) in
          record {
            used = e.used-is ∙ ap (λ n. n + 1) c.loop-i.invariant.used ∙ sym (count_next test i marked);
            tops = tops_more w h i values old new f column before stays here c.loop-i.invariant.tops;
            others = others_more w h i values old new f column before stays;
          }
      | else-is_top_marked e ↦
          let free : test i ≡ false = search rules in
          let stays : kept = λ q ne. ap (λ es. slice_index es q) e.values-is in
          let here : turned = λ z has. word_same (still z (frame i) (frame i) refl ∙ ap (λ m. z +ℤ (frame i -ℤ cond m (size i) (frame i))) (sym free)) (ap (λ es. slice_index es at) (sym e.values-is)) has in
          record {
            used = e.used-is ∙ c.loop-i.invariant.used ∙ sym (count_same test i free);
            tops = tops_more w h i values old new f column before stays here c.loop-i.invariant.tops;
            others = others_more w h i values old new f column before stays;
          }
    ]

pub returns-clause-tops : goal.returns-clause-tops
returns-clause-tops c = λ i z hi has. c.loop-i.invariant.tops i z (omega (arith, hi, c.loop-i.auto.i-end)) has

pub returns-clause-others : goal.returns-clause-others
returns-clause-others c = λ q other. c.loop-i.invariant.others q (λ i hi. other i (omega (arith, hi, c.loop-i.auto.i-end)))
