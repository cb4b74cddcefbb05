use Rattle.std.proofs.Common.{◌≡◌, ◌-◌, ◌&&◌, ◌||◌, ◌∙◌, Bool, arith, ap, refl, sym}
use Rattle.std.proofs.lemmas.Int.{ints}
use Rattle.amr_box.specs.Cells.{Extent, holds}
use Rattle.amr_tags.specs.TagSets.{has}
use Rattle.amr_criterion.specs.Pairs.{ahead, region, with_after}
use Rattle.amr_criterion.proofs.Regions.{box_after, not_before}
use Rattle.amr_criterion.proofs.Joins.{joined_none}
use Rattle.amr_criterion.proofs.pair_rows.tag_span.Goals as goal

pub unwrap-both-requires : goal.unwrap-both-requires
unwrap-both-requires c =
    let high = not_before c.args.pairs.now.axis _ c.after.result c.after.ensures in
    c.try_new.ensures.proper.1 (omega (arith, ints, high.0, c.requires.some), omega (arith, ints, high.1))

pub returns-in-None : goal.returns-in-None
returns-in-None c =
    let is = rw c.unwrap-both.ensures at c.try_new.ensures.some in
    let r : Extent = region (ahead c.args.pairs.now.from c.args.start) (c.args.end - c.args.start) 1 in
    let west : c.unwrap-both.result.lo.x ≡ r.lo.x = ap (λ b. b.lo.x) is ∙ omega (arith, ints) in
    let south : c.unwrap-both.result.lo.y ≡ r.lo.y = ap (λ b. b.lo.y) is ∙ omega (arith, ints) in
    let east : c.unwrap-both.result.hi.x ≡ c.after.result.x = ap (λ b. b.hi.x) is ∙ omega (arith, ints) in
    let north : c.unwrap-both.result.hi.y ≡ c.after.result.y = ap (λ b. b.hi.y) is ∙ omega (arith, ints) in
    joined_none (λ q. holds c.args.pairs.now.part q && holds (with_after c.args.pairs.now.axis r) q) c.args.tags.now (λ q.
    ap (λ (t : Bool). holds c.args.pairs.now.part q && t) (sym (box_after c.args.pairs.now.axis c.unwrap-both.result r _ c.after.result c.after.ensures west south east north (omega (arith, ints, c.requires.some)) (omega (arith, ints)) q))
    ∙ c.in-None.ensures.none.0 refl q)

pub returns-in-Some : goal.returns-in-Some
returns-in-Some c =
    let is = rw c.unwrap-both.ensures at c.try_new.ensures.some in
    let r : Extent = region (ahead c.args.pairs.now.from c.args.start) (c.args.end - c.args.start) 1 in
    let west : c.unwrap-both.result.lo.x ≡ r.lo.x = ap (λ b. b.lo.x) is ∙ omega (arith, ints) in
    let south : c.unwrap-both.result.lo.y ≡ r.lo.y = ap (λ b. b.lo.y) is ∙ omega (arith, ints) in
    let east : c.unwrap-both.result.hi.x ≡ c.after.result.x = ap (λ b. b.hi.x) is ∙ omega (arith, ints) in
    let north : c.unwrap-both.result.hi.y ≡ c.after.result.y = ap (λ b. b.hi.y) is ∙ omega (arith, ints) in
    record {
      shape = c.set_in.ensures.shape;
      cells = λ q.
          c.set_in.ensures.cells q
          ∙ ap (λ (t : Bool). has c.args.tags.now q || (holds c.args.tags.now.bx q && t))
          (c.in-Some.ensures.cells.at q
          ∙ ap (λ (t : Bool). holds c.args.pairs.now.part q && t) (box_after c.args.pairs.now.axis c.unwrap-both.result r _ c.after.result c.after.ensures west south east north (omega (arith, ints, c.requires.some)) (omega (arith, ints)) q));
    }
