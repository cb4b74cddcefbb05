use Rattle.std.proofs.Common.{◌∙◌, ◌++◌, [], ◌∷◌, ap, arith, sym}
use Rattle.std.proofs.lemmas.List.{map_more, take_all}
use Rattle.amr_witness.specs.Maps.{level_of, levels_of}
use Rattle.amr_witness_regrid.proofs.same.same_levels.Goals as goal

pub loop-k-preserved : goal.loop-k-preserved
loop-k-preserved c =
    let a = c.args.a.now in
    let b = c.args.b.now in
    let i = c.loop-k.k in
    let x = c.index-a-k.result in
    let y = c.index-b-k.result in
    let same = sym (ap level_of c.index-a-k.is) ∙ c.same_level.ensures c.if-not-same_level.false ∙ ap level_of c.index-b-k.is in
    map_more level_of a i x c.loop-k-test.true ∙ (λ t. c.loop-k.invariant t ++ same t ∷ []) ∙ sym (map_more level_of b i y (omega (arith, c.loop-k-test.true, c.if-a-b.false)))

pub returns : goal.returns
returns c = λ h.
    let a = c.args.a.now in
    let b = c.args.b.now in
    let i = c.loop-k.k in
    sym (ap levels_of (take_all i a c.loop-k-test.false)) ∙ c.loop-k.invariant ∙ ap levels_of (take_all i b (omega (arith, c.loop-k-test.false, c.if-a-b.false)))
