use Rattle.std.proofs.Common.{◌<◌, ◌≤◌, ◌++◌, ℕ, List, length, map, sym, ap, subst, ◌∙◌, arith}
use Rattle.std.proofs.lemmas.List.{length-map}
use Rattle.amr_def.specs.Facts.{IsLevel}
use Rattle.amr_def.specs.State.{no_level, Level}
use Rattle.amr_patch.specs.Levels.{level_of}
use Rattle.amr_patch.proofs.Items.{level_item}
use Rattle.amr_payload.specs.Payload.{Form, level_bytes}
use Rattle.amr_codec.specs.Forms.{basis_of}
use Rattle.amr_codec.proofs.Appending.{level_more, levels_all}
use Rattle.amr_codec.proofs.levels.put_levels.Goals as goal

pub put_level-requires-clause-level : goal.put_level-requires-clause-level
put_level-requires-clause-level c =
    let l = c.loop-l in
    let here = level_item c.args.levels.now l.l c.index-levels-l.result c.loop-l-test.true c.index-levels-l.is in
    subst (λ (k : Level). IsLevel c.args.p.now l.l k) (sym here) (c.requires.levels l.l c.loop-l-test.true)

pub loop-l-preserved : goal.loop-l-preserved
loop-l-preserved c =
    let ks : List Level = map level_of c.args.levels.now in
    let fs = (basis_of c.args.basis.now).forms in
    let l = c.loop-l in
    let here = level_item c.args.levels.now l.l c.index-levels-l.result c.loop-l-test.true c.index-levels-l.is in
    let inside : l.l < length ks = subst (λ n. l.l < n) (sym (length-map c.args.levels.now level_of)) c.loop-l-test.true in
    c.in_ok-put_level.ensures
    ∙ ap (λ (f : Form). c.loop-l.out.items ++ level_bytes f (level_of c.index-levels-l.result)) c.form_at-form.ensures
    ∙ ap (λ (o : List ℕ). o ++ level_bytes (fs l.l) (level_of c.index-levels-l.result)) l.invariant
    ∙ level_more fs c.args.out.now.items ks l.l (level_of c.index-levels-l.result) no_level inside here

pub returns : goal.returns
returns c =
    let ks : List Level = map level_of c.args.levels.now in
    let l = c.loop-l in
    let all : length ks ≤ l.l = omega (arith, l.auto.l-end, c.loop-l-test.false, length-map c.args.levels.now level_of) in
    l.invariant ∙ levels_all (basis_of c.args.basis.now).forms c.args.out.now.items ks l.l all
