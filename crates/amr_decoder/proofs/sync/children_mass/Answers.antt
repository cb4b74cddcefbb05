use Rattle.std.proofs.Common.{◌∙◌, ◌+◌, ap}
use Rattle.amr_box.specs.declared.Cell.{Cell}
use Rattle.amr_def.specs.State.{mass_of}
use Rattle.amr_patch.specs.Levels.{level_of}
use Rattle.amr_decoder.proofs.sync.children_mass.Goals as goal

pub returns : goal.returns
returns c =
    let m = (level_of c.args.level.now).masses in
    let a = c.from-first.ensures ∙ c.mass_of.ensures ∙ ap (λ (d : Cell). mass_of m d) c.child.ensures in
    let b = c.from-second.ensures ∙ c.mass_of-2.ensures ∙ ap (λ (d : Cell). mass_of m d) c.child-2.ensures in
    let e = c.from-third.ensures ∙ c.mass_of-3.ensures ∙ ap (λ (d : Cell). mass_of m d) c.child-3.ensures in
    let f = c.from-fourth.ensures ∙ c.mass_of-4.ensures ∙ ap (λ (d : Cell). mass_of m d) c.child-4.ensures in
    λ i. a i + b i + e i + f i
