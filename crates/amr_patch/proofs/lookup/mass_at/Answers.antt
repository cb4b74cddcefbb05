use Rattle.std.proofs.Common.{◌∙◌, sym, ap}
use Rattle.std.specs.Prelude.{ℕ}
use Rattle.std.specs.declared.option.Option.TheVariants.{Some}
use Rattle.amr_patch.specs.declared.patches.Patch.{Patch}
use Rattle.amr_patch.specs.Patches.{mass_in}
use Rattle.amr_patch.proofs.Lookups.{masses_in-at, masses_in-none}
use Rattle.amr_patch.proofs.lookup.mass_at.Goals as goal

pub returns-in-None : goal.returns-in-None
returns-in-None c = sym (masses_in-none c.args.patches.now c.args.c (sym c.in-None.ensures.some))

pub returns-in-Some : goal.returns-in-Some
returns-in-Some c =
    let ps = c.args.patches.now in
    let p = c.index-patches-k.result in
    ap (λ (m : ℕ). Some m) (c.mass.ensures.value ∙ ap (λ (q : Patch). mass_in q c.args.c) c.index-patches-k.is) ∙ sym (masses_in-at ps c.args.c c.in-Some.k p c.requires.apart c.in-Some.ensures.found)
