use Rattle.std.proofs.Common.{◌^◌, ℤ, pos, ◌+ℤ◌, ◌≤ℤ◌, ◌<ℤ◌, sym, ap, subst, ◌∙◌, arith}
use Rattle.amr_patch.specs.Patches.{mass_in}
use Rattle.amr_flux.proofs.Unmasked.{alone, none_handed}
use Rattle.amr_flux.proofs.masses.update_alone.Goals as goal

pub update_by-requires : goal.update_by-requires
update_by-requires c =
    let p = c.args.p.now in
    let l = c.args.l in
    let q = c.args.patch.now in
    record {
      level = c.requires.level;
      inside = c.requires.inside;
      border_count = none_handed q;
      small = c.requires.small;
      border_small = record { at = λ k h. absurd (omega (arith, h)) };
      kept = λ d h. subst (λ (z : ℤ). pos 0 ≤ℤ (pos (mass_in q d) +ℤ z)) (sym (alone p l q d)) (c.requires.kept d h);
      fits = λ d h. subst (λ (z : ℤ). (pos (mass_in q d) +ℤ z) <ℤ pos (2 ^ 32)) (sym (alone p l q d)) (c.requires.fits d h);
      room = c.requires.room;
    }

pub returns-clause-masses : goal.returns-clause-masses
returns-clause-masses c = λ d h. c.update_by.ensures.masses d h ∙ ap (λ (z : ℤ). pos (mass_in c.args.patch.now d) +ℤ z) (alone c.args.p.now c.args.l c.args.patch.now d)
