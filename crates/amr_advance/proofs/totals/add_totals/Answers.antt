use Rattle.std.proofs.Common.{IfSome, ◌≡◌, ◌∙◌, ◌+◌, ◌*◌, ◌<◌, ◌^◌, ℕ, List, length, refl, sym, ap, subst, arith}
use Rattle.std.specs.Prelude.{slice_index}
use Rattle.std.specs.declared.option.Option.{Option}
use Rattle.std.specs.declared.option.Option.TheVariants.{None, Some}
use Rattle.amr_advance.specs.declared.kept_layout.KeptLayout.{KeptLayout}
use Rattle.amr_advance.specs.KeptLayouts.{HasFirstTotals, totals_in}
use Rattle.amr_advance.specs.Registers.{cells_of}
use Rattle.amr_advance.specs.Totals.{SomeHasAbsorbed, SomeMayAbsorb}
use Rattle.amr_advance.proofs.totals.add_totals.Goals as goal

-- there are words, so a layout is kept
is_kept : (o : Option KeptLayout) (n : ℕ) → ((k : KeptLayout) → o ≡ Some k → ⊥) → length (totals_in o) ≡ 2 + n → ⊥
is_kept None n none count = let z : 0 ≡ 2 + n = count in omega (arith, z)
is_kept (Some k) n none count = none k refl

pub returns-in_default : goal.returns-in_default
returns-in_default c = absurd (is_kept c.args.kept.now (2 * length (cells_of c.args.regs.now.coarser)) c.in_default.not-Some c.requires.count)

pub totals_of-requires : goal.totals_of-requires
totals_of-requires c = subst (λ (o : Option KeptLayout). IfSome o HasFirstTotals) c.in-Some.is c.requires.lots

pub add_all-requires : goal.add_all-requires
add_all-requires c =
    let same : c.totals_of.result.now ≡ totals_in c.args.kept.now = c.totals_of.ensures ∙ ap totals_in (sym c.in-Some.is) in
    record {
      count = ap length same ∙ c.requires.count;
      few = subst (λ (ws : List ℕ). length ws < 2 ^ 32) (sym same) c.requires.few;
      small = subst (λ (ws : List ℕ). (word : ℕ) → word < length ws → slice_index ws word < 2 ^ 63) (sym same) c.requires.small;
      inflow = subst (λ (ws : List ℕ). c.args.regs.now.inflow + slice_index ws 0 < 2 ^ 63) (sym same) c.requires.inflow;
      outflow = subst (λ (ws : List ℕ). c.args.regs.now.outflow + slice_index ws 1 < 2 ^ 63) (sym same) c.requires.outflow;
      coarser = subst (λ (ws : List ℕ). SomeMayAbsorb ws c.args.regs.now.coarser) (sym same) c.requires.coarser;
    }

pub returns : goal.returns
returns c =
    let same : c.totals_of.result.now ≡ totals_in c.args.kept.now = c.totals_of.ensures ∙ ap totals_in (sym c.in-Some.is) in
    record {
      inflow = c.add_all.ensures.inflow ∙ ap (λ (ws : List ℕ). c.args.regs.now.inflow + slice_index ws 0) same;
      outflow = c.add_all.ensures.outflow ∙ ap (λ (ws : List ℕ). c.args.regs.now.outflow + slice_index ws 1) same;
      coarser = subst (λ (ws : List ℕ). SomeHasAbsorbed ws c.args.regs.now.coarser c.add_all.new.regs.coarser) same c.add_all.ensures.coarser;
      finer = c.add_all.ensures.finer;
    }
