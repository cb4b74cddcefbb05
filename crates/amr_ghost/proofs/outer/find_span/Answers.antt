use Rattle.std.proofs.Common.{◌≡◌, ◌∙◌, ℕ, ◌/◌, ◌<◌, false, length, sym, ap, subst, arith}
use Rattle.std.specs.Option.{option_copied}
use Rattle.std.specs.Prelude.{slice_index}
use Rattle.amr_box.specs.declared.Cell.{Cell}
use Rattle.amr_box.specs.Cells.{parent}
use Rattle.amr_def.specs.Domain.{domain, home_cell, in_domain}
use Rattle.amr_def.specs.State.{mass_of}
use Rattle.amr_def.specs.Value.{value_at}
use Rattle.amr_ghost.specs.Strips.{step}
use Rattle.amr_ghost.specs.Frames.{is_of_level, old_masses}
use Rattle.amr_ghost.specs.Outer.{IsOuterSource, StandForInner}
use Rattle.amr_ghost.proofs.Beyond.{gap_given, home_is, outside_given}
use Rattle.amr_ghost.proofs.GhostStrips.{same_given}
use Rattle.amr_ghost.proofs.outer.find_span.Goals as goal

pub returns-in-Outside-clause-found : goal.returns-in-Outside-clause-found
returns-in-Outside-clause-found c m none =
    let d = domain c.args.p.now c.args.l in
    let s = c.args.span.strip in
    let old = old_masses (option_copied c.args.old) in
    let home : c.home_cell-home.result ≡ home_cell d s.from = subst (λ e. c.home_cell-home.result ≡ home_cell e s.from) c.domain.ensures c.home_cell-home.ensures in
    let outer : in_domain d (home_cell d s.from) ≡ false = subst (IsOuterSource d s) c.in-Outside.is c.requires.span.source in
    let h : Cell = c.home_cell-home.result in
    let inside = c.requires.span.inside in
    let v = c.outside_value.result in
    let out : in_domain d h ≡ false = ap (in_domain d) home ∙ outer in
    let filled : (k : ℕ) → k < s.count → slice_index c.fill.new.self k ≡ v = λ k t. let few : k < length c.args.values.now = omega (arith, t, c.requires.count) in grind (arith, c.fill.ensures.clones k 0) in
    same_given (value_at c.args.p.now c.args.l m old) (is_of_level c.args.p.now c.args.l m) s.axis s.from s.count (λ k. v) (λ k. slice_index c.fill.new.self k) false (λ k t. sym (filled k t))
    (outside_given c.args.p.now c.args.l m old s.axis s.from h s.count home c.requires.span.some inside v (λ k t. ap m (home_is d s.axis s.from h s.count home c.requires.span.some inside k t) ∙ none k t) out c.outside_value.ensures.value)

pub returns-in-Coarser-clause-found : goal.returns-in-Coarser-clause-found
returns-in-Coarser-clause-found c m none =
    let d = domain c.args.p.now c.args.l in
    let s = c.args.span.strip in
    let h = c.in-Coarser.home in
    let old = old_masses (option_copied c.args.old) in
    let stand : StandForInner d s h = subst (IsOuterSource d s) c.in-Coarser.is c.requires.span.source in
    let inside = c.requires.span.inside in
    same_given (value_at c.args.p.now c.args.l m old) (is_of_level c.args.p.now c.args.l m) s.axis s.from s.count (λ k. mass_of old (parent (step s.axis h k)) / 4) (λ k. slice_index c.quarter_values.new.values k) false
    (λ k t. sym (c.quarter_values.ensures.quarters k (omega (arith, t, c.requires.count))))
    (gap_given c.args.p.now c.args.l m old s.axis s.from h s.count stand.home c.requires.span.some inside s.count (omega arith) stand.inside
    (λ k t. ap m (home_is d s.axis s.from h s.count stand.home c.requires.span.some inside k t) ∙ none k t))
