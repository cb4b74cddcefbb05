use Rattle.std.proofs.Common.{◌≡◌, false, true, refl, sym, ap, subst, ◌∙◌, arith}
use Rattle.amr_def.specs.Domain.{domain, home_cell, in_domain}
use Rattle.amr_ghost.specs.declared.sources.Source.TheVariants.{Beside, Coarser, Outside}
use Rattle.amr_ghost.proofs.PlannedSpans.{first_span, gap_source, held_source, room_in_domain}
use Rattle.amr_ghost.proofs.sources.span_ahead.Goals as goal

pub returns-then-not-in_domain-clause-span : goal.returns-then-not-in_domain-clause-span
returns-then-not-in_domain-clause-span c =
    let d = domain c.args.p.now c.args.target.level in
    let home : c.home_cell-home.result ≡ home_cell d c.args.strip.from = subst (λ e. c.home_cell-home.result ≡ home_cell e c.args.strip.from) c.domain-dom.ensures c.home_cell-home.ensures in
    let out : in_domain d c.home_cell-home.result ≡ false = subst (λ e. in_domain e c.home_cell-home.result ≡ false) c.domain-dom.ensures (sym c.in_domain.ensures ∙ c.if-not-in_domain.true) in
    first_span d c.args.patches.now c.args.target.patch c.args.strip c.args.strip refl refl Outside c.requires.some (omega arith) c.requires.there c.requires.small c.requires.room c.requires.ghost_strip (ap (in_domain d) (sym home) ∙ out)

pub returns-in-Some-clause-span : goal.returns-in-Some-clause-span
returns-in-Some-clause-span c =
    let d = domain c.args.p.now c.args.target.level in
    let ps = c.args.patches.now in
    let home : c.home_cell-home.result ≡ home_cell d c.args.strip.from = subst (λ e. c.home_cell-home.result ≡ home_cell e c.args.strip.from) c.domain-dom.ensures c.home_cell-home.ensures in
    first_span d ps c.args.target.patch c.args.strip c.first_of.result c.first_of.ensures.axis c.first_of.ensures.from (Beside c.in-Some.j c.home_cell-home.result) (omega (arith, c.first_of.ensures.count, c.min.ensures, c.requires.some, c.cells_ahead-ahead.ensures.some)) (omega (arith, c.first_of.ensures.count, c.min.ensures)) c.requires.there c.requires.small c.requires.room c.requires.ghost_strip
    (held_source d ps c.args.target.patch c.args.strip c.first_of.result c.first_of.ensures.axis c.first_of.ensures.from c.in-Some.j c.cells_ahead-ahead.result c.index-patches-j.result c.bx.result c.home_cell-home.result home c.index-patches-j.is c.bx.ensures.value c.bx.ensures.near c.in-Some.ensures.found c.cells_ahead-ahead.ensures.up_to_high (omega (arith, c.first_of.ensures.count, c.min.ensures)))

pub returns-in-None-clause-span : goal.returns-in-None-clause-span
returns-in-None-clause-span c =
    let d = domain c.args.p.now c.args.target.level in
    let ps = c.args.patches.now in
    let home : c.home_cell-home.result ≡ home_cell d c.args.strip.from = subst (λ e. c.home_cell-home.result ≡ home_cell e c.args.strip.from) c.domain-dom.ensures c.home_cell-home.ensures in
    let here : in_domain d c.home_cell-home.result ≡ true = subst (λ e. in_domain e c.home_cell-home.result ≡ true) c.domain-dom.ensures (sym c.in_domain.ensures ∙ c.if-not-in_domain.false) in
    first_span d ps c.args.target.patch c.args.strip c.first_of-in-None.result c.first_of-in-None.ensures.axis c.first_of-in-None.ensures.from (Coarser c.home_cell-home.result) (omega (arith, c.first_of-in-None.ensures.count, c.gap_ahead-ahead.ensures.some)) (omega (arith, c.first_of-in-None.ensures.count, c.gap_ahead-ahead.ensures.within)) c.requires.there c.requires.small c.requires.room c.requires.ghost_strip
    (gap_source d ps c.args.target.patch c.args.strip c.first_of-in-None.result c.first_of-in-None.ensures.axis c.first_of-in-None.ensures.from c.home_cell-home.result home (room_in_domain c.args.p.now c.args.target.level c.home_cell-home.result c.requires.level here) here
    (λ k t. c.gap_ahead-ahead.ensures.gap ps c.requires.patches.starting (sym c.in-None.ensures.some) k (omega (arith, t, c.first_of-in-None.ensures.count))))

pub domain-dom-requires : goal.domain-dom-requires
domain-dom-requires c = omega arith

pub returns-then-not-in_domain-clause-within : goal.returns-then-not-in_domain-clause-within
returns-then-not-in_domain-clause-within c = omega arith

pub gap_ahead-ahead-requires-clause-some : goal.gap_ahead-ahead-requires-clause-some
gap_ahead-ahead-requires-clause-some c = omega arith

pub returns-in-Some-clause-within : goal.returns-in-Some-clause-within
returns-in-Some-clause-within c = omega arith

pub returns-in-None-clause-within : goal.returns-in-None-clause-within
returns-in-None-clause-within c = omega arith
