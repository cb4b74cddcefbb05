use Rattle.std.proofs.Common.{◌≡◌, ◌+◌, ◌*◌, ◌/◌, ◌<◌, ◌++◌, ◌∷◌, [], length, get_or, ap, subst, refl, ◌∙◌, arith}
use Rattle.std.specs.Global.{Vec}
use Rattle.std.proofs.lemmas.List.{get_or_default}
use Rattle.std.proofs.Math.Nat.{div-lt_iff_lt-mul, mod-lt}
use Rattle.amr_patch.proofs.Rows.{place_within}
use Rattle.amr_ghost.specs.declared.sources.GhostSpan.{GhostSpan}
use Rattle.amr_ghost.specs.declared.parts.FrameCopy.{FrameCopy}
use Rattle.amr_ghost.specs.Parts.{IsSourceBelow}
use Rattle.amr_ghost.proofs.Parting.{copies_more, copy_is_span, copy_of, is_elsewhere, outer_is_span, outer_more, outer_of}
use Rattle.amr_ghost.proofs.parts.part_span.Goals as goal

pub index_mut-requires : goal.index_mut-requires
index_mut-requires c =
    let to : c.args.span.patch / c.args.width < c.args.runs = (div-lt_iff_lt-mul c.requires.some).1 c.requires.there.0 in
    omega (arith, to, c.requires.outer_count)

pub returns-in_default : goal.returns-in_default
returns-in_default c = λ ss k there is h.
    let lists = c.args.parts.now.outer.items in
    let width = c.args.width in
    let to = c.args.span.patch / width in
    let new : Vec GhostSpan = c.push.new.self in
    let outer : GhostSpan = outer_of width c.args.span in
    let to_below : to < c.args.runs = (div-lt_iff_lt-mul c.requires.some).1 c.requires.there.0 in
    let below : to < length lists = omega (arith, to_below, c.requires.outer_count) in
    let had : c.index_mut.result.now ≡ get_or lists to new = c.index_mut.ensures.value ∙ get_or_default lists to c.index_mut.result.now new below in
    let pushed : new.items ≡ (get_or lists to new).items ++ outer ∷ [] = c.in_ok-push.ensures.items ∙ ap (λ (v : Vec GhostSpan). v.items ++ outer ∷ []) had in
    outer_more ss k width c.args.runs c.args.parts.now c.args.span there is h to new outer to_below pushed (mod-lt c.args.span.patch c.requires.some) (is_elsewhere c.args.span.source c.in_default.not-Beside) (outer_is_span width c.args.span) _ refl

pub index_mut-requires-2 : goal.index_mut-requires-2
index_mut-requires-2 c =
    let n = c.args.runs * c.args.width in
    let from : c.in-Beside.source / c.args.width < c.args.runs = (div-lt_iff_lt-mul c.requires.some).1 (subst (IsSourceBelow n) c.in-Beside.is c.requires.there.1) in
    let to : c.args.span.patch / c.args.width < c.args.runs = (div-lt_iff_lt-mul c.requires.some).1 c.requires.there.0 in
    let below : c.in-Beside.source / c.args.width * c.args.runs + c.args.span.patch / c.args.width < c.args.runs * c.args.runs = place_within _ _ c.args.runs c.args.runs from to in
    omega (arith, below, c.requires.count)

pub returns : goal.returns
returns c = λ ss k there is h.
    let lists = c.args.parts.now.copies.items in
    let runs = c.args.runs in
    let width = c.args.width in
    let from = c.in-Beside.source / width in
    let to = c.args.span.patch / width in
    let new : Vec FrameCopy = c.push-2.new.self in
    let copy : FrameCopy = copy_of width c.args.span c.in-Beside.source c.in-Beside.from in
    let from_below : from < runs = (div-lt_iff_lt-mul c.requires.some).1 (subst (IsSourceBelow (runs * width)) c.in-Beside.is c.requires.there.1) in
    let to_below : to < runs = (div-lt_iff_lt-mul c.requires.some).1 c.requires.there.0 in
    let below : from * runs + to < length lists = (let lt : from * runs + to < runs * runs = place_within from to runs runs from_below to_below in omega (arith, lt, c.requires.count)) in
    let had : c.index_mut-2.result.now ≡ get_or lists (from * runs + to) new = c.index_mut-2.ensures.value ∙ get_or_default lists (from * runs + to) c.index_mut-2.result.now new below in
    let pushed : new.items ≡ (get_or lists (from * runs + to) new).items ++ copy ∷ [] = c.in_ok-push-2.ensures.items ∙ ap (λ (v : Vec FrameCopy). v.items ++ copy ∷ []) had in
    copies_more ss k width runs c.args.parts.now c.args.span there is h from to new copy from_below to_below pushed (mod-lt c.args.span.patch c.requires.some) (mod-lt c.in-Beside.source c.requires.some) (copy_is_span width c.args.span c.in-Beside.source c.in-Beside.from c.in-Beside.is) _ refl
