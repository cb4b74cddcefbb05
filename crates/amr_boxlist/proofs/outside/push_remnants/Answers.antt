use Rattle.std.proofs.Common.{◌∙◌, ◌++◌, ap, arith, sym}
use Rattle.std.specs.Prelude.{IsSome}
use Rattle.std.specs.declared.option.Option.TheVariants.{None}
use Rattle.std.proofs.lemmas.Int.{ints, clamps}
use Rattle.amr_box.specs.Cells.{Extent}
use Rattle.amr_boxlist.proofs.Frame.{remnants-alone}
use Rattle.amr_boxlist.proofs.outside.push_remnants.Goals as goal

pub push_frame-requires-clause-south : goal.push_frame-requires-clause-south
push_frame-requires-clause-south c = let e = ap (λ (t : Extent). t.lo.y) c.in-Some.ensures.corners in omega (arith, ints, clamps)

pub push_frame-requires-clause-east : goal.push_frame-requires-clause-east
push_frame-requires-clause-east c = let e = ap (λ (t : Extent). t.hi.x) c.in-Some.ensures.corners in omega (arith, ints, clamps)

pub push_frame-requires-clause-north : goal.push_frame-requires-clause-north
push_frame-requires-clause-north c = let e = ap (λ (t : Extent). t.hi.y) c.in-Some.ensures.corners in omega (arith, ints, clamps)

pub returns-in_ok-push-in-None : goal.returns-in_ok-push-in-None
returns-in_ok-push-in-None c =
    c.in_ok-push-in-None.ensures.items ∙ ap (λ t. c.args.left.now.items ++ t) (sym (remnants-alone c.args.b.now c.args.a.now (λ p. none (c.in-None.ensures.some.1 p))))
  where
    none : IsSome {T = Extent} None → ⊥
    none e = cc
