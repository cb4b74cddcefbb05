use Rattle.std.proofs.Common.{◌≡◌, ◌+◌, rules}
use Rattle.std.specs.Prelude.{nat_eq}
use Rattle.std.proofs.lemmas.Bool.{eq-eqb}
use Rattle.amr_flux.specs.Tables.{y_marked}
use Rattle.amr_flux.proofs.Throughs.{top_by}
use Rattle.amr_flux.proofs.y_faces.set_top.Goals as goal

pub set_marked-requires-clause-enough : goal.set_marked-requires-clause-enough
set_marked-requires-clause-enough c = let last : c.args.j + 1 ≡ c.args.shape.h = search rules in c.requires.enough last

pub returns-then-j-shape : goal.returns-then-j-shape
returns-then-j-shape c = λ i below.
    let h = c.args.shape.h in
    let last : c.args.j + 1 ≡ h = search rules in
    top_by (nat_eq (c.args.j + 1) h) (y_marked c.args.shape.w h c.args.marks.now i) (eq-eqb (c.args.j + 1) h last) (c.set_marked.ensures.made i below) (c.set_marked.ensures.others i)
