use Rattle.std.proofs.Common.{◌≡◌, w64, rules}
use Rattle.std.proofs.lemmas.Int.{to_z-of_z}
use Rattle.amr_def.specs.Limits.{greatest_size, in_use}
use Rattle.amr_problem.proofs.ProblemLaws.{in_use_within}
use Rattle.amr_problem.proofs.judgement.courant_fault.Goals as goal

x_size : (c : goal.After-courant_over-arg-1) → c.size_in_use-x_size.result ≡ greatest_size (in_use c.args.basics.now.cx c.args.overlay.now.shear_x.items)
x_size c = rw (to_z-of_z w64 c.args.basics.now.cx (search rules), c.as_slice.ensures.value) at c.size_in_use-x_size.ensures

y_size : (c : goal.After-courant_over-arg-1) → c.size_in_use-y_size.result ≡ greatest_size (in_use c.args.basics.now.cy c.args.overlay.now.shear_y.items)
y_size c = rw (to_z-of_z w64 c.args.basics.now.cy (search rules), c.as_slice-2.ensures.value) at c.size_in_use-y_size.ensures

pub courant_over-requires-clause-x : goal.courant_over-requires-clause-x
courant_over-requires-clause-x c = rw (x_size c) (in_use_within c.args.basics.now.cx c.args.overlay.now.shear_x.items c.requires.cx c.requires.overlay.shear_x)

pub courant_over-requires-clause-y : goal.courant_over-requires-clause-y
courant_over-requires-clause-y c = rw (y_size c) (in_use_within c.args.basics.now.cy c.args.overlay.now.shear_y.items c.requires.cy c.requires.overlay.shear_y)
