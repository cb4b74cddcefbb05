use Rattle.std.proofs.Common.{◌≡◌, ◌≤◌}
use Rattle.amr_flux.specs.Tables.{count_below, x_marked}
use Rattle.amr_flux.proofs.exchanges.count_ends.Given as goal

-- the marked ends of the rows below j are counted
abbrev pub invariant-loop-j : goal.invariant-loop-j
invariant-loop-j l = record {
  count : l.count ≡ count_below (x_marked l.shape.w l.marks) l.j;
  few : l.count ≤ l.j;
}
