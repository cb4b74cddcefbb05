use Rattle.std.proofs.Common.{◌≡◌, ◌+◌, ◌<◌, ◌≤◌, ◌^◌, ℕ, List, length, map, sym, ap, ◌∙◌, arith}
use Rattle.std.proofs.lemmas.List.{length-map}
use Rattle.amr_def.specs.Plot.{plot_all}
use Rattle.amr_def.specs.State.{State}
use Rattle.amr_io.specs.Counts.{capped}
use Rattle.amr_patch.specs.Meshes.{state_of}
use Rattle.amr_plot.proofs.Lengths.{plot_short}
use Rattle.amr_plot.proofs.plots.count_plot.Goals as goal

pub returns : goal.returns
returns c =
    let ss : List State = map state_of c.args.meshes.now in
    let few : length ss ≤ 4 = omega (arith, c.requires.few, length-map c.args.meshes.now state_of) in
    let short : length (plot_all c.args.p.now ss) < 2 ^ 64 = plot_short c.args.p.now ss c.requires.plotted.alike few in
    let none : c.make-sink.result ≡ 0 = c.make-sink.ensures.count in
    let counted : c.put_plot.new.pen ≡ capped (c.make-sink.result + length (plot_all c.args.p.now ss)) = c.in-Ok.ensures.whole (omega (arith, none)) in
    omega (arith, c.count.ensures, counted, none, short)
