use Rattle.std.proofs.Common.{◌≡◌, ◌∙◌, ◌+◌, ◌*◌, length, sym, arith}
use Rattle.amr_layout.specs.Arounds.{around_of}
use Rattle.amr_advance.specs.Cuts.{IsRunOf}
use Rattle.amr_advance.proofs.LotCounts.{run_there}
use Rattle.amr_advance.proofs.MadeWorkspaces.{run_count}
use Rattle.amr_advance.proofs.TakenLayouts.{drop_later, layouts_after, layouts_of_run}
use Rattle.amr_advance.proofs.lots.lot_for.Goals as goal

pub overflow_mul-first : goal.overflow_mul-first
overflow_mul-first c = omega (arith, run_there c.args.cut.each c.args.k c.args.cut.runs (length c.args.s.patches.now) c.requires.there c.requires.cut.tight)

pub overflow_sub-s : goal.overflow_sub-s
overflow_sub-s c = omega (arith, run_there c.args.cut.each c.args.k c.args.cut.runs (length c.args.s.patches.now) c.requires.there c.requires.cut.tight)

pub take_layouts-requires : goal.take_layouts-requires
take_layouts-requires c =
    let n = c.requires.layouts.count in
    omega (arith, n, c.min-count.ensures, run_there c.args.cut.each c.args.k c.args.cut.runs (length c.args.s.patches.now) c.requires.there c.requires.cut.tight)

pub workspace_for-requires-clause-count : goal.workspace_for-requires-clause-count
workspace_for-requires-clause-count c = record {
  within = omega (arith, run_there c.args.cut.each c.args.k c.args.cut.runs (length c.args.s.patches.now) c.requires.there c.requires.cut.tight);
  count = c.min-count.ensures;
}

pub workspace_for-requires-clause-layouts : goal.workspace_for-requires-clause-layouts
workspace_for-requires-clause-layouts c =
    layouts_of_run (around_of c.args.s) c.args.cut.each c.args.k c.min-count.result c.args.layouts.now c.in_ok-run.run'.items
    (record {
      within = omega (arith, run_there c.args.cut.each c.args.k c.args.cut.runs (length c.args.s.patches.now) c.requires.there c.requires.cut.tight);
      count = c.min-count.ensures;
    })
    c.requires.layouts c.in_ok-run.ensures.taken

pub returns-clause-lot : goal.returns-clause-lot
returns-clause-lot c =
    let made = c.in_ok-workspace_for.ensures in
    let of : IsRunOf c.args.cut.each c.args.k c.min-count.result (length c.args.s.patches.now) = record {
      within = omega (arith, run_there c.args.cut.each c.args.k c.args.cut.runs (length c.args.s.patches.now) c.requires.there c.requires.cut.tight);
      count = c.min-count.ensures;
    } in
    let many = run_count (around_of c.args.s) c.args.cut.each c.args.k c.min-count.result of in
    record {
      serves = made.serves;
      words = made.words;
      layouts = made.layouts;
      others = record {
        count = c.in_ok-blank_patches.ensures ∙ sym many;
        before = c.in_ok-blank_patches-2.ensures ∙ sym many;
        edges = c.in_ok-blank_edges.ensures.count ∙ sym many;
        no_edges = c.in_ok-blank_edges.ensures.empty;
      };
    }

pub returns-clause-layouts : goal.returns-clause-layouts
returns-clause-layouts c =
    let each = c.args.cut.each in
    let k = c.args.k in
    let first = k * each in
    let next : (k + 1) * each ≡ first + each = omega arith in
    layouts_after (around_of c.args.s) each first ((k + 1) * each) c.args.layouts.now c.take_layouts.new.layouts (omega (arith, next)) c.requires.layouts c.in_ok-run.ensures.count
    (drop_later (first + c.min-count.result) ((k + 1) * each) c.take_layouts.new.layouts c.args.layouts.now (omega (arith, next, c.min-count.ensures)) c.in_ok-run.ensures.rest)
