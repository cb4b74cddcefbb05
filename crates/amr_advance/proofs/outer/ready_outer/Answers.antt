use Rattle.std.specs.Global.{Box, Vec}
use Rattle.std.specs.List.{All}
use Rattle.std.specs.Option.{option_copied}
use Rattle.amr_def.specs.Domain.{domain}
use Rattle.amr_ghost.specs.declared.sources.GhostSpan.{GhostSpan}
use Rattle.amr_ghost.specs.Frames.{old_masses}
use Rattle.amr_ghost.specs.Outer.{HasOuterPlaces, IsOuterSpan}
use Rattle.amr_lots.specs.declared.lot.Lot.{Lot}
use Rattle.amr_advance.proofs.LentLevels.{all_found, given_back, places_kept, spans_kept, still_find}
use Rattle.amr_advance.proofs.outer.ready_outer.Goals as goal

pub find_values-requires-clause-spans : goal.find_values-requires-clause-spans
find_values-requires-clause-spans c =
    let d : Vec GhostSpan → Type 0 = λ s. All (IsOuterSpan (domain c.args.given.problem.now c.args.given.level)) s.items in
    still_find (λ (x : Box Lot). d x.value.workspace.outer.spans) c.args.lots.now c.take_back.new.lots (given_back c.args.lots.now c.lend_coarser.new.lots c.take_back.new.lots c.lend_coarser.ensures.kept c.take_back.ensures) (spans_kept d) c.requires.spans

pub find_values-requires-clause-places : goal.find_values-requires-clause-places
find_values-requires-clause-places c =
    still_find (λ (x : Box Lot). HasOuterPlaces x.value.workspace.outer) c.args.lots.now c.take_back.new.lots (given_back c.args.lots.now c.lend_coarser.new.lots c.take_back.new.lots c.lend_coarser.ensures.kept c.take_back.ensures) places_kept c.requires.places

pub returns : goal.returns
returns c = all_found c.args.given.problem.now c.args.given.level (old_masses (option_copied c.args.given.old)) c.args.lots.now c.lend_coarser.new.lots c.take_back.new.lots c.find_values.new.lots c.lend_coarser.ensures.kept c.take_back.ensures c.find_values.ensures
