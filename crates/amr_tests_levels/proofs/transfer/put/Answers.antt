use Rattle.std.proofs.Common.{◌≡◌, ◌∙◌, true, not, is_some, sym, ap}
use Rattle.amr_box.specs.declared.Cell.{Cell}
use Rattle.amr_patch.specs.Levels.{level_of}
use Rattle.amr_tests_levels.proofs.CoveredCells.{set_or_other}
use Rattle.amr_tests_levels.proofs.transfer.put.Goals as goal

pub returns : goal.returns
returns c d =
    set_or_other (λ (k : Cell). is_some ((level_of c.set.new.self).masses k) ≡ is_some ((level_of c.args.level.now).masses k)) c.args.c d
    (ap is_some c.set.ensures.set ∙ sym there)
    (λ n. ap is_some (c.set.ensures.others d n))
  where
    there : is_some ((level_of c.args.level.now).masses c.args.c) ≡ true
    there = ap is_some (sym c.get.ensures) ∙ c.is_none.ensures ∙ ap not c.if-is_none.false
