use Rattle.std.proofs.Common.{◌≡◌, false}
use Rattle.amr_box.specs.declared.Cell.{Cell}
use Rattle.amr_patch.specs.Patches.{in_patches}
use Rattle.amr_ghost.proofs.Beyond.{only_first}
use Rattle.amr_ghost.proofs.gap_cells.gap_ahead.Goals as goal

pub returns-in_default-clause-gap : goal.returns-in_default-clause-gap
returns-in_default-clause-gap c ps starts none k t = only_first (λ (s : Cell). in_patches ps s ≡ false) c.args.axis c.args.c k t none

pub returns-in-None-clause-gap : goal.returns-in-None-clause-gap
returns-in-None-clause-gap c ps starts none k t = only_first (λ (s : Cell). in_patches ps s ≡ false) c.args.axis c.args.c k t none
