use Rattle.amr_view.proofs.AddUp.{views_add_up}
use Rattle.amr_view.proofs.views_add_up.Goals as goal

pub returns : goal.returns
returns c = views_add_up
