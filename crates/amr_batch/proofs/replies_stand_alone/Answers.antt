use Rattle.std.proofs.Common.{sym, subst, get_or}
use Rattle.amr_batch.proofs.replies_stand_alone.Goals as goal

pub returns : goal.returns
returns g c s one bytes others spans more replies beside i j d are also below there same =
    one _ (get_or replies i d) (get_or beside j d) (are.each i d below) (subst (λ job. g.S.Solve.answers s job (get_or beside j d)) (sym same) (also.each j d there))
