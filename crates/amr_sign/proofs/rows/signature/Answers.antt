use Rattle.amr_sign.proofs.rows.signature.Goals as goal

pub returns-in-X : goal.returns-in-X
returns-in-X c = rw c.in-X.is c.column_counts.ensures

pub returns-in-Y : goal.returns-in-Y
returns-in-Y c = rw c.in-Y.is c.row_counts.ensures
