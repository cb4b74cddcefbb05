use Rattle.amr_board.proofs.Posts.{posted_none, posted_put, posted_add, next_put, next_add, has_worked, may_give}
use Rattle.amr_board.proofs.laws.posts_in_a_loop.Goals as goal

pub returns-clause-none : goal.returns-clause-none
returns-clause-none g c = posted_none

pub returns-clause-put : goal.returns-clause-put
returns-clause-put g c = λ v w puts adds place held h. posted_put v w puts adds held h place

pub returns-clause-add : goal.returns-clause-add
returns-clause-add g c = λ v w puts adds held h. posted_add v w puts adds held h

pub returns-clause-next_put : goal.returns-clause-next_put
returns-clause-next_put g c = λ v w puts adds place amount fresh h lt post. next_put v w puts adds fresh h place amount lt post

pub returns-clause-next_add : goal.returns-clause-next_add
returns-clause-next_add g c = λ v w puts adds word amount fresh h lt post. next_add v w puts adds fresh h word amount lt post

pub returns-clause-worked : goal.returns-clause-worked
returns-clause-worked g c = λ v w u puts adds looks fresh h l all_puts all_adds. has_worked v w puts adds fresh h u looks l all_puts all_adds

pub returns-clause-give : goal.returns-clause-give
returns-clause-give g c = may_give
