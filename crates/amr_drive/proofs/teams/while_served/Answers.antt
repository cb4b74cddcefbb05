use Rattle.amr_drive.proofs.TeamSends.{recruits_sendable}
use Rattle.amr_drive.proofs.teams.while_served.Goals as goal

-- who has workers begin goes to another thread
pub join_mut-made-requires-send-F : goal.join_mut-made-requires-send-F
join_mut-made-requires-send-F g c κs within = let shared = c.type_bounds.sync-R in let gate_shared = c.type_bounds.sync-G in search recruits_sendable depth 16 fits 4000
