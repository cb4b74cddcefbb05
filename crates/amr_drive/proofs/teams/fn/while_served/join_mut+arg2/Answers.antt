use Rattle.amr_drive.proofs.TeamSends.{recruits_sendable}
use Rattle.amr_drive.proofs.teams.fn.while_served.join_mut+arg2.Goals as goal

pub serve_all-requires-send-P : goal.serve_all-requires-send-P
serve_all-requires-send-P g c κs within = search recruits_sendable depth 12 fits 2000
