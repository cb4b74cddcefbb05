-- The lines on two states, their digests worked out by another program.
use Rattle.std.proofs.Common.{◌≡◌, refl}
use Rattle.std.specs.Prelude.{codes}
use Rattle.std.specs.Fmt.{digits}
use Rattle.sha2.specs.Sha256.{compress, digest_bytes, first_words, hash_after, rounds, schedule, sha256}
use Rattle.hex.specs.Hex.{encode_with}
use Rattle.amr_def.specs.Domain.{in_domain}
use Rattle.amr_def.specs.Value.{value_at, inflow_at}
use Rattle.amr_def.specs.Flux.{flux_at, courant, net, updated}
use Rattle.amr_def.specs.LevelStep.{step_within, at_top}
use Rattle.amr_def.specs.Ledger.{total_mass, inflow, outflow}
use Rattle.amr_def.specs.Tags.{is_tagged_by}
use Rattle.amr_def.specs.Cut.{best_cut}
use Rattle.amr_def.specs.Cluster.{cluster, cluster_within}
use Rattle.amr_def.specs.NewBoxes.{new_boxes}
use Rattle.amr_def.specs.Regrid.{regrid, refill, regrid_by}
use Rattle.amr_def.specs.Run.{run, start, finish, next, stepped}
use Rattle.amr_def.specs.Plot.{box_line, box_text, head_text, ledger_line, ledger_lines, level_line, level_text, mass_line, plot_all, rows_text}
use Rattle.amr_examples.proofs.Examples.{filling, spot}
use Rattle.amr_trial.specs.Summary.{summary}

boxes_of_all_levels : summary 7 64 spot (run spot 0) ≡ codes "trial 7 64 step 0 levels 2 boxes 4 mass 7 sha256 bec4df96f922d060993c8c7af6bc59504cb97b1a5687626c339383cc03e6e572\n"
unfolding run start finish next stepped step_within at_top updated net flux_at courant value_at in_domain inflow_at total_mass inflow outflow regrid regrid_by refill new_boxes cluster cluster_within best_cut is_tagged_by plot_all head_text ledger_lines ledger_line level_text level_line box_text box_line rows_text mass_line digits first_words schedule rounds compress hash_after digest_bytes sha256 encode_with summary
boxes_of_all_levels = refl

mass_of_the_last_row : summary 3 8 filling (run filling 1) ≡ codes "trial 3 8 step 1 levels 1 boxes 1 mass 6 sha256 d116bf886d2e15df5a3b358dd17104cfe62da9796d83fa41cbdb795ef233e721\n"
unfolding run start finish next stepped step_within at_top updated net flux_at courant value_at in_domain inflow_at total_mass inflow outflow regrid regrid_by refill new_boxes cluster cluster_within best_cut is_tagged_by plot_all head_text ledger_lines ledger_line level_text level_line box_text box_line rows_text mass_line digits first_words schedule rounds compress hash_after digest_bytes sha256 encode_with summary
mass_of_the_last_row = refl
