use Rattle.std.proofs.Common.{length}
use Rattle.amr_disk.specs.Image.{Torn}
use Rattle.amr_disk.specs.Replay.{torn_same}
use Rattle.amr_store.specs.Phases.{TornTwice, TornThrice}
use Rattle.amr_store.proofs.Runs.{only_at, writes, two_writes, three_writes, syncs, weaker}
use Rattle.amr_store.proofs.device.write_three_synced.Goals as goal

pub returns-in_err-write_at-clause-stops : goal.returns-in_err-write_at-clause-stops
returns-in_err-write_at-clause-stops g c s is =
    let m = g.D.Disk.moment in
    let l = g.D.Disk.leaves in
    let a = c.args.first.at in
    let n = length c.args.first.bytes.now in
    weaker m l c.args.disk.now c.write_at.new.self (Torn a n s) (TornThrice c.args.first.at (length c.args.first.bytes.now) c.args.second.at (length c.args.second.bytes.now) c.args.third.at (length c.args.third.bytes.now) s)
    (λ d t. (d, (d, t, torn_same _ _ d), torn_same _ _ d)) (writes m l c.args.disk.now c.write_at.new.self a n s (only_at m l c.args.disk.now _ s is c.requires.settled) c.write_at.ensures.images)

pub returns-in_err-write_at-2-clause-stops : goal.returns-in_err-write_at-2-clause-stops
returns-in_err-write_at-2-clause-stops g c s is =
    let m = g.D.Disk.moment in
    let l = g.D.Disk.leaves in
    weaker m l c.args.disk.now c.write_at-2.new.self (TornTwice c.args.first.at (length c.args.first.bytes.now) c.args.second.at (length c.args.second.bytes.now) s) (TornThrice c.args.first.at (length c.args.first.bytes.now) c.args.second.at (length c.args.second.bytes.now) c.args.third.at (length c.args.third.bytes.now) s) (λ d t. (d, t, torn_same _ _ d))
    (two_writes m l c.args.disk.now c.write_at.new.self c.write_at-2.new.self c.args.first.at (length c.args.first.bytes.now) c.args.second.at (length c.args.second.bytes.now) s (only_at m l c.args.disk.now _ s is c.requires.settled) c.write_at.ensures.images c.write_at-2.ensures.images)

pub returns-in_err-write_at-3-clause-stops : goal.returns-in_err-write_at-3-clause-stops
returns-in_err-write_at-3-clause-stops g c s is =
    three_writes g.D.Disk.moment g.D.Disk.leaves c.args.disk.now c.write_at.new.self c.write_at-2.new.self c.write_at-3.new.self c.args.first.at (length c.args.first.bytes.now) c.args.second.at (length c.args.second.bytes.now) c.args.third.at (length c.args.third.bytes.now) s
    (only_at g.D.Disk.moment g.D.Disk.leaves c.args.disk.now _ s is c.requires.settled) c.write_at.ensures.images c.write_at-2.ensures.images c.write_at-3.ensures.images

pub returns-in_err-sync-clause-stops : goal.returns-in_err-sync-clause-stops
returns-in_err-sync-clause-stops g c s is =
    let m = g.D.Disk.moment in
    let l = g.D.Disk.leaves in
    let written = three_writes m l c.args.disk.now c.write_at.new.self c.write_at-2.new.self c.write_at-3.new.self c.args.first.at (length c.args.first.bytes.now) c.args.second.at (length c.args.second.bytes.now) c.args.third.at (length c.args.third.bytes.now) s
    (only_at m l c.args.disk.now _ s is c.requires.settled) c.write_at.ensures.images c.write_at-2.ensures.images c.write_at-3.ensures.images in
    syncs m l c.args.disk.now c.write_at-3.new.self c.sync.new.self (TornThrice c.args.first.at (length c.args.first.bytes.now) c.args.second.at (length c.args.second.bytes.now) c.args.third.at (length c.args.third.bytes.now) s) written c.sync.ensures.images.passes

pub returns-clause-stops : goal.returns-clause-stops
returns-clause-stops g c s is =
    let m = g.D.Disk.moment in
    let l = g.D.Disk.leaves in
    let written = three_writes m l c.args.disk.now c.write_at.new.self c.write_at-2.new.self c.write_at-3.new.self c.args.first.at (length c.args.first.bytes.now) c.args.second.at (length c.args.second.bytes.now) c.args.third.at (length c.args.third.bytes.now) s
    (only_at m l c.args.disk.now _ s is c.requires.settled) c.write_at.ensures.images c.write_at-2.ensures.images c.write_at-3.ensures.images in
    syncs m l c.args.disk.now c.write_at-3.new.self c.sync.new.self (TornThrice c.args.first.at (length c.args.first.bytes.now) c.args.second.at (length c.args.second.bytes.now) c.args.third.at (length c.args.third.bytes.now) s) written c.sync.ensures.images.passes
