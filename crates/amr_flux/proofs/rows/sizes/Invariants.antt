use Rattle.std.proofs.Common.{◌≡◌, ℕ, ◌<◌, slice_index, slice_index_or, pos}
use Rattle.amr_faces.specs.Shares.{share_of}
use Rattle.amr_flux.proofs.rows.sizes.Given as goal

-- the sizes before place k are worked out
abbrev pub invariant-loop-k : goal.invariant-loop-k
invariant-loop-k l = (k : ℕ) → k < l.k → slice_index_or l.sizes k (pos 0) ≡ pos (share_of l.share.number l.share.parts (slice_index l.cells k))

abbrev pub invariant-loop-i : goal.invariant-loop-i
invariant-loop-i l = (k : ℕ) → k < l.i → slice_index_or l.sizes k (pos 0) ≡ pos (share_of l.share.number l.share.parts (slice_index l.cells k))
