use Rattle.std.specs.List.{list_any}
use Rattle.std.proofs.Common.{take}
use Rattle.amr_def.specs.Domain.{domain_of}
use Rattle.amr_criterion.specs.Pairs.{IsJoined}
use Rattle.amr_criterion.specs.Tagged.{is_tagged_in}
use Rattle.amr_criterion.proofs.patches.tag_patches.Given as goal

abbrev pub invariant-loop-k : goal.invariant-loop-k
invariant-loop-k l = IsJoined (λ c. list_any (λ q. is_tagged_in l.threshold (domain_of l.dom) q c) (take l.k l.patches)) l.initial.tags l.tags
