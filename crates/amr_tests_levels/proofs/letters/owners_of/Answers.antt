use Rattle.std.proofs.Common.{◌∙◌, ℕ, List, length, sym, subst}
use Rattle.std.specs.Global.{Vec}
use Rattle.std.proofs.lemmas.List.{length-map}
use Rattle.amr_balance.specs.Shares.{lists_in}
use Rattle.amr_owners.specs.Owners.{AreOwners}
use Rattle.amr_tests_levels.proofs.letters.owners_of.Goals as goal

pub ranks_of-requires-clause-owners : goal.ranks_of-requires-clause-owners
ranks_of-requires-clause-owners c =
    let xs = c.in_ok-numbers.numbers.items in
    let owners = c.in_ok-numbers.ensures.owners in
    subst (λ (vs : List (Vec ℕ)). AreOwners (lists_in vs) (length vs) (length c.args.patches.now)) (sym c.deref.ensures.value)
    (subst (λ n. AreOwners (lists_in xs) n (length c.args.patches.now)) (sym owners.lists ∙ length-map xs (λ (v : Vec ℕ). v.items)) owners)
