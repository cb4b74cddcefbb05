-- After the round each rank knows the values of the ghost cells of its patches, and their frames are told.
use Rattle.std.proofs.Common.{◌≡◌, ◌∙◌, ℕ, ◌<◌, ◌^◌, List, length, get_or, refl, sym, subst, arith}
use Rattle.std.specs.Prelude.{IfOk, IfSome, slice_index}
use Rattle.std.specs.declared.result.Result.{Result}
use Rattle.std.specs.declared.result.Result.TheVariants.{Err, Ok}
use Rattle.std.specs.declared.option.Option.{Option}
use Rattle.std.specs.declared.option.Option.TheVariants.{Some}
use Rattle.std.specs.List.{All}
use Rattle.std.proofs.lemmas.List.{get_or-map}
use Rattle.amr_box.specs.Cells.{Extent}
use Rattle.amr_patch.specs.Patches.{box, masses_in}
use Rattle.amr_ranks.specs.Laws.{HasJust}
use Rattle.amr_post.specs.declared.ranks.Rank.{Rank}
use Rattle.amr_post.specs.Letters.{HasDelivered, MayDeliver}
use Rattle.amr_letters.specs.Sources.{AreOwned, Sharing, ghost_at, no_box, source}
use Rattle.amr_letters.specs.Between.{letters_for}
use Rattle.amr_letters.specs.Told.{HasPatchMasses, TellsFrame}
use Rattle.amr_letters.specs.Filled.{TellFrames}
use Rattle.amr_letters.specs.Shared.{AreRanksFor, KnowFrames}
use Rattle.amr_letters.proofs.Holders.{source_below}
use Rattle.amr_letters.proofs.Known.{knows}
use Rattle.amr_letters.proofs.Net.{masses_small}
use Rattle.amr_letters.proofs.Tells.{tells}

pub if_ok : {A E : Type 0} {P Q : A → Type 0} (r : Result A E) → IfOk r P → ((x : A) → P x → Q x) → IfOk r Q
if_ok (Ok x) h then = then x h
if_ok (Err e) h then = h

-- the letters of the ranks may go
pub may_deliver : (s : Sharing) (ranks : ℕ) (rs : List Rank) → AreRanksFor s ranks rs → All (λ (r : Rank). MayDeliver r.post r.node) rs
may_deliver s ranks rs h k d lt = (h.at k d (let c = h.counted in omega (arith, c, lt))).ready

module _ (s : Sharing) (ranks : ℕ) (own : AreOwned ranks s.patches s.owners) (coarser : AreOwned ranks s.coarser s.coarser_owners) where
  below : (k slot from : ℕ) → source s (ghost_at s k slot) ≡ Some from → from < ranks
  below k slot from is = source_below ranks s (ghost_at s k slot) from own coarser is

  -- they went
  module _ (old new : List Rank) (waits : AreRanksFor s ranks old) (same : length new ≡ length old)
      (went : (k : ℕ) (d : Rank) → k < length old → HasDelivered (get_or old k d).post (get_or old k d).node (get_or new k d).node) where
    just_at : (k : ℕ) (r : Rank) → k < ranks → HasJust (get_or new k r).node (length (get_or old k r).node.totals) (letters_for s ranks k)
    just_at k r lt = (went k r (let c = waits.counted in omega (arith, c, lt))).just (letters_for s ranks k) (waits.at k r lt).letters

    count : length new ≡ ranks
    count = same ∙ waits.counted

    small_at : (k : ℕ) (r : Rank) → k < ranks → HasPatchMasses (get_or new k r).node
    small_at k r lt = record {
      small = λ patch slot. subst (λ (o : Option ℕ). IfSome o (λ m. m < 2 ^ 32)) (sym ((just_at k r lt).cells patch slot)) (masses_small (letters_for s ranks k) (waits.at k r lt).small patch slot);
    }

    pub known : KnowFrames s ranks new
    known = record {
      counted = count;
      at = λ k r lt. knows s ranks k (length (get_or old k r).node.totals) (get_or new k r).node (just_at k r lt) below;
      small = λ k r lt. small_at k r (let c = count in omega (arith, c, lt));
    }

  -- what the ranks know tells the frames of the patches
  pub told : (rs : List Rank) → KnowFrames s ranks rs → TellFrames s.problem s.level (masses_in s.patches) (masses_in s.coarser) s.patches s.owners rs
  told rs h = record {
    at = λ k q r lt.
        (let owner_there : k < length s.owners = (let c = own.counted in omega (arith, c, lt)) in
        let ranked : slice_index s.owners k < ranks = own.ranked k _ owner_there in
        subst (λ (b : Extent). TellsFrame s.problem s.level (masses_in s.patches) (masses_in s.coarser) k b (get_or rs (slice_index s.owners k) r).node) (get_or-map box s.patches k q no_box lt)
        (tells s own.counted coarser.counted (slice_index s.owners k) k (get_or rs (slice_index s.owners k) r).node (h.at (slice_index s.owners k) r ranked) lt refl));
  }
