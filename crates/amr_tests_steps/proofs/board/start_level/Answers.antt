use Rattle.std.proofs.Common.{◌≡◌, List, [], ◌∷◌, ◌++◌, length, map, sym, ap, ◌∙◌, arith}
use Rattle.std.proofs.lemmas.List.{length_push}
use Rattle.amr_patch.specs.declared.levels.Level.{Level as Held}
use Rattle.amr_patch.specs.Levels.{level_of}
use Rattle.amr_patch.specs.Meshes.{state_of}
use Rattle.amr_tests_steps.proofs.board.start_level.Goals as goal

-- the last of one is the only one
alone : (k b : Held) (ks xs : List Held) → xs ≡ ks ++ k ∷ [] → xs ≡ b ∷ [] → xs ≡ k ∷ []
alone k b [] xs last one = last
alone k b (j ∷ ks) xs last one = absurd (let n = length_push ks k in omega (arith, ap length last, ap length one, n))

pub returns : goal.returns
returns c =
    let m = c.in_ok-mesh.mesh in
    let base = c.in_ok-mesh.ensures in
    let only = alone c.in-Some.level base.patches.base c.pop.new.self.items c.take-levels.result.1.items c.in-Some.ensures.items (c.take-levels.ensures.all ∙ base.patches.alone) in
    record {
      state = state_of m;
      levels_are = sym c.take-levels.ensures.levels ∙ ap (map level_of) only;
      sound = base.sound;
      before = omega (arith, base.at_start, c.requires);
    }
