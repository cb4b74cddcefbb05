use Rattle.std.proofs.Common.{◌≡◌, ℕ, ◌≤◌, ◌<◌, ◌+◌, ◌++◌, map, sym, ap, subst, ◌∙◌, arith}
use Rattle.amr_box.specs.declared.Face.{Face}
use Rattle.amr_faces.specs.Faces.{passing}
use Rattle.amr_layout.specs.Adds.{flow_to, flows_of, goes_on, word_of}
use Rattle.amr_layout.specs.Arounds.{around_of}
use Rattle.amr_layout.specs.Surroundings.{IsInRowOrColumn, IsNearFace, LiesBesideLevel, edge_count, edge_face}
use Rattle.amr_layout.proofs.Edges.{edge_in_level, edge_near}
use Rattle.amr_layout.proofs.Going.{flows_more, level_keeps}
use Rattle.amr_layout.proofs.Passing.{passing_none}
use Rattle.amr_layout.proofs.adds.append_flows.Goals as goal

pub word_of-word-requires-clause-lies : goal.word_of-word-requires-clause-lies
word_of-word-requires-clause-lies c =
    subst (IsInRowOrColumn c.args.s.problem.now c.args.s.level) (sym c.edge_face-f.ensures)
    (edge_in_level c.args.s.problem.now c.args.s.level c.args.b.now c.faces.n c.requires.near c.requires.inside (omega arith))

pub word_of-word-requires-clause-near : goal.word_of-word-requires-clause-near
word_of-word-requires-clause-near c = subst IsNearFace (sym c.edge_face-f.ensures) (edge_near c.args.b.now c.faces.n c.requires.near (omega arith))

pub faces-preserved : goal.faces-preserved
faces-preserved c =
    let s = around_of c.args.s in
    let b = c.args.b.now in
    let n = c.faces.n in
    let k = c.more_kept.result in
    let skipped : (m : ℕ) → n + 1 ≤ m → m < n + 1 + k → LiesBesideLevel s b (edge_face b m) = λ m from to. c.more_kept.ensures.beside m (omega arith) (omega arith) in
    record {
      within = omega (arith, c.more_kept.ensures.count);
      gap = c.word_of-word.ensures.gap;
      flows = flows_more (goes_on s b) (word_of s b) (edge_face b) n c.args.flows.now.items c.faces.flows.items c.append_flow.new.flows.items c.word_of-word.result c.edge_face-f.result
          c.edge_face-f.ensures c.word_of-word.ensures.told c.word_of-word.ensures.word c.faces.invariant.flows c.in_ok-append_flow.ensures
          ∙ ap (λ fs. c.args.flows.now.items ++ map (λ (g : Face). flow_to (word_of s b g) g) fs)
          (sym (passing_none (goes_on s b) (edge_face b) (n + 1) k (λ m from to. level_keeps s b (edge_face b m) (skipped m from to).not_open (skipped m from to).not_coarse_fine)));
    }

pub returns-clause-flows : goal.returns-clause-flows
unfolding flows_of
returns-clause-flows c =
    let s = around_of c.args.s in
    let b = c.args.b.now in
    let all : c.faces.n ≡ edge_count b = omega (arith, c.faces-test.false, c.faces.invariant.within, c.edge_count-count.ensures.value) in
    c.faces.invariant.flows ∙ ap (λ n. c.args.flows.now.items ++ map (λ (f : Face). flow_to (word_of s b f) f) (passing (goes_on s b) (edge_face b) n)) all
