use Rattle.std.proofs.Common.{◌≡◌, length, arith}
use Rattle.amr_regrid.proofs.Planned.{none_installed, one_more}
use Rattle.amr_regrid.proofs.plans.install_all.Goals as goal

pub loop-plan-init : goal.loop-plan-init
loop-plan-init c = none_installed c.args.plans.items c.args.meshes.now c.requires.count

pub loop-plan-preserved : goal.loop-plan-preserved
loop-plan-preserved c =
    let less = c.pop.new.self.items in
    let place : c.len.result ≡ length less = omega (arith, c.len.ensures) in
    one_more c.args.plans.items c.args.meshes.now c.loop-plan.plans.items c.loop-plan.meshes c.loop-plan.invariant c.requires.count less c.in-Some.plan c.in-Some.ensures.items c.len.result c.index-meshes-len.result c.install.new.mesh place c.install.ensures

pub returns : goal.returns
returns c = λ k m r h.
    let none : length c.loop-plan.plans.items ≡ 0 = omega (arith, c.in_default.ensures.cases.0) in
    c.loop-plan.invariant.done k m r (omega (arith, none)) h
