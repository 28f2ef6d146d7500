use Rattle.std.proofs.Common.{◌<◌, ℕ, ◌∙◌, sym, refl, arith}
use Rattle.monk_floor.proofs.WaitLaws.{wait_times, wait_all, ready_here, ready_later, ready_never, ready_past}
use Rattle.monk_floor.proofs.choosing.first_ready.Goals as goal
use Rattle.std.proofs.lemmas.Grind.{common_steps}

pub loop-init : goal.loop-init
loop-init g c = record { here = c.first_until-wait.ensures; none = refl }

pub returns-in_default : goal.returns-in_default
returns-in_default g c =
    ready_never g.T.Guarded.meaning (g.T.Guarded.state c.args.object.now) c.args.queues.now.untils c.loop.counter
    c.loop.invariant.none (sym c.loop.invariant.here ∙ c.in_default.is)

pub holds-requires : goal.holds-requires
holds-requires g c =
    wait_all (λ (w : ℕ × ℕ). w.1 < g.T.Guarded.PREDICATES) c.args.queues.now.untils c.loop.counter
    (c.in-Some.seat, c.in-Some.pred)
    (sym c.loop.invariant.here ∙ c.in-Some.is) c.requires

pub returns-then-holds : goal.returns-then-holds
returns-then-holds g c =
    ready_here g.T.Guarded.meaning (g.T.Guarded.state c.args.object.now) c.args.queues.now.untils c.loop.counter
    c.loop.invariant.none c.in-Some.seat c.in-Some.pred (sym c.loop.invariant.here ∙ c.in-Some.is)
    (sym c.if-holds.ensures)

pub until_after-wait-requires : goal.until_after-wait-requires
until_after-wait-requires g c =
    wait_times c.args.queues.now.untils c.loop.counter c.in-Some.seat c.in-Some.pred
    (sym c.loop.invariant.here ∙ c.in-Some.is)

pub loop-preserved : goal.loop-preserved
loop-preserved g c = record {
  here = c.until_after-wait.ensures c.loop.counter c.in-Some.pred (sym c.loop.invariant.here ∙ c.in-Some.is);
  none = grind (arith, common_steps, ready_later);
}

pub returns : goal.returns
returns g c =
    ready_past g.T.Guarded.meaning (g.T.Guarded.state c.args.object.now) c.args.queues.now.untils c.loop.counter
    c.loop.invariant.none (let end = c.loop-test.false in let all = c.untils-end.ensures in omega (arith, end, all))
