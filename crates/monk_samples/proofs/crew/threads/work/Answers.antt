use Rattle.std.proofs.Common.{rules, ◌≡◌, ℕ, true, arith}
use Rattle.std.proofs.lemmas.Grind.{common_steps}
use Rattle.monk_hall.specs.declared.setting.Setting.{Setting}
use Rattle.monk_samples.proofs.crew.threads.work.Goals as goal
use Rattle.monk_samples.{specs.Rounds.round_of, proofs.RoundLaws.no_round, proofs.RoundLaws.round_done}

pub loop-done-init : goal.loop-done-init
loop-done-init g c = let k = g.K.Kind.rules in let w = c.args.worker in (
  c.requires.ready.0,
  no_round k g.T.Guarded.meaning (g.G.Gate.answers w.gate.now)
      (λ (z : Setting) (s r : ℕ). round_of w.rota.scenario k z w.rota.seats s r) w.pass,
)

pub loop-done-preserved : goal.loop-done-preserved
loop-done-preserved g c =
    let k = g.K.Kind.rules in let w = c.args.worker in let let_in : c.pass.result ≡ true = search rules in (
      c.do_round-back.ensures.back,
      round_done k g.T.Guarded.meaning (g.G.Gate.answers w.gate.now)
          (λ (z : Setting) (s r : ℕ). round_of w.rota.scenario k z w.rota.seats s r)
          c.loop-done.done c.seat-seat.result c.pass.result w.pass c.loop-done.pass c.do_round-back.result.0
          c.do_round-back.result.1
          c.seat-seat.ensures c.loop-done.invariant.1 c.pass.ensures let_in
          c.do_round-back.ensures.visited c.in-Done.is,
    )

pub returns-in_default-clause-served : goal.returns-in_default-clause-served
returns-in_default-clause-served g c = grind (arith, common_steps)

pub returns-then-not-pass-clause-served : goal.returns-then-not-pass-clause-served
returns-then-not-pass-clause-served g c = grind (arith, common_steps)

pub returns-clause-served : goal.returns-clause-served
returns-clause-served g c = grind (arith, common_steps)
