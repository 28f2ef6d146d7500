use Rattle.std.proofs.{Common.ap, Common.arith, lemmas.Grind.common_steps}
use Rattle.monk_hall.proofs.active.Active.record_signal_wait.Goals as goal
use Rattle.monk_hall.proofs.{KindLaws.immediate, Boxed.shown_apart}
use Rattle.monk_hall.proofs.ReleaseLaws.{has_cond, is_near, owns}
use Rattle.monk_history.proofs.PublicLaws.Meaning.{may_signal_wait}
use Rattle.monk_floor.specs.View.{monitor_of}

pub signal_wait-release-requires-clause-call : goal.signal_wait-release-requires-clause-call
signal_wait-release-requires-clause-call g c κs within =
    let x = shown_apart c.deref_mut.ensures.shows c.of-release.ensures in
    let h = x.holds in
    let f = c.deref_mut.result.now in
    may_signal_wait (monitor_of g.K.Kind.rules g.T.Guarded.meaning f) f.history c.of-release.result.numbers.seat
    c.args.cond c.args.wait_cond (owns h) (is_near h)
    (has_cond h c.args.cond c.args.self x.was c.requires.cond)
    (has_cond h c.args.wait_cond c.args.self x.was c.requires.wait_cond)
    (immediate g.K.Kind.rules g.K.Kind.MODE (ap (λ r. r.mode) g.K.Kind.are_rules)
    (g.met.K.ImmediateReturn g.world.𝓛 g.world.𝓜 g.world.𝓡 ((λ s x. x), (λ x. x), (λ x. x), λ x. x)).mode)

pub returns-clause-recorded : goal.returns-clause-recorded
returns-clause-recorded g c = grind (arith, common_steps)

pub returns-clause-away : goal.returns-clause-away
returns-clause-away g c = grind (arith, common_steps)
