use Rattle.std.proofs.Common.{ap, sym, ◌∙◌, arith}
use Rattle.monk_floor.proofs.CallLaws.{makes_no_signaller, none_steps_back, replyless}
use Rattle.monk_floor.proofs.floor.Floor.next_past.Goals as goal
use Rattle.std.proofs.lemmas.Grind.{common_steps}

pub next_equal-requires-clause-release : goal.next_equal-requires-clause-release
next_equal-requires-clause-release g c κs within = replyless g.T.Guarded.meaning c.args.event c.requires.release

pub next_ready-requires-clause-release : goal.next_ready-requires-clause-release
next_ready-requires-clause-release g c κs within = replyless g.T.Guarded.meaning c.args.event c.requires.release

pub next_waiter-requires-clause-release : goal.next_waiter-requires-clause-release
next_waiter-requires-clause-release g c κs within =
    let is = sym (ap (λ r. r.mode) c.rules_of.ensures) ∙ c.in-ImmediateReturn.is in
    grind (arith, common_steps, makes_no_signaller, none_steps_back)
