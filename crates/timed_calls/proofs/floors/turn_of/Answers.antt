use Rattle.std.proofs.Common.{◌∙◌, ap}
use Rattle.monk_history.{specs.Meaning.Turn.turn_after, proofs.PublicLaws.Meaning.turn_at_last}
use Rattle.timed_calls.proofs.floors.turn_of.Goals as goal

pub returns-in-None : goal.returns-in-None
returns-in-None c = ap turn_after c.in-None.ensures.value ∙ turn_at_last c.args.history.now

pub returns-in-Some : goal.returns-in-Some
returns-in-Some c = c.after.ensures ∙ (ap turn_after c.in-Some.ensures.value ∙ turn_at_last c.args.history.now)
