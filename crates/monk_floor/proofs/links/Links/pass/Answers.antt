use Rattle.monk_floor.proofs.links.Links.pass.Goals as goal

pub push-requires-clause-seat : goal.push-requires-clause-seat
push-requires-clause-seat c = c.in-Some.ensures.seat

pub push-requires-clause-apart : goal.push-requires-clause-apart
push-requires-clause-apart c = c.in-Some.ensures.apart
