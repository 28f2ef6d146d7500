use Rattle.monk_floor.proofs.links.Links.before.Given as goal
use Rattle.monk_floor.{specs.Links.queue_in, proofs.LinkLaws.Searching.IsSought}

abbrev pub invariant-loop : goal.invariant-loop
invariant-loop l =
    IsSought l.self-inside.next l.seat
    (queue_in l.self-inside.next l.self-inside.chains l.queue) l.end l.counter l.before
