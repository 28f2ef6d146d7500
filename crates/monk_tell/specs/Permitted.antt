-- What a release chooses from, and what it may choose
use Rattle.std.specs.Prelude.{ℕ, Bool, List, ◌∷◌, ◌++◌, take, map, filter}
use Rattle.monk_kinds.specs.declared.mode.Rules.{Rules}
use Rattle.monk_history.specs.declared.event.From3.TheVariants as from
use Rattle.monk_history.specs.declared.event.Next.TheVariants as next
use Rattle.monk_history.specs.Meaning.{Choice.Queues, Release.with_next}
use Rattle.monk_history.specs.declared.event.{Event.Event, From3.From3, Next.Next}
use Rattle.monk_audit.specs.Settled.{permits}

-- the first seats of the queues that aren't empty
abbrev pub fronts : Queues → List (From3 × ℕ)
fronts q =
    map (λ j. (from.Waiter, j)) (take 1 q.waiters)
    ++ (map (λ j. (from.Signaller, j)) (take 1 q.signallers) ++ map (λ j. (from.Until, j)) (take 1 q.ready))

-- what could be chosen at most: only the front of a queue may be
abbrev pub candidates : Queues → List Next
candidates q =
    next.Stay ∷ next.Entry ∷ (map (λ j. next.Waiter j) (take 1 q.waiters)
    ++ (map (λ j. next.Signaller j) (take 1 q.signallers) ++ map (λ j. next.Until j) (take 1 q.ready)))

-- the candidates that are permitted, by these queues and whether the event must stay; the law
-- `permitted_are_listed` says that nothing else is
abbrev pub permitted_nexts : Rules → Queues → Bool → Event → List Next
permitted_nexts k q stays e = filter (λ x. permits k q stays (with_next x e)) (candidates q)
