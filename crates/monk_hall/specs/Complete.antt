-- When a history holds the calls of some seats, and nothing else
use Rattle.std.specs.Prelude.{◌≡◌, ◌≢◌, ℕ, List, [], All, AllPairs}
use Rattle.monk_history.specs.{Meaning.Counts.events_of, declared.event.Event.Event}
use Rattle.monk_hall.specs.{Floors.StartsWith, Tokens.Token}

-- these tokens are of different seats, and none is of the seat `seat`
abbrev pub AreApart : ℕ → List Token → Type 0
AreApart seat passes = All (λ p. seat ≢ p.me.seat) passes × AllPairs (λ p q. p.me.seat ≢ q.me.seat) passes

-- the history begins with what each of them has seen
abbrev pub HaveSeenPart : List Event → List Token → Type 0
HaveSeenPart history passes = All (λ p. StartsWith history p.me.seen) passes

-- each of these seats has exactly its own events in the history, and every other event is of the seat `seat`
pub record HoldsOnly (history : List Event) (seat : ℕ) (passes : List Token) : Type 0 where
  pub own : All (λ p. events_of history p.me.seat ≡ p.me.mine) passes
  pub others : (s : ℕ) → seat ≢ s → All (λ p. p.me.seat ≢ s) passes → events_of history s ≡ []
