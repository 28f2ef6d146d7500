-- What a seat of a run does, round by round
use Rattle.std.specs.Prelude.{ℕ, zero, suc, ◌+◌, ◌-◌, ◌*◌, ◌/◌, ◌<◌, ◌≤◌, Bool, true, false, List, [], ◌∷◌, ◌++◌}
use Rattle.std.specs.Prelude.{nat_lt, nat_eq, if◌then◌else◌}
use Rattle.monk_kinds.specs.declared.mode.Rules.{Rules}
use Rattle.monk_object.specs.Object.{Object}
use Rattle.monk_hall.specs.{Tokens.Token, declared.setting.Setting.Setting}
use Rattle.monk_samples.specs.Members.{puts_by, takes_by, begins_to_read, ends_to_read, begins_to_write, ends_to_write}
use Rattle.monk_samples.specs.Members.{sits, departs, calls, finishes}
use Rattle.monk_samples.specs.Visits.{Plan, AreVisits, HasVisited}
use Rattle.monk_samples.specs.declared.{manner.Manner.Manner, scenario.Scenario.Scenario}
use Rattle.monk_samples.specs.declared.end.End.{End, TheVariants.Done, TheVariants.Tired, TheVariants.Late}
use Rattle.monk_samples.specs.declared.sample.Sample.{Sample, TheVariants.Buffer, TheVariants.Book, TheVariants.Shop}
use Rattle.monk_samples.specs.Trails.{Addition, HasCalled, outside}

-- how many rounds a seat has. Two halves work on a buffer or a book. In a shop the first seat is the barber, who has
-- one for each round of every other seat
abbrev pub rounds_of : Sample → ℕ → ℕ → ℕ → ℕ
rounds_of Buffer seats rounds seat = if nat_lt seat (seats / 2 * 2) then rounds else 0
rounds_of Book seats rounds seat = if nat_lt seat (seats / 2 * 2) then rounds else 0
rounds_of Shop seats rounds seat = if nat_eq seat 0 then (seats - 1) * rounds else rounds

-- the visits of a seat in a round, counted from 1. Those of a buffer are made in that manner
abbrev pub visits_of : Sample → Manner → Rules → Setting → ℕ → ℕ → ℕ → List Plan
visits_of Buffer m k c seats seat round = if nat_lt seat (seats / 2) then puts_by m round ∷ [] else takes_by m ∷ []
visits_of Book m k c seats seat round =
    if nat_lt seat (seats / 2) then begins_to_read ∷ ends_to_read k c ∷ []
    else begins_to_write ∷ ends_to_write k ∷ []
visits_of Shop m k c seats seat round = if nat_eq seat 0 then calls ∷ finishes ∷ [] else sits ∷ departs ∷ []

-- the visits of a scenario
abbrev pub round_of : Scenario → Rules → Setting → ℕ → ℕ → ℕ → List Plan
round_of s k c seats seat round = visits_of s.sample s.manner k c seats seat round

-- the visits of rounds 1 to n
abbrev pub rounds_to : (ℕ → List Plan) → ℕ → List Plan
rounds_to round zero = []
rounds_to round (suc n) = rounds_to round n ++ round (suc n)

-- a seat was let into rounds 1 to n, and has made all their visits and no other call
pub record HasDoneRounds (k : Rules) (o : Object) (answers : ℕ → Bool → Type 0) (round : ℕ → List Plan)
    (n : ℕ) (p q : Token) : Type 0 where
  pub calls : List Addition
  pub called : HasCalled (outside p) (outside q) calls
  pub are : AreVisits k o p.me.setting p.me.seat Done (rounds_to round n) calls
  pub let_in : (r : ℕ) → 1 ≤ r → r ≤ n → answers r true

-- the seat did fewer rounds than all, was let into the next, and was cut short there
pub record WasCutShort (k : Rules) (o : Object) (answers : ℕ → Bool → Type 0) (round : ℕ → List Plan)
    (rounds : ℕ) (p q : Token) : Type 0 where
  pub n : ℕ
  pub fewer : n < rounds
  pub last : Token
  pub done : HasDoneRounds k o answers round n p last
  pub let_in : answers (n + 1) true
  pub visited : HasVisited k o last (round (n + 1)) q Tired

-- the seat did fewer rounds than all, and was not let into the next
pub record WasSentAway (k : Rules) (o : Object) (answers : ℕ → Bool → Type 0) (round : ℕ → List Plan)
    (rounds : ℕ) (p q : Token) : Type 0 where
  pub n : ℕ
  pub fewer : n < rounds
  pub done : HasDoneRounds k o answers round n p q
  pub sent_away : answers (n + 1) false

-- the seat has done its rounds, or it ended early for that reason
abbrev pub HasWorked : Rules → Object → (ℕ → Bool → Type 0) → (ℕ → List Plan) → ℕ → Token → Token → End → Type 0
HasWorked k o answers round rounds p q Done = HasDoneRounds k o answers round rounds p q
HasWorked k o answers round rounds p q Tired = WasCutShort k o answers round rounds p q
HasWorked k o answers round rounds p q Late = WasSentAway k o answers round rounds p q

-- the seat of p has worked in a run of the scenario, with these answers of the gate
abbrev pub HasServed : Rules → Object → (ℕ → ℕ → Bool → Type 0) → Scenario → ℕ → ℕ → Token → Token → End → Type 0
HasServed k o answers s seats rounds p q end =
    HasWorked k o (answers p.me.seat) (round_of s k p.me.setting seats p.me.seat)
    (rounds_of s.sample seats rounds p.me.seat) p q end

-- it has worked all its rounds
abbrev pub HasServedToEnd : Rules → Object → (ℕ → ℕ → Bool → Type 0) → Scenario → ℕ → ℕ → Token → Type 0
HasServedToEnd k o answers s seats rounds p = (q : Token) × HasServed k o answers s seats rounds p q Done
