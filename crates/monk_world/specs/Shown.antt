-- Answers and places in words, and the grant that a seat looks for
use Rattle.std.specs.Prelude.{ℕ, ◌+◌, ◌%◌, ◌==◌, Bool, true, false, List, [], ◌∷◌, codes}
use Rattle.std.specs.Fmt.{decimal}
use Rattle.monk_history.specs.Text.{next_words, Words.Word}
use Rattle.monk_world.specs.{State.State, World.World}
use Rattle.monk_world.specs.declared.place.Place.{Place}
use Rattle.monk_world.specs.declared.place.Place.TheVariants.{Idle, Ticket, Due, Active, Back, Passing, Inner}
use Rattle.monk_world.specs.declared.answer.Answer.{Answer}
use Rattle.monk_world.specs.declared.answer.Answer.TheVariants.{Arrived, Looked, Found, Now, Chose, GrantedTicket}
use Rattle.monk_world.specs.declared.answer.Answer.TheVariants.{GrantedSeat, Reply, Woke, Range, NoCall, NotNow, Tired}

-- the words of an answer
abbrev pub answer_words : Answer → List Word
answer_words (Arrived ticket found) = codes "arrived" ∷ decimal ticket ∷ decimal found ∷ []
answer_words (Looked true) = codes "looked" ∷ codes "yes" ∷ []
answer_words (Looked false) = codes "looked" ∷ codes "no" ∷ []
answer_words (Found found) = codes "found" ∷ decimal found ∷ []
answer_words Now = codes "now" ∷ []
answer_words (Chose next) = codes "chose" ∷ next_words next
answer_words (GrantedTicket ticket) = codes "granted" ∷ codes "ticket" ∷ decimal ticket ∷ []
answer_words (GrantedSeat seat) = codes "granted" ∷ codes "seat" ∷ decimal seat ∷ []
answer_words (Reply reply) = codes "replied" ∷ decimal reply ∷ []
answer_words (Woke served) = codes "woke" ∷ decimal served ∷ []
answer_words Range = codes "refused" ∷ codes "range" ∷ []
answer_words NoCall = codes "refused" ∷ codes "no-call" ∷ []
answer_words NotNow = codes "refused" ∷ codes "not-now" ∷ []
answer_words Tired = codes "refused" ∷ codes "tired" ∷ []

-- the words of a place
abbrev pub place_words : Place → List Word
place_words Idle = codes "idle" ∷ []
place_words (Ticket ticket) = codes "ticket" ∷ decimal ticket ∷ []
place_words (Due source) = codes "due" ∷ []
place_words (Active source) = codes "active" ∷ []
place_words (Back next home) = codes "back" ∷ next_words next
place_words (Passing ticket home) = codes "passing" ∷ decimal ticket ∷ []
place_words Inner = codes "inner" ∷ []

-- whether the grant that seat i at this place looks for is there: its ticket in the ticket's place, or one call more
-- in its own place than it has counted
abbrev pub is_granted_at : ℕ → World → ℕ → Place → Bool
is_granted_at seats w i Idle = false
is_granted_at seats w i (Ticket ticket) = w.ticket_place (ticket % seats) == ticket + 1
is_granted_at seats w i (Due source) = false
is_granted_at seats w i (Active source) = false
is_granted_at seats w i (Back next home) = false
is_granted_at seats w i (Passing ticket home) = false
is_granted_at seats w i Inner = w.seat_place i == w.count i + 1

-- whether the seat's grant is there
abbrev pub is_granted : State → ℕ → Bool
is_granted s i = is_granted_at s.floor.seats s.world i (s.world.place i)
