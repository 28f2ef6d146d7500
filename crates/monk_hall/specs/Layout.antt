-- How the table's words and the seats' records show a world
use Rattle.std.specs.Prelude.{ℕ, ◌+◌, ◌-◌, ◌*◌, ◌/◌, ◌%◌, ◌^◌, List, slice_index}
use Rattle.monk_history.specs.declared.event.Event.{Event}
use Rattle.monk_floor.specs.View.{FloorView}
use Rattle.monk_world.specs.{State.State, World.World}
use Rattle.monk_world.specs.declared.place.Place.{Place}
use Rattle.monk_world.specs.declared.place.Place.TheVariants.{Idle, Ticket, Due, Active, Back, Passing, Inner}
use Rattle.monk_hall.specs.declared.{record.SeatRecord.SeatRecord, setting.Setting.Setting}

-- word 0 has the number of tickets drawn above its low 32 bits
abbrev pub tickets : ℕ → ℕ
tickets word = word / 4294967296

-- and in them the number of those not passed on
abbrev pub unpassed : ℕ → ℕ
unpassed word = word % 4294967296

-- the ticket word after one more ticket is drawn, and not yet passed on
abbrev pub one_drawn : ℕ → ℕ
one_drawn word = (word + (2 ^ 32 + 1)) % 2 ^ 64

-- the ticket word after one is passed on
abbrev pub one_passed : ℕ → ℕ
one_passed word = (word + (2 ^ 64 - 1)) % 2 ^ 64

-- the word of the ticket place with this number
abbrev pub place_word : ℕ → ℕ
place_word i = 2 * i + 1

-- the word in which that ticket's grant is stored
abbrev pub ticket_word : ℕ → ℕ → ℕ
ticket_word seats t = place_word (t % seats)

-- the word in which that seat's grant is stored
abbrev pub seat_word : ℕ → ℕ
seat_word j = 2 * j + 2

-- the word in which a seat's grant is stored, by the seat's place
abbrev pub waiting_word_at : ℕ → ℕ → Place → ℕ
waiting_word_at seats j Idle = seat_word j
waiting_word_at seats j (Ticket t) = ticket_word seats t
waiting_word_at seats j (Due q) = seat_word j
waiting_word_at seats j (Active q) = seat_word j
waiting_word_at seats j (Back x to) = seat_word j
waiting_word_at seats j (Passing t to) = seat_word j
waiting_word_at seats j Inner = seat_word j

-- the word in which a waiting seat will find its grant
abbrev pub waiting_word : SeatRecord → ℕ
waiting_word r = waiting_word_at r.setting.seats r.seat r.place

-- how many words a hall has
abbrev pub word_count : ℕ → ℕ
word_count seats = 2 * seats + 1

-- the world that the words and the records show
abbrev pub shown_world : List ℕ → (ℕ → SeatRecord) → World
shown_world words at = record {
  drawn = tickets (slice_index words 0);
  unpassed = unpassed (slice_index words 0);
  ticket_place = λ i. slice_index words (place_word i);
  seat_place = λ j. slice_index words (seat_word j);
  place = λ j. (at j).place;
  count = λ j. (at j).count;
}

-- a floor of this hall with this history
abbrev pub floor_of : Setting → List Event → FloorView
floor_of c h = record { opening = c.opening; seats = c.seats; conds = c.conds; budget = c.budget; history = h }

-- the state of the world that the words and the records show
abbrev pub shown_state : Setting → List ℕ → (ℕ → SeatRecord) → List Event → State
shown_state c words at h = record { world = shown_world words at; known = λ j. (at j).known; floor = floor_of c h }
