-- What a seat does between two moments, by its own events
use Rattle.std.specs.Prelude.{◌≡◌, ℕ, Bool, ◌||◌, List, [], ◌∷◌, ◌++◌, map, if◌then◌else◌, is_some}
use Rattle.std.specs.List.{flat_map}
use Rattle.atomic_table.specs.Seated.{TableId}
use Rattle.monk_history.specs.{Meaning.Events.via_of, Meaning.Events.source_of, declared.event.Event.Event}
use Rattle.monk_hall.specs.{Floors.StartsWith, Tokens.Token, Tokens.Holder, declared.setting.Setting.Setting}

-- a seat at some moment: its hall, the longest history that it has seen, and its own events
pub record Trail : Type 0 where
  pub hall : TableId
  pub seat : ℕ
  pub setting : Setting
  pub seen : List Event
  pub mine : List Event

-- the trail of a seat that is outside or waits
abbrev pub outside : Token → Trail
outside p = record { hall = p.hall; seat = p.me.seat; setting = p.me.setting; seen = p.me.seen; mine = p.me.mine }

-- the trail of an active seat, which sees the history of its floor
abbrev pub inside : Holder → Trail
inside a = record { hall = a.hall; seat = a.me.seat; setting = a.me.setting; seen = a.floor.history; mine = a.me.mine }

-- an event that a seat added, and the history to which it added it
pub record Addition : Type 0 where
  pub before : List Event
  pub event : Event

-- the history with the event that was added
abbrev pub after : Addition → List Event
after d = d.before ++ d.event ∷ []

-- the events that were added
abbrev pub events_in : List Addition → List Event
events_in own = map (λ d. d.event) own

-- between these two histories they were added one after the other
abbrev pub AreBetween : List Event → List Event → List Addition → Type 0
AreBetween from to [] = StartsWith to from
AreBetween from to (d ∷ own) = StartsWith d.before from × AreBetween (after d) to own

-- the same seat later: what it has seen begins with what it had seen, and it has added these events
pub record Went (x y : Trail) (own : List Addition) : Type 0 where
  pub hall : y.hall ≡ x.hall
  pub seat : y.seat ≡ x.seat
  pub setting : y.setting ≡ x.setting
  pub seen : AreBetween x.seen y.seen own
  pub mine : y.mine ≡ x.mine ++ events_in own

-- whether a seat comes in by the event, an enter or a resume. No call asks for these
abbrev pub is_coming : Event → Bool
is_coming e = is_some (via_of e) || is_some (source_of e)

-- what was added, if it is by a call and not a seat's coming in
abbrev pub call_in : Addition → List Addition
call_in d = if is_coming d.event then [] else d ∷ []

-- what was added by calls
abbrev pub calls_in : List Addition → List Addition
calls_in own = flat_map call_in own

-- the seat has made these calls and no others, in this order
pub record HasCalled (x y : Trail) (calls : List Addition) : Type 0 where
  pub own : List Addition
  pub went : Went x y own
  pub called : calls_in own ≡ calls
