-- When a seat may enter or resume
use Rattle.std.specs.Prelude.{◌≡◌, ℕ, ◌<◌, false, Some, List, []}
use Rattle.monk_kinds.specs.declared.mode.Pick.{Pick}
use Rattle.monk_history.specs.Meaning.{Events.next_of, Situation.Situation, Release.as_called, Release.choice_of}
use Rattle.monk_history.specs.Meaning.{Monitor.Monitor, Monitor.data_of, Waiters.waiters, Signallers.signallers}
use Rattle.monk_history.specs.Meaning.{Untils.untils, Untils.ready_of, Turn.turn, Turn.is_inside}
use Rattle.monk_history.specs.declared.event.{Next.TheVariants.Entry, Event.Event, From3.From3}
use Rattle.monk_history.specs.declared.event.Turn.TheVariants.{Open, Due}

-- nobody could be chosen from a queue
pub record IsQuiet (m : Monitor) (h : List Event) : Type 0 where
  pub waiters : waiters h ≡ []
  pub signallers : signallers h ≡ []
  pub ready : ready_of m.object (data_of m h) (untils h) ≡ []

-- the seat is outside and the turn is open
pub record IsAtDoor (m : Monitor) (h : List Event) (s : ℕ) : Type 0 where
  pub seat : s < m.seats
  pub free : turn h ≡ Open
  pub outside : is_inside s h ≡ false

-- the turn is due to the seat from that queue
pub record IsDueFrom (m : Monitor) (h : List Event) (s : ℕ) (q : From3) : Type 0 where
  pub seat : s < m.seats
  pub due : turn h ≡ Due s q

-- a release that lets the entry in, by the wish rules, although nobody is known to wait there
pub record AdmitsUnknown (m : Monitor) (t : Situation) (e : Event) (wish : Pick) : Type 0 where
  pub entry : next_of e ≡ Some Entry
  pub choice : choice_of m.kind m.object t (as_called e) false wish ≡ Entry
