-- A state of a world with its floor
use Rattle.std.specs.Prelude.{ℕ, Bool, nat_lt, ◌&&◌, [], ◌∷◌, ◌++◌}
use Rattle.monk_kinds.specs.declared.mode.Rules.{Rules}
use Rattle.monk_object.specs.Object.{Object}
use Rattle.monk_history.specs.Meaning.{Monitor.data_of, Waiters.waiters, Signallers.signallers, Signallers.is_empty}
use Rattle.monk_history.specs.Meaning.{Standing.standing, Untils.untils, Untils.ready_of}
use Rattle.monk_history.specs.declared.event.Event.{Event}
use Rattle.monk_floor.specs.View.{FloorView, monitor_of, stands_of}
use Rattle.monk_world.specs.World.{World}

-- the world; who knows, by a look in its present or last time as the active seat, that somebody waits for entry; and
-- the floor, which the active seat has. If there is none, it is at home
pub record State : Type 0 where
  pub world : World
  pub known : ℕ → Bool
  pub floor : FloorView

-- the floor with one more event
abbrev pub with_event : FloorView → Event → FloorView
with_event f e = record f { history = f.history ++ e ∷ [] }

-- whether a seat that is not active is in a queue of the history, or due from one
abbrev pub is_standing : Rules → Object → FloorView → ℕ → Bool
is_standing k o f j = nat_lt 0 (standing f.conds j (stands_of k o f))

-- whether nobody could be chosen from a queue
abbrev pub is_quiet : Rules → Object → FloorView → Bool
is_quiet k o f = is_empty (waiters f.history) && is_empty (signallers f.history) && is_empty
    (ready_of o (data_of (monitor_of k o f) f.history) (untils f.history))
