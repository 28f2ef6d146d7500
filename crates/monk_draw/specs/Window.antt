-- Which events of a history are shown
use Rattle.std.specs.Prelude.{ℕ, ◌-◌, Bool, false, Option, Some, None, List, length, min, nat_lt, if◌then◌else◌}
use Rattle.monk_history.specs.declared.event.Event.{Event}
use Rattle.monk_draw.specs.declared.window.Window.{Window}

-- the most events that are shown if no window is asked for
abbrev pub most_shown : ℕ
most_shown = 200

-- how many events can be shown: those up to the first that is forbidden, if there is one, else all
abbrev pub showable : Option ℕ → ℕ → ℕ
showable None count = count
showable (Some step) count = if nat_lt step count then step else count

-- whether the window begins after all `count` events that can be shown
abbrev pub is_behind : Option Window → ℕ → Bool
is_behind None count = false
is_behind (Some w) count = nat_lt count w.from

-- the number of the last event that is shown, out of `count` that can be
abbrev pub shown_last : Option Window → ℕ → ℕ
shown_last None count = count
shown_last (Some w) count = min w.to count

-- how many events up to it are not shown: without a window all but the last `most_shown`
abbrev pub not_shown : Option Window → ℕ → ℕ
not_shown None last = last - most_shown
not_shown (Some w) last = min (w.from - 1) last

-- the number of the last event that is shown, counted from 1
abbrev pub last_of : Option Window → Option ℕ → List Event → ℕ
last_of w fault events = shown_last w (showable fault (length events))
