-- Which numbers ask for events of a history; events are counted from 1
use Rattle.std.specs.Prelude.{ℕ, ◌+◌, ◌-◌, ◌==◌, Option, Some, None, nat_lt, if◌then◌else◌}
use Rattle.monk_draw.specs.declared.window_fault.WindowFault.{WindowFault}
use Rattle.monk_draw.specs.declared.window_fault.WindowFault.TheVariants.{Zero, Backward, Wide}

-- the most events that can be asked for
abbrev pub most_asked : ℕ
most_asked = 2000

-- the first and the last number that are meant: if only one is given, as many events as can be
-- asked for; if none is given, none
abbrev pub numbers_meant : Option ℕ → Option ℕ → Option (ℕ × ℕ)
numbers_meant None None = None
numbers_meant None (Some to) = Some (to - most_asked + 1, to)
numbers_meant (Some from) None = Some (from, from + most_asked - 1)
numbers_meant (Some from) (Some to) = Some (from, to)

-- why the numbers from the first to the second name no events to show, if they don't
abbrev pub window_fault : ℕ → ℕ → Option WindowFault
window_fault from to =
    if from == 0 then Some Zero
    else if to == 0 then Some Zero
    else if nat_lt to from then Some (Backward from to)
    else if nat_lt to (from + most_asked) then None
    else Some (Wide from to)
