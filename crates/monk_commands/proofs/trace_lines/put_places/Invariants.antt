use Rattle.std.proofs.Common.{◌≡◌, ◌++◌}
use Rattle.std.specs.Prelude.{string_bytes}
use Rattle.monk_world.specs.WorldViews.{state_of_view}
use Rattle.monk_tell.specs.{Place.in_queues, Told.queues_of}
use Rattle.monk_commands.proofs.trace_lines.put_places.Given as goal
use Rattle.monk_commands.specs.Traced.{places_text}

-- the places of the seats so far come after the page
abbrev pub invariant-loop-seat : goal.invariant-loop-seat
invariant-loop-seat g l =
    string_bytes l.page ≡ string_bytes l.fn.page
    ++ places_text (state_of_view l.world) (in_queues (queues_of l.queues)) l.seat
