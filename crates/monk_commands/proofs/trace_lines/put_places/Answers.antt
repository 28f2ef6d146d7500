use Rattle.std.proofs.Common.{List, ℕ, ◌+◌, ◌++◌, ap, ◌∙◌}
use Rattle.std.specs.Prelude.{string_bytes}
use Rattle.monk_world.specs.WorldViews.{state_of_view}
use Rattle.monk_tell.specs.{Place.in_queues, Told.queues_of}
use Rattle.monk_commands.proofs.trace_lines.put_places.Goals as goal
use Rattle.monk_commands.proofs.Traces.{places_more, with_seat}
use Rattle.monk_commands.specs.Traced.{places_text, seat_text}

pub loop-seat-preserved : goal.loop-seat-preserved
loop-seat-preserved g c =
    let s = state_of_view c.args.world.now in
    let stands = in_queues (queues_of c.args.queues.now) in
    let j = c.loop-seat.seat in
    c.in_ok-put_place.ensures stands c.in_queues.ensures
    ∙ (ap (λ (page : List ℕ). page ++ seat_text s stands j) c.loop-seat.invariant
    ∙ with_seat (string_bytes c.args.page.now) (places_text s stands j) (seat_text s stands j)
    (places_text s stands (j + 1))
    (places_more s stands j))
