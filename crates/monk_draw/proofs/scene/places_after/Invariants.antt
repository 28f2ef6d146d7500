use Rattle.std.proofs.Common.{◌≡◌, map, take}
use Rattle.monk_tell.specs.Told.{standing_of}
use Rattle.monk_draw.specs.Scene.{places_below, row_of}
use Rattle.monk_draw.proofs.scene.places_after.Given as goal

-- where the seats are after the steps so far
abbrev pub invariant-loop-step : goal.invariant-loop-step
invariant-loop-step l =
    map row_of l.rows.items ≡ map (λ s. places_below (standing_of s.standing) l.seats) (take l.step-index l.steps)
