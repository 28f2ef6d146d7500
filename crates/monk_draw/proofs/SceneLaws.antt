-- Where seats are after steps
use Rattle.std.proofs.Common.{◌≡◌, ◌∙◌, ℕ, List, map, sym}
use Rattle.std.proofs.lemmas.Simd.{map-map}
use Rattle.monk_tell.specs.{Steps.step_of, Told.standing_of}
use Rattle.monk_tell.specs.declared.{place.SeatPlace.SeatPlace, step.Step.Step}
use Rattle.monk_draw.specs.Scene.{places_below}

-- the places after the steps, from the steps as data
pub rows_told : (seats : ℕ) (xs : List Step) (rows : List (List SeatPlace))
    → rows ≡ map (λ s. places_below (standing_of s.standing) seats) xs
    → rows ≡ map (λ t. places_below t.standing seats) (map step_of xs)
rows_told seats xs rows are = are ∙ sym (map-map (λ t. places_below t.standing seats) step_of xs)
