use Rattle.std.proofs.Common.{◌∙◌, ◌==◌, ℕ, List, Option, ap, option_map, sym}
use Rattle.std.specs.List.{find}
use Rattle.monk_tell.proofs.place.until_of.Goals as goal
use Rattle.monk_tell.specs.{Place.until_of, declared.lists.Waits.Waits}

pub returns-in-Some : goal.returns-in-Some
returns-in-Some c =
    c.first_wait.ensures
    ∙ ap (λ (ws : List (ℕ × ℕ)). option_map (λ w. w.1) (find (λ w. w.0 == c.args.seat) ws)) c.deref.ensures.value
    ∙ ap (λ (o : Option Waits). until_of (option_map (λ (w : Waits). w.0.items) o) c.args.seat) (sym c.in-Some.is)
