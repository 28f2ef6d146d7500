use Rattle.std.proofs.Common.{◌≡◌, ℕ, ◌++◌}
use Rattle.monk_hall.specs.Deeds.{looks_in_vain}
use Rattle.monk_hall.proofs.parked.Parked.resume.Given as goal

abbrev pub invariant-loop : goal.invariant-loop
invariant-loop g l = (l.parked.hall ≡ l.initial.parked.hall)
    × ((n : ℕ) × (l.parked.me ≡ record l.initial.parked.me {
      did = l.initial.parked.me.did ++ looks_in_vain n l.initial.parked.me.place;
    }))
