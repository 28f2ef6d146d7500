use Rattle.std.proofs.Common.{◌≡◌, ℕ, [], ◌∷◌, sym, ap, arith}
use Rattle.std.proofs.lemmas.{Bool.Decides.nat_tests, Grind.common_steps}
use Rattle.monk_kinds.specs.declared.mode.Rules.{Rules}
use Rattle.monk_hall.specs.declared.setting.Setting.{Setting}
use Rattle.monk_samples.proofs.crew.round.visit_shop.Goals as goal
use Rattle.monk_samples.specs.{Rounds.visits_of, Members.sits, Members.departs, Members.calls, Members.finishes}
use Rattle.monk_samples.specs.declared.{manner.Manner.Manner, sample.Sample.TheVariants.Shop}

module _ (m : Manner) (k : Rules) (c : Setting) (seats seat round : ℕ) where
  -- the round of the barber
  of_barber : seat ≡ 0 → calls ∷ finishes ∷ [] ≡ visits_of Shop m k c seats seat round
  of_barber first = sym (ap (λ n. visits_of Shop m k c seats n round) first)

  -- the round of every other seat
  of_customer : (seat ≡ 0 → ⊥) → sits ∷ departs ∷ [] ≡ visits_of Shop m k c seats seat round
  of_customer other = grind (arith, nat_tests)

pub returns-then-seat-eq0-clause-visited : goal.returns-then-seat-eq0-clause-visited
returns-then-seat-eq0-clause-visited g c = grind (arith, common_steps)

pub returns-else-seat-eq0-clause-visited : goal.returns-else-seat-eq0-clause-visited
returns-else-seat-eq0-clause-visited g c = grind (arith, common_steps)

pub returns-then-seat-eq0-clause-back : goal.returns-then-seat-eq0-clause-back
returns-then-seat-eq0-clause-back g c = grind (arith, common_steps)

pub returns-else-seat-eq0-clause-back : goal.returns-else-seat-eq0-clause-back
returns-else-seat-eq0-clause-back g c = grind (arith, common_steps)
