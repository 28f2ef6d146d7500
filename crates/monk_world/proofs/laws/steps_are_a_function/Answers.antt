use Rattle.monk_world.proofs.StepCases.{steps_answered, steps_determined}
use Rattle.monk_world.proofs.laws.steps_are_a_function.Goals as goal

pub returns : goal.returns
returns c = record { answered = steps_answered; determined = steps_determined }
