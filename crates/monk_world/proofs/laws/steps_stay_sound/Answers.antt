use Rattle.monk_world.proofs.laws.steps_stay_sound.Goals as goal
use Rattle.monk_world.proofs.{RunLaws.opening_is_sound, SoundSteps.step_is_sound}

pub returns : goal.returns
returns c = record { opening = opening_is_sound; step = step_is_sound }
