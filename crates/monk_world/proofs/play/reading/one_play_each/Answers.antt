use Rattle.monk_world.proofs.PlayLaws.PlayText.{play_one}
use Rattle.monk_world.proofs.play.reading.one_play_each.Goals as goal

pub returns : goal.returns
returns c = play_one
