-- How plays and their texts belong together.
use Rattle.std.specs.Prelude.{◌≡◌, ℕ, List}
use Rattle.monk_history.specs.Text.{Heading}
use Rattle.monk_world.specs.{declared.command.Command.Command, Play.HasPlayText, Play.playtext, Play.Reading.play}

-- no two plays have one text
abbrev pub OnePlayEach : Type 0
OnePlayEach = (h g : Heading) (b c : ℕ) (xs ys : List (ℕ × Command)) → HasPlayText h b xs → HasPlayText g c ys
    → playtext h b xs ≡ playtext g c ys → play h b xs ≡ play g c ys
