-- How logs and their texts belong together.
use Rattle.std.specs.Prelude.{◌≡◌, List}
use Rattle.monk_logs.specs.Log.{LogHeading, HasLogText, log_text, Reading.log}
use Rattle.monk_logs.specs.declared.text.line.LogLine.{LogLine}

-- no two logs have the same text
abbrev pub OneLogEach : Type 0
OneLogEach = (h g : LogHeading) (xs ys : List LogLine) → HasLogText h xs → HasLogText g ys
    → log_text h xs ≡ log_text g ys → log h xs ≡ log g ys
