-- The texts of a run and of a place
use Rattle.std.specs.Prelude.{ℕ, List, ◌++◌, Some, None, codes}
use Rattle.std.specs.{List.join_with_byte, Fmt.decimal}
use Rattle.monk_logs.specs.{Log.log_words, declared.text.line.LogLine.LogLine}
use Rattle.monk_judge.specs.declared.place.Place.{Place}
use Rattle.monk_judge.specs.declared.place.Place.TheVariants.{Outside, Active, Waiting, Woken, RanOut}
use Rattle.monk_judge.specs.declared.step.Step.{Step, TheVariants.Tells, TheVariants.RunsOut, TheVariants.WakesUnasked}

-- a line as in its log, without its end
abbrev pub line_text : LogLine → List ℕ
line_text l = join_with_byte 32 (log_words l)

-- the line of a step, without its end
abbrev pub step_text : Step → List ℕ
step_text (Tells l None) = line_text l
step_text (Tells l (Some s)) = line_text l ++ codes " wakes " ++ decimal s
step_text (RunsOut s) = codes "out " ++ decimal s
step_text (WakesUnasked s) = codes "wake " ++ decimal s

-- where a thread is
abbrev pub place_text : Place → List ℕ
place_text Outside = codes "outside"
place_text Active = codes "active"
place_text (Waiting c) = codes "waiting " ++ decimal c
place_text (Woken c) = codes "woken " ++ decimal c
place_text (RanOut c) = codes "out " ++ decimal c
