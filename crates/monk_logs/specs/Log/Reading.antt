-- How the first line and the others of a log are read from their words, and the whole log from its text.
use Rattle.std.specs.Prelude.{ℕ, List, [], ◌∷◌, ◌==◌, ◌&&◌, Option, Some, None, Result, Ok, nat_le, if◌then◌else◌, codes}
use Rattle.std.specs.Global.{Vec}
use Rattle.monk_object.specs.{declared.name.ObjectName.ObjectName, Names.object_word, Names.objects}
use Rattle.monk_history.specs.Text.Words.{◌>>=◌, Word, Taken, number_at, one_of, literal_at, end_at, with_rest}
use Rattle.monk_history.specs.{Limits.most_seats, Limits.most_conds, declared.text.fault.ReadFault.ReadFault}
use Rattle.monk_history.specs.Text.{Lines.lines_of, Lines.lines_at, Reading.act_at}
use Rattle.monk_logs.specs.declared.text.verb.LineVerb.TheVariants as verb
use Rattle.monk_logs.specs.Log.{LogHeading, log_heading, log_version}
use Rattle.monk_logs.specs.declared.text.line.LogLine.{LogLine}
use Rattle.monk_logs.specs.declared.text.line.LogLine.TheVariants.{Enter, Resume, Lapse, Leave, Wait, Signal, Broadcast}
use Rattle.monk_logs.specs.declared.text.line.LogLine.TheVariants.{Until, Act}
use Rattle.monk_logs.specs.declared.text.verb.LineVerb.{LineVerb}

-- ---- a line

-- the word of a verb
abbrev pub log_verb_word : LineVerb → Word
log_verb_word verb.Enter = codes "enter"
log_verb_word verb.Resume = codes "resume"
log_verb_word verb.Lapse = codes "lapse"
log_verb_word verb.Leave = codes "leave"
log_verb_word verb.Wait = codes "wait"
log_verb_word verb.Signal = codes "signal"
log_verb_word verb.Broadcast = codes "broadcast"
log_verb_word verb.Until = codes "until"
log_verb_word verb.Act = codes "act"

-- each verb once
abbrev pub log_verbs : List LineVerb
log_verbs = verb.Enter ∷ verb.Resume ∷ verb.Lapse ∷ verb.Leave ∷ verb.Wait ∷ verb.Signal ∷ verb.Broadcast ∷ verb.Until
    ∷ verb.Act ∷ []

-- the line that the words after its verb and its seat give
unfoldable pub line_after : LineVerb → ℕ → List Word → Taken LogLine
line_after verb.Enter s ws = Ok (Enter s, ws)
line_after verb.Resume s ws = Ok (Resume s, ws)
line_after verb.Lapse s ws = Ok (Lapse s, ws)
line_after verb.Leave s ws = Ok (Leave s, ws)
line_after verb.Wait s ws = number_at 255 ws >>= λ c. Ok (Wait s c.0, c.1)
line_after verb.Signal s ws = number_at 255 ws >>= λ c. Ok (Signal s c.0, c.1)
line_after verb.Broadcast s ws = number_at 255 ws >>= λ c. Ok (Broadcast s c.0, c.1)
line_after verb.Until s ws = number_at 255 ws >>= λ p. Ok (Until s p.0, p.1)
line_after verb.Act s ws = act_at ws >>= λ a. Ok (Act s a.0.0 a.0.1, a.1)

-- a verb, a seat, what the verb wants, and no word more
unfoldable pub log_line_at : List Word → Taken LogLine
log_line_at ws = do
  v ← one_of log_verb_word log_verbs ws
  s ← number_at 255 v.1
  l ← line_after v.0 s.0 s.1
  end ← end_at l.1
  Ok (l.0, end.1)

-- ---- a first line

-- the heading by its parts, if each is in range
abbrev pub log_heading_of : ℕ → ℕ → ObjectName → ℕ → Option LogHeading
log_heading_of seats conds object size =
    if nat_le 1 seats && nat_le seats most_seats && nat_le conds most_conds && nat_le 1 size
    then Some (log_heading seats conds object size) else None

-- the heading that those words give
unfoldable pub log_header_at : List Word → Taken LogHeading
log_header_at ws = do
  l ← literal_at (codes "log") ws
  v ← number_at 255 l.1
  s ← number_at 255 v.1
  c ← number_at 255 s.1
  o ← one_of object_word objects c.1
  z ← number_at 255 o.1
  end ← end_at z.1
  with_rest end.1 (if v.0 == log_version o.0 then log_heading_of s.0 c.0 o.0 z.0 else None)

-- ---- a text

-- a header and its lines
abbrev pub Log : Type 0
Log = LogHeading × List LogLine

-- a log by its heading and its lines
abbrev pub log : LogHeading → List LogLine → Log
log h lines = (h, lines)

-- the same from what a function returned
abbrev pub log_view : LogHeading × Vec LogLine → Log
log_view r = log r.0 r.1.items

-- no line depends on the header
abbrev pub line_under : LogHeading → List Word → Taken LogLine
line_under h ws = log_line_at ws

-- the log of the text, or the text's first fault
abbrev pub log_at : ℕ → List ℕ → Result Log ReadFault
log_at limit bytes = lines_at log_header_at line_under limit (lines_of bytes)
