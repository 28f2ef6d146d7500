-- The text of a log: a line for its header, and a line for each thing that a thread wrote down.
pub mod Reading
pub mod Laws
use Rattle.std.specs.Prelude.{◌-◌, ℕ, ◌≤◌, ◌^◌, Bool, true, false, List, [], ◌∷◌, ◌++◌, codes}
use Rattle.std.specs.{List.flat_map, List.AllByRecursion, Fmt.decimal}
use Rattle.monk_object.specs.Names.{object_word}
use Rattle.monk_object.specs.declared.name.ObjectName.{ObjectName}
use Rattle.monk_object.specs.declared.name.ObjectName.TheVariants.{Buffer, Book, Shop, Flags}
use Rattle.monk_history.specs.{Limits.most_seats, Limits.most_conds, Text.Lines.line, Text.Words.Word}
use Rattle.monk_logs.specs.declared.text.line.LogLine.{LogLine}
use Rattle.monk_logs.specs.declared.text.line.LogLine.TheVariants.{Enter, Resume, Lapse, Leave, Wait, Signal, Broadcast}
use Rattle.monk_logs.specs.declared.text.line.LogLine.TheVariants.{Until, Act}

-- a header, as contracts see it
pub record LogHeading : Type 0 where
  pub seats : ℕ
  pub conds : ℕ
  pub object : ObjectName
  pub size : ℕ

-- a heading by its parts
abbrev pub log_heading : ℕ → ℕ → ObjectName → ℕ → LogHeading
log_heading seats conds object size = record { seats = seats; conds = conds; object = object; size = size }

-- the version of the logs that name the object
abbrev pub log_version : ObjectName → ℕ
log_version Buffer = 1
log_version Book = 1
log_version Shop = 1
log_version Flags = 2

-- ---- words

-- the words of a log's first line
abbrev pub log_header_words : LogHeading → List Word
log_header_words h =
    codes "log" ∷ decimal (log_version h.object) ∷ decimal h.seats ∷ decimal h.conds ∷ object_word h.object
    ∷ decimal h.size ∷ []

-- the words of a line
abbrev pub log_words : LogLine → List Word
log_words (Enter s) = codes "enter" ∷ decimal s ∷ []
log_words (Resume s) = codes "resume" ∷ decimal s ∷ []
log_words (Lapse s) = codes "lapse" ∷ decimal s ∷ []
log_words (Leave s) = codes "leave" ∷ decimal s ∷ []
log_words (Wait s c) = codes "wait" ∷ decimal s ∷ decimal c ∷ []
log_words (Signal s c) = codes "signal" ∷ decimal s ∷ decimal c ∷ []
log_words (Broadcast s c) = codes "broadcast" ∷ decimal s ∷ decimal c ∷ []
log_words (Until s p) = codes "until" ∷ decimal s ∷ decimal p ∷ []
log_words (Act s op reply) = codes "act" ∷ decimal s ∷ decimal op.code ∷ decimal op.arg ∷ decimal reply ∷ []

-- ---- the text

-- the text of a log
abbrev pub log_text : LogHeading → List LogLine → List ℕ
log_text h lines = line (log_header_words h) ++ flat_map (λ l. line (log_words l)) lines

-- ---- what has a text

-- each number of the heading is in its range
pub record IsLogHeading (h : LogHeading) : Type 0 where
  pub some_seat : 1 ≤ h.seats
  pub seats : h.seats ≤ most_seats
  pub conds : h.conds ≤ most_conds
  pub some_size : 1 ≤ h.size
  pub size : h.size ≤ 255

-- each number of the line is in its range
abbrev pub LineFits : LogLine → Type 0
LineFits (Enter s) = s ≤ 255
LineFits (Resume s) = s ≤ 255
LineFits (Lapse s) = s ≤ 255
LineFits (Leave s) = s ≤ 255
LineFits (Wait s c) = (s ≤ 255) × (c ≤ 255)
LineFits (Signal s c) = (s ≤ 255) × (c ≤ 255)
LineFits (Broadcast s c) = (s ≤ 255) × (c ≤ 255)
LineFits (Until s p) = (s ≤ 255) × (p ≤ 255)
LineFits (Act s op reply) = (s ≤ 255) × (op.code ≤ 255) × (op.arg ≤ 2 ^ 32 - 1) × (reply ≤ 2 ^ 64 - 1)

-- a log that has a text: its header and its lines are in range
pub record HasLogText (h : LogHeading) (lines : List LogLine) : Type 0 where
  pub header_fits : IsLogHeading h
  pub lines_fit : AllByRecursion LineFits lines

-- ---- parts of a line

-- the seat that wrote the line
abbrev pub line_seat : LogLine → ℕ
line_seat (Enter s) = s
line_seat (Resume s) = s
line_seat (Lapse s) = s
line_seat (Leave s) = s
line_seat (Wait s c) = s
line_seat (Signal s c) = s
line_seat (Broadcast s c) = s
line_seat (Until s p) = s
line_seat (Act s op r) = s

-- whether it says that a wait ran out
abbrev pub is_lapse : LogLine → Bool
is_lapse (Enter s) = false
is_lapse (Resume s) = false
is_lapse (Lapse s) = true
is_lapse (Leave s) = false
is_lapse (Wait s c) = false
is_lapse (Signal s c) = false
is_lapse (Broadcast s c) = false
is_lapse (Until s p) = false
is_lapse (Act s op r) = false
