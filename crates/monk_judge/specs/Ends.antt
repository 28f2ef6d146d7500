-- How waits end, from the lines after them
use Rattle.std.specs.Prelude.{◌≡◌, ℕ, zero, suc, ◌+◌, ◌<◌, ◌≤◌, ◌==◌, Bool, true, false, List, [], ◌∷◌, slice_index_or, slice_set, length, drop, if◌then◌else◌}
use Rattle.monk_logs.specs.Log.{is_lapse, line_seat}
use Rattle.monk_logs.specs.declared.text.line.LogLine.{LogLine}
use Rattle.monk_logs.specs.declared.text.line.LogLine.TheVariants.{Enter, Resume, Lapse, Leave, Wait, Signal, Broadcast, Until, Act}
use Rattle.monk_judge.specs.declared.wait_end.WaitEnd.{WaitEnd}
use Rattle.monk_judge.specs.declared.wait_end.WaitEnd.TheVariants.{Resumes, RunsOut, Never}

-- whether the thread's next line is a lapse
abbrev pub lapses_next : ℕ → List LogLine → Bool
lapses_next s [] = false
lapses_next s (l ∷ lines) = if s == line_seat l then is_lapse l else lapses_next s lines

-- whether the line is a `resume`
abbrev pub is_resume : LogLine → Bool
is_resume (Enter s) = false
is_resume (Resume s) = true
is_resume (Lapse s) = false
is_resume (Leave s) = false
is_resume (Wait s c) = false
is_resume (Signal s c) = false
is_resume (Broadcast s c) = false
is_resume (Until s p) = false
is_resume (Act s op r) = false

-- whether the thread's next line is a `resume`, and among the first lines, as many as the number says
abbrev pub resumes_within : ℕ → ℕ → List LogLine → Bool
resumes_within s zero lines = false
resumes_within s (suc d) [] = false
resumes_within s (suc d) (l ∷ lines) = if s == line_seat l then is_resume l else resumes_within s d lines

-- whether the wait runs out
abbrev pub runs_out : WaitEnd → Bool
runs_out (Resumes n) = false
runs_out RunsOut = true
runs_out Never = false

-- the wait ends by a `resume` that is no later than that line
abbrev pub ResumesBy : WaitEnd → ℕ → Type 0
ResumesBy (Resumes n) line = n ≤ line
ResumesBy RunsOut line = ⊥
ResumesBy Never line = ⊥

-- it says how a wait of the seat ends by `rest`, the lines after the first `past`
pub record IsEnd (seat past : ℕ) (end : WaitEnd) (rest : List LogLine) : Type 0 where
  pub lapses : runs_out end ≡ lapses_next seat rest
  pub by : (d : ℕ) → resumes_within seat d rest ≡ true → ResumesBy end (past + d)
  pub within : (d : ℕ) → ResumesBy end (past + d) → resumes_within seat d rest ≡ true

-- each says how a wait of its line's seat there would end
pub record AreEnds (ends : List WaitEnd) (lines : List LogLine) : Type 0 where
  pub many : length ends ≡ length lines
  pub each : (k : ℕ) → k < length lines
      → IsEnd (line_seat (slice_index_or lines k (Enter 0))) (k + 1) (slice_index_or ends k (Resumes 0))
      (drop (k + 1) lines)

-- the ends of the seats' waits after a line that would end a wait like this
abbrev pub ends_after : List WaitEnd → LogLine → WaitEnd → List WaitEnd
ends_after ends (Enter s) e = ends
ends_after ends (Resume s) e = ends
ends_after ends (Lapse s) e = ends
ends_after ends (Leave s) e = ends
ends_after ends (Wait s c) e = slice_set ends s e
ends_after ends (Signal s c) e = ends
ends_after ends (Broadcast s c) e = ends
ends_after ends (Until s p) e = ends
ends_after ends (Act s op r) e = ends
