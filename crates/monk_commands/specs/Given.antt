-- Given what writing bytes means: an answer's text is written, with its status
use Rattle.std.specs.Prelude.{◌≡◌, ℕ, List}
use Rattle.monk_commands.specs.Answer.{LineAnswer}

-- the answer is given: its status, and its text on standard output
abbrev pub IsGiven : LineAnswer → ℕ → (List ℕ → Type 0) → Type 0
IsGiven answer status Puts = (status ≡ answer.status) × Puts answer.text
