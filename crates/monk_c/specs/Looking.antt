-- How many wait, as a seat that is inside sees it
use Rattle.std.specs.Prelude.{◌≡◌, ℕ, ℤ, pos, nat_lt, not, length, Option, Some, None, MatchOption, if◌then◌else◌}
use Rattle.monk_kinds.specs.{Names.rules_named, declared.mode.Mode.Mode}
use Rattle.monk_history.specs.Meaning.{Conditions.condition, Events.has_conditions}
use Rattle.monk_c.specs.{Answers.refusal_number, Refusal.is_inside}
use Rattle.monk_c.specs.Stands.{At, Booked, SeatView, At.Outside, At.Waiting, At.Inside}
use Rattle.monk_c.specs.declared.refusal.Refusal.{Refusal}
use Rattle.monk_c.specs.declared.refusal.Refusal.TheVariants.{NotNow, NotOfKind, Range, Closed}

-- why it isn't known, if it isn't
abbrev pub look_refusal : Mode → SeatView → ℕ → Option Refusal
look_refusal m s c =
    if not (has_conditions m) then Some NotOfKind
    else if not (nat_lt c s.room.house.setting.conds) then Some Range
    else if not (is_inside s.at) then Some NotNow
    else None

-- how many wait on the condition; 0 as seen from elsewhere
abbrev pub waiting_at : At → ℕ → ℕ
waiting_at (Outside p) c = 0
waiting_at (Waiting p) c = 0
waiting_at (Inside a) c = length (condition c a.floor.history)

-- the code is how many seats wait on the condition, or why they can't be counted
abbrev pub IsCount : Mode → SeatView → ℕ → ℤ → Type 0
IsCount m s c code = MatchOption (look_refusal m s c) (code ≡ pos (waiting_at s.at c)) (λ f. code ≡ refusal_number f)

-- the same for a handle
abbrev pub IsCountOf : Option Booked → ℕ → ℤ → Type 0
IsCountOf None c code = code ≡ refusal_number Closed
IsCountOf (Some b) c code = IsCount (rules_named b.kind).mode b.seat c code
