-- The limits of a monitor, of the events of a seat, and of a text
use Rattle.std.specs.Prelude.{ℕ, ◌^◌}

-- the most seats of a monitor
abbrev pub most_seats : ℕ
most_seats = 32

-- the most conditions of a monitor
abbrev pub most_conds : ℕ
most_conds = 8

-- the newest version of a text. The first is 1
abbrev pub newest_version : ℕ
newest_version = 3

-- the first version that has every event
abbrev pub all_events_version : ℕ
all_events_version = 2

-- the least budget of a seat: how many events it may make
abbrev pub least_budget : ℕ
least_budget = 2

-- the greatest budget of a seat: 2 ^ 20
abbrev pub most_budget : ℕ
most_budget = 1048576

-- the most lines of a text after its first: the events of a history, the commands of a play
abbrev pub most_lines : ℕ
most_lines = 2 ^ 25
