-- Which calls are refused
use Rattle.std.specs.Prelude.{◌≡◌, ◌≤◌, ℕ, ◌+◌, ◌^◌, nat_lt, ◌&&◌, not, Bool, true, false, length, Option, Some, None, if◌then◌else◌}
use Rattle.monk_kinds.specs.{declared.mode.Mode.Mode, Names.rules_named}
use Rattle.monk_history.specs.Meaning.Events.{has_conditions, has_signaller_queue, is_non_blocking, returns_at_once}
use Rattle.monk_hall.specs.declared.record.SeatRecord.{SeatRecord}
use Rattle.monk_c.specs.Stands.{At, SeatView, Booked, me_of, At.Outside, At.Waiting, At.Inside}
use Rattle.monk_c.specs.declared.refusal.Refusal.{Refusal}
use Rattle.monk_c.specs.declared.refusal.Refusal.TheVariants.{NotNow, Spent, NotOfKind, Range, Closed}
use Rattle.monk_c.specs.declared.call.Call.{Call}
use Rattle.monk_c.specs.declared.call.Call.TheVariants.{Arrive, Poll, Leave, Wait, Signal, Broadcast, SignalLeave}
use Rattle.monk_c.specs.declared.call.Call.TheVariants.{SignalWait, SetFlags, WaitUntil}

-- whether kinds of this mode have the call
abbrev pub has_call : Mode → Call → Bool
has_call m Arrive = true
has_call m Poll = true
has_call m Leave = true
has_call m (Wait c) = has_conditions m
has_call m (Signal c) = has_signaller_queue m
has_call m (Broadcast c) = is_non_blocking m
has_call m (SignalLeave c) = returns_at_once m
has_call m (SignalWait c d) = returns_at_once m
has_call m (SetFlags bits) = true
has_call m (WaitUntil p) = not (has_conditions m)

-- whether its condition, its flag or its bits are in range
abbrev pub is_within : ℕ → ℕ → Call → Bool
is_within conds flags Arrive = true
is_within conds flags Poll = true
is_within conds flags Leave = true
is_within conds flags (Wait c) = nat_lt c conds
is_within conds flags (Signal c) = nat_lt c conds
is_within conds flags (Broadcast c) = nat_lt c conds
is_within conds flags (SignalLeave c) = nat_lt c conds
is_within conds flags (SignalWait c d) = nat_lt c conds && nat_lt d conds
is_within conds flags (SetFlags bits) = nat_lt 0 flags && nat_lt bits (2 ^ flags)
is_within conds flags (WaitUntil p) = nat_lt p flags

-- whether the seat is outside
abbrev pub is_outside : At → Bool
is_outside (Outside p) = true
is_outside (Waiting p) = false
is_outside (Inside a) = false

-- whether the seat waits
abbrev pub is_waiting : At → Bool
is_waiting (Outside p) = false
is_waiting (Waiting p) = true
is_waiting (Inside a) = false

-- whether the seat is inside
abbrev pub is_inside : At → Bool
is_inside (Outside p) = false
is_inside (Waiting p) = false
is_inside (Inside a) = true

-- whether a seat that is there may make the call
abbrev pub is_from : At → Call → Bool
is_from at Arrive = is_outside at
is_from at Poll = is_waiting at
is_from at Leave = is_inside at
is_from at (Wait c) = is_inside at
is_from at (Signal c) = is_inside at
is_from at (Broadcast c) = is_inside at
is_from at (SignalLeave c) = is_inside at
is_from at (SignalWait c d) = is_inside at
is_from at (SetFlags bits) = is_inside at
is_from at (WaitUntil p) = is_inside at

-- how many events must be left
abbrev pub wants : Call → ℕ
wants Arrive = 2
wants Poll = 0
wants Leave = 0
wants (Wait c) = 3
wants (Signal c) = 3
wants (Broadcast c) = 2
wants (SignalLeave c) = 0
wants (SignalWait c d) = 3
wants (SetFlags bits) = 2
wants (WaitUntil p) = 3

-- whether the seat has too few events left for the call
abbrev pub is_spent : SeatRecord → Call → Bool
is_spent me call = nat_lt me.setting.budget (length me.mine + wants call)

-- the first of the refusals that apply, if one does
abbrev pub refusal_of : Mode → SeatView → Call → Option Refusal
refusal_of m s call =
    if not (has_call m call) then Some NotOfKind
    else if not (is_within s.room.house.setting.conds s.room.flags call) then Some Range
    else if not (is_from s.at call) then Some NotNow
    else if is_spent (me_of s.at) call then Some Spent
    else None

-- the same for what a handle has
abbrev pub refusal_at : Option Booked → Call → Option Refusal
refusal_at None call = Some Closed
refusal_at (Some b) call = refusal_of (rules_named b.kind).mode b.seat call

-- a call that is not refused
pub record IsReady (m : Mode) (s : SeatView) (call : Call) : Type 0 where
  pub of_kind : has_call m call ≡ true
  pub within : is_within s.room.house.setting.conds s.room.flags call ≡ true
  pub from : is_from s.at call ≡ true
  pub left : length (me_of s.at).mine + wants call ≤ (me_of s.at).setting.budget

-- a call that every kind's code has
abbrev pub is_plain : Call → Bool
is_plain Arrive = true
is_plain Poll = true
is_plain Leave = true
is_plain (Wait c) = true
is_plain (Signal c) = true
is_plain (Broadcast c) = false
is_plain (SignalLeave c) = true
is_plain (SignalWait c d) = false
is_plain (SetFlags bits) = true
is_plain (WaitUntil p) = true
