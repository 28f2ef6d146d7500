-- The steps of a history, as data: each event, what it chose from, and the state of the monitor after it
use Rattle.std.specs.Prelude.{◌≡◌, ℕ, ◌+◌, ◌-◌, ◌==◌, min, Option, Some, None, List, map, take, option_map, if◌then◌else◌}
use Rattle.std.specs.List.{range_with_len}
use Rattle.monk_kinds.specs.declared.mode.Rules.{Rules}
use Rattle.monk_object.specs.Object.{Object}
use Rattle.monk_history.specs.{Text.Heading, declared.event.Event.Event}
use Rattle.monk_history.specs.Meaning.{Events.next_of, Monitor.Monitor, Named.named_monitor}
use Rattle.monk_history.specs.Meaning.Situation.{Situation, situation}
use Rattle.monk_audit.specs.{Verdict.verdict_of, declared.replay.Replay.Replay}
use Rattle.monk_audit.specs.Replay.{IsReplayOf, replay_situation}
use Rattle.monk_tell.specs.declared.step.Step.{Step}
use Rattle.monk_tell.specs.Told.{Chosen, ShownStanding, allowed_events, choice_of, chosen_at, event_at, events_before}
use Rattle.monk_tell.specs.Told.{standing_in, standing_of}

-- the event that led there, what it chose from, and the state of the monitor
pub record ShownStep : Type 0 where
  pub event : Option Event
  pub choice : Option Chosen
  pub standing : ShownStanding

-- what a step holds
abbrev pub step_of : Step → ShownStep
step_of s = record { event = s.event; choice = option_map choice_of s.choice; standing = standing_of s.standing }

-- for a release, what it chose from in that situation and what it might have chosen
abbrev pub release_choice : Rules → Object → Situation → Event → Option Chosen
release_choice k o t e = option_map (λ x. chosen_at k o t e) (next_of e)

-- a situation to which no event led
abbrev pub opening_step : Monitor → Situation → ShownStep
opening_step m t = record { event = None; choice = None; standing = standing_in m t }

-- an event that leads from one situation to another
abbrev pub step_by : Monitor → Situation → Event → Situation → ShownStep
step_by m before e reached = record {
  event = Some e;
  choice = release_choice m.kind m.object before e;
  standing = standing_in m reached;
}

-- the event with number n, counted from 1
abbrev pub event_step : Monitor → List Event → ℕ → ShownStep
event_step m es n = step_by m (situation m (events_before es n)) (event_at es n) (situation m (take n es))

-- the step after n events, if the steps begin after `before` events
abbrev pub step_after : Monitor → List Event → ℕ → ℕ → ShownStep
step_after m es before n = if n == before then opening_step m (situation m (take n es)) else event_step m es n

-- the steps after `before` events and after each event more, up to `last`; none if `last` is less
abbrev pub steps_of : Monitor → List Event → ℕ → ℕ → List ShownStep
steps_of m es before last = map (step_after m es before) (range_with_len before (last + 1 - before))

-- the steps of a history up to the last event asked for, or the last that is allowed
abbrev pub steps_between : Heading → List Event → ℕ → ℕ → List ShownStep
steps_between h es before last =
    let m = named_monitor h in
    steps_of m es before (min last (allowed_events (verdict_of m es)))

-- a replay, with this state of the object, shows the state of the monitor after the first n events
pub record IsAfter (h : Heading) (es : List Event) (n predicates : ℕ) (r : Replay) (state : List ℕ) : Type 0 where
  pub stands : replay_situation r state ≡ situation (named_monitor h) (take n es)
  pub sound : IsReplayOf h.seats h.conds predicates r
