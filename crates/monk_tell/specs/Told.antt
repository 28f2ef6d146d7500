-- The answer for a history, as data
use Rattle.std.specs.Prelude.{ℕ, ◌-◌, ◌==◌, Bool, Option, Some, None, List, length, map, take}
use Rattle.std.specs.Prelude.{filter, if◌then◌else◌, option_map, get_or}
use Rattle.std.specs.List.{range_with_len}
use Rattle.monk_kinds.specs.declared.{mode.Mode.Mode, mode.Mode.TheVariants.Blocking, mode.Mode.TheVariants.NonBlocking}
use Rattle.monk_kinds.specs.declared.{mode.Mode.TheVariants.QuasiBlocking, mode.Mode.TheVariants.ImmediateReturn}
use Rattle.monk_kinds.specs.declared.{mode.Mode.TheVariants.Automatic, mode.Rules.Rules, name.KindName.KindName}
use Rattle.monk_object.specs.{Object.Object, declared.name.ObjectName.ObjectName}
use Rattle.monk_history.specs.Meaning.{Acts.refused_steps, Monitor.Monitor, Named.named_monitor, Untils.ready_of}
use Rattle.monk_history.specs.Meaning.Choice.{Queues as Lined, must_stay, queues_at}
use Rattle.monk_history.specs.Meaning.Situation.{Situation, situation}
use Rattle.monk_history.specs.declared.event.{Via.TheVariants.Free, From3.From3, Next.Next, Turn.Turn}
use Rattle.monk_history.specs.declared.event.Event.{Event, TheVariants.Enter}
use Rattle.monk_history.specs.Text.{Heading}
use Rattle.monk_audit.specs.declared.verdict.Verdict.{Verdict, TheVariants.Legal, TheVariants.Forbidden}
use Rattle.monk_audit.specs.Verdict.{verdict_of}
use Rattle.monk_tell.specs.declared.{forbidden.ForbiddenEvent.ForbiddenEvent, choice.Choice.Choice, lines.Lines.Lines}
use Rattle.monk_tell.specs.declared.{refused.Refused.Refused, standing.Standing.Standing, telling.Telling.Telling}
use Rattle.monk_tell.specs.declared.{why.Why.Why, queues.Conditions.Conditions, queues.QueueLists.QueueLists}
use Rattle.monk_tell.specs.Permitted.{fronts, permitted_nexts}
use Rattle.monk_tell.specs.Cause.{cause, conditions_below, own_reply}

-- ---- the data, as lists

-- who waits inside, front first: the queues that the kind has
pub record ShownQueues : Type 0 where
  pub conditions : Option (List (List ℕ))
  pub waiters : Option (List ℕ)
  pub signallers : Option (List ℕ)
  pub untils : Option (List (ℕ × ℕ))
  pub ready : Option (List ℕ)

-- the first of some steps, which are listed, and how many more there are
pub record ShownSteps : Type 0 where
  pub first : List ℕ
  pub more : ℕ

-- whose turn it is, who is inside, the object's state, and who waits
pub record ShownStanding : Type 0 where
  pub turn : Turn
  pub inside : List ℕ
  pub state : List ℕ
  pub queues : ShownQueues

-- what a release chose from, and what it might have chosen
pub record Chosen : Type 0 where
  pub fronts : List (From3 × ℕ)
  pub may : List Next

-- what is wrong with a forbidden event
pub record Blamed : Type 0 where
  pub step : ℕ
  pub event : Event
  pub reply : Option ℕ
  pub choice : Option Chosen
  pub why : Why

-- the answer for a history
pub record Account : Type 0 where
  pub kind : KindName
  pub object : ObjectName
  pub verdict : Verdict
  pub standing : ShownStanding
  pub refused : ShownSteps
  pub blame : Option Blamed

-- ---- what the types hold

-- the queues of the conditions
abbrev pub condition_lists : Conditions → List (List ℕ)
condition_lists c = map (λ s. s.0.items) c.0.items

-- the queues as data
abbrev pub queues_of : QueueLists → ShownQueues
queues_of q = record {
  conditions = option_map condition_lists q.conditions;
  waiters = option_map (λ s. s.0.items) q.waiters;
  signallers = option_map (λ s. s.0.items) q.signallers;
  untils = option_map (λ w. w.0.items) q.untils;
  ready = option_map (λ s. s.0.items) q.ready;
}

-- the refused acts as data
abbrev pub refused_of : Refused → ShownSteps
refused_of r = record { first = r.first.0.items; more = r.more }

-- the state of the monitor, as data
abbrev pub standing_of : Standing → ShownStanding
standing_of s = record {
  turn = s.turn;
  inside = s.inside.0.items;
  state = s.data.0.items;
  queues = queues_of s.queues;
}

-- the choice as data
abbrev pub choice_of : Choice → Chosen
choice_of c = record { fronts = c.fronts.0.items; may = c.may.0.items }

-- what is wrong, as data
abbrev pub blame_of : ForbiddenEvent → Blamed
blame_of b =
    record { step = b.step; event = b.event; reply = b.reply; choice = option_map choice_of b.choice; why = b.why }

-- the answer, as data
abbrev pub telling_of : Telling → Account
telling_of t = record {
  kind = t.kind;
  object = t.object;
  verdict = t.verdict;
  standing = standing_of t.standing;
  refused = refused_of t.refused;
  blame = option_map blame_of t.blame;
}

-- the queues that a release chooses from
abbrev pub lines_of : Lines → Lined
lines_of l = record { waiters = l.waiters.items; signallers = l.signallers.items; ready = l.ready.items }

-- ---- what holds for a history

-- the seats below that number that are inside, in rising order
abbrev pub inside_below : (ℕ → Bool) → ℕ → List ℕ
inside_below inside seats = filter inside (range_with_len 0 seats)

-- the queues of a kind that has conditions, in that situation
abbrev pub with_conditions : ℕ → Situation → Option (List ℕ) → ShownQueues
with_conditions conds t signallers = record {
  conditions = Some (conditions_below t.condition conds);
  waiters = Some t.waiters;
  signallers = signallers;
  untils = None;
  ready = None;
}

-- the queues of an automatic kind
abbrev pub with_untils : Object → Situation → ShownQueues
with_untils o t = record {
  conditions = None;
  waiters = None;
  signallers = None;
  untils = Some t.untils;
  ready = Some (ready_of o t.state t.untils);
}

-- the queues that a kind of that mode has
abbrev pub queues_shown : Mode → ℕ → Object → Situation → ShownQueues
queues_shown Blocking conds o t = with_conditions conds t (Some t.signallers)
queues_shown NonBlocking conds o t = with_conditions conds t (Some t.signallers)
queues_shown QuasiBlocking conds o t = with_conditions conds t (Some t.signallers)
queues_shown ImmediateReturn conds o t = with_conditions conds t None
queues_shown Automatic conds o t = with_untils o t

-- the most steps that are listed
abbrev pub most_told : ℕ
most_told = 10

-- the steps that are listed, and how many more there are
abbrev pub told_steps : List ℕ → ShownSteps
told_steps steps = record { first = take most_told steps; more = length steps - most_told }

-- the state of a monitor of that mode, with these numbers of seats and conditions
abbrev pub shown_standing : Mode → ℕ → ℕ → Object → Situation → ShownStanding
shown_standing mode seats conds o t = record {
  turn = t.turn;
  inside = inside_below t.inside seats;
  state = t.state;
  queues = queues_shown mode conds o t;
}

-- what an event chose from and what it might have chosen, by its queues and whether it must stay
abbrev pub chosen_from : Rules → Lined → Bool → Event → Chosen
chosen_from k q stays e = record { fronts = fronts q; may = permitted_nexts k q stays e }

-- the same in that situation
abbrev pub chosen_at : Rules → Object → Situation → Event → Chosen
chosen_at k o t e = chosen_from k (queues_at o t e) (must_stay o t e) e

-- what is wrong with the event of that step, in this situation and for that reason
abbrev pub blame_of_event : KindName → Rules → ℕ → ℕ → Object → Situation → ℕ → ℕ → Event → Blamed
blame_of_event kind k seats conds o t step reason e = record {
  step = step;
  event = e;
  reply = if reason == 5 then own_reply o t.state e else None;
  choice = if reason == 6 then Some (chosen_at k o t e) else None;
  why = cause kind k seats conds o t reason e;
}

-- the state of the monitor in that situation
abbrev pub standing_in : Monitor → Situation → ShownStanding
standing_in m t = shown_standing m.kind.mode m.seats m.conds m.object t

-- the event of that step, counted from 1
abbrev pub event_at : List Event → ℕ → Event
event_at es step = get_or es (step - 1) (Enter 0 Free)

-- the events before that step
abbrev pub events_before : List Event → ℕ → List Event
events_before es step = take (step - 1) es

-- the number of events before the first that is not allowed, or of all
abbrev pub allowed_events : Verdict → ℕ
allowed_events (Legal n) = n
allowed_events (Forbidden step reason) = step - 1

-- the step that a verdict forbids, if it forbids one
abbrev pub forbidden_step : Verdict → Option ℕ
forbidden_step (Legal n) = None
forbidden_step (Forbidden step reason) = Some step

-- what is wrong with its event
abbrev pub blame_by : KindName → Monitor → List Event → Verdict → Option Blamed
blame_by kind m es (Legal n) = None
blame_by kind m es (Forbidden step reason) =
    Some (blame_of_event kind m.kind m.seats m.conds m.object (situation m (events_before es step)) step reason
    (event_at es step))

-- the answer for a history of a monitor of that kind and object, with that verdict: the state, and
-- what the object refused, before the first event that is not allowed
abbrev pub account_by : KindName → ObjectName → Monitor → List Event → Verdict → Account
account_by kind name m es v = let past = take (allowed_events v) es in record {
  kind = kind;
  object = name;
  verdict = v;
  standing = standing_in m (situation m past);
  refused = told_steps (refused_steps past);
  blame = blame_by kind m es v;
}

-- the answer for a history
abbrev pub account : Heading → List Event → Account
account h es = account_by h.kind h.object (named_monitor h) es (verdict_of (named_monitor h) es)
