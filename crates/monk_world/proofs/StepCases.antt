-- Each command has exactly one answer and one next state
use Rattle.std.proofs.Common.{◌≡◌, ℕ, true, false, cond, Bool, sym, refl, ◌∙◌, arith}
use Rattle.std.specs.Prelude.{not, Option, Some, None}
use Rattle.monk_kinds.specs.declared.mode.Rules.{Rules}
use Rattle.monk_object.specs.Object.{Object}
use Rattle.monk_history.specs.declared.event.Next.TheVariants as next
use Rattle.monk_world.specs.declared.answer.Answer.TheVariants as answer
use Rattle.monk_world.specs.declared.command.Command.TheVariants as command
use Rattle.monk_world.specs.{Laws.StepsAreAnswered, Laws.StepsAreDetermined, State.State}
use Rattle.monk_world.specs.StepTable.{may_be_told, refusal, IsDone, IsAnswered}
use Rattle.monk_world.specs.declared.{answer.Answer.Answer, command.Command.Command}
use Rattle.monk_world.specs.declared.place.Place.{Place}
use Rattle.monk_world.specs.declared.place.Place.TheVariants.{Idle, Ticket, Due, Active, Back, Passing, Inner}
use Rattle.std.proofs.lemmas.Bool.Decides.{nat_tests}

module _ (k : Rules) (o : Object) (s : State) (i : ℕ) where
  abbrev HasStep : Place → Command → Type 0
  HasStep p c = (a : Answer) × (t : State) × IsDone k o s i p c a t

  done : (p : Place) (c : Command) → may_be_told p c ≡ true → HasStep p c
  done Idle command.Arrive e = (_, _, (refl, refl))
  done (Ticket n) command.Look e = (_, _, (refl, refl))
  done Inner command.Look e = (_, _, (refl, refl))
  done (Due q) command.Out e = (_, _, (refl, refl))
  done Idle command.Peek e = (_, _, (refl, refl))
  done (Active q) command.Peek e = (_, _, (refl, refl))
  done (Back next.Stay to) command.Drop e = absurd (let z : false ≡ true = e in cc)
  done (Back next.Entry to) command.Drop e = (_, _, (refl, refl))
  done (Back (next.Waiter j) to) command.Grant e = (_, _, (refl, refl))
  done (Back (next.Signaller j) to) command.Grant e = (_, _, (refl, refl))
  done (Back (next.Until j) to) command.Grant e = (_, _, (refl, refl))
  done (Passing n to) command.Grant e = (_, _, (refl, refl))
  done (Active q) (command.Act op) e = (_, _, (refl, refl))
  done (Active q) (command.Leave pick) e = (_, _, (refl, refl))
  done (Active q) (command.Wait c pick) e = (_, _, (refl, refl))
  done (Active q) (command.Signal c pick) e = (_, _, (refl, refl))
  done (Active q) (command.SignalLeave c pick) e = (_, _, (refl, refl))
  done (Active q) (command.Until p pick) e = (_, _, (refl, refl))
  done (Active q) (command.SignalAll c) e = (_, _, (refl, refl))
  done (Active q) (command.SignalWait c d pick) e = (_, _, (refl, refl))
  done p c e = absurd (let z : false ≡ true = e in cc)

  -- the answer, by the tests for a refusal
  answered : (c : Command) (in_reach offered told tired : Bool) → may_be_told (s.world.place i) c ≡ told
      → (a : Answer) × (t : State)
      × IsAnswered k o s i c
      (cond (not in_reach) (Some answer.Range)
      (cond (not offered) (Some answer.NoCall)
      (cond (not told) (Some answer.NotNow) (cond tired (Some answer.Tired) None)))) a t
  answered c false offered told tired e = (_, _, (refl, refl))
  answered c true false told tired e = (_, _, (refl, refl))
  answered c true true false tired e = (_, _, (refl, refl))
  answered c true true true true e = (_, _, (refl, refl))
  answered c true true true false e = done (s.world.place i) c e

  same_done : (p : Place) (c : Command) (a b : Answer) (t u : State) → IsDone k o s i p c a t
      → IsDone k o s i p c b u → (a ≡ b) × (t ≡ u)
  same_done Idle command.Arrive a b t u d e = (d.0 ∙ sym e.0, d.1 ∙ sym e.1)
  same_done (Ticket n) command.Look a b t u d e = (d.0 ∙ sym e.0, d.1 ∙ sym e.1)
  same_done Inner command.Look a b t u d e = (d.0 ∙ sym e.0, d.1 ∙ sym e.1)
  same_done (Due q) command.Out a b t u d e = (d.0 ∙ sym e.0, d.1 ∙ sym e.1)
  same_done Idle command.Peek a b t u d e = (d.0 ∙ sym e.0, d.1 ∙ sym e.1)
  same_done (Active q) command.Peek a b t u d e = (d.0 ∙ sym e.0, d.1 ∙ sym e.1)
  same_done (Back next.Stay to) command.Drop a b t u d e = absurd d
  same_done (Back next.Entry to) command.Drop a b t u d e = (d.0 ∙ sym e.0, d.1 ∙ sym e.1)
  same_done (Back (next.Waiter j) to) command.Grant a b t u d e = (d.0 ∙ sym e.0, d.1 ∙ sym e.1)
  same_done (Back (next.Signaller j) to) command.Grant a b t u d e = (d.0 ∙ sym e.0, d.1 ∙ sym e.1)
  same_done (Back (next.Until j) to) command.Grant a b t u d e = (d.0 ∙ sym e.0, d.1 ∙ sym e.1)
  same_done (Passing n to) command.Grant a b t u d e = (d.0 ∙ sym e.0, d.1 ∙ sym e.1)
  same_done (Active q) (command.Act op) a b t u d e = (d.0 ∙ sym e.0, d.1 ∙ sym e.1)
  same_done (Active q) (command.Leave pick) a b t u d e = (d.0 ∙ sym e.0, d.1 ∙ sym e.1)
  same_done (Active q) (command.Wait c pick) a b t u d e = (d.0 ∙ sym e.0, d.1 ∙ sym e.1)
  same_done (Active q) (command.Signal c pick) a b t u d e = (d.0 ∙ sym e.0, d.1 ∙ sym e.1)
  same_done (Active q) (command.SignalLeave c pick) a b t u d e = (d.0 ∙ sym e.0, d.1 ∙ sym e.1)
  same_done (Active q) (command.Until p pick) a b t u d e = (d.0 ∙ sym e.0, d.1 ∙ sym e.1)
  same_done (Active q) (command.SignalAll c) a b t u d e = (d.0 ∙ sym e.0, d.1 ∙ sym e.1)
  same_done (Active q) (command.SignalWait c v pick) a b t u d e = (d.0 ∙ sym e.0, d.1 ∙ sym e.1)
  same_done p c a b t u d e = absurd d

  same_answered : (c : Command) (r : Option Answer) (a b : Answer) (t u : State) → IsAnswered k o s i c r a t
      → IsAnswered k o s i c r b u → (a ≡ b) × (t ≡ u)
  same_answered c r a b t u d e = grind (arith, nat_tests, same_done)

pub steps_answered : StepsAreAnswered
steps_answered k o s i c = answered k o s i c _ _ (may_be_told (s.world.place i) c) _ refl

pub steps_determined : StepsAreDetermined
steps_determined k o s i c a b t u d e = same_answered k o s i c (refusal k o s i c) a b t u d e
