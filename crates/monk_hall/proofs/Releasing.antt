-- A release as the step of a world
use Rattle.std.proofs.Common.{◌≡◌, ℕ, ◌+◌, ◌<◌, cond, true, false, sym, refl, subst, arith}
use Rattle.std.{specs.Prelude.Some, proofs.lemmas.Bool.Decides.nat_tests}
use Rattle.monk_kinds.specs.{Kind.IsKind, declared.mode.Pick.Pick, declared.mode.Rules.Rules}
use Rattle.monk_object.specs.Object.{Object}
use Rattle.monk_history.specs.declared.event.Next.TheVariants as next
use Rattle.monk_history.specs.Meaning.{Counts.left_of, Events.seat_of, Events.next_of, Events.is_stay}
use Rattle.monk_history.specs.Meaning.Release.{MayCall, with_next}
use Rattle.monk_history.specs.declared.event.Next.{Next}
use Rattle.monk_history.specs.declared.event.Event.{Event}
use Rattle.monk_history.specs.declared.event.Event.TheVariants.{Enter, Act, Leave, Wait, Signal, SignalLeave, Until}
use Rattle.monk_history.specs.declared.event.Event.TheVariants.{Resume, SignalAll, SignalWait}
use Rattle.monk_floor.specs.View.{monitor_of}
use Rattle.monk_world.specs.declared.answer.Answer.TheVariants as answer
use Rattle.monk_world.specs.declared.command.Command.TheVariants as command
use Rattle.monk_world.specs.declared.home.Home.TheVariants as home
use Rattle.monk_world.proofs.PublicLaws.{IsReady}
use Rattle.monk_world.specs.{Kept.IsKept, Sound.left_within, State.State, State.with_event, Steps.after_floor_in}
use Rattle.monk_world.specs.StepTable.{IsDone, IsStep, release_next, call_of, left_for, may_be_told}
use Rattle.monk_world.specs.declared.{command.Command.Command, home.Home.Home, source.Source.Source}
use Rattle.monk_world.specs.declared.place.Place.TheVariants.{Active, Back}
use Rattle.monk_hall.proofs.Frame.{step_kept, step_is}
use Rattle.monk_hall.specs.{Changes.back_after, Laws.wish_of, Tells.IsReleaseTo}

-- where the seat is after its release
pub back_is : (i : ℕ) (to : Home) (call : Event) (x : Next) → IsReleaseTo i to call
    → back_after (Some (with_next x call)) ≡ Back x to
back_is i to call x r = grind (arith, nat_tests)

-- the seat whose call it is, and the seat that it names
pub record IsSaid (i : ℕ) (call : Event) (x : Next) : Type 0 where
  pub seat : seat_of (with_next x call) ≡ i
  pub chose : next_of (with_next x call) ≡ Some x

pub said : (i : ℕ) (to : Home) (call : Event) (x : Next) → IsReleaseTo i to call → IsSaid i call x
said i to call x r = grind (arith, nat_tests)

module _ (k : Rules) (o : Object) (s : State) (seats conds : ℕ) (i : ℕ) (q : Source) (kind : IsKind k)
    (kept : IsKept k o seats conds s) (near : i < s.floor.seats) (active : s.world.place i ≡ Active q) where
  abbrev released : Next → Home → Event → State
  released x to e = record s { world = after_floor_in s.world i x to; floor = with_event s.floor (with_next x e) }

  -- a release of the world's table that doesn't stay
  abbrev by_table : Next → Home → Event → State
  by_table x to e = record s {
    world = cond (is_stay (Some x)) s.world (after_floor_in s.world i x to);
    floor =
        with_event s.floor (with_next x e);
  }

  away : (x y : Next) (to : Home) (e : Event) → x ≡ y → is_stay (Some x) ≡ false
      → IsKept k o seats conds (by_table y to e) → IsKept k o seats conds (released x to e)
  away x y to e same stay h = grind (arith, nat_tests)

  away_step : (m : Command) (x y : Next) (to : Home) (e : Event) → x ≡ y → is_stay (Some x) ≡ false
      → IsStep k o s i m (answer.Chose y) (by_table y to e) → IsStep k o s i m (answer.Chose x) (released x to e)
  away_step m x y to e same stay h = grind (arith, nat_tests)

  -- a release is a step of the world
  pub record IsTaken (to : Home) (wish : Pick) (x : Next) (e : Event) : Type 0 where
    pub command : Command
    pub call : call_of i command ≡ Some e
    pub is_wish : wish_of command ≡ Some wish
    pub is_kept : IsKept k o seats conds (released x to e)
    pub step : IsStep k o s i command (answer.Chose x) (released x to e)

  -- what a release keeps, as it is called
  abbrev Keeps : Home → Pick → Next → Event → Type 0
  Keeps to wish x e =
      MayCall (monitor_of k o s.floor) s.floor.history e → left_within to < left_of s.floor.budget s.floor.history i
      → x ≡ release_next k o s i e wish → is_stay (Some x) ≡ false
      → IsTaken to wish x e

  by_command : (m : Command) (wish : Pick) (to : Home) (e : Event) → call_of i m ≡ Some e → wish_of m ≡ Some wish
      → may_be_told (Active q) m ≡ true → left_for m ≡ left_within to + 1
      → IsDone k o s i (Active q) m (answer.Chose (release_next k o s i e wish))
      (by_table (release_next k o s i e wish) to e) → (x : Next) → Keeps to wish x e
  by_command m wish to e call is_wish told left_is done x may left chosen stay =
      let ready : IsReady k o s i m = grind (arith, nat_tests) in
      let table = by_table (release_next k o s i e wish) to e in
      let chose = answer.Chose (release_next k o s i e wish) in
      record {
        command = m;
        call = call;
        is_wish = is_wish;
        is_kept = away x (release_next k o s i e wish) to e chosen stay
            (step_kept k o s i m chose table seats conds (Active q) kind kept ready active done);
        step = grind (arith, nat_tests, away_step, step_is);
      }

  -- each of the six
  pub release_kept : (to : Home) (call : Event) (wish : Pick) (x : Next) → IsReleaseTo i to call → Keeps to wish x call
  release_kept home.Idle (Leave j y) wish x r =
      subst (Keeps home.Idle wish x) (λ z. Leave (sym r.0 z) (sym r.1 z))
      (by_command (command.Leave wish) wish home.Idle (Leave i next.Stay) refl refl refl refl (refl, refl) x)
  release_kept home.Idle (SignalLeave j c y) wish x r =
      subst (Keeps home.Idle wish x) (λ z. SignalLeave (sym r.0 z) c (sym r.1 z))
      (by_command (command.SignalLeave c wish) wish home.Idle (SignalLeave i c next.Stay) refl refl refl refl
      (refl, refl) x)
  release_kept home.Inner (Wait j c y) wish x r =
      subst (Keeps home.Inner wish x) (λ z. Wait (sym r.0 z) c (sym r.1 z))
      (by_command (command.Wait c wish) wish home.Inner (Wait i c next.Stay) refl refl refl refl (refl, refl) x)
  release_kept home.Inner (Signal j c y) wish x r =
      subst (Keeps home.Inner wish x) (λ z. Signal (sym r.0 z) c (sym r.1 z))
      (by_command (command.Signal c wish) wish home.Inner (Signal i c next.Stay) refl refl refl refl (refl, refl) x)
  release_kept home.Inner (Until j p y) wish x r =
      subst (Keeps home.Inner wish x) (λ z. Until (sym r.0 z) p (sym r.1 z))
      (by_command (command.Until p wish) wish home.Inner (Until i p next.Stay) refl refl refl refl (refl, refl) x)
  release_kept home.Inner (SignalWait j c d y) wish x r =
      subst (Keeps home.Inner wish x) (λ z. SignalWait (sym r.0 z) c d (sym r.1 z))
      (by_command (command.SignalWait c d wish) wish home.Inner (SignalWait i c d next.Stay) refl refl refl refl
      (refl, refl) x)
  release_kept home.Idle (Enter j via) wish x r = absurd r
  release_kept home.Idle (Act j op n) wish x r = absurd r
  release_kept home.Idle (Wait j c y) wish x r = absurd r
  release_kept home.Idle (Signal j c y) wish x r = absurd r
  release_kept home.Idle (Until j p y) wish x r = absurd r
  release_kept home.Idle (Resume j q2) wish x r = absurd r
  release_kept home.Idle (SignalAll j c) wish x r = absurd r
  release_kept home.Idle (SignalWait j c d y) wish x r = absurd r
  release_kept home.Inner (Enter j via) wish x r = absurd r
  release_kept home.Inner (Act j op n) wish x r = absurd r
  release_kept home.Inner (Leave j y) wish x r = absurd r
  release_kept home.Inner (SignalLeave j c y) wish x r = absurd r
  release_kept home.Inner (Resume j q2) wish x r = absurd r
  release_kept home.Inner (SignalAll j c) wish x r = absurd r
