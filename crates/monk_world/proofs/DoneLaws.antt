-- A step that is carried out keeps what a world keeps
use Rattle.std.proofs.Common.{◌≡◌, ℕ, ◌+◌, ◌%◌, ◌==◌, ◌<◌, ◌≤◌, cond, Bool, true, false, length, sym, refl, ap, ◌∙◌, subst, arith}
use Rattle.std.{specs.Prelude.Option, specs.Prelude.Some, specs.Prelude.None, proofs.lemmas.Bool.Decides.nat_tests}
use Rattle.monk_kinds.specs.{Kind.IsKind, declared.mode.Rules.Rules}
use Rattle.monk_object.specs.Object.{Object}
use Rattle.monk_history.specs.declared.event.Next.TheVariants as next
use Rattle.monk_history.specs.Meaning.{Monitor.data_of, Turn.turn, Counts.events_of, Counts.left_of}
use Rattle.monk_history.specs.Meaning.Events.{seat_of, is_stay}
use Rattle.monk_history.specs.declared.event.{Next.Next, Turn.Turn}
use Rattle.monk_history.specs.declared.event.Event.{Event}
use Rattle.monk_history.specs.declared.event.Event.TheVariants.{Act, Leave, Wait, Signal, SignalLeave, Until, SignalAll}
use Rattle.monk_history.specs.declared.event.Event.TheVariants.{SignalWait}
use Rattle.monk_floor.specs.View.{monitor_of}
use Rattle.monk_world.specs.declared.command.Command.TheVariants as command
use Rattle.monk_world.specs.declared.home.Home.TheVariants as home
use Rattle.monk_world.proofs.{UpdateLaws.update_same, SoundSteps.step_is_sound}
use Rattle.monk_world.proofs.BoundLaws.{bounded_words, bounded_floor, count_stays, count_grows, count_looks, no_less}
use Rattle.monk_world.specs.{Places.place_of, Update.update, Right.Whereabouts, State.State, State.with_event}
use Rattle.monk_world.specs.{Kept.comes_in, Kept.comes_back, Kept.IsBounded, Kept.IsKept, Sound.IsSound, Sound.left_at}
use Rattle.monk_world.specs.Steps.{place_after_arrive, place_after_ticket_look, place_after_seat_look}
use Rattle.monk_world.specs.Steps.{count_after_seat_look, place_after_drop, after_arrive, after_seat_look}
use Rattle.monk_world.specs.Steps.{after_floor_out, after_floor_in, after_drop, after_ticket_grant, after_seat_grant}
use Rattle.monk_world.specs.StepTable.{call_of, is_call_in_range, is_call_offered, may_be_told, left_for, refusal}
use Rattle.monk_world.specs.StepTable.{release_next, out_event, IsDone, IsAnswered}
use Rattle.monk_world.specs.declared.{answer.Answer.Answer, command.Command.Command, home.Home.Home}
use Rattle.monk_world.specs.declared.source.Source.{Source, TheVariants.Free}
use Rattle.monk_world.specs.declared.place.Place.{Place}
use Rattle.monk_world.specs.declared.place.Place.TheVariants.{Idle, Ticket, Due, Active, Back, Passing, Inner}

-- what holds if no refusal applies
pub record IsReady (k : Rules) (o : Object) (s : State) (i : ℕ) (c : Command) : Type 0 where
  pub near : i < s.floor.seats
  pub range : is_call_in_range o s.floor (call_of i c) ≡ true
  pub offered : is_call_offered k (call_of i c) ≡ true
  pub told : may_be_told (s.world.place i) c ≡ true
  pub left : left_for c ≤ left_of s.floor.budget s.floor.history i

pub ready : (k : Rules) (o : Object) (s : State) (i : ℕ) (c : Command) → refusal k o s i c ≡ None → IsReady k o s i c
ready k o s i c e = grind (arith, nat_tests)

arrives_in : (b : Bool) (t : ℕ) → comes_in (cond b (Due (Free t)) (Ticket t)) ≡ 1
arrives_in b t = grind (arith, nat_tests)

looks_in : (b : Bool) (t : ℕ) → comes_in (place_after_ticket_look t b) ≡ 1
looks_in b t = grind (arith, nat_tests)

looks_back : (b : Bool) (n m : ℕ) → n ≤ m → count_after_seat_look n b ≤ m + comes_back (place_after_seat_look b)
looks_back b n m l = grind (arith, nat_tests)

out_seat : (i : ℕ) (q : Source) (u : Turn) → seat_of (out_event i q u) ≡ i
out_seat i q u = grind (arith, nat_tests)

module _ (k : Rules) (o : Object) (s : State) (right : Whereabouts) (owner : ℕ → ℕ) (h : IsSound k o s right owner)
    (b : IsBounded s) (i : ℕ) (near : i < s.floor.seats) where
  stays_bounded : (e : Event) → seat_of e ≡ i → 1 ≤ left_of s.floor.budget s.floor.history i
      → IsBounded (record s { floor = with_event s.floor e })
  stays_bounded e seat left =
      bounded_floor s b i near s.world s.known (s.world.place i)
      (sym (update_same s.world.place i (s.world.place i) refl))
      e seat left (omega arith)
      (λ j. omega (arith, b.counted j, no_less s b e j))

  released : (e : Event) → seat_of e ≡ i → 1 ≤ left_of s.floor.budget s.floor.history i → (q : Source)
      → s.world.place i ≡ Active q → (x : Next) (to : Home) (stay : Bool)
      → IsBounded (record s { world = cond stay s.world (after_floor_in s.world i x to); floor = with_event s.floor e })
  released e seat left q at x to true = stays_bounded e seat left
  released e seat left q at x to false =
      bounded_floor s b i near (after_floor_in s.world i x to) s.known (Back x to) refl e seat left
      (omega (arith, ap comes_in at)) (count_grows s b i (Back x to) e seat)

  bounded_done : (c : Command) (a : Answer) (t : State) (p : Place) → s.world.place i ≡ p
      → left_for c ≤ left_of s.floor.budget s.floor.history i → IsDone k o s i p c a t → IsBounded t
  bounded_done command.Arrive a t Idle at left d =
      subst IsBounded (sym d.1)
      (bounded_words s b i near (after_arrive s.world i) s.known (place_after_arrive s.world.drawn s.world.unpassed)
      refl
      (omega (arith, ap comes_in at, arrives_in (s.world.unpassed == 0) s.world.drawn))
      (count_stays s b i (place_after_arrive s.world.drawn s.world.unpassed) (ap comes_back at)))
  bounded_done command.Look a t (Ticket n) at left d =
      let found = s.world.ticket_place (n % s.floor.seats) == n + 1 in
      grind (arith, nat_tests, bounded_words, looks_in, count_stays)
  bounded_done command.Look a t Inner at left d =
      let found = s.world.seat_place i == s.world.count i + 1 in
      subst IsBounded (sym d.1) (bounded_words s b i near (after_seat_look s.world i found) s.known
      (place_after_seat_look found) refl
      (omega (arith, ap comes_in at))
      (count_looks s b i (count_after_seat_look (s.world.count i) found) (place_after_seat_look found)
      (looks_back found (s.world.count i) (length (events_of s.floor.history i))
      (omega (arith, b.counted i, ap comes_back at)))))
  bounded_done command.Out a t (Due q) at left d =
      let e = out_event i q (turn s.floor.history) in
      subst IsBounded (sym d.1)
      (bounded_floor s b i near (after_floor_out s.world i q) (update s.known i false) (Active q) refl e
      (out_seat i q (turn s.floor.history))
      (omega (arith, h.left i, ap left_at at)) (omega (arith, ap comes_in at))
      (count_grows s b i (Active q) e (out_seat i q (turn s.floor.history))))
  bounded_done command.Peek a t Idle at left d = subst IsBounded (sym d.1) b
  bounded_done command.Peek a t (Active q) at left d =
      subst IsBounded (sym d.1)
      (record {
        few = b.few;
        low = b.low;
        within = b.within;
        outside = b.outside;
        drawn = b.drawn;
        counted =
            b.counted;
      })
  bounded_done command.Drop a t (Back next.Entry to) at left d =
      subst IsBounded (sym d.1)
      (bounded_words s b i near (after_drop s.world i to) s.known
      (place_after_drop s.world.drawn s.world.unpassed to) refl
      (omega (arith, ap comes_in at))
      (count_stays s b i (place_after_drop s.world.drawn s.world.unpassed to) (ap comes_back at)))
  bounded_done command.Grant a t (Back (next.Waiter j) to) at left d =
      subst IsBounded (sym d.1)
      (bounded_words s b i near (after_seat_grant s.world i j to) s.known (place_of to) refl
      (omega (arith, ap comes_in at)) (count_stays s b i (place_of to) (ap comes_back at)))
  bounded_done command.Grant a t (Back (next.Signaller j) to) at left d =
      subst IsBounded (sym d.1)
      (bounded_words s b i near (after_seat_grant s.world i j to) s.known (place_of to) refl
      (omega (arith, ap comes_in at)) (count_stays s b i (place_of to) (ap comes_back at)))
  bounded_done command.Grant a t (Back (next.Until j) to) at left d =
      subst IsBounded (sym d.1)
      (bounded_words s b i near (after_seat_grant s.world i j to) s.known (place_of to) refl
      (omega (arith, ap comes_in at)) (count_stays s b i (place_of to) (ap comes_back at)))
  bounded_done command.Grant a t (Passing n to) at left d =
      subst IsBounded (sym d.1)
      (bounded_words s b i near (after_ticket_grant s.floor.seats s.world i n to) s.known (place_of to) refl
      (omega (arith, ap comes_in at)) (count_stays s b i (place_of to) (ap comes_back at)))
  bounded_done (command.Act op) a t (Active q) at left d =
      subst IsBounded (sym d.1)
      (stays_bounded (Act i op (o.reply (data_of (monitor_of k o s.floor) s.floor.history) op)) refl
      (omega (arith, left)))
  bounded_done (command.Leave pick) a t (Active q) at left d =
      let x = release_next k o s i (Leave i next.Stay) pick in
      subst IsBounded (sym d.1) (released (Leave i x) refl (omega (arith, left)) q at x home.Idle (is_stay (Some x)))
  bounded_done (command.Wait c pick) a t (Active q) at left d =
      let x = release_next k o s i (Wait i c next.Stay) pick in
      subst IsBounded (sym d.1) (released (Wait i c x) refl (omega (arith, left)) q at x home.Inner (is_stay (Some x)))
  bounded_done (command.Signal c pick) a t (Active q) at left d =
      let x = release_next k o s i (Signal i c next.Stay) pick in
      subst IsBounded (sym d.1) (released (Signal i c x) refl (omega (arith, left)) q at x home.Inner
      (is_stay (Some x)))
  bounded_done (command.SignalLeave c pick) a t (Active q) at left d =
      let x = release_next k o s i (SignalLeave i c next.Stay) pick in
      subst IsBounded (sym d.1) (released (SignalLeave i c x) refl (omega (arith, left)) q at x home.Idle
      (is_stay (Some x)))
  bounded_done (command.Until p pick) a t (Active q) at left d =
      let x = release_next k o s i (Until i p next.Stay) pick in
      subst IsBounded (sym d.1) (released (Until i p x) refl (omega (arith, left)) q at x home.Inner (is_stay (Some x)))
  bounded_done (command.SignalAll c) a t (Active q) at left d =
      subst IsBounded (sym d.1) (stays_bounded (SignalAll i c) refl (omega (arith, left)))
  bounded_done (command.SignalWait c v pick) a t (Active q) at left d =
      let x = release_next k o s i (SignalWait i c v next.Stay) pick in
      subst IsBounded (sym d.1) (released (SignalWait i c v x) refl (omega (arith, left)) q at x home.Inner
      (is_stay (Some x)))
  bounded_done c a t p at left d = absurd d

record HasNumbers (s t : State) : Type 0 where
  seats : s.floor.seats ≡ t.floor.seats
  conds : s.floor.conds ≡ t.floor.conds

numbers_of : (s t u : State) → u.floor.seats ≡ s.floor.seats → u.floor.conds ≡ s.floor.conds → t ≡ u → HasNumbers s t
numbers_of s t u a b e =
    record {
      seats = sym (ap (λ (v : State). v.floor.seats) e ∙ a);
      conds =
          sym (ap (λ (v : State). v.floor.conds) e ∙ b);
    }

numbers_stay : (k : Rules) (o : Object) (s : State) (i : ℕ) (c : Command) (a : Answer) (t : State) (p : Place)
    → IsDone k o s i p c a t → HasNumbers s t
numbers_stay k o s i command.Arrive a t Idle d = numbers_of s t _ refl refl d.1
numbers_stay k o s i command.Look a t (Ticket n) d = numbers_of s t _ refl refl d.1
numbers_stay k o s i command.Look a t Inner d = numbers_of s t _ refl refl d.1
numbers_stay k o s i command.Out a t (Due q) d = numbers_of s t _ refl refl d.1
numbers_stay k o s i command.Peek a t Idle d = numbers_of s t _ refl refl d.1
numbers_stay k o s i command.Peek a t (Active q) d = numbers_of s t _ refl refl d.1
numbers_stay k o s i command.Drop a t (Back next.Entry to) d = numbers_of s t _ refl refl d.1
numbers_stay k o s i command.Grant a t (Back (next.Waiter j) to) d = numbers_of s t _ refl refl d.1
numbers_stay k o s i command.Grant a t (Back (next.Signaller j) to) d = numbers_of s t _ refl refl d.1
numbers_stay k o s i command.Grant a t (Back (next.Until j) to) d = numbers_of s t _ refl refl d.1
numbers_stay k o s i command.Grant a t (Passing n to) d = numbers_of s t _ refl refl d.1
numbers_stay k o s i (command.Act op) a t (Active q) d = numbers_of s t _ refl refl d.1
numbers_stay k o s i (command.Leave pick) a t (Active q) d = numbers_of s t _ refl refl d.1
numbers_stay k o s i (command.Wait c pick) a t (Active q) d = numbers_of s t _ refl refl d.1
numbers_stay k o s i (command.Signal c pick) a t (Active q) d = numbers_of s t _ refl refl d.1
numbers_stay k o s i (command.SignalLeave c pick) a t (Active q) d = numbers_of s t _ refl refl d.1
numbers_stay k o s i (command.Until r pick) a t (Active q) d = numbers_of s t _ refl refl d.1
numbers_stay k o s i (command.SignalAll c) a t (Active q) d = numbers_of s t _ refl refl d.1
numbers_stay k o s i (command.SignalWait c v pick) a t (Active q) d = numbers_of s t _ refl refl d.1
numbers_stay k o s i c a t p d = absurd d

-- the world after a command, with as many seats and conditions as before
pub kept_done : (k : Rules) (o : Object) (s : State) (i : ℕ) (c : Command) (a : Answer) (t : State) (seats conds : ℕ)
    → IsKind k → IsKept k o seats conds s → refusal k o s i c ≡ None
    → IsDone k o s i (s.world.place i) c a t → IsKept k o seats conds t
kept_done k o s i c a t seats conds kind kept free d =
    let r = ready k o s i c free in
    let n = numbers_stay k o s i c a t (s.world.place i) d in
    record {
      sound = step_is_sound k o s i c a t kind kept.sound
          (subst (λ (x : Option Answer). IsAnswered k o s i c x a t) (sym free) d);
      bounded = bounded_done k o s kept.sound.right kept.sound.owner kept.sound.is_sound kept.bounded i r.near c a t
          (s.world.place i) refl r.left d;
      seats_are = kept.seats_are ∙ n.seats;
      conds_are = kept.conds_are ∙ n.conds;
    }
