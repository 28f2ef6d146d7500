-- Every step keeps a state sound
use Rattle.std.proofs.Common.{◌≡◌, ℕ, ◌+◌, ◌%◌, ◌==◌, ◌<◌, ◌≤◌, ◌⊎◌, true, false, cond, Bool, ◌&&◌, ◌||◌, List, sym}
use Rattle.std.proofs.Common.{refl, ap, ◌∙◌, subst, inl, inr, arith, eq-eqb}
use Rattle.std.specs.Prelude.{if◌then◌else◌, not, nat_lt, nat_le, Option, Some, None}
use Rattle.std.proofs.lemmas.Bool.{ltb-true, Decides.nat_tests}
use Rattle.monk_kinds.specs.{Kind.IsKind, declared.mode.Pick.Pick, declared.mode.Rules.Rules}
use Rattle.monk_object.specs.{Object.Object, declared.op.Op.Op}
use Rattle.monk_history.specs.declared.event.Next.TheVariants as next
use Rattle.monk_history.specs.declared.event.Turn.TheVariants as turn
use Rattle.monk_history.proofs.PublicLaws.Meaning.{legal_order, chosen_allowed}
use Rattle.monk_history.specs.Meaning.{Monitor.data_of, Situation.situation, Turn.turn, Turn.turn_by}
use Rattle.monk_history.specs.Meaning.Counts.{left_of, is_enter}
use Rattle.monk_history.specs.Meaning.Events.{seat_of, next_of, is_stay, is_way_out}
use Rattle.monk_history.specs.Meaning.Reasons.{IsAllowed, is_owned_by, is_in_range, is_offered, is_right_reply}
use Rattle.monk_history.specs.Meaning.Release.{MayCall, with_next, as_called, choice_of}
use Rattle.monk_history.specs.declared.event.Next.{Next}
use Rattle.monk_history.specs.declared.event.Event.{Event}
use Rattle.monk_history.specs.declared.event.Event.TheVariants.{Act, Leave, Wait, Signal, SignalLeave, Until, SignalAll}
use Rattle.monk_history.specs.declared.event.Event.TheVariants.{SignalWait}
use Rattle.monk_floor.specs.View.{monitor_of, stands_of}
use Rattle.monk_world.specs.declared.answer.Answer.TheVariants as answer
use Rattle.monk_world.specs.declared.command.Command.TheVariants as command
use Rattle.monk_world.specs.declared.home.Home.TheVariants as home
use Rattle.monk_world.proofs.UpdateLaws.{at_update}
use Rattle.monk_world.proofs.SoundFloor.{stays, goes_home, own_stands, quiet_after_entry, left_own, sound_out}
use Rattle.monk_world.proofs.SoundWords.{sound_arrival, sound_ticket_look, sound_seat_look, sound_drop}
use Rattle.monk_world.proofs.SoundWords.{sound_ticket_grant, sound_seat_grant}
use Rattle.monk_world.specs.{Update.update, Right.Whereabouts, State.State, State.with_event, Steps.after_floor_in}
use Rattle.monk_world.specs.StepTable.{call_of, is_call_in_range, is_call_offered, may_be_told, left_for, release_next}
use Rattle.monk_world.specs.StepTable.{IsDone, IsAnswered, IsStep}
use Rattle.monk_world.specs.declared.{answer.Answer.Answer, command.Command.Command, home.Home.Home}
use Rattle.monk_world.specs.declared.{source.Source.Source}
use Rattle.monk_world.specs.declared.place.Place.{Place}
use Rattle.monk_world.specs.declared.place.Place.TheVariants.{Idle, Ticket, Due, Active, Back, Passing, Inner}
use Rattle.monk_world.specs.Places.{stage, stays_inside, active_stage}
use Rattle.monk_world.specs.Sound.{IsSound, Sound, left_within}

pub stay_is : (x : Next) → is_stay (Some x) ≡ true → x ≡ next.Stay
stay_is x e = grind (arith, nat_tests)

seen_two : (n : ℕ) → nat_le 2 n ≡ true → 2 ≤ n
seen_two n e = grind (arith, e)

either : (a b : Bool) → (a || b) ≡ true → (a ≡ true) ⊎ (b ≡ true)
either a b e = grind (arith, nat_tests)

-- a call that releases
pub record IsRelease (e : Event) (i : ℕ) (to : Home) : Type 0 where
  pub seat : (x : Next) → seat_of (with_next x e) ≡ i
  pub no_enter : (x : Next) → is_enter (with_next x e) ≡ false
  pub chooses : (x : Next) → next_of (with_next x e) ≡ Some x
  pub called : (x : Next) → as_called (with_next x e) ≡ e
  pub way : (x : Next) → is_way_out (with_next x e) ≡ not (stays_inside to)
  pub no_reply : (o : Object) (d : List ℕ) → is_right_reply o d e ≡ true

module _ (k : Rules) (o : Object) (s : State) (right : Whereabouts) (owner : ℕ → ℕ) (kind : IsKind k)
    (h : IsSound k o s right owner) (i : ℕ) (near : i < s.floor.seats) (q : Source)
    (active : s.world.place i ≡ Active q) where
  owns : is_owned_by i (turn s.floor.history) ≡ true
  owns = ap (is_owned_by i) (h.active i (ap stage active)) ∙ eq-eqb i i refl

  released : (e : Event) (wish : Pick) (to : Home) → IsRelease e i to
      → MayCall (monitor_of k o s.floor) s.floor.history e
      → (IsAllowed (monitor_of k o s.floor) s.floor.history (with_next next.Stay e)
      → 2 ≤ left_of s.floor.budget s.floor.history i)
      → left_within to + 1 ≤ left_of s.floor.budget s.floor.history i
      → Sound k o (record s {
        world = if is_stay (Some (release_next k o s i e wish)) then s.world
            else after_floor_in s.world i (release_next k o s i e wish) to;
        floor = with_event s.floor (with_next (release_next k o s i e wish) e);
      })
  released e wish to r may stay_left home_left =
      let m = monitor_of k o s.floor in
      let x = release_next k o s i e wish in
      let f = with_next x e in
      let allowed : IsAllowed m s.floor.history f =
      chosen_allowed m (situation m s.floor.history) e (s.known i) wish (legal_order m s.floor.history kind h.legal) may
      (r.no_reply o (data_of m s.floor.history)) in
      let After : Bool → Type 0 = λ b. is_stay (Some x) ≡ b
      → Sound k o (record s {
        world = cond b s.world (after_floor_in s.world i x to);
        floor =
            with_event s.floor f;
      }) in
      let either_way : (b : Bool) → After b = elim [
        | true ↦ λ e_stay. stays k o s right owner h i f (r.seat x) allowed q active (r.no_enter x)
            (ap (λ (y : Option Next). turn_by (seat_of f) y)
            (r.chooses x ∙ ap (λ (y : Next). Some y) (stay_is x e_stay)) ∙ ap turn.Owned (r.seat x))
            (stay_left (subst (λ (y : Next). IsAllowed m s.floor.history (with_next y e)) (stay_is x e_stay) allowed))
        | false ↦ λ e_away. goes_home k o s right owner h i f (r.seat x) allowed q x to near active
            (r.no_enter x) (r.chooses x) e_away
            (own_stands k o s right owner h i f (r.seat x) allowed to (r.way x))
            (left_own k o s right owner h i f (r.seat x) allowed (left_within to) home_left)
            (λ entry. elim (known_or (s.known i)) [
              | inl known ↦ inr (h.known i (ap stage active) known)
              | inr unknown ↦ inl (quiet_after_entry k o s right owner h i f (r.seat x) allowed wish
                  (r.chooses x ∙ ap (λ (y : Next). Some y) entry)
                  (ap (λ (g : Event). choice_of k o (stands_of k o s.floor) g false wish) (r.called x)
                  ∙ ap (λ (b : Bool). choice_of k o (stands_of k o s.floor) e b wish) (sym unknown) ∙ entry))
            ])
      ] in
      either_way (is_stay (Some x)) refl
    where
      known_or : (b : Bool) → (b ≡ true) ⊎ (b ≡ false)
      known_or true = inl refl
      known_or false = inr refl

  acted : (op : Op) (reply : ℕ) → reply ≡ o.reply (data_of (monitor_of k o s.floor) s.floor.history) op
      → is_in_range s.floor.seats s.floor.conds o.codes o.predicates (Act i op 0) ≡ true
      → 2 ≤ left_of s.floor.budget s.floor.history i
      → Sound k o (record s { floor = with_event s.floor (Act i op reply) })
  acted op reply is range enough =
      stays k o s right owner h i (Act i op reply) refl
      (record {
        in_range = range;
        offered = refl;
        in_turn = owns;
        in_place = refl;
        right_reply =
            eq-eqb reply (o.reply (data_of (monitor_of k o s.floor) s.floor.history) op) is;
        permitted = refl;
      })
      q active refl refl enough

  signalled_all : (c : ℕ) → is_in_range s.floor.seats s.floor.conds o.codes o.predicates (SignalAll i c) ≡ true
      → is_offered k (SignalAll i c) ≡ true → 2 ≤ left_of s.floor.budget s.floor.history i
      → Sound k o (record s { floor = with_event s.floor (SignalAll i c) })
  signalled_all c range offered enough =
      stays k o s right owner h i (SignalAll i c) refl
      (record {
        in_range = range;
        offered = offered;
        in_turn = owns;
        in_place = refl;
        right_reply =
            refl;
        permitted = refl;
      })
      q active refl refl enough

  looked_in : Sound k o (record s { known = update s.known i (s.known i || nat_le 2 s.world.unpassed) })
  looked_in = record {
    right = right;
    owner = owner;
    is_sound = record {
      legal = h.legal;
      stands = h.stands;
      active = h.active;
      known = λ j. at_update s.known i (s.known i || nat_le 2 s.world.unpassed)
          (λ m b. stage (s.world.place m) ≡ active_stage → b ≡ true → 2 ≤ s.world.unpassed)
          (λ a e. elim (either (s.known i) (nat_le 2 s.world.unpassed) e)
          [ inl b ↦ h.known i a b | inr b ↦ seen_two s.world.unpassed b ]) (λ m _. h.known m) j;
      entered = h.entered;
      late = h.late;
      granted_late = h.granted_late;
      left = h.left;
      outside = h.outside;
    };
  }

-- the six calls that release
pub leaving : (i : ℕ) → IsRelease (Leave i next.Stay) i home.Idle
leaving i = grind (arith, nat_tests)

pub waiting : (i c : ℕ) → IsRelease (Wait i c next.Stay) i home.Inner
waiting i c = grind (arith, nat_tests)

pub signalling : (i c : ℕ) → IsRelease (Signal i c next.Stay) i home.Inner
signalling i c = grind (arith, nat_tests)

pub signal_leaving : (i c : ℕ) → IsRelease (SignalLeave i c next.Stay) i home.Idle
signal_leaving i c = grind (arith, nat_tests)

pub signal_waiting : (i c d : ℕ) → IsRelease (SignalWait i c d next.Stay) i home.Inner
signal_waiting i c d = grind (arith, nat_tests)

pub waiting_until : (i p : ℕ) → IsRelease (Until i p next.Stay) i home.Inner
waiting_until i p = grind (arith, nat_tests)

module _ (k : Rules) (o : Object) (s : State) (right : Whereabouts) (owner : ℕ → ℕ) (kind : IsKind k)
    (h : IsSound k o s right owner) (i : ℕ) (near : i < s.floor.seats) where
  done : (c : Command) (a : Answer) (t : State) (p : Place) → s.world.place i ≡ p
      → is_call_in_range o s.floor (call_of i c) ≡ true → is_call_offered k (call_of i c) ≡ true
      → left_for c ≤ left_of s.floor.budget s.floor.history i → IsDone k o s i p c a t → Sound k o t
  done command.Arrive a t Idle at range offered left d =
      subst (Sound k o) (sym d.1) (sound_arrival k o s right owner h i near at left)
  done command.Look a t (Ticket n) at range offered left d =
      subst (Sound k o) (sym d.1)
      (sound_ticket_look k o s right owner h i near n (s.world.ticket_place (n % s.floor.seats) == n + 1) at refl)
  done command.Look a t Inner at range offered left d =
      subst (Sound k o) (sym d.1)
      (sound_seat_look k o s right owner h i near (s.world.seat_place i == s.world.count i + 1) at refl)
  done command.Out a t (Due q) at range offered left d =
      subst (Sound k o) (sym d.1) (sound_out k o s right owner h i near q at)
  done command.Peek a t Idle at range offered left d =
      subst (Sound k o) (sym d.1) (record { right = right; owner = owner; is_sound = h })
  done command.Peek a t (Active q) at range offered left d =
      subst (Sound k o) (sym d.1) (looked_in k o s right owner kind h i near q at)
  done command.Drop a t (Back next.Entry to) at range offered left d =
      subst (Sound k o) (sym d.1) (sound_drop k o s right owner h i near to at)
  done command.Grant a t (Back (next.Waiter j) to) at range offered left d =
      subst (Sound k o) (sym d.1) (sound_seat_grant k o s right owner h i near (next.Waiter j) j to at refl)
  done command.Grant a t (Back (next.Signaller j) to) at range offered left d =
      subst (Sound k o) (sym d.1) (sound_seat_grant k o s right owner h i near (next.Signaller j) j to at refl)
  done command.Grant a t (Back (next.Until j) to) at range offered left d =
      subst (Sound k o) (sym d.1) (sound_seat_grant k o s right owner h i near (next.Until j) j to at refl)
  done command.Grant a t (Passing n to) at range offered left d =
      subst (Sound k o) (sym d.1) (sound_ticket_grant k o s right owner h i near n to at)
  done (command.Act op) a t (Active q) at range offered left d =
      subst (Sound k o) (sym d.1)
      (acted k o s right owner kind h i near q at op (o.reply (data_of (monitor_of k o s.floor) s.floor.history) op)
      refl range left)
  done (command.Leave pick) a t (Active q) at range offered left d =
      subst (Sound k o) (sym d.1) (released k o s right owner kind h i near q at
      (Leave i next.Stay) pick home.Idle (leaving i)
      (record {
        in_range = range;
        offered = offered;
        in_turn = owns k o s right owner kind h i near q at;
        in_place =
            refl;
      }) (λ e. let z : false ≡ true = e.permitted in absurd cc) left)
  done (command.Wait c pick) a t (Active q) at range offered left d =
      subst (Sound k o) (sym d.1) (released k o s right owner kind h i near q at
      (Wait i c next.Stay) pick home.Inner (waiting i c)
      (record {
        in_range = range;
        offered = offered;
        in_turn = owns k o s right owner kind h i near q at;
        in_place =
            refl;
      }) (λ e. omega arith) left)
  done (command.Signal c pick) a t (Active q) at range offered left d =
      subst (Sound k o) (sym d.1) (released k o s right owner kind h i near q at
      (Signal i c next.Stay) pick home.Inner (signalling i c)
      (record {
        in_range = range;
        offered = offered;
        in_turn = owns k o s right owner kind h i near q at;
        in_place =
            refl;
      }) (λ e. omega arith) left)
  done (command.SignalLeave c pick) a t (Active q) at range offered left d =
      subst (Sound k o) (sym d.1)
      (released k o s right owner kind h i near q at (SignalLeave i c next.Stay) pick home.Idle (signal_leaving i c)
      (record {
        in_range = range;
        offered = offered;
        in_turn = owns k o s right owner kind h i near q at;
        in_place =
            refl;
      }) (λ e. let z : false ≡ true = e.permitted in absurd cc) left)
  done (command.Until p pick) a t (Active q) at range offered left d =
      subst (Sound k o) (sym d.1) (released k o s right owner kind h i near q at
      (Until i p next.Stay) pick home.Inner (waiting_until i p)
      (record {
        in_range = range;
        offered = offered;
        in_turn = owns k o s right owner kind h i near q at;
        in_place =
            refl;
      }) (λ e. omega arith) left)
  done (command.SignalAll c) a t (Active q) at range offered left d =
      subst (Sound k o) (sym d.1) (signalled_all k o s right owner kind h i near q at c range offered left)
  done (command.SignalWait c v pick) a t (Active q) at range offered left d =
      subst (Sound k o) (sym d.1)
      (released k o s right owner kind h i near q at (SignalWait i c v next.Stay) pick home.Inner (signal_waiting i c v)
      (record {
        in_range = range;
        offered = offered;
        in_turn = owns k o s right owner kind h i near q at;
        in_place =
            refl;
      }) (λ e. omega arith) left)
  done c a t p at range offered left d = absurd d

-- a refusal, or a step, by the tests for a refusal
split : (k : Rules) (o : Object) (s : State) (i : ℕ) (c : Command) (a : Answer) (t : State)
    (in_reach offered told tired : Bool)
    → IsAnswered k o s i c
    (cond (not in_reach) (Some answer.Range)
    (cond (not offered) (Some answer.NoCall)
    (cond (not told) (Some answer.NotNow) (cond tired (Some answer.Tired) None)))) a t
    → (t ≡ s) ⊎ ((in_reach ≡ true) × (offered ≡ true) × (tired ≡ false) × IsDone k o s i (s.world.place i) c a t)
split k o s i c a t in_reach offered told tired d = grind (arith, nat_tests)

not_less : (n m : ℕ) → nat_lt n m ≡ false → m ≤ n
not_less n m e = grind (arith, e)

pub conjuncts : (a b : Bool) → (a && b) ≡ true → (a ≡ true) × (b ≡ true)
conjuncts a b e = grind (arith, nat_tests)

pub step_is_sound : (k : Rules) (o : Object) (s : State) (i : ℕ) (c : Command) (a : Answer) (t : State) → IsKind k
    → Sound k o s → IsStep k o s i c a t → Sound k o t
step_is_sound k o s i c a t kind h step =
    let reach = nat_lt i s.floor.seats && is_call_in_range o s.floor (call_of i c) in
    elim (split k o s i c a t reach (is_call_offered k (call_of i c)) (may_be_told (s.world.place i) c)
    (nat_lt (left_of s.floor.budget s.floor.history i) (left_for c)) step) [
      | inl same ↦ subst (Sound k o) (sym same) h
      | inr d ↦
          let parts = conjuncts (nat_lt i s.floor.seats) (is_call_in_range o s.floor (call_of i c)) d.0 in
          done k o s h.right h.owner kind h.is_sound i (ltb-true i s.floor.seats parts.0) c a t
          (s.world.place i) refl parts.1 d.1
          (not_less (left_of s.floor.budget s.floor.history i) (left_for c) d.2) d.3
    ]
