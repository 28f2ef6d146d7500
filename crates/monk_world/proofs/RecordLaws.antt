-- What each step of a run adds to the history
use Rattle.std.proofs.Common.{◌≡◌, ℕ, ◌==◌, ◌≤◌, ◌⊎◌, inl, inr, true, false, cond, Bool, List, [], ◌∷◌, ◌++◌, sym, refl}
use Rattle.std.proofs.Common.{ap, ◌∙◌, subst, arith, append_assoc}
use Rattle.std.specs.Prelude.{map, Some, None, not, nat_le, nat_lt, ◌&&◌, if◌then◌else◌}
use Rattle.std.proofs.lemmas.Bool.{le-leb, leb-true, Decides.nat_tests}
use Rattle.std.proofs.lemmas.List.{append-nil, Elements.filter-append, Folds.list_all-append}
use Rattle.std.specs.List.{list_all}
use Rattle.monk_kinds.specs.{Kind.IsKind, declared.mode.Pick.Pick, declared.mode.Rules.Rules}
use Rattle.monk_object.specs.Object.{Object}
use Rattle.monk_history.specs.declared.event.Next.TheVariants as next
use Rattle.monk_history.specs.declared.event.Via.TheVariants as via
use Rattle.monk_history.proofs.PublicLaws.Meaning.{events_of-push}
use Rattle.monk_history.specs.Meaning.{Events.seat_of, Events.is_stay, Release.with_next, Turn.turn}
use Rattle.monk_history.specs.Meaning.Counts.{events_of, enters_of, is_enter, left_of}
use Rattle.monk_history.specs.declared.event.{Next.Next, Turn.Turn, Via.Via}
use Rattle.monk_history.specs.declared.event.Event.{Event}
use Rattle.monk_history.specs.declared.event.Event.TheVariants.{Enter, Leave, Wait, Signal, SignalLeave, Until}
use Rattle.monk_history.specs.declared.event.Event.TheVariants.{SignalAll, SignalWait}
use Rattle.monk_history.specs.Text.{first_version}
use Rattle.monk_floor.specs.View.{FloorView}
use Rattle.monk_world.specs.declared.answer.Answer.TheVariants as answer
use Rattle.monk_world.specs.declared.command.Command.TheVariants as command
use Rattle.monk_world.specs.declared.home.Home.TheVariants as home
use Rattle.monk_world.proofs.{UpdateLaws.update_here, RunLaws.well_led}
use Rattle.monk_world.proofs.SoundSteps.{IsRelease, leaving, waiting, signalling, signal_leaving, signal_waiting}
use Rattle.monk_world.proofs.SoundSteps.{waiting_until, step_is_sound}
use Rattle.monk_world.specs.{Runs.Told, Runs.IsRun, Runs.IsWellLed, Sound.Sound, State.State, State.with_event}
use Rattle.monk_world.specs.{State.is_quiet, Steps.after_floor_in, Telling.command_of, World.World}
use Rattle.monk_world.specs.StepTable.{call_of, command_version, is_call_in_range, is_call_offered, may_be_told}
use Rattle.monk_world.specs.StepTable.{left_for, out_event, release_next, IsReleased, IsDone, IsAnswered, IsStep}
use Rattle.monk_world.specs.declared.{answer.Answer.Answer, command.Command.Command, home.Home.Home}
use Rattle.monk_world.specs.declared.source.Source.{Source, TheVariants.Free, TheVariants.Granted, TheVariants.Called}
use Rattle.monk_world.specs.declared.place.Place.{Place}
use Rattle.monk_world.specs.declared.place.Place.TheVariants.{Idle, Ticket, Due, Active, Back, Passing, Inner}
use Rattle.monk_world.specs.Records.{Recorded, IsOwn, EntersWith, IsTaken, IsRecorded, recorded_by, recorded_command}
use Rattle.monk_world.specs.Records.{are_in_version, IsRecordedBy, KeepsVersion, StepsAreTaken, RunsAreRecorded}

-- whether the answer is that entry was chosen
abbrev lets_in : Answer → Bool
lets_in (answer.Arrived t n) = false
lets_in (answer.Looked found) = false
lets_in (answer.Found n) = false
lets_in answer.Now = false
lets_in (answer.Chose next.Stay) = false
lets_in (answer.Chose next.Entry) = true
lets_in (answer.Chose (next.Waiter j)) = false
lets_in (answer.Chose (next.Signaller j)) = false
lets_in (answer.Chose (next.Until j)) = false
lets_in (answer.GrantedTicket t) = false
lets_in (answer.GrantedSeat j) = false
lets_in (answer.Reply r) = false
lets_in (answer.Woke n) = false
lets_in answer.Range = false
lets_in answer.NoCall = false
lets_in answer.NotNow = false
lets_in answer.Tired = false

another : (a r : Answer) → a ≡ r → lets_in r ≡ false → a ≡ answer.Chose next.Entry → ⊥
another a r is differs entry = cc

-- a refusal, or a step
pub refused_or_done : (k : Rules) (o : Object) (s : State) (i : ℕ) (c : Command) (a : Answer) (t : State)
    (in_reach offered told tired : Bool)
    → IsAnswered k o s i c
    (cond (not in_reach) (Some answer.Range)
    (cond (not offered) (Some answer.NoCall)
    (cond (not told) (Some answer.NotNow) (cond tired (Some answer.Tired) None)))) a t
    → ((r : Answer) × ((a ≡ r) × (lets_in r ≡ false) × (t ≡ s))) ⊎ IsDone k o s i (s.world.place i) c a t
refused_or_done k o s i c a t in_reach offered told tired d = grind (arith, nat_tests)

out_seat : (i : ℕ) (q : Source) (u : Turn) → seat_of (out_event i q u) ≡ i
out_seat i q u = grind (arith, nat_tests)

out_version : (i : ℕ) (q : Source) (u : Turn) → first_version (out_event i q u) ≤ 1
out_version i q u = grind (arith, nat_tests)

one_in_version : (e : Event) (v : ℕ) → first_version e ≤ v → are_in_version v (e ∷ []) ≡ true
one_in_version e v l = ap (λ b. b && true) (le-leb (first_version e) v l)

abbrev recording : ℕ → Command → Answer → List Event → Recorded
recording i c a events = record { told = record { seat = i; command = c; answer = a }; events = events }

module _ (k : Rules) (o : Object) (s : State) (kind : IsKind k) (h : Sound k o s) (i : ℕ) where
  abbrev Outcome : Command → Answer → State → Type 0
  Outcome c a t = (events : List Event) × IsTaken k o s (recording i c a events) t

  well_after : (c : Command) (a : Answer) (t : State) → IsStep k o s i c a t → IsWellLed k o t
  well_after c a t step = let after = step_is_sound k o s i c a t kind h step in
      well_led k o t after.right after.owner after.is_sound

  -- no event is appended
  still : (c : Command) (a : Answer) (t : State) → IsStep k o s i c a t → (r : Answer) → a ≡ r → lets_in r ≡ false
      → t.floor ≡ s.floor → Outcome c a t
  still c a t step r is differs same = (
    [],
    record {
      is_step = step;
      grows = same ∙ ap (λ (past : List Event). record s.floor { history = past }) (sym (append-nil s.floor.history));
      own = tt;
      in_turn = λ v e. absurd cc;
      versions = λ v l. refl;
      well_led = well_after c a t step;
      waited_for = λ e. absurd (another a r is differs e);
    },
  )

  -- one event is appended
  grew : (c : Command) (a : Answer) (t : State) → IsStep k o s i c a t → (e : Event)
      → t.floor ≡ with_event s.floor e → seat_of e ≡ i
      → first_version e ≤ command_version c
      → ((v : Via) → e ≡ Enter i v → EntersWith (s.world.place i) v (enters_of s.floor.history))
      → (a ≡ answer.Chose next.Entry → (is_quiet k o t.floor ≡ true) ⊎ (2 ≤ s.world.unpassed)) → Outcome c a t
  grew c a t step e grows own version turn waited = (
    e ∷ [],
    record {
      is_step = step;
      grows = grows;
      own = own;
      in_turn = λ v is. let same : e ≡ Enter i v = cc in turn v same;
      versions = λ v l. one_in_version e v (omega (arith, version, l));
      well_led = well_after c a t step;
      waited_for = waited;
    },
  )

  -- the floor goes home with entry
  entry_waits : (c : Command) (a : Answer) (t : State) → IsStep k o s i c a t → (x : Next) (to : Home) → x ≡ next.Entry
      → t.world ≡ (if is_stay (Some x) then s.world else after_floor_in s.world i x to) → (is_quiet k o t.floor ≡ true)
      ⊎ (2 ≤ s.world.unpassed)
  entry_waits c a t step x to is world_is =
      let after = step_is_sound k o s i c a t kind h step in
      let went : t.world ≡ after_floor_in s.world i next.Entry to = grind (arith, nat_tests) in
      let place : t.world.place i ≡ Back next.Entry to = ap (λ (w : World). w.place i) went
      ∙ update_here s.world.place i (Back next.Entry to) in
      let unpassed : t.world.unpassed ≡ s.world.unpassed = ap (λ (w : World). w.unpassed) went in
      grind (arith, nat_tests)

  released : (c : Command) (a : Answer) (t : State) → IsStep k o s i c a t → (e : Event) (pick : Pick) (to : Home)
      → IsRelease e i to → ((x : Next) → first_version (with_next x e) ≤ command_version c)
      → IsReleased k o s i e pick to a t → Outcome c a t
  released c a t step e pick to r version d =
      let x = release_next k o s i e pick in
      grew c a t step (with_next x e) (ap (λ (u : State). u.floor) d.1) (r.seat x) (version x)
      (λ v is. let z : false ≡ true = sym (r.no_enter x) ∙ ap is_enter is in absurd cc)
      (λ entry. let same : answer.Chose x ≡ answer.Chose next.Entry = sym d.0 ∙ entry in let is : x ≡ next.Entry = cc in
      entry_waits c a t step x to is (ap (λ (u : State). u.world) d.1))

  enters_so : (q : Source) (u : Turn) → s.world.place i ≡ Due q → (v : Via) → out_event i q u ≡ Enter i v
      → EntersWith (s.world.place i) v (enters_of s.floor.history)
  enters_so (Free t) u at v is =
      let by : v ≡ via.Free = cc in
      grind (arith, nat_tests, well_led)
  enters_so (Granted t) u at v is =
      let by : v ≡ via.Handed = cc in
      grind (arith, nat_tests, well_led)
  enters_so Called u at v is = absurd cc

  done : (c : Command) (a : Answer) (t : State) (p : Place) → IsStep k o s i c a t → s.world.place i ≡ p
      → IsDone k o s i p c a t → Outcome c a t
  done command.Arrive a t Idle step at d = still command.Arrive a t step _ d.0 refl (ap (λ (u : State). u.floor) d.1)
  done command.Look a t (Ticket n) step at d = still command.Look a t step _ d.0 refl (ap (λ (u : State). u.floor) d.1)
  done command.Look a t Inner step at d = still command.Look a t step _ d.0 refl (ap (λ (u : State). u.floor) d.1)
  done command.Out a t (Due q) step at d =
      grew command.Out a t step (out_event i q (turn s.floor.history)) (ap (λ (u : State). u.floor) d.1)
      (out_seat i q (turn s.floor.history)) (out_version i q (turn s.floor.history))
      (enters_so q (turn s.floor.history) at) (λ e. absurd (another a answer.Now d.0 refl e))
  done command.Peek a t Idle step at d = still command.Peek a t step _ d.0 refl (ap (λ (u : State). u.floor) d.1)
  done command.Peek a t (Active q) step at d = still command.Peek a t step _ d.0 refl (ap (λ (u : State). u.floor) d.1)
  done command.Drop a t (Back next.Entry to) step at d =
      still command.Drop a t step _ d.0 refl (ap (λ (u : State). u.floor) d.1)
  done command.Grant a t (Back (next.Waiter j) to) step at d =
      still command.Grant a t step _ d.0 refl (ap (λ (u : State). u.floor) d.1)
  done command.Grant a t (Back (next.Signaller j) to) step at d =
      still command.Grant a t step _ d.0 refl (ap (λ (u : State). u.floor) d.1)
  done command.Grant a t (Back (next.Until j) to) step at d =
      still command.Grant a t step _ d.0 refl (ap (λ (u : State). u.floor) d.1)
  done command.Grant a t (Passing n to) step at d =
      still command.Grant a t step _ d.0 refl (ap (λ (u : State). u.floor) d.1)
  done (command.Act op) a t (Active q) step at d =
      grew (command.Act op) a t step _ (ap (λ (u : State). u.floor) d.1) refl (omega arith) (λ v is. absurd cc)
      (λ e. absurd (another a _ d.0 refl e))
  done (command.Leave pick) a t (Active q) step at d =
      released (command.Leave pick) a t step (Leave i next.Stay) pick home.Idle (leaving i) (λ x. omega arith) d
  done (command.Wait c pick) a t (Active q) step at d =
      released (command.Wait c pick) a t step (Wait i c next.Stay) pick home.Inner (waiting i c) (λ x. omega arith) d
  done (command.Signal c pick) a t (Active q) step at d =
      released (command.Signal c pick) a t step (Signal i c next.Stay) pick home.Inner (signalling i c)
      (λ x. omega arith) d
  done (command.SignalLeave c pick) a t (Active q) step at d =
      released (command.SignalLeave c pick) a t step (SignalLeave i c next.Stay) pick home.Idle
      (signal_leaving i c) (λ x. omega arith) d
  done (command.Until p pick) a t (Active q) step at d =
      released (command.Until p pick) a t step (Until i p next.Stay) pick home.Inner (waiting_until i p)
      (λ x. omega arith) d
  done (command.SignalAll c) a t (Active q) step at d =
      grew (command.SignalAll c) a t step (SignalAll i c) (ap (λ (u : State). u.floor) d.1) refl (omega arith)
      (λ v is. absurd cc)
      (λ e. absurd (another a _ d.0 refl e))
  done (command.SignalWait c v pick) a t (Active q) step at d =
      released (command.SignalWait c v pick) a t step (SignalWait i c v next.Stay) pick home.Inner
      (signal_waiting i c v)
      (λ x. omega arith) d
  done c a t p step at d = absurd d

  pub taken : (c : Command) (a : Answer) (t : State) → IsStep k o s i c a t → Outcome c a t
  taken c a t step =
      let reach = nat_lt i s.floor.seats && is_call_in_range o s.floor (call_of i c) in
      elim (refused_or_done k o s i c a t reach (is_call_offered k (call_of i c)) (may_be_told (s.world.place i) c)
      (nat_lt (left_of s.floor.budget s.floor.history i) (left_for c)) step) [
        | inl r ↦ still c a t step r.0 r.1.0 r.1.1 (ap (λ (u : State). u.floor) r.1.2)
        | inr d ↦ done c a t (s.world.place i) step refl d
      ]

-- the events of a seat are those that its own steps appended

nothing_either_way : (b : Bool) → ◌≡◌ {A = List Event} [] (cond b [] [])
nothing_either_way b = grind (arith, nat_tests)

none_of : (j : ℕ) → events_of [] j ≡ []
unfolding events_of
none_of j = refl

own_are : (i j : ℕ) (events : List Event) → IsOwn i events → events_of events j ≡ cond (i == j) events []
own_are i j [] own = none_of j ∙ nothing_either_way (i == j)
own_are i j (e ∷ []) own =
    subst (λ (m : ℕ). events_of (e ∷ []) j ≡ cond (m == j) (e ∷ []) []) own
    (events_of-push [] e j ∙ ap (λ xs. xs ++ cond (seat_of e == j) (e ∷ []) []) (none_of j))
own_are i j (e ∷ f ∷ more) own = absurd own

events_of-append : (past more : List Event) (j : ℕ) → events_of (past ++ more) j ≡ events_of past j ++ events_of more j
unfolding events_of
events_of-append past more j = filter-append (λ e. seat_of e == j) past more

own_events : (k : Rules) (o : Object) (s : State) (steps : List Recorded) (t : State) → IsRecorded k o s steps t
    → (j : ℕ) → events_of t.floor.history j ≡ events_of s.floor.history j ++ recorded_by j steps
own_events k o s [] t r j = ap (λ (u : State). events_of u.floor.history j) r
    ∙ sym (append-nil (events_of s.floor.history j))
own_events k o s (x ∷ xs) t r j =
    let u = r.0 in
    let here : events_of u.floor.history j ≡ events_of s.floor.history j ++ cond (x.told.seat == j) x.events [] =
    grind (arith, nat_tests, events_of-append, own_are) in
    own_events k o u xs t r.2 j ∙ (ap (λ es. es ++ recorded_by j xs) here
    ∙ append_assoc (events_of s.floor.history j) (cond (x.told.seat == j) x.events []) (recorded_by j xs))

run_recorded : (k : Rules) (o : Object) (s : State) (told : List Told) (t : State) → IsKind k → Sound k o s
    → IsRun k o s told t
    → (steps : List Recorded) × ((map recorded_command steps ≡ map command_of told) × IsRecorded k o s steps t)
run_recorded k o s [] t kind h run = ([], (refl, run))
run_recorded k o s (x ∷ xs) t kind h run =
    let u = run.0 in
    let one = taken k o s kind h x.seat x.command x.answer u run.1 in
    let more = run_recorded k o u xs t kind (step_is_sound k o s x.seat x.command x.answer u kind h run.1) run.2 in
    (recording x.seat x.command x.answer one.0 ∷ more.0, (ap (λ cs. command_of x ∷ cs) more.1.0, (u, one.1, more.1.1)))

-- a version that has all the commands has all the events that they append

versions_split : (a b : Bool) → (a && b) ≡ true → (a ≡ true) × (b ≡ true)
versions_split a b h = grind (arith, nat_tests)

versions_join : (a b : Bool) → a ≡ true → b ≡ true → (a && b) ≡ true
versions_join a b h l = ap (λ x. x && b) h ∙ l

same_version : (k : Rules) (o : Object) (s : State) (steps : List Recorded) (t : State) (v : ℕ)
    → IsRecorded k o s steps t
    → are_in_version v s.floor.history ≡ true
    → list_all (λ c. nat_le (command_version c.1) v) (map recorded_command steps) ≡ true
    → are_in_version v t.floor.history ≡ true
same_version k o s [] t v r here all = ap (λ (u : State). are_in_version v u.floor.history) r ∙ here
same_version k o s (x ∷ xs) t v r here all =
    let both = versions_split (nat_le (command_version x.told.command) v) _ all in
    let more = r.1.versions v (leb-true (command_version x.told.command) v both.0) in
    same_version k o r.0 xs t v r.2
    (ap (λ (f : FloorView). are_in_version v f.history) r.1.grows
    ∙ (list_all-append (λ e. nat_le (first_version e) v) s.floor.history x.events
    ∙ versions_join (are_in_version v s.floor.history) (are_in_version v x.events) here more)) both.1

pub keeps_version : (k : Rules) (o : Object) (s : State) (commands : List (ℕ × Command)) (t : State)
    → IsRecordedBy k o s commands t → KeepsVersion s commands t
keeps_version k o s commands t r v here all =
    same_version k o s r.steps t v r.recorded here
    (subst (λ cs. list_all (λ c. nat_le (command_version c.1) v) cs ≡ true) (sym r.by_commands) all)

-- only the history of the floor changes
pub record IsSameMonitor (f g : FloorView) : Type 0 where
  pub opening : g.opening ≡ f.opening
  pub seats : g.seats ≡ f.seats
  pub conds : g.conds ≡ f.conds
  pub budget : g.budget ≡ f.budget

pub same_monitor : (k : Rules) (o : Object) (s : State) (steps : List Recorded) (t : State) → IsRecorded k o s steps t
    → IsSameMonitor s.floor t.floor
same_monitor k o s [] t r = record {
  opening = ap (λ (u : State). u.floor.opening) r;
  seats = ap (λ (u : State). u.floor.seats) r;
  conds = ap (λ (u : State). u.floor.conds) r;
  budget = ap (λ (u : State). u.floor.budget) r;
}
same_monitor k o s (x ∷ xs) t r =
    let one = r.1.grows in
    let more = same_monitor k o r.0 xs t r.2 in
    grind (arith, nat_tests)

pub steps_are_taken : StepsAreTaken
steps_are_taken k o s i c a t kind h step = taken k o s kind h i c a t step

pub runs_are_recorded : RunsAreRecorded
runs_are_recorded k o s commands t kind h led =
    let r = run_recorded k o s led.told t kind h led.is_run in
    record { steps = r.0; by_commands = r.1.0 ∙ led.by_commands; recorded = r.1.1; own = own_events k o s r.0 t r.1.1 }
