-- A seat that has a ticket has drawn it
use Rattle.std.proofs.Common.{◌≡◌, ℕ, ◌+◌, ◌⊎◌, inl, inr, true, false, cond, Bool, List, [], ◌∷◌, ◌++◌, sym}
use Rattle.std.proofs.Common.{refl, ap, ◌∙◌, subst, append_assoc, arith}
use Rattle.std.specs.Prelude.{Some, nat_lt, ◌&&◌, if◌then◌else◌}
use Rattle.std.proofs.lemmas.Bool.Decides.{nat_tests}
use Rattle.monk_kinds.specs.declared.mode.Rules.{Rules}
use Rattle.monk_object.specs.Object.{Object}
use Rattle.monk_history.specs.declared.event.Next.TheVariants as next
use Rattle.monk_history.specs.Meaning.{Counts.enters_of, Events.is_stay}
use Rattle.monk_history.specs.declared.event.{Next.Next, Via.Via}
use Rattle.monk_world.specs.declared.answer.Answer.TheVariants as answer
use Rattle.monk_world.specs.declared.command.Command.TheVariants as command
use Rattle.monk_world.specs.declared.home.Home.TheVariants as home
use Rattle.monk_world.proofs.{UpdateLaws.at_update, RecordLaws.refused_or_done}
use Rattle.monk_world.specs.{Places.place_of, Update.update, Runs.opening_state, State.State, World.World}
use Rattle.monk_world.specs.Steps.{place_after_arrive, place_after_ticket_look, place_after_seat_look, place_after_drop}
use Rattle.monk_world.specs.Steps.{after_floor_in}
use Rattle.monk_world.specs.StepTable.{call_of, is_call_in_range, IsDone, IsStep}
use Rattle.monk_world.specs.declared.{answer.Answer.Answer, command.Command.Command, home.Home.Home}
use Rattle.monk_world.specs.declared.source.Source.TheVariants.{Free, Granted, Called}
use Rattle.monk_world.specs.declared.place.Place.{Place}
use Rattle.monk_world.specs.declared.place.Place.TheVariants.{Idle, Ticket, Due, Active, Back, Passing, Inner}
use Rattle.monk_world.specs.Records.{Recorded, EntersWith, IsRecorded, HasDrawn, TicketsEnterInOrder}

-- a seat at this place has ticket n, and has not entered with it
abbrev HasTicket : ℕ → Place → Type 0
HasTicket n Idle = ⊥
HasTicket n (Ticket t) = t ≡ n
HasTicket n (Due (Free t)) = t ≡ n
HasTicket n (Due (Granted t)) = t ≡ n
HasTicket n (Due Called) = ⊥
HasTicket n (Active q) = ⊥
HasTicket n (Back x home) = ⊥
HasTicket n (Passing t home) = ⊥
HasTicket n Inner = ⊥

with_ticket : (p : Place) (v : Via) (n : ℕ) → EntersWith p v n → HasTicket n p
with_ticket Idle v n e = absurd e
with_ticket (Ticket t) v n e = absurd e
with_ticket (Due (Free t)) v n e = e.1
with_ticket (Due (Granted t)) v n e = e.1
with_ticket (Due Called) v n e = absurd e
with_ticket (Active q) v n e = absurd e
with_ticket (Back x home) v n e = absurd e
with_ticket (Passing t home) v n e = absurd e
with_ticket Inner v n e = absurd e

-- ---- one step

abbrev HasJustDrawn : ℕ → ℕ → ℕ → Answer → Type 0
HasJustDrawn i j n a = (i ≡ j) × ((found : ℕ) × (a ≡ answer.Arrived n found))

no_ticket_home : (n : ℕ) (to : Home) → HasTicket n (place_of to) → ⊥
no_ticket_home n to e = grind (arith, nat_tests)

no_ticket_dropped : (n t m : ℕ) (to : Home) → HasTicket n (place_after_drop t m to) → ⊥
no_ticket_dropped n t m to h = grind (arith, nat_tests)

drawn_at : (n t m : ℕ) → HasTicket n (place_after_arrive t m) → t ≡ n
drawn_at n t m h = grind (arith, nat_tests)

looked_at : (n t : ℕ) (found : Bool) → HasTicket n (place_after_ticket_look t found) → t ≡ n
looked_at n t found e = grind (arith, nat_tests)

no_ticket_called : (n : ℕ) (found : Bool) → HasTicket n (place_after_seat_look found) → ⊥
no_ticket_called n found e = grind (arith, nat_tests)

module _ (k : Rules) (o : Object) (s : State) (i j n : ℕ) where
  abbrev Before : Answer → Type 0
  Before a = HasTicket n (s.world.place j) ⊎ HasJustDrawn i j n a

  -- seat i is at p now
  moved : (a : Answer) (t : State) (p : Place) → t.world.place ≡ update s.world.place i p
      → (HasTicket n p → (i ≡ j) → Before a) → HasTicket n (t.world.place j) → Before a
  moved a t p is here has =
      at_update s.world.place i p (λ m y. m ≡ j → HasTicket n y → Before a) (λ e h. here h e)
      (λ m ne e h. inl (subst (λ (z : ℕ). HasTicket n (s.world.place z)) e h)) j refl
      (subst (λ (f : ℕ → Place). HasTicket n (f j)) is has)

  -- no seat has moved
  unmoved : (a : Answer) (t : State) → t.world ≡ s.world → HasTicket n (t.world.place j) → Before a
  unmoved a t is has = inl (subst (λ (w : World). HasTicket n (w.place j)) is has)

  -- a call that releases
  released : (a : Answer) (t : State) (x : Next) (to : Home)
      → t.world ≡ (if is_stay (Some x) then s.world else after_floor_in s.world i x to) → HasTicket n (t.world.place j)
      → Before a
  released a t x to is has = by (is_stay (Some x)) is
    where
      by : (b : Bool) → t.world ≡ cond b s.world (after_floor_in s.world i x to) → Before a
      by true e = unmoved a t e has
      by false e = moved a t (Back x to) (ap (λ (w : World). w.place) e) (λ h e. absurd h) has

  done : (c : Command) (a : Answer) (t : State) (p : Place) → s.world.place i ≡ p → IsDone k o s i p c a t
      → HasTicket n (t.world.place j) → Before a
  done command.Arrive a t Idle at d =
      moved a t (place_after_arrive s.world.drawn s.world.unpassed) (ap (λ (u : State). u.world.place) d.1)
      (λ h e. inr (
        e,
        (
          s.world.unpassed,
          d.0
              ∙ ap (λ (m : ℕ). answer.Arrived m s.world.unpassed) (drawn_at n s.world.drawn s.world.unpassed h),
        ),
      ))
  done command.Look a t (Ticket m) at d =
      moved a t (place_after_ticket_look m _) (ap (λ (u : State). u.world.place) d.1)
      (λ h e. inl (subst (λ (z : ℕ). HasTicket n (s.world.place z)) e
      (subst (HasTicket n) (sym at) (looked_at n m _ h))))
  done command.Look a t Inner at d = moved a t (place_after_seat_look _) (ap (λ (u : State). u.world.place) d.1)
      (λ h e. absurd (no_ticket_called n _ h))
  done command.Out a t (Due q) at d = moved a t (Active q) (ap (λ (u : State). u.world.place) d.1) (λ h e. absurd h)
  done command.Peek a t Idle at d = unmoved a t (ap (λ (u : State). u.world) d.1)
  done command.Peek a t (Active q) at d = unmoved a t (ap (λ (u : State). u.world) d.1)
  done command.Drop a t (Back next.Entry to) at d =
      moved a t (place_after_drop s.world.drawn s.world.unpassed to) (ap (λ (u : State). u.world.place) d.1)
      (λ h e. absurd (no_ticket_dropped n _ _ to h))
  done command.Grant a t (Back (next.Waiter m) to) at d =
      moved a t (place_of to) (ap (λ (u : State). u.world.place) d.1) (λ h e. absurd (no_ticket_home n to h))
  done command.Grant a t (Back (next.Signaller m) to) at d =
      moved a t (place_of to) (ap (λ (u : State). u.world.place) d.1) (λ h e. absurd (no_ticket_home n to h))
  done command.Grant a t (Back (next.Until m) to) at d =
      moved a t (place_of to) (ap (λ (u : State). u.world.place) d.1) (λ h e. absurd (no_ticket_home n to h))
  done command.Grant a t (Passing m to) at d =
      moved a t (place_of to) (ap (λ (u : State). u.world.place) d.1) (λ h e. absurd (no_ticket_home n to h))
  done (command.Act op) a t (Active q) at d = unmoved a t (ap (λ (u : State). u.world) d.1)
  done (command.Leave pick) a t (Active q) at d = released a t _ home.Idle (ap (λ (u : State). u.world) d.1)
  done (command.Wait c pick) a t (Active q) at d = released a t _ home.Inner (ap (λ (u : State). u.world) d.1)
  done (command.Signal c pick) a t (Active q) at d = released a t _ home.Inner (ap (λ (u : State). u.world) d.1)
  done (command.SignalLeave c pick) a t (Active q) at d = released a t _ home.Idle (ap (λ (u : State). u.world) d.1)
  done (command.Until p pick) a t (Active q) at d = released a t _ home.Inner (ap (λ (u : State). u.world) d.1)
  done (command.SignalAll c) a t (Active q) at d = unmoved a t (ap (λ (u : State). u.world) d.1)
  done (command.SignalWait c v pick) a t (Active q) at d = released a t _ home.Inner (ap (λ (u : State). u.world) d.1)
  done c a t p at d = absurd d

  stepped : (c : Command) (a : Answer) (t : State) → IsStep k o s i c a t → HasTicket n (t.world.place j) → Before a
  stepped c a t step has =
      let reach = nat_lt i s.floor.seats && is_call_in_range o s.floor (call_of i c) in
      grind (arith, nat_tests, refused_or_done, unmoved, done)

-- ---- all steps

drawn_before : (j n : ℕ) (xs ys : List Recorded) → HasDrawn j n xs → HasDrawn j n (xs ++ ys)
drawn_before j n [] ys h = absurd h
drawn_before j n (x ∷ xs) ys (inl h) = inl h
drawn_before j n (x ∷ xs) ys (inr h) = inr (drawn_before j n xs ys h)

drawn_last : (j n : ℕ) (xs : List Recorded) (x : Recorded) → HasJustDrawn x.told.seat j n x.told.answer
    → HasDrawn j n (xs ++ x ∷ [])
drawn_last j n [] x h = inl h
drawn_last j n (y ∷ xs) x h = inr (drawn_last j n xs x h)

-- each ticket that a seat has was drawn in these steps
abbrev AllDrawn : State → List Recorded → Type 0
AllDrawn s steps = (j n : ℕ) → HasTicket n (s.world.place j) → HasDrawn j n steps

drawn_in : (k : Rules) (o : Object) (s : State) (xs : List Recorded) (t : State) → IsRecorded k o s xs t
    → (past : List Recorded) → AllDrawn s past → AllDrawn t (past ++ xs)
drawn_in k o s [] t r past all j n has =
    drawn_before j n past [] (all j n (subst (λ (u : State). HasTicket n (u.world.place j)) r has))
drawn_in k o s (x ∷ xs) t r past all j n has =
    let more : AllDrawn r.0 (past ++ x ∷ []) = λ m t has_now.
    elim (stepped k o s x.told.seat m t x.told.command x.told.answer r.0 r.1.is_step has_now) [
      | inl h ↦ drawn_before m t past (x ∷ []) (all m t h)
      | inr h ↦ drawn_last m t past x h
    ] in
    grind (arith, nat_tests, append_assoc, drawn_in k o r.0 xs t r.2 (past ++ x ∷ []) more j n has)

pub tickets_enter_in_order : TicketsEnterInOrder
tickets_enter_in_order k o opening seats conds budget before s x t v kind r taken is =
    drawn_in k o (opening_state opening seats conds budget) before s r [] (λ j n h. absurd h) x.told.seat
    (enters_of s.floor.history)
    (with_ticket (s.world.place x.told.seat) v (enters_of s.floor.history) (taken.in_turn v is))
