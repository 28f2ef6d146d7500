-- What every step of the table uses: the shown world takes a step of a world, and what its history holds
use Rattle.std.proofs.Common.{◌≡◌, ◌≢◌, ℕ, ◌==◌, ◌<◌, ◌≤◌, ◌⊎◌, cond, Bool, true, false, ◌&&◌, not, nat_lt}
use Rattle.std.proofs.Common.{List, [], ◌∷◌, ◌++◌, sym, refl, ap, ◌∙◌, subst, inl, inr, arith, ne_eqb, append-nil}
use Rattle.std.proofs.{Common.append_assoc, lemmas.Bool.Decides.eqb_tells, lemmas.Bool.Decides.nat_tests}
use Rattle.std.specs.Prelude.{Option, Some, None}
use Rattle.monk_kinds.specs.{Kind.IsKind, declared.mode.Rules.Rules}
use Rattle.monk_object.specs.Object.{Object}
use Rattle.monk_history.proofs.PublicLaws.Meaning.{events_of-push, enters_of-push}
use Rattle.monk_history.specs.Meaning.{Counts.events_of, Counts.enters_of, Counts.left_of, Events.seat_of, Turn.turn}
use Rattle.monk_history.specs.declared.event.Event.{Event}
use Rattle.monk_world.specs.declared.answer.Answer.TheVariants as answer
use Rattle.monk_world.proofs.PublicLaws.{IsReady, kept_done, held, active_is}
use Rattle.monk_world.specs.{Kept.IsKept, Places.stage, Places.active_stage, Sound.IsSound, State.State, World.World}
use Rattle.monk_world.specs.StepTable.{IsDone, IsStep, IsAnswered, refusal, out_event, call_of, is_call_in_range}
use Rattle.monk_world.specs.StepTable.{is_call_offered, may_be_told, left_for}
use Rattle.monk_world.specs.Right.{Whereabouts, Nowhere, AtTicket, With, AtSeat, KeepsRight}
use Rattle.monk_world.specs.declared.{answer.Answer.Answer, command.Command.Command}
use Rattle.monk_world.specs.declared.source.Source.{Source, TheVariants.Free, TheVariants.Granted, TheVariants.Called}
use Rattle.monk_world.specs.declared.place.Place.{Place}
use Rattle.monk_world.specs.declared.place.Place.TheVariants.{Idle, Ticket, Due, Active, Back, Passing, Inner}
use Rattle.monk_world.specs.Enters.{FitsEnters, used_at}
use Rattle.monk_hall.specs.{Floors.StartsWith, Layout.shown_world, Rule.AreTold, Rule.Homes}
use Rattle.monk_hall.specs.declared.{record.SeatRecord.SeatRecord, setting.Setting.Setting}

passes : (reach offered told tired : Bool) → reach ≡ true → offered ≡ true → told ≡ true → tired ≡ false
    → cond (not reach) (Some answer.Range)
    (cond (not offered) (Some answer.NoCall)
    (cond (not told) (Some answer.NotNow) (cond tired (Some answer.Tired) None))) ≡ None
passes false offered told tired a b c d = absurd cc
passes true false told tired a b c d = absurd cc
passes true true false tired a b c d = absurd cc
passes true true true true a b c d = absurd cc
passes true true true false a b c d = refl

both : (a b : Bool) → a ≡ true → b ≡ true → (a && b) ≡ true
both true b x y = y
both false b x y = absurd cc

below : (n m : ℕ) → n < m → nat_lt n m ≡ true
below n m l = grind (arith, l)

not_below : (n m : ℕ) → m ≤ n → nat_lt n m ≡ false
not_below n m l = grind (arith, l)

pub not_refused : (k : Rules) (o : Object) (s : State) (i : ℕ) (c : Command) → IsReady k o s i c
    → refusal k o s i c ≡ None
not_refused k o s i c r =
    passes (nat_lt i s.floor.seats && is_call_in_range o s.floor (call_of i c)) (is_call_offered k (call_of i c))
    (may_be_told (s.world.place i) c)
    (nat_lt (left_of s.floor.budget s.floor.history i) (left_for c))
    (both (nat_lt i s.floor.seats) (is_call_in_range o s.floor (call_of i c))
    (below i s.floor.seats r.near) r.range) r.offered r.told
    (not_below (left_of s.floor.budget s.floor.history i) (left_for c) r.left)

-- it is a step of the world
pub step_is : (k : Rules) (o : Object) (s : State) (i : ℕ) (c : Command) (a : Answer) (t : State) (p : Place)
    → IsReady k o s i c → s.world.place i ≡ p → IsDone k o s i p c a t → IsStep k o s i c a t
step_is k o s i c a t p ready at done =
    subst (λ (x : Option Answer). IsAnswered k o s i c x a t) (sym (not_refused k o s i c ready))
    (subst (λ (q : Place). IsDone k o s i q c a t) (sym at) done)

-- the shown world takes a step, by its definition
pub step_kept : (k : Rules) (o : Object) (s : State) (i : ℕ) (c : Command) (a : Answer) (t : State) (seats conds : ℕ)
    (p : Place) → IsKind k → IsKept k o seats conds s → IsReady k o s i c
    → s.world.place i ≡ p → IsDone k o s i p c a t → IsKept k o seats conds t
step_kept k o s i c a t seats conds p kind kept ready at done =
    kept_done k o s i c a t seats conds kind kept (not_refused k o s i c ready)
    (subst (λ (q : Place). IsDone k o s i q c a t) (sym at) done)

-- seat j is active, or no seat is
pub record IsActiveAt (w : World) (j : ℕ) : Type 0 where
  pub source : Source
  pub at : w.place j ≡ Active source

pub who : (seats : ℕ) (w : World) (right : Whereabouts) (owner : ℕ → ℕ) → KeepsRight seats w right owner
    → ((j : ℕ) × IsActiveAt w j) ⊎ ((j : ℕ) → stage (w.place j) ≢ active_stage)
who seats w right owner r = by right (λ j three. held r j (omega arith) (omega arith))
  where
    active_at : (j : ℕ) → (stage (w.place j) == active_stage) ≡ true → IsActiveAt w j
    active_at j e = let a = active_is (w.place j) e in record { source = a.source; at = a.is }

    by : (x : Whereabouts) → ((j : ℕ) → stage (w.place j) ≡ active_stage → x ≡ With j) → ((j : ℕ) × IsActiveAt w j)
        ⊎ ((j : ℕ) → stage (w.place j) ≢ active_stage)
    by Nowhere is = inr (λ j three. let e = is j three in cc)
    by (AtTicket t) is = inr (λ j three. let e = is j three in cc)
    by (AtSeat m) is = inr (λ j three. let e = is j three in cc)
    by (With m) is = elim (eqb_tells (stage (w.place m)) active_stage) [
      | inl h ↦ inl (m, active_at m h.0)
      | inr h ↦ grind (arith, nat_tests)
    ]

pub out_seat : (i : ℕ) (q : Source) (h : List Event) → seat_of (out_event i q (turn h)) ≡ i
out_seat i (Free t) h = refl
out_seat i (Granted t) h = refl
out_seat i Called h = refl

pub other_event : (h : List Event) (e : Event) (j : ℕ) → seat_of e ≢ j → events_of (h ++ e ∷ []) j ≡ events_of h j
other_event h e j ne = events_of-push h e j
    ∙ ap (λ (b : Bool). events_of h j ++ cond b (e ∷ []) []) (ne_eqb (seat_of e) j ne) ∙ append-nil (events_of h j)

more_enters : (g more : List Event) → enters_of g ≤ enters_of (g ++ more)
more_enters g [] = let e = ap enters_of (append-nil g) in omega arith
more_enters g (e ∷ es) =
    let a = more_enters (g ++ e ∷ []) es in
    let b = enters_of-push g e in
    let same = ap enters_of (append_assoc g (e ∷ []) es) in
    omega arith

pub starts_enters : (h g : List Event) → StartsWith h g → enters_of g ≤ enters_of h
starts_enters h g s = let a = more_enters g s.0 in let e = ap enters_of s.1 in omega arith

pub starts_self : (h : List Event) → StartsWith h h
starts_self h = ([], sym (append-nil h))

-- no more seats entered than drew tickets
pub entered_few : (k : Rules) (o : Object) (s : State) (right : Whereabouts) (owner : ℕ → ℕ) → IsSound k o s right owner
    → enters_of s.floor.history ≤ s.world.drawn
entered_few k o s right owner h = by right h.entered h.stands.keeps.holder.free.0
  where
    once : (p : Place) → used_at p ≤ 1
    once Idle = omega arith
    once (Ticket t) = omega arith
    once (Due (Free t)) = omega arith
    once (Due (Granted t)) = omega arith
    once (Due Called) = omega arith
    once (Active q) = omega arith
    once (Back x to) = omega arith
    once (Passing t to) = omega arith
    once Inner = omega arith

    by : (x : Whereabouts) → FitsEnters s.world x (enters_of s.floor.history) → (s.world.unpassed ≡ 0 → x ≡ Nowhere)
        → enters_of s.floor.history ≤ s.world.drawn
    by Nowhere e free = omega arith
    by (AtTicket t) e free = omega arith
    by (With m) e free =
        let one = once (s.world.place m) in
        let some : s.world.unpassed ≢ 0 = λ z. let f = free z in cc in
        omega arith
    by (AtSeat m) e free = let some : s.world.unpassed ≢ 0 = λ z. let f = free z in cc in omega arith

module _ (k : Rules) (o : Object) (c : Setting) (homes : Homes) (at : ℕ → SeatRecord) (words : List ℕ)
    (past history : List Event)
    (told : AreTold k o c homes at (shown_world words at) past history) (right : Whereabouts) (owner : ℕ → ℕ)
    (keeps : KeepsRight c.seats (shown_world words at) right owner) where
  -- what is shown is the history of the floor at home, and perhaps the event of the active seat
  pub shows_past : StartsWith history past
  shows_past = elim (who c.seats (shown_world words at) right owner keeps) [
    | inl a ↦ let l = told.lent a.0 a.1.source a.1.at in (out_event a.0 a.1.source (turn past) ∷ [], l.1)
    | inr none ↦ subst (λ (h : List Event). StartsWith h past) (sym (told.home none).0) (starts_self past)
  ]

  -- the events of a seat that isn't active
  pub shows_mine : (i : ℕ) → stage (at i).place ≢ active_stage → events_of history i ≡ (at i).mine
  shows_mine i not_active = elim (who c.seats (shown_world words at) right owner keeps) [
    | inl a ↦
        let l = told.lent a.0 a.1.source a.1.at in
        let e = out_event a.0 a.1.source (turn past) in
        ap (λ (h : List Event). events_of h i) l.1
        ∙ other_event past e i
        (λ same. not_active (ap (λ (n : ℕ). stage (at n).place) (sym same ∙ out_seat a.0 a.1.source past)
        ∙ ap stage a.1.at)) ∙ told.mine i
    | inr none ↦ ap (λ (h : List Event). events_of h i) (told.home none).0 ∙ told.mine i
  ]
