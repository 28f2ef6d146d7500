-- What an active seat does between its steps keeps a world as every world is
use Rattle.std.proofs.Common.{◌≡◌, ◌≢◌, ℕ, ◌+◌, ◌<◌, ◌≤◌, List, [], ◌∷◌, ◌++◌, length, sym, refl, ap}
use Rattle.std.proofs.Common.{◌∙◌, subst, arith, eq-eqb, append-nil, append_assoc, length-append}
use Rattle.monk_kinds.specs.declared.mode.Rules.{Rules}
use Rattle.monk_object.specs.Object.{Object}
use Rattle.monk_history.proofs.PublicLaws.Meaning.{events_of-push, legal_front, legal_last}
use Rattle.monk_history.specs.Meaning.{Counts.events_of, Counts.left_of, Events.seat_of, Legal.IsLegal}
use Rattle.monk_history.specs.declared.event.Event.{Event}
use Rattle.monk_world.proofs.PublicLaws.{bounded_floor, no_less, update_same, stays}
use Rattle.monk_world.specs.{Kept.IsKept, declared.place.Place.TheVariants.Active, declared.source.Source.Source}
use Rattle.monk_world.specs.State.{State, with_event}
use Rattle.monk_floor.specs.View.{monitor_of}
use Rattle.monk_hall.{specs.Floors.IsPrivate, specs.Floors.ArePrivate, proofs.Frame.other_event}
use Rattle.std.proofs.lemmas.Bool.Decides.{nat_tests}

pub own_event : (h : List Event) (e : Event) (i : ℕ) → seat_of e ≡ i
    → events_of (h ++ e ∷ []) i ≡ events_of h i ++ e ∷ []
own_event h e i same = grind (arith, nat_tests, events_of-push, eq-eqb)

-- only its own events are new
pub own_more : (i : ℕ) (h es : List Event) → ArePrivate i es → events_of (h ++ es) i ≡ events_of h i ++ es
own_more i h [] own = ap (λ (g : List Event). events_of g i) (append-nil h) ∙ sym (append-nil (events_of h i))
own_more i h (e ∷ es) own =
    ap (λ (g : List Event). events_of g i) (sym (append_assoc h (e ∷ []) es))
    ∙ own_more i (h ++ e ∷ []) es own.1
    ∙ ap (λ (g : List Event). g ++ es) (own_event h e i own.0.seat)
    ∙ append_assoc (events_of h i) (e ∷ []) es

-- and no other seat has new ones
pub others_same : (i j : ℕ) → j ≢ i → (h es : List Event) → ArePrivate i es → events_of (h ++ es) j ≡ events_of h j
others_same i j ne h [] own = ap (λ (g : List Event). events_of g j) (append-nil h)
others_same i j ne h (e ∷ es) own =
    ap (λ (g : List Event). events_of g j) (sym (append_assoc h (e ∷ []) es))
    ∙ others_same i j ne (h ++ e ∷ []) es own.1
    ∙ other_event h e j (λ same. ne (sym same ∙ own.0.seat))

abbrev pub with_more : State → List Event → State
with_more s es = record s { floor = record s.floor { history = s.floor.history ++ es } }

one_kept : (k : Rules) (o : Object) (s : State) (seats conds i : ℕ) (q : Source) (e : Event) → IsKept k o seats conds s
    → i < s.floor.seats → s.world.place i ≡ Active q → IsPrivate i e
    → IsLegal (monitor_of k o s.floor) (s.floor.history ++ e ∷ []) → 2 ≤ left_of s.floor.budget s.floor.history i
    → IsKept k o seats conds (record s { floor = with_event s.floor e })
one_kept k o s seats conds i q e kept near active own legal enough = record {
  sound = stays k o s kept.sound.right kept.sound.owner kept.sound.is_sound i e own.seat
      (legal_last (monitor_of k o s.floor) s.floor.history e legal) q active own.enters own.keeps enough;
  bounded = bounded_floor s kept.bounded i near s.world s.known (s.world.place i)
      (sym (update_same s.world.place i (s.world.place i) refl)) e own.seat (omega arith) (omega arith)
      (λ j. let a = kept.bounded.counted j in let b = no_less s kept.bounded e j in omega arith);
  seats_are = kept.seats_are;
  conds_are = kept.conds_are;
}

-- events of the active seat that keep the turn with it keep the world so, while the seat has one more event left
pub more_kept : (k : Rules) (o : Object) (s : State) (seats conds i : ℕ) (q : Source) (es : List Event)
    → IsKept k o seats conds s → i < s.floor.seats → s.world.place i ≡ Active q → ArePrivate i es
    → IsLegal (monitor_of k o s.floor) (s.floor.history ++ es)
    → length (events_of s.floor.history i) + length es < s.floor.budget → IsKept k o seats conds (with_more s es)
more_kept k o s seats conds i q [] kept near active own legal room =
    subst (λ (g : List Event). IsKept k o seats conds (record s { floor = record s.floor { history = g } }))
    (sym (append-nil s.floor.history)) kept
more_kept k o s seats conds i q (e ∷ es) kept near active own legal room =
    let past = s.floor.history in
    let m = monitor_of k o s.floor in
    let split : past ++ e ∷ es ≡ (past ++ e ∷ []) ++ es = sym (append_assoc past (e ∷ []) es) in
    let legal_all : IsLegal m ((past ++ e ∷ []) ++ es) = subst (IsLegal m) split legal in
    let one =
    one_kept k o s seats conds i q e kept near active own.0 (legal_front m (past ++ e ∷ []) es legal_all)
    (omega arith) in
    let long = ap length (own_event past e i own.0.seat) ∙ length-append (events_of past i) (e ∷ []) in
    let more =
    more_kept k o (record s { floor = with_event s.floor e }) seats conds i q es one near active own.1 legal_all
    (omega arith) in
    grind (arith, nat_tests, more)
