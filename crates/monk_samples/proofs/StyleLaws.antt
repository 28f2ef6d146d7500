-- What becomes of the calls of each style
use Rattle.std.proofs.Common.{◌≡◌, ℕ, ◌+◌, ◌-◌, ◌<◌, ◌≤◌, [], ◌∷◌, ◌++◌, length, length-append, eq-eqb, refl, sym, ap, subst}
use Rattle.std.proofs.Common.{◌∙◌, arith}
use Rattle.monk_kinds.specs.declared.mode.{Mode.TheVariants.Automatic, Mode.TheVariants.ImmediateReturn, Rules.Rules}
use Rattle.monk_kinds.specs.declared.mode.Pick.{Pick, TheVariants.Waiter}
use Rattle.monk_object.specs.Object.{Object}
use Rattle.monk_history.proofs.PublicLaws.Meaning.{length-events_of-push}
use Rattle.monk_history.specs.Meaning.{Counts.events_of, Release.with_next}
use Rattle.monk_history.specs.declared.event.Next.TheVariants.{Stay}
use Rattle.monk_history.specs.declared.event.Event.{Event, TheVariants.Leave, TheVariants.SignalLeave}
use Rattle.monk_world.specs.declared.home.Home.{Home}
use Rattle.monk_hall.specs.{AfterCalls.MatchAfter, Layout.floor_of, Tokens.Token, Tokens.Holder}
use Rattle.monk_hall.specs.Calls.{HasEntered, HasReleased, HasStayed}
use Rattle.monk_hall.specs.declared.setting.Setting.{Setting}
use Rattle.monk_hall.specs.declared.after.After.{After, TheVariants.Active, TheVariants.Parked}
use Rattle.monk_samples.proofs.TrailLaws.{Releases, called_then, came, released, stayed}
use Rattle.monk_samples.specs.{Asked.IsCall, Trails.Addition, Trails.HasCalled, Trails.inside, Trails.outside}
use Rattle.monk_samples.specs.Styles.{HasPaused, HasGivenUp, HasGoneBy, way_out}
use Rattle.std.proofs.lemmas.Bool.Decides.{nat_tests}

-- the way out under an automatic kind, and under one whose signaller returns at once
pub out_automatic : (k : Rules) (s c : ℕ) → k.mode ≡ Automatic → way_out k s c ≡ Leave s Stay ∷ []
out_automatic k s c e = rw e refl

pub out_at_once : (k : Rules) (s c : ℕ) → k.mode ≡ ImmediateReturn → way_out k s c ≡ SignalLeave s c Stay ∷ []
out_at_once k s c e = rw e refl

one_less : (n m : ℕ) → n + 1 ≡ m + 1 → n ≡ m
one_less n m e = omega (arith, e)

-- the events left by the history are those left by what the seat knows as its own
short_left : (budget n m needed : ℕ) → n ≡ m → budget < m + needed → 1 ≤ needed → budget - n < needed
short_left budget n m needed same short some = omega (arith, same, short, some)

-- with at most three events left and one more made, at most one is left
spent_by : (budget rest n m needed : ℕ) → rest ≡ budget → m ≡ n + 1 → budget < n + needed → needed ≤ 3 → rest ≤ m + 1
spent_by budget rest n m needed same more short few = omega (arith, same, more, short, few)

module _ (k : Rules) (o : Object) where
  -- a seat that released inside, and came in again
  pub came_back : (w : Pick) (a : Holder) (call : Event) (to : Home) (peeks : ℕ) (q : Token) (b : Holder)
      → Releases call
      → HasReleased k o a call w to peeks q → HasEntered k o q b
      → (d : Addition) × HasCalled (inside a) (inside b) (d ∷ []) × IsCall k o w a.me.setting call d
      × (d.before ≡ a.floor.history)
  came_back w a call to peeks q b releases r e =
      let one = released k o w a call to peeks q releases r in
      (one.0, called_then (inside a) (outside q) (inside b) (one.0 ∷ []) [] one.1 (came k o q b e), one.2, one.3)

  -- a seat that stayed, or came in again
  pub went_on : {K T : Type 0} (w : Pick) (x : After K T) (a : Holder) (call : Event) (to : Home) (peeks : ℕ)
      (b : Holder) → Releases call
      → MatchAfter x (λ y. HasStayed k o a call w peeks y) (λ p. HasReleased k o a call w to peeks p)
      → MatchAfter x (λ y. b ≡ y) (λ p. HasEntered k o p b)
      → (d : Addition) × HasCalled (inside a) (inside b) (d ∷ []) × IsCall k o w a.me.setting call d
      × (d.before ≡ a.floor.history)
  went_on w (Active y) a call to peeks b releases s same =
      let one = stayed k o w a call peeks y releases s in
      (one.0, subst (λ (h : Holder). HasCalled (inside a) (inside h) (one.0 ∷ [])) (sym same) one.1, one.2, one.3)
  went_on w (Parked p) a call to peeks b releases r e = came_back w a call to peeks p b releases r e

  pub paused : (w : Pick) (a : Holder) (call : Event) (b : Holder) → length a.me.mine + 3 ≤ a.me.setting.budget
      → a.floor ≡ floor_of a.me.setting a.floor.history
      → ((d : Addition) × HasCalled (inside a) (inside b) (d ∷ []) × IsCall k o w a.me.setting call d
      × (d.before ≡ a.floor.history))
      → HasPaused k o w a call b
  paused w a call b room floor x = record { room = room; pause = x.0; called = x.1; is = x.2; at = x.3; floor = floor }

  -- a seat that went out by one call
  pub gone : (w : Pick) (a : Holder) (call : Event) (to : Home) (peeks : ℕ) (p : Token) → Releases call
      → HasReleased k o a call w to peeks p → HasGoneBy k o w a (call ∷ []) p
  gone w a call to peeks p releases r =
      let one = released k o w a call to peeks p releases r in
      record { made = one.0 ∷ []; called = one.1; are = (one.2, tt); told = r.told }

  pub left : (w : Pick) (a : Holder) (to : Home) (peeks : ℕ) (p : Token)
      → HasReleased k o a (Leave a.me.seat Stay) w to peeks p
      → HasGoneBy k o w a (Leave a.me.seat Stay ∷ []) p
  left w a to peeks p r = gone w a (Leave a.me.seat Stay) to peeks p (λ x. (refl, refl, refl)) r

  -- a seat that leaves finds all events that it has made in its floor's history
  own_counted : (a : Holder) (to : Home) (peeks : ℕ) (p : Token)
      → HasReleased k o a (Leave a.me.seat Stay) Waiter to peeks p
      → length (events_of a.floor.history a.me.seat) ≡ length a.me.mine
  own_counted a to peeks p r =
      let e = with_next r.choice (Leave a.me.seat Stay) in let s = a.me.seat in
      let all : length (events_of (a.floor.history ++ e ∷ []) s) ≡ length (a.me.mine ++ e ∷ []) =
      (λ i. length (events_of (sym r.seen i) (sym r.seat i))) ∙ ap length r.told.own ∙ ap length r.mine in
      let here : length (events_of (a.floor.history ++ e ∷ []) s) ≡ length (events_of a.floor.history s) + 1 =
      grind (arith, nat_tests, length-events_of-push, eq-eqb) in
      grind (arith, nat_tests, one_less, length-append)

  -- a seat that left with fewer events than it needs, which are at least one and at most three
  pub given_up : (a : Holder) (to : Home) (peeks : ℕ) (p : Token) (needed : ℕ)
      → HasReleased k o a (Leave a.me.seat Stay) Waiter to peeks p → a.me.setting.budget < length a.me.mine + needed
      → 1 ≤ needed → needed ≤ 3 → HasGivenUp k o needed a p
  given_up a to peeks p needed r short some few =
      let one = released k o Waiter a (Leave a.me.seat Stay) to peeks p (λ x. (refl, refl, refl)) r in record {
        short = short_left a.me.setting.budget (length (events_of a.floor.history a.me.seat)) (length a.me.mine) needed
            (own_counted a to peeks p r) short some;
        counted = short;
        leave = one.0;
        called = one.1;
        is = one.2;
        at = one.3;
        floor = r.floor;
        spent = grind (arith, nat_tests, spent_by, length-append);
        told = r.told;
      }

  -- a call after which the seat is active, and a leave
  pub called_out : (w : Pick) (a : Holder) (call : Event) (b : Holder) (to : Home) (peeks : ℕ) (p : Token)
      → ((d : Addition) × HasCalled (inside a) (inside b) (d ∷ []) × IsCall k o w a.me.setting call d
      × (d.before ≡ a.floor.history))
      → HasReleased k o b (Leave b.me.seat Stay) w to peeks p
      → HasGoneBy k o w a (call ∷ Leave a.me.seat Stay ∷ []) p
  called_out w a call b to peeks p one r =
      let leave = released k o w b (Leave b.me.seat Stay) to peeks p (λ x. (refl, refl, refl)) r in
      let seat = one.1.went.seat in let setting = one.1.went.setting in
      record {
        made = one.0 ∷ leave.0 ∷ [];
        called = called_then (inside a) (inside b) (outside p) (one.0 ∷ []) (leave.0 ∷ []) one.1 leave.1;
        are = (
          one.2,
          (
            subst (λ (s : ℕ). IsCall k o w a.me.setting (Leave s Stay) leave.0) seat
                (subst (λ (c : Setting). IsCall k o w c (Leave b.me.seat Stay) leave.0) setting leave.2),
            tt,
          ),
        );
        told = r.told;
      }
