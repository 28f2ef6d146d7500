-- How a release changes an active seat
use Rattle.std.proofs.Common.{◌≡◌, ℕ, ◌+◌, ◌<◌, ◌≤◌, Bool, true, false}
use Rattle.std.proofs.Common.{length, append-nil, Option, Some, refl, sym, ap, subst, ◌∙◌, arith}
use Rattle.std.proofs.lemmas.Bool.Decides.{nat_tests}
use Rattle.atomic_table.specs.Seated.{TableId}
use Rattle.monk_kinds.specs.declared.mode.{Rules.Rules, Pick.Pick}
use Rattle.monk_object.specs.Object.{Object}
use Rattle.monk_history.specs.declared.event.Next.TheVariants as next
use Rattle.monk_history.proofs.PublicLaws.Meaning.{legal-push}
use Rattle.monk_history.specs.Meaning.{Counts.events_of, Legal.IsLegal, Turn.turn, Turn.turn_by, Events.is_stay}
use Rattle.monk_history.specs.Meaning.Release.{with_next, choice_of}
use Rattle.monk_history.specs.declared.event.{Next.Next, Turn.TheVariants.Owned, Event.Event, Event.TheVariants.Leave}
use Rattle.monk_floor.specs.{Grown.IsGrown, View.FloorView, View.monitor_of, View.stands_of}
use Rattle.monk_world.specs.declared.home.Home.TheVariants as home
use Rattle.monk_world.specs.{State.with_event, declared.home.Home.Home}
use Rattle.monk_hall.proofs.{Private.own_event, Releasing.said, TokenLaws.grown_holds}
use Rattle.monk_hall.proofs.ReleaseChosen.{stay_is, stay_keeps, never_enters, chosen_as_known, released}
use Rattle.monk_hall.proofs.ReleaseChosen.{remembers_twice, of_setting, released_peeked}
use Rattle.monk_hall.specs.{AfterCalls.MatchAfter, Handing.HasGone, Recorded.IsRelease, Records.the, Tells.Me}
use Rattle.monk_hall.specs.{Tells.SeesTruly, Tokens.Token, Tokens.Holder, Tokens.House, Tokens.IsHolding, Tokens.holder}
use Rattle.monk_hall.specs.Granting.{Grant, granted_last, HasGranted, HasStayedAlone}
use Rattle.monk_hall.specs.Calls.{HasStayed, HasPeeked, is_entry_known}
use Rattle.monk_hall.specs.declared.after.After.{After, TheVariants.Active, TheVariants.Parked}
use Rattle.monk_hall.specs.declared.seat_numbers.SeatNumbers.{SeatNumbers}

-- what the active seat may do
module _ {k : Rules} {o : Object} {z : TableId} {me : Me} {numbers : SeatNumbers} {f : FloorView} where
  pub owns : IsHolding k o z me numbers f → turn f.history ≡ Owned numbers.seat
  owns h = h.goes.owned ∙ ap Owned h.seated.is_seat

  pub is_near : IsHolding k o z me numbers f → numbers.seat < f.seats
  is_near h = subst (λ n. n < f.seats) h.seated.is_seat h.goes.near

  -- the contract of a release, with the active seat's own number
  pub released_of : {wish : Pick} {known : Bool} {choice : Next} {to : Home} {g : FloorView} → (call : ℕ → Event)
      → IsHolding k o z me numbers f → IsRelease k o (the me.0) f (call numbers.seat) wish known choice to g
      → is_stay (Some choice) ≡ false
      → (p : Token) → p.hall ≡ z → HasGone (the me.0) g.history choice to p.me → SeesTruly k o p.me
      → (y : House) (granted : Option Grant)
      → granted ≡ granted_last y.id y.setting.seats p.me.did → (a : Holder)
      → holder z (the me.0) f ≡ a → HasGranted k o a (call a.me.seat) wish to 0 p y granted
  unfolding released
  released_of {wish} {known} {choice} {to} {g} call h x away p hall gone told y granted for a is =
      subst (λ (b : Holder). HasGranted k o b (call b.me.seat) wish to 0 p y granted) is
      (subst (λ n. HasGranted k o (holder z (the me.0) f) (call n) wish to 0 p y granted) (sym h.seated.is_seat)
      (record {
        released = released h x away p hall gone told;
        granted = for;
      }))

  pub leaves : IsHolding k o z me numbers f → (wish : Pick) (known : Bool) (choice : Next) (g : FloorView)
      → (a : Holder) → holder z (the me.0) f ≡ a → known ≡ is_entry_known wish a.me.known
      → choice ≡ choice_of k o (stands_of k o f) (Leave numbers.seat next.Stay) known wish
      → IsGrown k o f (Leave numbers.seat choice) g
      → IsRelease k o (the me.0) f (Leave numbers.seat next.Stay) wish known choice home.Idle g
  leaves h wish known choice g a is reads chosen grows = grind (arith, nat_tests)

  -- a seat that may park inside has events left for the way back
  pub room_inside : {call : Event} {wish : Pick} {known : Bool} {choice : Next} {g : FloorView}
      → IsHolding k o z me numbers f → IsRelease k o (the me.0) f call wish known choice home.Inner g
      → length (events_of f.history (the me.0).seat) + 2 ≤ (the me.0).setting.budget
  room_inside h x = let b = ap (λ (y : FloorView). y.budget) h.goes.is_floor in let l = x.left in omega arith

  -- a release that stays
  pub stays_holding : (call : Event) {wish : Pick} {known : Bool} {choice : Next} {to : Home} {g : FloorView}
      → IsHolding k o z me numbers f → IsRelease k o (the me.0) f call wish known choice to g
      → is_stay (Some choice) ≡ true
      → length (events_of f.history (the me.0).seat) + 2 ≤ (the me.0).setting.budget
      → IsHolding k o z me numbers g
  stays_holding call {wish} {known} {choice} {to} {g} h x stays room =
      let s = said (the me.0).seat to call choice x.release in let n = h.seated.is_seat in
      grown_holds h (with_next choice call) (s.seat ∙ n)
      ((λ i. turn_by (s.seat i) (s.chose i)) ∙ stay_keeps (the me.0).seat choice stays ∙ ap Owned n)
      (never_enters (the me.0).seat to call choice x.release) x.is_grown.allowed room g x.is_grown.grown

  pub stayed : (call : ℕ → Event) {wish : Pick} {known : Bool} {choice : Next} {to : Home} {g : FloorView}
      → IsHolding k o z me numbers f → IsRelease k o (the me.0) f (call numbers.seat) wish known choice to g
      → is_stay (Some choice) ≡ true
      → (a : Holder) → holder z (the me.0) f ≡ a → HasStayed k o a (call a.me.seat) wish 0 (holder z (the me.0) g)
  stayed call {wish} {known} {choice} {to} {g} h x stays a is =
      let r = the me.0 in let same = stay_is choice stays in let e = with_next next.Stay (call numbers.seat) in
      let grows = x.is_grown.grown ∙ ap (λ y. with_event f (with_next y (call numbers.seat))) same in
      let seat = (said r.seat to (call numbers.seat) next.Stay x.release).seat in
      subst (λ (b : Holder). HasStayed k o b (call b.me.seat) wish 0 (holder z r g)) is
      (subst (λ n. HasStayed k o (holder z r f) (call n) wish 0 (holder z r g)) (sym h.seated.is_seat) record {
        chosen = sym same ∙ chosen_as_known x;
        found = 0;
        is = grind (arith, nat_tests, own_event, append-nil);
        remembers = record { knew = λ knew. knew; learns = refl };
        legal = subst (λ (y : FloorView). IsLegal (monitor_of k o y) y.history) (sym x.is_grown.grown)
            (legal-push (monitor_of k o f) f.history (with_next choice (call numbers.seat)) h.goes.legal
            x.is_grown.allowed);
        own = refl;
        floor = h.goes.is_floor;
      })

module _ {k : Rules} {o : Object} where
  pub stayed_peeked : (peeks : ℕ) (a b : Holder) → HasPeeked peeks a b → (call : Event) (wish : Pick) (c : Holder)
      → HasStayed k o b call wish 0 c → HasStayed k o a call wish peeks c
  stayed_peeked peeks a b x call wish c y = let is = x.is in record {
    chosen = grind (arith, nat_tests);
    found = x.found;
    is = grind (arith, nat_tests, append-nil);
    remembers = remembers_twice peeks a b x c.me y.remembers;
    legal = y.legal;
    own = y.own;
    floor = of_setting a b is y.floor;
  }

pub peeked_none : (n : ℕ) (a : Holder) → n ≡ 0 → HasPeeked n a a
peeked_none n a e = subst (λ m. HasPeeked m a a) (sym e)
    record {
      found = 0;
      remembers = record { knew = λ knew. knew; learns = refl };
      is = λ i. record a { me = record a.me { did = sym (append-nil a.me.did) i } };
    }

module _ {k : Rules} {o : Object} {z : TableId} {me : Me} {numbers : SeatNumbers} {f : FloorView} where
  pub has_cond : IsHolding k o z me numbers f → (c : ℕ) (a : Holder) → holder z (the me.0) f ≡ a
      → c < a.me.setting.conds → c < f.conds
  has_cond h c a is low = grind (arith, nat_tests)

-- the same for a release with what it granted
granted_peeked : {k : Rules} {o : Object} (peeks : ℕ) (a b : Holder) → HasPeeked peeks a b
    → (call : Event) (wish : Pick) (to : Home) (p : Token) (h : House) (g : Option Grant)
    → HasGranted k o b call wish to 0 p h g → HasGranted k o a call wish to peeks p h g
unfolding released_peeked
granted_peeked peeks a b x call wish to p h g m = record {
  released = released_peeked peeks a b x call wish to p m.released;
  granted = m.granted;
}

-- a call after a look at the ticket word: one that returns the floor, and one that may stay
pub released_after : (k : Rules) (o : Object) (call : ℕ → Event) (wish : Pick) (to : Home) (peeks : ℕ) (a b : Holder)
    → HasPeeked peeks a b → (p : Token) (h : House) (g : Option Grant)
    → HasGranted k o b (call b.me.seat) wish to 0 p h g → HasGranted k o a (call a.me.seat) wish to peeks p h g
released_after k o call wish to peeks a b x p h g m =
    granted_peeked peeks a b x (call a.me.seat) wish to p h g
    (subst (λ e. HasGranted k o b e wish to 0 p h g) (ap (λ (h : Holder). call h.me.seat) x.is) m)

pub after_peeked : {K T : Type 0} (k : Rules) (o : Object) (call : ℕ → Event) (wish : Pick) (to : Home) (peeks : ℕ)
    (a b : Holder) → HasPeeked peeks a b → (r : After K T) (h : House) (g : Option Grant)
    → MatchAfter r (λ x. HasStayedAlone k o b (call b.me.seat) wish 0 x g)
    (λ p. HasGranted k o b (call b.me.seat) wish to 0 p h g)
    → MatchAfter r (λ x. HasStayedAlone k o a (call a.me.seat) wish peeks x g)
    (λ p. HasGranted k o a (call a.me.seat) wish to peeks p h g)
after_peeked k o call wish to peeks a b x (Active y) h g m = record {
  stayed = stayed_peeked peeks a b x (call a.me.seat) wish y
      (subst (λ e. HasStayed k o b e wish 0 y) (ap (λ (h : Holder). call h.me.seat) x.is) m.stayed);
  none = m.none;
}
after_peeked k o call wish to peeks a b x (Parked p) h g m = released_after k o call wish to peeks a b x p h g m
