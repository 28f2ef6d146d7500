-- What a release chooses, and what it leaves in the records if the turn goes from the active seat
use Rattle.std.proofs.Common.{◌≡◌, ℕ, ◌+◌, Bool, true, false, cond, List, [], ◌∷◌, ◌++◌, arith}
use Rattle.std.proofs.Common.{append_assoc, Some, refl, sym, ap, subst, ◌∙◌}
use Rattle.std.proofs.lemmas.Bool.Decides.{nat_tests}
use Rattle.atomic_table.specs.Seated.{TableId}
use Rattle.monk_kinds.specs.declared.mode.{Pick.Pick, Rules.Rules}
use Rattle.monk_object.specs.Object.{Object}
use Rattle.monk_history.specs.declared.event.Next.TheVariants as next
use Rattle.monk_history.specs.Meaning.{Release.with_next, Release.choice_of, Wish.choice_by, Turn.turn_by}
use Rattle.monk_history.specs.Meaning.{Counts.is_enter, Choice.Queues, Choice.must_stay, Choice.queues_at}
use Rattle.monk_history.specs.Meaning.Events.{seat_of, is_stay}
use Rattle.monk_history.specs.declared.event.{Next.Next, Turn.TheVariants.Owned, Event.Event}
use Rattle.monk_floor.specs.View.{FloorView, stands_of}
use Rattle.monk_world.specs.declared.home.Home.{Home}
use Rattle.monk_hall.proofs.{Private.own_event, Releasing.said}
use Rattle.monk_hall.specs.{Layout.floor_of, Recorded.IsRelease, Records.the}
use Rattle.monk_hall.specs.Tells.{Me, IsReleaseTo, SeesTruly}
use Rattle.monk_hall.specs.declared.{deed.Deed.Deed, record.SeatRecord.SeatRecord, seat_numbers.SeatNumbers.SeatNumbers}
use Rattle.monk_hall.specs.Calls.{HasReleased, HasPeeked, Remembers, is_entry_known, peeks_at}
use Rattle.monk_hall.specs.Handing.{HasRecordedRelease, HandsOn, HasGone, seat_called_by}
use Rattle.monk_hall.specs.Tokens.{Token, Holder, IsHolding, holder}

-- the wish rules ask whether somebody is known to wait for entry only if the wish is for entry
knows_reads : (k : Rules) (q : Queues) (s : ℕ) (known : Bool) (wish : Pick)
    → choice_by k q s known wish ≡ choice_by k q s (is_entry_known wish known) wish
knows_reads k q s known wish = grind (arith, nat_tests)

-- and if there is something to choose
choice_knows : (b : Bool) (kept : Next) (by : Bool → Next) (x y : Bool) → (b ≡ false → by x ≡ by y)
    → cond b kept (by x) ≡ cond b kept (by y)
choice_knows b kept by x y e = grind (arith, nat_tests)

pub stay_is : (x : Next) → is_stay (Some x) ≡ true → x ≡ next.Stay
stay_is x e = grind (arith, nat_tests)

pub stay_keeps : (i : ℕ) (x : Next) → is_stay (Some x) ≡ true → turn_by i (Some x) ≡ Owned i
stay_keeps i x e = ap (λ y. turn_by i (Some y)) (stay_is x e)

pub never_enters : (i : ℕ) (to : Home) (e : Event) (x : Next) → IsReleaseTo i to e → is_enter (with_next x e) ≡ false
never_enters i to e x h = grind (arith, nat_tests)

pub chosen_as_known : {k : Rules} {o : Object} {r : SeatRecord} {f : FloorView} {call : Event} {wish : Pick}
    {known : Bool} {choice : Next} {to : Home} {g : FloorView}
    → IsRelease k o r f call wish known choice to g
    → choice ≡ choice_of k o (stands_of k o f) call (is_entry_known wish r.known) wish
chosen_as_known {k} {o} {r} {f} {call} {wish} {known} x = let t = stands_of k o f in x.chosen
    ∙ choice_knows (must_stay o t call) next.Stay (λ b. choice_by k (queues_at o t call) (seat_of call) b wish) known
    (is_entry_known wish r.known)
    (λ free. ap (λ b. choice_by k (queues_at o t call) (seat_of call) b wish) (x.known_is free))

module _ {k : Rules} {o : Object} {z : TableId} {me : Me} {numbers : SeatNumbers} {f : FloorView} {call : Event}
    {wish : Pick} {known : Bool} {choice : Next} {to : Home} {g : FloorView} where
  pub has_released : IsHolding k o z me numbers f → IsRelease k o (the me.0) f call wish known choice to g
      → is_stay (Some choice) ≡ false → HasRecordedRelease k o z me choice to g
  has_released h x away = record {
    one = h.one;
    active = h.active;
    sized = h.seated.sized;
    returns = record {
      before = f;
      goes_on = h.goes;
      call = call;
      wish = wish;
      to = to;
      choice = choice;
      release = x.release;
      may = x.may;
      chosen = chosen_as_known x
          ∙ choice_knows (must_stay o (stands_of k o f) call) next.Stay
          (λ b. choice_by k (queues_at o (stands_of k o f) call) (seat_of call) b wish)
          (is_entry_known wish (the me.0).known) (the me.0).known
          (λ _. sym (knows_reads k (queues_at o (stands_of k o f) call) (seat_of call) (the me.0).known wish));
      away = away;
      left = x.left;
      grows = x.is_grown.grown;
    };
    is_choice = refl;
    is_to = refl;
    allowed = x.is_grown.allowed;
  }

  unfoldable pub released : IsHolding k o z me numbers f → IsRelease k o (the me.0) f call wish known choice to g
      → is_stay (Some choice) ≡ false
      → (p : Token) → p.hall ≡ z → HasGone (the me.0) g.history choice to p.me → SeesTruly k o p.me
      → HasReleased k o (holder z (the me.0) f) call wish to 0 p
  released h x away p hall gone told =
      let r = the me.0 in let history = ap (λ (y : FloorView). y.history) x.is_grown.grown in let is_known =
      ap (λ w. w.known) gone.is in let seen = ap (λ w. w.seen) gone.is in record {
        choice = choice;
        chosen = chosen_as_known x
            ∙ ap (λ b. choice_of k o (stands_of k o f) call (is_entry_known wish b) wish) (sym is_known);
        away = away;
        hall = hall;
        seat = ap (λ w. w.seat) gone.is;
        setting = ap (λ w. w.setting) gone.is;
        place = ap (λ w. w.place) gone.is;
        seen = ap (λ w. w.seen) gone.is ∙ history;
        mine = grind (arith, nat_tests, own_event, said);
        found = 0;
        handed = gone.handed;
        did = grind (arith, nat_tests, append_assoc);
        hands_on = subst (λ (h : List Event). HandsOn (seat_called_by choice) h gone.handed) (sym seen) gone.hands_on;
        remembers = record { knew = λ knew. is_known ∙ knew; learns = is_known };
        told = told;
        floor = h.goes.is_floor;
      }

pub remembers_twice : (peeks : ℕ) (a b : Holder) → (x : HasPeeked peeks a b) → (w : SeatRecord) → Remembers b.me [] w
    → Remembers a.me (peeks_at peeks x.found) w
remembers_twice peeks a b x w y =
    record { knew = λ knew. y.knew (x.remembers.knew knew); learns = y.learns ∙ x.remembers.learns }

-- a look changes neither the floor nor the setting
pub of_setting : (a b : Holder) {known : Bool} {did : List Deed}
    → b ≡ record a { me = record a.me { known = known; did = did } }
    → b.floor ≡ floor_of b.me.setting b.floor.history → a.floor ≡ floor_of a.me.setting a.floor.history
of_setting a b is floor = grind (arith, nat_tests)

-- a look at the ticket word before the release
module _ {k : Rules} {o : Object} where
  unfoldable pub released_peeked : (peeks : ℕ) (a b : Holder) → HasPeeked peeks a b
      → (call : Event) (wish : Pick) (to : Home) (p : Token) → HasReleased k o b call wish to 0 p
      → HasReleased k o a call wish to peeks p
  released_peeked peeks a b x call wish to p y = let is = x.is in record {
    choice = y.choice;
    chosen = grind (arith, nat_tests);
    away = y.away;
    hall = y.hall ∙ ap (λ (h : Holder). h.hall) is;
    seat = y.seat ∙ ap (λ (h : Holder). h.me.seat) is;
    setting = y.setting ∙ ap (λ (h : Holder). h.me.setting) is;
    place = y.place;
    seen = y.seen ∙ ap (λ (h : Holder). h.floor.history ++ with_next y.choice call ∷ []) is;
    mine = y.mine ∙ ap (λ (h : Holder). h.me.mine ++ with_next y.choice call ∷ []) is;
    found = x.found;
    handed = y.handed;
    did = grind (arith, nat_tests, append_assoc);
    hands_on = y.hands_on;
    remembers = remembers_twice peeks a b x p.me y.remembers;
    told = y.told;
    floor = of_setting a b is y.floor;
  }
