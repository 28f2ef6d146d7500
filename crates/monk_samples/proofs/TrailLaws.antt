-- How the steps of a seat add up to a longer trail
use Rattle.std.proofs.Common.{◌≡◌, ℕ, Bool, false, Some, List, [], ◌∷◌, ◌++◌, append-nil, append_assoc, refl, sym, ap, subst, ◌∙◌}
use Rattle.std.proofs.lemmas.{Bool.eqb-true, Bool.Decides.nat_tests, Grind.flat_map-append, List.map-append}
use Rattle.std.proofs.Common.{arith}
use Rattle.monk_kinds.specs.declared.mode.{Pick.Pick, Rules.Rules}
use Rattle.monk_object.specs.{Object.Object, declared.op.Op.Op}
use Rattle.monk_history.proofs.PublicLaws.Meaning.{legal_last}
use Rattle.monk_history.specs.Meaning.{Events.next_of, Legal.IsLegal, Monitor.data_of, Turn.turn}
use Rattle.monk_history.specs.Meaning.Release.{with_next, choice_of}
use Rattle.monk_history.specs.declared.event.{Next.Next, Next.TheVariants.Stay, Turn.Turn}
use Rattle.monk_history.specs.declared.event.Event.{Event, TheVariants.Act, TheVariants.SignalAll}
use Rattle.monk_floor.specs.View.{FloorView, monitor_of, stands_of}
use Rattle.monk_world.specs.{StepTable.out_event, declared.source.Source.Source, declared.home.Home.Home}
use Rattle.monk_hall.specs.{Changes.source_from, Floors.StartsWith, Layout.floor_of, Tokens.Token, Tokens.Holder}
use Rattle.monk_hall.specs.Calls.{HasArrived, HasEntered, HasReleased, HasStayed, HasDone, is_entry_known}
use Rattle.monk_samples.specs.Asked.{IsCall}
use Rattle.monk_samples.specs.Trails.{Trail, Addition, Went, HasCalled, AreBetween, after, call_in, calls_in, inside}
use Rattle.monk_samples.specs.Trails.{outside, is_coming}

pub starts_here : (a : List Event) → StartsWith a a
starts_here a = ([], sym (append-nil a))

pub starts_then : (a b c : List Event) → StartsWith b a → StartsWith c b → StartsWith c a
starts_then a b c s t = (s.0 ++ t.0, t.1 ∙ (ap (λ h. h ++ t.0) s.1 ∙ append_assoc a s.0 t.0))

between_since : (a b c : List Event) (own : List Addition) → StartsWith b a → AreBetween b c own → AreBetween a c own
between_since a b c [] s t = starts_then a b c s t
between_since a b c (d ∷ own) s t = (starts_then a b d.before s t.0, t.1)

between_then : (a b c : List Event) (own more : List Addition) → AreBetween a b own → AreBetween b c more
    → AreBetween a c (own ++ more)
between_then a b c [] more s t = between_since a b c more s t
between_then a b c (d ∷ own) more s t = (s.0, between_then (after d) b c own more s.1 t)

went_nowhere : (x : Trail) → Went x x []
went_nowhere x =
    record { hall = refl; seat = refl; setting = refl; seen = starts_here x.seen; mine = sym (append-nil x.mine) }

went_then : (x y z : Trail) (a b : List Addition) → Went x y a → Went y z b → Went x z (a ++ b)
went_then x y z a b s t = record {
  hall = t.hall ∙ s.hall;
  seat = t.seat ∙ s.seat;
  setting = t.setting ∙ s.setting;
  seen = between_then x.seen y.seen z.seen a b s.seen t.seen;
  mine = grind (arith, nat_tests, append_assoc, map-append);
}

pub called_none : (x : Trail) → HasCalled x x []
called_none x = record { own = []; went = went_nowhere x; called = refl }

pub called_then : (x y z : Trail) (cs ds : List Addition) → HasCalled x y cs → HasCalled y z ds
    → HasCalled x z (cs ++ ds)
called_then x y z cs ds s t = record {
  own = s.own ++ t.own;
  went = went_then x y z s.own t.own s.went t.went;
  called = flat_map-append call_in s.own t.own ∙ (λ i. s.called i ++ t.called i);
}

-- one more event, of the active seat
one_added : (h : List Event) (e : Event) (to : List Event) → to ≡ h ++ e ∷ []
    → AreBetween h to (record { before = h; event = e } ∷ [])
one_added h e to is = (starts_here h, ([], is ∙ sym (append-nil (h ++ e ∷ []))))

out_calls : (h : List Event) (i : ℕ) (q : Source) (u : Turn)
    → calls_in (record { before = h; event = out_event i q u } ∷ []) ≡ []
out_calls h i q u = grind (arith, nat_tests)

-- a call that releases is no coming in, asks for itself, and chooses what it is written with
abbrev pub Releases : Event → Type 0
Releases call = (x : Next) → (is_coming (with_next x call) ≡ false) × (with_next Stay (with_next x call) ≡ call)
    × (next_of (with_next x call) ≡ Some x)

no_coming : (d : Addition) → is_coming d.event ≡ false → calls_in (d ∷ []) ≡ d ∷ []
no_coming d e = rw e refl

module _ (k : Rules) (o : Object) where
  -- coming in is no call
  pub came : (p : Token) (a : Holder) → HasEntered k o p a → HasCalled (outside p) (inside a) []
  came p a e = let event = out_event p.me.seat (source_from p.me.place) (turn a.me.seen) in
      let own : List Addition = record { before = a.me.seen; event = event } ∷ [] in record {
        own = own;
        went = record {
          hall = e.hall;
          seat = e.seat;
          setting = e.setting;
          seen = between_since p.me.seen a.me.seen a.floor.history own e.starts
              (one_added a.me.seen event a.floor.history (ap (λ (f : FloorView). f.history) e.floor));
          mine = e.mine;
        };
        called = out_calls a.me.seen p.me.seat (source_from p.me.place) (turn a.me.seen);
      }

  -- nor is arriving before it
  pub arrived : (p q : Token) (a : Holder) → HasArrived k o p q → HasEntered k o q a
      → HasCalled (outside p) (inside a) []
  arrived p q a h e = subst (λ (x : Trail). HasCalled x (inside a) []) same (came q a e)
    where
      same : outside q ≡ outside p
      same i = record {
        hall = h.hall i;
        seat = (h.me i).seat;
        setting = (h.me i).setting;
        seen = (h.me i).seen;
        mine = (h.me i).mine;
      }

  -- the choice that a release made, for the hall's setting
  wished : (w : Pick) (a : Holder) (call : Event) (x : Next) (known : Bool) → Releases call
      → a.floor ≡ floor_of a.me.setting a.floor.history
      → x ≡ choice_of k o (stands_of k o a.floor) call (is_entry_known w known) w
      → IsCall k o w a.me.setting call (record { before = a.floor.history; event = with_next x call })
  wished w a call x known releases floor chosen = grind (arith, nat_tests)

  -- a release is one call
  pub released : (w : Pick) (a : Holder) (call : Event) (to : Home) (peeks : ℕ) (p : Token) → Releases call
      → HasReleased k o a call w to peeks p
      → (d : Addition) × HasCalled (inside a) (outside p) (d ∷ []) × IsCall k o w a.me.setting call d
      × (d.before ≡ a.floor.history)
  released w a call to peeks p releases r = let d : Addition =
      record { before = a.floor.history; event = with_next r.choice call } in (
        d,
        record {
          own = d ∷ [];
          went = record {
            hall = r.hall;
            seat = r.seat;
            setting = r.setting;
            seen = one_added a.floor.history (with_next r.choice call) p.me.seen r.seen;
            mine = r.mine;
          };
          called = no_coming d (releases r.choice).0;
        },
        wished w a call r.choice p.me.known releases r.floor r.chosen,
        refl,
      )

  pub stayed : (w : Pick) (a : Holder) (call : Event) (peeks : ℕ) (b : Holder) → Releases call
      → HasStayed k o a call w peeks b
      → (d : Addition) × HasCalled (inside a) (inside b) (d ∷ []) × IsCall k o w a.me.setting call d
      × (d.before ≡ a.floor.history)
  stayed w a call peeks b releases s = let d : Addition =
      record { before = a.floor.history; event = with_next Stay call } in (
        d,
        record {
          own = d ∷ [];
          went = record {
            hall = ap (λ h. h.hall) s.is;
            seat = ap (λ h. h.me.seat) s.is;
            setting = ap (λ h. h.me.setting) s.is;
            seen = one_added a.floor.history (with_next Stay call) b.floor.history (ap (λ h. h.floor.history) s.is);
            mine = ap (λ h. h.me.mine) s.is;
          };
          called = no_coming d (releases Stay).0;
        },
        wished w a call Stay b.me.known releases s.floor s.chosen,
        refl,
      )

  -- an operation is one call
  pub did : (a : Holder) (s : ℕ) (op : Op) (r : ℕ) (b : Holder) → HasDone k o a (Act s op r) b
      → HasCalled (inside a) (inside b) (record { before = a.floor.history; event = Act s op r } ∷ [])
  did a s op r b d = record {
    own = record { before = a.floor.history; event = Act s op r } ∷ [];
    went = record {
      hall = ap (λ h. h.hall) d.is;
      seat = ap (λ h. h.me.seat) d.is;
      setting = ap (λ h. h.me.setting) d.is;
      seen = one_added a.floor.history (Act s op r) b.floor.history (ap (λ h. h.floor.history) d.is);
      mine = ap (λ h. h.me.mine) d.is;
    };
    called = refl;
  }

  -- a signal to all is one call, which chooses nobody
  pub woke : (w : Pick) (a : Holder) (s c : ℕ) (b : Holder) → HasDone k o a (SignalAll s c) b
      → (d : Addition) × HasCalled (inside a) (inside b) (d ∷ []) × IsCall k o w a.me.setting (SignalAll s c) d
      × (d.before ≡ a.floor.history)
  woke w a s c b d = let made : Addition = record { before = a.floor.history; event = SignalAll s c } in (
    made,
    record {
      own = made ∷ [];
      went = record {
        hall = ap (λ h. h.hall) d.is;
        seat = ap (λ h. h.me.seat) d.is;
        setting = ap (λ h. h.me.setting) d.is;
        seen = one_added a.floor.history (SignalAll s c) b.floor.history (ap (λ h. h.floor.history) d.is);
        mine = ap (λ h. h.me.mine) d.is;
      };
      called = refl;
    },
    record { asks = refl; wishes = λ x is. absurd cc },
    refl,
  )

  pub replied : (a : Holder) (s : ℕ) (op : Op) (r : ℕ) (b : Holder) → HasDone k o a (Act s op r) b
      → r ≡ o.reply (data_of (monitor_of k o a.floor) a.floor.history) op
  replied a s op r b d =
      let m = monitor_of k o a.floor in
      let legal : IsLegal m (a.floor.history ++ Act s op r ∷ []) =
      subst (λ (h : Holder). IsLegal (monitor_of k o h.floor) h.floor.history) d.is d.legal in
      eqb-true r (o.reply (data_of m a.floor.history) op)
      ((legal_last m a.floor.history (Act s op r) legal).right_reply)
