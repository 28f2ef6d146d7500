-- When a seat may enter or resume; what may be called; what a seat knows about itself
use Rattle.std.proofs.Common.{◌≡◌, ◌≢◌, ℕ, Bool, true, cond, ◌&&◌, ◌||◌, not, ◌==◌, List, [], ◌∷◌, refl}
use Rattle.std.specs.Prelude.{◌↔◌, filter, nat_lt}
use Rattle.std.{proofs.Common.arith, proofs.lemmas.Bool.Decides.nat_tests, specs.List.list_any}
use Rattle.monk_history.specs.Meaning.{Monitor.Monitor, Situation.Situation, Release.MayCallIn, Release.as_called}
use Rattle.monk_history.specs.Meaning.{Reasons.IsAllowed, Reasons.IsAllowedIn, Counts.events_of, Events.seat_of}
use Rattle.monk_history.specs.Meaning.Entry.{IsQuiet, IsAtDoor, IsDueFrom}
use Rattle.monk_history.specs.Meaning.Turn.{is_enter_of, is_exit_of, inside_of, is_inside}
use Rattle.monk_history.specs.declared.event.{Via.TheVariants.Free, Via.TheVariants.Handed, From3.From3}
use Rattle.monk_history.specs.declared.event.Event.{Event}
use Rattle.monk_history.specs.declared.event.Event.TheVariants.{Enter, Act, Leave, Wait, Signal, SignalLeave, Until}
use Rattle.monk_history.specs.declared.event.Event.TheVariants.{Resume, SignalAll, SignalWait}

-- `enter s free` is allowed if, and only if, the seat is at the door and nobody could be chosen
pub enters_free : (m : Monitor) (h : List Event) (s : ℕ) → IsAllowed m h (Enter s Free) ↔ (IsAtDoor m h s × IsQuiet m h)
enters_free m h s = grind (arith, nat_tests)

-- `enter s handed` is allowed if, and only if, the seat is at the door and it is not the first event
pub enters_handed : (m : Monitor) (h : List Event) (s : ℕ)
    → IsAllowed m h (Enter s Handed) ↔ (IsAtDoor m h s × (h ≢ []))
enters_handed m h s = grind (arith, nat_tests)

-- `resume s q` is allowed if, and only if, the turn is due to that seat from that queue
pub resumes : (m : Monitor) (h : List Event) (s : ℕ) (q : From3) → IsAllowed m h (Resume s q) ↔ IsDueFrom m h s q
resumes m h s q = grind (arith, nat_tests)

names_none : (a y b c d : Bool) → (a && y && b && c && d) ≡ true → (a && true && b && c && d) ≡ true
names_none a y b c d h = grind (arith, nat_tests)

-- what is allowed may be called, whatever it chose and replied
pub allowed_called : (m : Monitor) (t : Situation) (e : Event) → IsAllowedIn m t e → MayCallIn m t (as_called e)
allowed_called m t (Enter s via) a =
    record { in_range = a.in_range; offered = a.offered; in_turn = a.in_turn; in_place = a.in_place }
allowed_called m t (Act s op r) a =
    record { in_range = a.in_range; offered = a.offered; in_turn = a.in_turn; in_place = a.in_place }
allowed_called m t (Leave s x) a =
    record {
      in_range = names_none (nat_lt s m.seats) _ _ _ _ a.in_range;
      offered = a.offered;
      in_turn =
          a.in_turn;
      in_place = a.in_place;
    }
allowed_called m t (Wait s c x) a =
    record {
      in_range = names_none (nat_lt s m.seats) _ _ _ _ a.in_range;
      offered = a.offered;
      in_turn =
          a.in_turn;
      in_place = a.in_place;
    }
allowed_called m t (Signal s c x) a =
    record {
      in_range = names_none (nat_lt s m.seats) _ _ _ _ a.in_range;
      offered = a.offered;
      in_turn =
          a.in_turn;
      in_place = a.in_place;
    }
allowed_called m t (SignalLeave s c x) a =
    record {
      in_range = names_none (nat_lt s m.seats) _ _ _ _ a.in_range;
      offered = a.offered;
      in_turn =
          a.in_turn;
      in_place = a.in_place;
    }
allowed_called m t (Until s p x) a =
    record {
      in_range = names_none (nat_lt s m.seats) _ _ _ _ a.in_range;
      offered = a.offered;
      in_turn =
          a.in_turn;
      in_place = a.in_place;
    }
allowed_called m t (SignalWait s c d x) a =
    record {
      in_range = names_none (nat_lt s m.seats) _ _ _ _ a.in_range;
      offered = a.offered;
      in_turn =
          a.in_turn;
      in_place = a.in_place;
    }
allowed_called m t (SignalAll s c) a =
    record { in_range = a.in_range; offered = a.offered; in_turn = a.in_turn; in_place = a.in_place }
allowed_called m t (Resume s q) a =
    record { in_range = a.in_range; offered = a.offered; in_turn = a.in_turn; in_place = a.in_place }

leaves_more : (j : ℕ) (e : Event) (own es : List Event) (b : Bool) → (seat_of e == j) ≡ b
    → list_any (is_exit_of j) own ≡ list_any (is_exit_of j) es
    → list_any (is_exit_of j) (cond b (e ∷ own) own) ≡ (is_exit_of j e || list_any (is_exit_of j) es)
leaves_more j e own es b h k = grind (arith, nat_tests)

leaves_own : (j : ℕ) (h : List Event)
    → list_any (is_exit_of j) (filter (λ e. seat_of e == j) h) ≡ list_any (is_exit_of j) h
leaves_own j [] = refl
leaves_own j (e ∷ es) = leaves_more j e (filter (λ x. seat_of x == j) es) es (seat_of e == j) refl (leaves_own j es)

inside_more : (j : ℕ) (e : Event) (own es : List Event) (b : Bool) → (seat_of e == j) ≡ b
    → list_any (is_exit_of j) own ≡ list_any (is_exit_of j) es → inside_of j own ≡ inside_of j es
    → inside_of j (cond b (e ∷ own) own) ≡ ((is_enter_of j e && not (list_any (is_exit_of j) es)) || inside_of j es)
inside_more j e own es b h k i = grind (arith, nat_tests)

inside_own : (j : ℕ) (h : List Event) → inside_of j (filter (λ e. seat_of e == j) h) ≡ inside_of j h
inside_own j [] = refl
inside_own j (e ∷ es) = grind (arith, nat_tests, inside_more, leaves_own, inside_own j es)

-- a seat knows from its own events whether it is inside
pub inside_by_own : (s : ℕ) (h : List Event) → is_inside s (events_of h s) ≡ is_inside s h
unfolding is_inside events_of
inside_by_own s h = inside_own s h
