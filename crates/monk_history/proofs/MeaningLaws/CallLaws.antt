-- What a caller knows of the turn lets it call; and which seats are queued
use Rattle.std.proofs.Common.{◌≡◌, ℕ, ◌+◌, ◌<◌, Bool, true, false, cond, ◌&&◌, not, refl, ap, ◌∙◌, arith, eq-eqb, [], List}
use Rattle.std.{specs.Prelude.nat_lt, proofs.lemmas.Bool.Decides.nat_tests}
use Rattle.monk_history.specs.Meaning.{Monitor.Monitor, Monitor.data_of, Situation.Situation, Situation.situation}
use Rattle.monk_history.specs.Meaning.{Turn.turn, Turn.is_inside, Signallers.is_empty, Untils.untils, Untils.ready_of}
use Rattle.monk_history.specs.Meaning.{Reasons.is_owned_by, Reasons.is_open, Release.MayCall, Events.returns_at_once}
use Rattle.monk_history.specs.Meaning.Standing.{has_turn, in_queues, is_queued, IsPlaced}
use Rattle.monk_history.specs.declared.event.{Via.TheVariants.Free, Via.TheVariants.Handed, Next.TheVariants.Stay}
use Rattle.monk_history.specs.declared.event.Event.{Event, TheVariants.Enter, TheVariants.SignalWait}
use Rattle.monk_history.specs.declared.event.Turn.{Turn, TheVariants.Open, TheVariants.Owned}

owned : (s : ℕ) (t : Turn) → t ≡ Owned s → is_owned_by s t ≡ true
owned s t e = ap (is_owned_by s) e ∙ eq-eqb s s refl

lt_is : (x n : ℕ) → x < n → nat_lt x n ≡ true
lt_is x n h = grind (arith, h)

one_seat : (a : Bool) → a ≡ true → (a && true && true && true && true) ≡ true
one_seat a h = cc

seat_both : (a b c : Bool) → a ≡ true → b ≡ true → c ≡ true → (a && true && b && c && true) ≡ true
seat_both a b c h k l = cc

pub may_signal_wait : (m : Monitor) (h : List Event) (s c d : ℕ) → turn h ≡ Owned s → s < m.seats → c < m.conds
    → d < m.conds
    → returns_at_once m.kind.mode ≡ true → MayCall m h (SignalWait s c d Stay)
may_signal_wait m h s c d t l k j o =
    record {
      in_range = seat_both _ _ _ (lt_is s m.seats l) (lt_is d m.conds j) (lt_is c m.conds k);
      offered = o;
      in_turn =
          owned s (turn h) t;
      in_place = refl;
    }

queued_by : (b : Bool) (x y : ℕ) → x + y ≡ cond b 1 0 → (b && not (nat_lt 0 y)) ≡ nat_lt 0 x
queued_by b x y h = grind (arith, nat_tests)

-- a seat is in a queue if, and only if, it is inside and doesn't have the turn
pub queued_is : (n s : ℕ) (t : Situation) → IsPlaced n t
    → (t.inside s && not (nat_lt 0 (has_turn s t.turn))) ≡ is_queued n s t
queued_is n s t p = queued_by (t.inside s) (in_queues n s t) (has_turn s t.turn) (p s)

opened : (t : Turn) → t ≡ Open → is_open t ≡ true
opened t e = ap is_open e

both_true : (a b : Bool) → a ≡ true → b ≡ true → (a && b) ≡ true
both_true a b h k = cc

-- a seat that is outside may enter if the turn is open
pub may_enter_handed : (m : Monitor) (h : List Event) (s : ℕ) → turn h ≡ Open → s < m.seats → is_inside s h ≡ false
    → not (is_empty h) ≡ true → MayCall m h (Enter s Handed)
may_enter_handed m h s t l i b =
    record {
      in_range = one_seat _ (lt_is s m.seats l);
      offered = refl;
      in_turn = opened (turn h) t;
      in_place =
          both_true _ _ (ap not i) b;
    }

pub may_enter_free : (m : Monitor) (h : List Event) (s : ℕ) → turn h ≡ Open → s < m.seats → is_inside s h ≡ false
    → (situation m h).waiters ≡ [] → (situation m h).signallers ≡ [] → ready_of m.object (data_of m h) (untils h) ≡ []
    → MayCall m h (Enter s Free)
may_enter_free m h s t l i w g r = record {
  in_range = one_seat _ (lt_is s m.seats l);
  offered = refl;
  in_turn = opened (turn h) t;
  in_place = both_true _ _ (ap not i) (both_true _ _ (both_true _ _ (ap is_empty w) (ap is_empty g)) (ap is_empty r));
}
