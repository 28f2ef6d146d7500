-- What tokens keep through a look, and through an event of the active seat
use Rattle.std.proofs.Common.{◌≡◌, ◌+◌, ◌<◌, ◌≤◌, false, [], ◌∷◌, ◌++◌}
use Rattle.std.proofs.Common.{length, append_assoc, refl, sym, ap, subst, ◌∙◌, arith}
use Rattle.std.proofs.lemmas.Bool.Decides.{nat_tests}
use Rattle.atomic_table.specs.Seated.{TableId}
use Rattle.monk_kinds.specs.declared.mode.Rules.{Rules}
use Rattle.monk_object.specs.Object.{Object}
use Rattle.monk_history.proofs.PublicLaws.Meaning.{legal-push, turn-push}
use Rattle.monk_history.specs.Meaning.{Events.seat_of, Events.next_of, Legal.IsLegal, Reasons.IsAllowed, Turn.turn_by}
use Rattle.monk_history.specs.Meaning.Counts.{events_of, is_enter}
use Rattle.monk_history.specs.declared.event.{Event.Event, Turn.TheVariants.Owned}
use Rattle.monk_floor.specs.View.{FloorView, monitor_of}
use Rattle.monk_world.specs.State.{with_event}
use Rattle.monk_hall.proofs.{Private.own_event, EntrySteps.own_longer, EntrySteps.own_more}
use Rattle.monk_hall.specs.{Floors.GoesOn, Records.the, Tells.Me, Tokens.IsHolding, Tokens.holder, Calls.HasDone}
use Rattle.monk_hall.specs.declared.{record.SeatRecord.SeatRecord, seat_numbers.SeatNumbers.SeatNumbers}

module _ {k : Rules} {o : Object} where
  -- an event of the active seat that keeps the turn with it
  pub grown_goes : (r : SeatRecord) (f : FloorView) (e : Event) → GoesOn k o r f → seat_of e ≡ r.seat
      → turn_by (seat_of e) (next_of e) ≡ Owned r.seat → is_enter e ≡ false → IsAllowed (monitor_of k o f) f.history e
      → length (events_of f.history r.seat) < r.setting.budget → GoesOn k o r (with_event f e)
  grown_goes r f e x seat keeps enters allowed room = record {
    is_floor = ap (λ y. with_event y e) x.is_floor;
    near = x.near;
    legal = legal-push (monitor_of k o f) f.history e x.legal allowed;
    since = x.since ++ e ∷ [];
    goes = grind (arith, nat_tests, append_assoc);
    own = own_more r.seat x.since e x.own (record { seat = seat; keeps = keeps; enters = enters });
    owned = turn-push f.history e ∙ keeps;
    mine = grind (arith, nat_tests, own_event, append_assoc);
    within = let more = own_longer f.history e r.seat seat in omega arith;
  }

  pub grown_holds : {z : TableId} {me : Me} {numbers : SeatNumbers} {f : FloorView}
      → IsHolding k o z me numbers f
      → (e : Event) → seat_of e ≡ numbers.seat → turn_by (seat_of e) (next_of e) ≡ Owned numbers.seat
      → is_enter e ≡ false → IsAllowed (monitor_of k o f) f.history e
      → length (events_of f.history (the me.0).seat) + 2 ≤ (the me.0).setting.budget → (g : FloorView)
      → g ≡ with_event f e → IsHolding k o z me numbers g
  grown_holds {z} {me} {numbers} {f} x e seat keeps enters allowed room g grows = let n =
      x.seated.is_seat in
      subst (λ y. IsHolding k o z me numbers y) (sym grows) record {
        one = x.one;
        out = x.out;
        active = x.active;
        seated = x.seated;
        goes = grown_goes (the me.0) f e x.goes (seat ∙ sym n) (keeps ∙ sym (ap Owned n)) enters allowed (omega arith);
        left = let more = own_longer f.history e (the me.0).seat (seat ∙ sym n) in omega arith;
      }

  pub grown_does : (z : TableId) (r : SeatRecord) (f g : FloorView) (e : Event) → seat_of e ≡ r.seat
      → IsLegal (monitor_of k o f) f.history → IsAllowed (monitor_of k o f) f.history e → g ≡ with_event f e
      → HasDone k o (holder z r f) e (holder z r g)
  grown_does z r f g e seat legal allowed grows = record {
    is = grind (arith, nat_tests, own_event);
    legal = subst (λ y. IsLegal (monitor_of k o y) y.history) (sym grows)
        (legal-push (monitor_of k o f) f.history e legal allowed);
    own = refl;
  }
