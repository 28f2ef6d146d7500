use Rattle.std.proofs.Common.{◌≡◌, ℕ, ◌==◌, Bool, true, false, cond, List, [], ◌∷◌, ◌++◌, append_assoc, refl, sym, ap, ◌∙◌}
use Rattle.monk_kinds.specs.declared.mode.Rules.{Rules}
use Rattle.monk_object.specs.Object.{Object}
use Rattle.monk_object.specs.declared.op.Op.{Op}
use Rattle.monk_history.specs.Meaning.Counts.{events_of}
use Rattle.monk_history.specs.Meaning.Turn.{turn}
use Rattle.monk_history.specs.declared.event.Event.{Event}
use Rattle.monk_history.specs.declared.event.Event.TheVariants.{Enter, Act, Leave}
use Rattle.monk_history.specs.declared.event.Next.TheVariants.{Entry}
use Rattle.monk_history.specs.declared.event.Turn.{Turn}
use Rattle.monk_history.specs.declared.event.Via.{Via}
use Rattle.monk_history.specs.declared.event.Via.TheVariants as via
use Rattle.monk_world.specs.StepTable.{out_event}
use Rattle.monk_world.specs.declared.place.Place.TheVariants.{Ticket, Due}
use Rattle.monk_world.specs.declared.source.Source.TheVariants.{Free}
use Rattle.monk_hall.specs.Calls.{HasArrived, HasEntered, HasDone}
use Rattle.monk_hall.specs.Changes.{source_from}
use Rattle.monk_hall.specs.Closing.{IsEnded}
use Rattle.monk_hall.specs.Layout.{tickets, unpassed}
use Rattle.monk_tests.specs.Halls.{IsOneVisit}
use Rattle.monk_hall.specs.Tokens.{Token, Holder}
use Rattle.monk_hall.specs.declared.record.SeatRecord.{SeatRecord}
use Rattle.monk_tests.proofs.tests.halls.client.visits_and_closes.Goals as goal

-- a seat that came by a ticket enters
enters : (b : Bool) (t s : ℕ) (turn : Turn)
    → (by : Via) × (out_event s (source_from (cond b (Due (Free t)) (Ticket t))) turn ≡ Enter s by)
enters true t s turn = (via.Free, refl)
enters false t s turn = (via.Handed, refl)

one_visit : (k : Rules) (o : Object) (p q : Token) (a b : Holder) (op : Op) (reply : ℕ) (history : List Event)
    (state : List ℕ)
    → HasArrived k o p q → HasEntered k o q a → HasDone k o a (Act a.me.seat op reply) b → IsEnded k o b history state
    → IsOneVisit p op history
one_visit k o p q a b op reply history state came entered done ended =
    let by = enters (unpassed came.found == 0) (tickets came.found) p.me.seat (turn a.me.seen) in
    let seat : a.me.seat ≡ p.me.seat = entered.seat ∙ ap (λ (r : SeatRecord). r.seat) came.me in
    let enter : out_event q.me.seat (source_from q.me.place) (turn a.me.seen) ≡ Enter p.me.seat by.0 =
    ap (λ (r : SeatRecord). out_event r.seat (source_from r.place) (turn a.me.seen)) came.me ∙ by.1 in
    let mine : a.me.mine ≡ p.me.mine ++ Enter p.me.seat by.0 ∷ [] =
    entered.mine ∙ (λ i. (came.me i).mine ++ enter i ∷ []) in
    let ends : b.me.seat ≡ p.me.seat = ap (λ (x : Holder). x.me.seat) done.is ∙ seat in
    let all : b.me.mine ≡ (p.me.mine ++ Enter p.me.seat by.0 ∷ []) ++ Act p.me.seat op reply ∷ [] =
    ap (λ (x : Holder). x.me.mine) done.is ∙ (λ i. mine i ++ Act (seat i) op reply ∷ []) in
    record {
      via = by.0;
      reply = reply;
      own = sym (ap (events_of history) ends) ∙ ended.own ∙ (λ i. all i ++ Leave (ends i) Entry ∷ [])
          ∙ append_assoc (p.me.mine ++ Enter p.me.seat by.0 ∷ []) (Act p.me.seat op reply ∷ [])
          (Leave p.me.seat Entry ∷ [])
          ∙ append_assoc p.me.mine (Enter p.me.seat by.0 ∷ []) (Act p.me.seat op reply ∷ Leave p.me.seat Entry ∷ []);
    }

pub returns-in-Ok-close : goal.returns-in-Ok-close
returns-in-Ok-close g c =
    one_visit g.K.Kind.rules g.T.Guarded.meaning c.args.pass c.arrive.result c.in-Ok.active c.act.new.self c.args.op
    c.act.result c.in-Ok-close.closed.history.items _ c.arrive.ensures c.in-Ok.ensures.active.0 c.act.ensures.done
    c.in-Ok-close.ensures.ended
