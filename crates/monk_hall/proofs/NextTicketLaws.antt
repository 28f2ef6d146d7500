-- Who enters next after a release that chose entry
use Rattle.std.proofs.Common.{◌≡◌, ◌≢◌, ℕ, List, [], ◌∷◌, ◌++◌, append_assoc, Some, None, inl, inr, sym, ap}
use Rattle.std.proofs.Common.{◌∙◌, arith}
use Rattle.std.proofs.lemmas.{Option.none-some, Option.same_Some, Bool.Decides.nat_tests}
use Rattle.atomic_table.specs.Seated.{TableId}
use Rattle.monk_history.specs.{Meaning.Counts.enters_of, declared.event.Event.Event}
use Rattle.monk_world.{proofs.PublicLaws.held, specs.Places.stage, specs.Places.ticket, specs.Places.passing_stage}
use Rattle.monk_world.{specs.declared.place.Place.Place, specs.declared.place.Place.TheVariants.Ticket}
use Rattle.monk_hall.proofs.{HandingLaws.grants_by, Standing.ticket_at}
use Rattle.monk_hall.proofs.RecordLaws.{is, place, with, next_ticket, recorded}
use Rattle.monk_hall.specs.{Calls.peeks_at, Changes.source_from, Changes.since, Granting.Grant, Granting.granted_last}
use Rattle.monk_hall.specs.{Handing.HandsOn, Layout.ticket_word, Layout.waiting_word_at}
use Rattle.monk_hall.specs.NextTicket.{NextTicketWaits, NoTicketWaits, GrantedEntersNext}
use Rattle.monk_hall.specs.declared.{record.SeatRecord.SeatRecord, setting.Setting.Setting}
use Rattle.monk_hall.specs.declared.deed.Deed.{Deed, TheVariants.FloorIn, TheVariants.Drop, TheVariants.GrantTicket}

-- where a seat of this setting that waits with this ticket finds its grant
word_is : (c : Setting) (r : SeatRecord) (t : ℕ) → r.setting ≡ c → r.place ≡ Ticket t
    → waiting_word_at r.setting.seats r.seat r.place ≡ ticket_word c.seats t
word_is c r t same at = cc

pub next_ticket_waits : NextTicketWaits
next_ticket_waits k o c s h r to x back_at two =
    let t : ℕ = enters_of r.seen in
    let next = next_ticket k o c s h r x _ to back_at in
    let keeps = h.2.kept.sound.is_sound.stands.keeps.tickets in
    let j = h.2.kept.sound.owner t in
    let waits = keeps.owned t (omega arith) (omega arith) in
    let there = recorded k o c s h j (λ e. let z = waits.0 in absurd (omega arith)) in
    let at : (h.0 j).place ≡ Ticket t = ticket_at (h.0 j).place waits.0 ∙ ap Ticket waits.1 in
    record {
      seat = h.0 j;
      recorded = there;
      waits = at;
      word = word_is c (h.0 j) t (h.1.settings j) at;
      alone = λ q y q_at.
          let stands = place k o c s h q y ∙ q_at in
          let owns = (keeps.waits q.seat (ap stage stands)).2 in
          sym (is k o c s h q y) ∙ ap h.0 (sym owns ∙ ap (λ (p : Place). h.2.kept.sound.owner (ticket p)) stands);
    }

pub no_ticket_waits : NoTicketWaits
no_ticket_waits k o c s h r to x back_at last q t y at =
    let sound = h.2.kept.sound.is_sound in
    let keeps = sound.stands.keeps in
    let four = ap stage back_at in
    let mine = with k o c s h r x (omega arith) (omega arith) in
    let stands = place k o c s h q y ∙ at in
    let waits = keeps.tickets.waits q.seat (ap stage stands) in
    let a = waits.0 in
    let b = waits.1 in
    let nobody : (j : ℕ) → stage (h.0 j).place ≢ passing_stage = grind (arith, nat_tests, held, place) in
    let given = keeps.tickets.granted q.seat (ap stage stands) (omega arith) nobody in
    absurd cc

-- a release by entry that granted something granted the next ticket
granted_word : (z : TableId) (seats : ℕ) (seen : List Event) (front handed : List Deed) (x : Grant)
    → HandsOn None seen handed → Some x ≡ granted_last z seats (front ++ handed)
    → x.word ≡ ticket_word seats (enters_of seen)
granted_word z seats seen front handed x (inl none) e =
    absurd (none-some x (sym (grants_by z seats front (Drop 1))
    ∙ ap (λ (ds : List Deed). granted_last z seats (front ++ ds)) (sym none) ∙ sym e))
granted_word z seats seen front handed x (inr (n, two, one)) e =
    ap (λ (g : Grant). g.word) (same_Some x _ (e
    ∙ ap (λ (ds : List Deed). granted_last z seats (front ++ ds)) one
    ∙ ap (granted_last z seats) (sym (append_assoc front (Drop n ∷ []) (GrantTicket (enters_of seen) ∷ [])))
    ∙ grants_by z seats (front ++ Drop n ∷ []) (GrantTicket (enters_of seen))))

pub granted_enters_next : GrantedEntersNext
granted_enters_next k o a call wish to peeks p h x granted entry q b t entered same at enters =
    let it = granted.released in
    let front : List Deed = a.me.did ++ (peeks_at peeks it.found ++ FloorIn (since a.me.seen p.me.seen) ∷ []) in
    let all : p.me.did ≡ front ++ it.handed = grind (arith, nat_tests, append_assoc) in
    let word : x.word ≡ ticket_word h.setting.seats (enters_of p.me.seen) = grind (arith, nat_tests, granted_word) in
    let next = entered.next t (ap source_from at) in
    word_is h.setting q.me t same at ∙ ap (λ (n : ℕ). ticket_word h.setting.seats n) (sym next ∙ enters) ∙ sym word
