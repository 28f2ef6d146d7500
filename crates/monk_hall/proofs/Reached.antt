-- Each call's step is one of a schedule. So at every moment some schedule leads to the table
use Rattle.std.proofs.Common.{◌≡◌, ℕ, ◌+◌, ◌%◌, ◌≤◌, List, [], ◌∷◌, ◌++◌, length, set, sym, refl}
use Rattle.std.proofs.Common.{ap, ◌∙◌, subst, inl, inr, arith, append_assoc, length-append}
use Rattle.std.proofs.lemmas.{List.set-get_or, Bool.Decides.nat_tests}
use Rattle.std.specs.Prelude.{Option, Some, slice_index}
use mathlib.Core.Option as maybe
use lib.ListN.{get_elem?}
use Rattle.atomic_table.proofs.Lists.{set_else}
use Rattle.atomic_table.specs.Table.{keeps, takes, gives, Allows, Joins, Splits}
use Rattle.monk_kinds.specs.{Kind.IsKind, declared.mode.Rules.Rules}
use Rattle.monk_object.specs.Object.{Object}
use Rattle.monk_history.specs.declared.event.Next.TheVariants as next
use Rattle.monk_history.proofs.PublicLaws.Meaning.{legal_front, legal_last}
use Rattle.monk_history.specs.Meaning.{Counts.events_of, Counts.granted_of, Legal.IsLegal, Release.with_next}
use Rattle.monk_history.specs.declared.event.Event.{Event}
use Rattle.monk_floor.specs.View.{FloorView, monitor_of}
use Rattle.monk_world.specs.declared.{home.Home.Home, place.Place.TheVariants.Idle, place.Place.TheVariants.Back}
use Rattle.monk_world.specs.Places.{stage, ticket, back_turn, due_to, ticketed_stage, due_stage, active_stage}
use Rattle.monk_world.specs.Places.{passing_stage, inside_stage}
use Rattle.monk_world.specs.State.{with_event}
use Rattle.monk_hall.proofs.FloorOut as floor_out
use Rattle.monk_hall.proofs.MeetLaws as meeting
use Rattle.monk_hall.proofs.Stepping as stepping
use Rattle.monk_hall.proofs.{RecordLaws.next_ticket, RuleLaws.one_is_active, Private.own_event, Private.own_more}
use Rattle.monk_hall.proofs.ScheduleMoves.{led_by, led_opening}
use Rattle.monk_hall.proofs.WordSteps.{knew_still, some_unpassed}
use Rattle.monk_hall.specs.{Floors.ArePrivate, Laws.HallState, Laws.IsRecord, Rule.IsHall, Rule.Homes}
use Rattle.monk_hall.specs.Layout.{floor_of, place_word, seat_word}
use Rattle.monk_hall.specs.Tells.{Me, TellsArrive, TellsTicketLook, TellsSeatLook, TellsPeek, TellsFloorOut}
use Rattle.monk_hall.specs.Tells.{TellsFloorIn, held_history, TellsDrop, TellsTicketGrant, TellsCall, TellsCompare}
use Rattle.monk_hall.specs.Tells.{Returns}
use Rattle.monk_hall.specs.declared.{record.SeatRecord.SeatRecord, setting.Setting.Setting}
use Rattle.monk_hall.specs.declared.deed.Deed.TheVariants.{Arrive, LookForTicket, LookForCall, Peek, FloorOut, FloorIn}
use Rattle.monk_hall.specs.declared.deed.Deed.TheVariants.{Drop, GrantTicket, CallSeat, Meet}
use Rattle.monk_hall.specs.Changes.{record_after_arrive, record_after_ticket_look, record_after_seat_look}
use Rattle.monk_hall.specs.Changes.{record_after_peek, record_after_floor_out, record_after_floor_in, record_after_drop}
use Rattle.monk_hall.specs.Changes.{record_after_grant, view_after_join, view_after_compare}
use Rattle.monk_hall.specs.Records.{View, IsOne, the, head, tail}
use Rattle.monk_hall.specs.Schedules.{Step, By, Deal, Part, Join, Compare, IsStep, IsSchedule, IsReached, after_step}
use Rattle.monk_hall.specs.Schedules.{ArePlayed, IsReleasedBy, came_in, opening_table}

-- the view has two records
abbrev pub IsTwo : View → Type 0
IsTwo v = v ≡ the v ∷ the (tail v) ∷ []

schedule_push : (k : Rules) (o : Object) (c : Setting) (s t u : HallState) (xs : List Step) (x : Step)
    → IsSchedule k o c s xs t → IsStep k o c t x u → IsSchedule k o c s (xs ++ x ∷ []) u
schedule_push k o c s t u [] x e step = (u, subst (λ (z : HallState). IsStep k o c z x u) e step, refl)
schedule_push k o c s t u (y ∷ ys) x run step = (run.0, run.1, schedule_push k o c run.0 t u ys x run.2 step)

-- one more step
reached_on : (k : Rules) (o : Object) (c : Setting) (s t : HallState) (x : Step) → IsReached k o c s
    → IsStep k o c s x t → IsReached k o c t
reached_on k o c s t x reached step = grind (arith, nat_tests, schedule_push)

-- if some schedule leads there, the words and records are those of a hall
pub hall_of : (k : Rules) (o : Object) (c : Setting) → IsKind k → (s : HallState) → IsReached k o c s → IsHall k o c s
hall_of k o c kind s reached =
    (led_by k o c kind [] (opening_table c) (led_opening k o c reached.0) reached.1 s reached.2).hall

module _ (k : Rules) (o : Object) (c : Setting) (kind : IsKind k) (slots id : ℕ) (me : Me) (one : IsOne me.0) where
  by_load : (s : HallState) (p : ℕ) (w : SeatRecord) (homes : Homes)
      → after_step s id (set s.words p (slice_index s.words p)) homes w ≡ after_step s id s.words homes w
  by_load s p w homes = ap (λ (ws : List ℕ). after_step s id ws homes w) (set-get_or s.words p 0)

  pub arrives : (the me.0).place ≡ Idle → length (the me.0).mine + 2 ≤ (the me.0).setting.budget
      → Allows (IsReached k o c) slots id me 0 (λ n. (n + 4294967297) % 18446744073709551616) (TellsArrive me)
  arrives idle room s reached wide view small =
      let here : get_elem? s.views id ≡ maybe.some (the me.0 ∷ []) = view ∙ ap maybe.some one in (
        record_after_arrive (the me.0) (slice_index s.words 0) ∷ [],
        keeps,
        tt,
        reached_on k o c s _ (By (the me.0).seat id (Arrive _ _)) reached
            (the me.0, here, refl, (idle, room, refl, refl, refl)),
        (refl, stepping.seen_few k o c kind s (hall_of k o c kind s reached) id (the me.0) here),
      )

  pub looks_for_ticket : stage (the me.0).place ≡ ticketed_stage
      → Allows (IsReached k o c) slots id me (place_word (ticket (the me.0).place % c.seats)) (λ n. n)
      (TellsTicketLook me)
  looks_for_ticket waits s reached wide view small =
      let here : get_elem? s.views id ≡ maybe.some (the me.0 ∷ []) = view ∙ ap maybe.some one in
      let p : ℕ = place_word (ticket (the me.0).place % c.seats) in
      let w = record_after_ticket_look (the me.0) (slice_index s.words p) in (
        w ∷ [],
        keeps,
        tt,
        reached_on k o c s _ (By (the me.0).seat id (LookForTicket _)) reached
            (the me.0, here, refl, (slice_index s.words p, waits, refl, refl, by_load s p w s.homes)),
        refl,
      )

  pub looks_for_call : stage (the me.0).place ≡ inside_stage
      → Allows (IsReached k o c) slots id me (seat_word (the me.0).seat) (λ n. n) (TellsSeatLook me)
  looks_for_call parked s reached wide view small =
      let here : get_elem? s.views id ≡ maybe.some (the me.0 ∷ []) = view ∙ ap maybe.some one in
      let p : ℕ = seat_word (the me.0).seat in
      let w = record_after_seat_look (the me.0) (slice_index s.words p) in (
        w ∷ [],
        keeps,
        tt,
        reached_on k o c s _ (By (the me.0).seat id (LookForCall _)) reached
            (the me.0, here, refl, (slice_index s.words p, parked, refl, refl, by_load s p w s.homes)),
        refl,
      )

  pub peeks : stage (the me.0).place ≡ active_stage → Allows (IsReached k o c) slots id me 0 (λ n. n) (TellsPeek me)
  peeks active s reached wide view small =
      let here : get_elem? s.views id ≡ maybe.some (the me.0 ∷ []) = view ∙ ap maybe.some one in
      let w = record_after_peek (the me.0) (slice_index s.words 0) in (
        w ∷ [],
        keeps,
        tt,
        reached_on k o c s _ (By (the me.0).seat id (Peek _)) reached
            (the me.0, here, refl, (active, refl, by_load s 0 w s.homes)),
        (refl, knew_still k o c kind s (hall_of k o c kind s reached) id (the me.0) here active),
      )

  pub takes_off : (to : Home) → (the me.0).place ≡ Back next.Entry to
      → Allows (IsReached k o c) slots id me 0 (λ n. (n + 18446744073709551615) % 18446744073709551616) (TellsDrop me)
  takes_off to back s reached wide view small =
      let here : get_elem? s.views id ≡ maybe.some (the me.0 ∷ []) = view ∙ ap maybe.some one in
      let h = hall_of k o c kind s reached in (
        record_after_drop (the me.0) (slice_index s.words 0) ∷ [],
        keeps,
        tt,
        reached_on k o c s _ (By (the me.0).seat id (Drop _)) reached (the me.0, here, refl, (to, back, refl, refl)),
        (
          refl,
          some_unpassed k o c kind s h id (the me.0) here (ap stage back),
          (stepping.sound k o c kind s h id (the me.0) here).stands.keeps.tickets.behind,
          next_ticket k o c s h (the me.0)
              (record { id = id; view = the me.0 ∷ []; at = here; there = inl refl }) next.Entry to back,
        ),
      )

  pub grants_ticket : stage (the me.0).place ≡ passing_stage
      → Allows (IsReached k o c) slots id me (place_word (ticket (the me.0).place % c.seats))
      (λ _. ticket (the me.0).place + 1) (λ _. TellsTicketGrant me (ticket (the me.0).place + 1))
  grants_ticket passing s reached wide view small =
      let here : get_elem? s.views id ≡ maybe.some (the me.0 ∷ []) = view ∙ ap maybe.some one in (
        record_after_grant (the me.0) (GrantTicket (ticket (the me.0).place)) ∷ [],
        keeps,
        tt,
        reached_on k o c s _ (By (the me.0).seat id (GrantTicket _)) reached
            (the me.0, here, refl, (passing, refl, refl)),
        refl,
      )

  pub calls_seat : (m calls : ℕ) → back_turn (the me.0).place ≡ due_to m → calls ≡ granted_of (the me.0).seen m
      → Allows (IsReached k o c) slots id me (seat_word m) (λ _. calls) (λ _. TellsCall me calls)
  calls_seat m calls names calls_are s reached wide view small =
      let here : get_elem? s.views id ≡ maybe.some (the me.0 ∷ []) = view ∙ ap maybe.some one in
      let w = record_after_grant (the me.0) (CallSeat m) in (
        w ∷ [],
        keeps,
        tt,
        reached_on k o c s _ (By (the me.0).seat id (CallSeat m)) reached (
          the me.0,
          here,
          refl,
          (names, ap (λ (n : ℕ). after_step s id (set s.words (seat_word m) n) s.homes w) calls_are),
        ),
        (m, names, refl),
      )

pub takes_floor : (k : Rules) (o : Object) (c : Setting) → IsKind k → (id : ℕ) (me : Me) → IsOne me.0 → me.1 ≡ []
    → stage (the me.0).place ≡ due_stage → Allows (IsReached k o c) 1 id me 0 (λ n. n) (TellsFloorOut k o me)
takes_floor k o c kind id me one free due s reached wide view small =
    let here : get_elem? s.views id ≡ maybe.some (the me.0 ∷ []) = view ∙ ap maybe.some one in
    let h = hall_of k o c kind s reached in
    let r : SeatRecord = the me.0 in
    let f : FloorView = floor_of c h.2.past in
    let home = floor_out.at_home k o c kind s h id r here due in (
      record_after_floor_out r f.history ∷ [],
      takes 0 (Some f),
      home,
      reached_on k o c s _ (By r.seat id FloorOut) reached (
        r,
        here,
        refl,
        (
          f,
          due,
          home,
          by_load k o c kind 1 id me one s 0 (record_after_floor_out r f.history) (set s.homes 0 maybe.none),
        ),
      ),
      (f, refl, floor_out.finds k o c kind s h id r here due),
    )

-- the events with which a floor went on were each allowed
went_on : (k : Rules) (o : Object) (i : ℕ) (f : FloorView) (es : List Event) → ArePrivate i es
    → IsLegal (monitor_of k o f) (f.history ++ es) → length (events_of f.history i) + length es ≤ f.budget
    → ArePlayed k o i f es
went_on k o i f [] own legal room = tt
went_on k o i f (e ∷ es) own legal room =
    let m = monitor_of k o f in
    let all : IsLegal m ((f.history ++ e ∷ []) ++ es) =
    subst (IsLegal m) (sym (append_assoc f.history (e ∷ []) es)) legal in
    let long = ap length (own_event f.history e i own.0.seat) ∙ length-append (events_of f.history i) (e ∷ []) in (
      own.0,
      legal_last m f.history e (legal_front m (f.history ++ e ∷ []) es all),
      omega arith,
      went_on k o i (with_event f e) es own.1 all (omega arith),
    )

pub gives_floor : (k : Rules) (o : Object) (c : Setting) → IsKind k → (slots id : ℕ) (me : Me) (f : FloorView)
    → IsOne me.0 → me.1 ≡ (0, Some f) ∷ [] → stage (the me.0).place ≡ active_stage → Returns k o (the me.0) f
    → Allows (IsReached k o c) slots id me 0 (λ n. n) (TellsFloorIn (held_history me.1) me)
gives_floor k o c kind slots id me f one holds active ret =
    subst (λ (g : List (ℕ × Option FloorView)). Allows (IsReached k o c) slots id (me.0, g) 0 (λ n. n)
    (TellsFloorIn (held_history g) (me.0, g))) (sym holds) (λ s reached wide view small.
    let here : get_elem? s.views id ≡ maybe.some (the me.0 ∷ []) = view ∙ ap maybe.some one in
    let h = hall_of k o c kind s reached in
    let r : SeatRecord = the me.0 in
    let came : Event = came_in r in
    let since : List Event = ret.goes_on.since in
    let last : Event = with_next ret.choice ret.call in
    let es : List Event = came ∷ (since ++ last ∷ []) in
    let before : List Event = (r.seen ++ came ∷ []) ++ since in
    let setting = stepping.setting k o c kind s h id r here in
    let before_is : ret.before ≡ floor_of c before = grind (arith, nat_tests) in
    let all : before ++ last ∷ [] ≡ r.seen ++ es = grind (arith, nat_tests, append_assoc) in
    let f_is : f ≡ floor_of c (r.seen ++ es) = grind (arith, nat_tests) in
    let long = ap (λ (g : List Event). length (events_of g r.seat)) ret.goes_on.goes
    ∙ ap length (own_more r.seat (r.seen ++ came ∷ []) since ret.goes_on.own)
    ∙ length-append (events_of (r.seen ++ came ∷ []) r.seat) since in
    let most = ret.goes_on.within in
    let budget = ap (λ (y : Setting). y.budget) setting in (
      record_after_floor_in r f.history ∷ [],
      gives,
      tt,
      reached_on k o c s _ (By r.seat id (FloorIn es)) reached (
        r,
        here,
        refl,
        (
          since,
          last,
          active,
          went_on k o r.seat (floor_of c (r.seen ++ came ∷ [])) since ret.goes_on.own
              (subst (λ (g : FloorView). IsLegal (monitor_of k o g) g.history) before_is ret.goes_on.legal)
              (omega arith),
          subst (λ (g : FloorView). IsReleasedBy k o r g last) before_is (record {
            call = ret.call;
            wish = ret.wish;
            to = ret.to;
            choice = ret.choice;
            release = ret.release;
            may = ret.may;
            left = ret.left;
            chosen = ret.chosen;
            away = ret.away;
            is = refl;
          }),
          refl,
          by_load k o c kind slots id (me.0, (0, Some f) ∷ []) one s 0 (record_after_floor_in r f.history)
              (set s.homes 0 (maybe.some (Some f)))
              ∙ ap (λ (g : FloorView). after_step s id s.words (set s.homes 0 (maybe.some (Some g)))
              (record_after_floor_in r g.history)) f_is,
        ),
      ),
      refl,
    ))

-- the moves
pub deals_next : (k : Rules) (o : Object) (c : Setting) (id : ℕ) (v : View) (r : SeatRecord) (rs : View) → v ≡ r ∷ rs
    → Splits {S = Option FloorView} (IsReached k o c) id v (tail v) (head v)
deals_next k o c id v r rs e =
    subst (λ (x : View). Splits {S = Option FloorView} (IsReached k o c) id x (tail x) (head x)) (sym e)
    (λ s reached view. reached_on k o c s _ (Deal id) reached (r, rs, view, refl))

pub parts_again : (k : Rules) (o : Object) (c : Setting) (id : ℕ) (v m : View) → v ≡ view_after_compare m
    → Splits {S = Option FloorView} (IsReached k o c) id v (head v) (tail v)
parts_again k o c id v m e =
    subst (λ (x : View). Splits {S = Option FloorView} (IsReached k o c) id x (head x) (tail x)) (sym e)
    (λ s reached view. reached_on k o c s _ (Part id) reached
    (the (view_after_compare m), the (tail (view_after_compare m)), view, refl))

pub meets : (k : Rules) (o : Object) (c : Setting) (id : ℕ) (v : View) (other : ℕ) (w : View) → IsOne v → IsOne w
    → (the v).place ≡ Idle → Joins {S = Option FloorView} (IsReached k o c) id v other w (view_after_join v w) []
meets k o c id v other w one_v one_w idle s reached view apart view_w =
    reached_on k o c s _ (Join (the v).seat id other) reached (
      the v,
      the w,
      view ∙ ap maybe.some one_v,
      sym (set_else s.views id other (view_after_join v w) apart) ∙ view_w ∙ ap maybe.some one_w,
      apart,
      idle,
      refl,
      refl,
    )

pub compares : (k : Rules) (o : Object) (c : Setting) → IsKind k → (slots id : ℕ) (me : Me) → IsTwo me.0
    → (the me.0).place ≡ Idle → (the (tail me.0)).place ≡ Idle
    → Allows (IsReached k o c) slots id me 0 (λ n. n) (TellsCompare k o me)
compares k o c kind slots id me two idle_a idle_b s reached wide view small =
    let h = hall_of k o c kind s reached in
    let a : SeatRecord = the me.0 in
    let b : SeatRecord = the (tail me.0) in
    let here : get_elem? s.views id ≡ maybe.some (a ∷ b ∷ []) = view ∙ ap maybe.some two in
    let first = ap (λ (x : SeatRecord). x.setting) (sym (meeting.is_first k o c s h id a b here))
    ∙ h.1.settings a.seat in
    let second = ap (λ (x : SeatRecord). x.setting) (sym (meeting.is_second k o c s h id a b here))
    ∙ h.1.settings b.seat in (
      view_after_compare me.0,
      keeps,
      tt,
      reached_on k o c s _ (Compare b.seat id) reached (
        a,
        b,
        here,
        idle_a,
        idle_b,
        refl,
        ap (λ (ws : List ℕ). record { words = ws; homes = s.homes; views = set s.views id (view_after_compare me.0) })
            (set-get_or s.words 0 0),
      ),
      (
        refl,
        meeting.one_past k o c s h id a b here,
        meeting.sees k o c s h id a b here a first (meeting.all_a k o c s h id a b here),
        meeting.sees k o c s h id a b here (record b { did = b.did ++ Meet ∷ [] }) second
            (meeting.all_b k o c s h id a b here),
      ),
    )

-- two active seats never meet, because there are never two
pub never_joined : (k : Rules) (o : Object) (c : Setting) → IsKind k → (id : ℕ) (v : View) (other : ℕ) (w : View)
    → IsOne v → IsOne w → stage (the v).place ≡ active_stage → stage (the w).place ≡ active_stage
    → Joins {S = Option FloorView} (IsReached k o c) id v other w (view_after_join v w) []
never_joined k o c kind id v other w one_v one_w active_v active_w s reached view apart view_w =
    let x : IsRecord s (the v) = grind (arith, nat_tests) in
    let y : IsRecord s (the w) = grind (arith, nat_tests, set_else) in
    absurd (apart (sym (one_is_active k o c s (hall_of k o c kind s reached) (the v) (the w) x y active_v active_w).1))

pub never_both : (k : Rules) (o : Object) (c : Setting) → IsKind k → (slots id : ℕ) (me : Me) → IsTwo me.0
    → stage (the me.0).place ≡ active_stage → stage (the (tail me.0)).place ≡ active_stage
    → Allows (IsReached k o c) slots id me 0 (λ n. n) (λ found new. ⊥)
never_both k o c kind slots id me two active_a active_b s reached wide view small =
    let a : SeatRecord = the me.0 in
    let b : SeatRecord = the (tail me.0) in
    let h = hall_of k o c kind s reached in
    let here : get_elem? s.views id ≡ maybe.some (a ∷ b ∷ []) = view ∙ ap maybe.some two in
    let x : IsRecord s a = record { id = id; view = a ∷ b ∷ []; at = here; there = inl refl } in
    let y : IsRecord s b = record { id = id; view = a ∷ b ∷ []; at = here; there = inr (inl refl) } in
    absurd ((h.1.apart id (a ∷ b ∷ []) here).0 b (inl refl)
    (ap (λ (z : SeatRecord). z.seat) (sym (one_is_active k o c s h a b x y active_a active_b).0)))
