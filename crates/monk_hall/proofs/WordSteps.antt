-- Each step that changes or looks at a word keeps the rule
use Rattle.std.proofs.Common.{◌≡◌, ◌≢◌, ℕ, ◌+◌, ◌-◌, ◌%◌, ◌==◌, ◌<◌, ◌≤◌, Bool, true, false, nat_le, List, [], ◌∷◌}
use Rattle.std.proofs.Common.{length, set, sym, refl, ap, ◌∙◌, subst, arith, length-set, get_or-set_same}
use Rattle.std.specs.Prelude.{Option, slice_index, ◌||◌}
use mathlib.Core.Option as maybe
use mathlib.Core.Path.{Path}
use lib.ListN.{get_elem?}
use Rattle.atomic_table.specs.Table as table
use Rattle.monk_floor.specs.View.{FloorView}
use Rattle.monk_kinds.specs.{Kind.IsKind, declared.mode.Rules.Rules}
use Rattle.monk_object.specs.Object.{Object}
use Rattle.monk_history.specs.declared.event.Next.TheVariants as next
use Rattle.monk_history.specs.declared.event.Event.{Event}
use Rattle.monk_world.specs.declared.answer.Answer.TheVariants as answer
use Rattle.monk_world.specs.declared.command.Command.TheVariants as command
use Rattle.monk_world.proofs.PublicLaws.{few_drawn, IsReady, held}
use Rattle.monk_world.specs.{Update.update, State.State, StepTable.may_be_told, World.World}
use Rattle.monk_world.specs.Places.{stage, ticket, back_turn, ticketed_stage, active_stage, back_stage, inside_stage}
use Rattle.monk_world.specs.Steps.{place_after_seat_look, count_after_seat_look, place_after_drop, after_arrive}
use Rattle.monk_world.specs.Steps.{after_ticket_look, after_seat_look, after_drop}
use Rattle.monk_world.specs.declared.place.Place.{Place}
use Rattle.monk_world.specs.declared.place.Place.TheVariants.{Idle, Ticket, Active, Back, Inner}
use Rattle.monk_world.specs.declared.home.Home.{Home}
use Rattle.monk_hall.proofs.Standing as standing
use Rattle.monk_hall.proofs.Stepping as stepping
use Rattle.monk_hall.proofs.Stored as stored
use Rattle.monk_hall.proofs.{Packed.after_draw, Packed.after_take_off, Stored.places_stay, Stored.seats_stay}
use Rattle.monk_hall.proofs.Knows.{calls_stay, told_stays}
use Rattle.monk_hall.specs.{Laws.Takes, Records.View, Rule.IsHall, Rule.CountsCalls}
use Rattle.monk_hall.specs.Changes.{record_after_arrive, record_after_ticket_look, record_after_seat_look}
use Rattle.monk_hall.specs.Changes.{record_after_peek, record_after_drop, home_at, source_from}
use Rattle.monk_hall.specs.Layout.{tickets, unpassed, shown_state, shown_world, place_word, seat_word}
use Rattle.monk_hall.specs.declared.{record.SeatRecord.SeatRecord, setting.Setting.Setting}
use Rattle.std.proofs.lemmas.Bool.Decides.{nat_tests}

-- a step of a seat that doesn't change the history and the floor
module _ (k : Rules) (o : Object) (c : Setting) (kind : IsKind k) (s : table.State (Option FloorView) View)
    (h : IsHall k o c s) (id : ℕ) (r : SeatRecord) (here : get_elem? s.views id ≡ maybe.some (r ∷ [])) where
  -- step 1
  pub arrives_at : r.place ≡ Idle → length r.mine + 2 ≤ r.setting.budget → (x : ℕ)
      → x ≡ (slice_index s.words 0 + 4294967297) % 18446744073709551616
      → Takes k o c s h r.seat command.Arrive
      (answer.Arrived (tickets (slice_index s.words 0)) (unpassed (slice_index s.words 0)))
      (record {
        words = set s.words 0 x;
        homes = s.homes;
        views =
            set s.views id (record_after_arrive r (slice_index s.words 0) ∷ []);
      })
  arrives_at idle room x x_is =
      let at = h.0 in
      let kh = h.2 in
      let found : ℕ = slice_index s.words 0 in
      let w = record_after_arrive r found in
      let ws : List ℕ = set s.words 0 x in
      let world : World = shown_world s.words at in
      let old : State = shown_state c s.words at kh.history in
      let sound = stepping.sound k o c kind s h id r here in
      let left = stepping.left_is k o c kind s h id r here (λ e. let z = ap stage idle in absurd (omega arith)) in
      let ready : IsReady k o old r.seat command.Arrive = record {
        near = stepping.near k o c kind s h id r here;
        range = refl;
        offered = refl;
        told = ap (λ (p : Place). may_be_told p command.Arrive) (stepping.stands_at k o c kind s h id r here Idle idle);
        left = omega arith;
      } in
      let after : State = record old { world = after_arrive world r.seat } in
      let kept = stepping.takes_step k o c kind s h id r here command.Arrive (answer.Arrived world.drawn world.unpassed)
      after Idle ready idle (refl, refl) in
      let few = few_drawn old kh.kept.bounded in
      let behind = sound.stands.keeps.tickets.behind in
      let halves = after_draw found few (omega arith) in
      let word : slice_index ws 0 ≡ (found + 4294967297) % 18446744073709551616 =
      get_or-set_same s.words 0 x 0 (let z = kh.wide in omega arith) ∙ x_is in
      let drawn : world.drawn + 1 ≡ tickets (slice_index ws 0) = sym (ap tickets word ∙ halves.drawn) in
      let waiting : world.unpassed + 1 ≡ unpassed (slice_index ws 0) = sym (ap unpassed word ∙ halves.waiting) in
      let places = stepping.places_after k o c kind s h id r here w in
      let ticket_places = sym (places_stay s.words 0 x (λ m e. omega arith)) in
      let seat_places = sym (seats_stay s.words 0 x (λ m e. omega arith)) in
      let counts = stepping.counts_stay k o c kind s h id r here w refl in
      let knows = stepping.known_stays k o c kind s h id r here w refl in
      let same : Path State after (shown_state c ws (update at r.seat w) kh.history) = λ z. record {
        world = record {
          drawn = drawn z;
          unpassed = waiting z;
          ticket_place = ticket_places z;
          seat_place =
              seat_places z;
          place = places z;
          count = counts z;
        };
        known = knows z;
        floor = old.floor;
      } in
      let moved : stepping.IsMoved k o c kind s h id r here w = grind (arith, nat_tests) in
      let apart = standing.apart_arrived (tickets found) (unpassed found) in
      let calls =
      calls_stay world (shown_world ws (update at r.seat w)) kh.past r.seat w.place kh.told.calls (sym places)
      (sym seat_places) (ap back_turn (stepping.stands_at k o c kind s h id r here Idle idle)) apart.chose in
      stepping.holds_after k o c kind s h id r here w ws moved (length-set s.words 0 x) kept same
      (stepping.knows_after k o c kind s h id r here w ws moved calls
      (λ e. let z = ap stage idle in absurd (omega arith)) apart)

  -- step 2
  pub looks_for_ticket_at : stage r.place ≡ ticketed_stage
      → Takes k o c s h r.seat command.Look
      (answer.Looked (slice_index s.words (place_word (ticket r.place % c.seats)) == ticket r.place + 1))
      (record s {
        views = set s.views id
            (record_after_ticket_look r (slice_index s.words (place_word (ticket r.place % c.seats))) ∷ []);
      })
  looks_for_ticket_at waits =
      let at = h.0 in
      let kh = h.2 in
      let n : ℕ = ticket r.place in
      let found : ℕ = slice_index s.words (place_word (n % c.seats)) in
      let w = record_after_ticket_look r found in
      let world : World = shown_world s.words at in
      let old : State = shown_state c s.words at kh.history in
      let place_is : r.place ≡ Ticket n = standing.ticket_at r.place waits in
      let stands = stepping.stands_at k o c kind s h id r here (Ticket n) place_is in
      let ready : IsReady k o old r.seat command.Look = grind (arith, nat_tests) in
      let after : State = record old { world = after_ticket_look world r.seat n (found == n + 1) } in
      let kept = stepping.takes_step k o c kind s h id r here command.Look (answer.Looked (found == n + 1)) after
      (Ticket n) ready place_is (refl, refl) in
      let places = stepping.places_after k o c kind s h id r here w in
      let counts = stepping.counts_stay k o c kind s h id r here w refl in
      let knows = stepping.known_stays k o c kind s h id r here w refl in
      let same : Path State after (shown_state c s.words (update at r.seat w) kh.history) = λ z. record {
        world = record world { place = places z; count = counts z };
        known = knows z;
        floor = old.floor;
      } in
      let moved : stepping.IsMoved k o c kind s h id r here w = grind (arith, nat_tests) in
      let apart = standing.apart_looked n (found == n + 1) in
      let calls = calls_stay world (shown_world s.words (update at r.seat w)) kh.past r.seat w.place kh.told.calls
      (sym places) refl (ap back_turn stands) apart.chose in
      stepping.holds_after k o c kind s h id r here w s.words moved refl kept same
      (stepping.knows_after k o c kind s h id r here w s.words moved calls (λ e. absurd (omega arith)) apart)

  -- step 3
  pub looks_for_call_at : stage r.place ≡ inside_stage
      → Takes k o c s h r.seat command.Look (answer.Looked (slice_index s.words (seat_word r.seat) == r.count + 1))
      (record s { views = set s.views id (record_after_seat_look r (slice_index s.words (seat_word r.seat)) ∷ []) })
  looks_for_call_at parked =
      let at = h.0 in
      let kh = h.2 in
      let found : ℕ = slice_index s.words (seat_word r.seat) in
      let w = record_after_seat_look r found in
      let world : World = shown_world s.words at in
      let old : State = shown_state c s.words at kh.history in
      let is = stepping.is k o c kind s h id r here in
      let place_is : r.place ≡ Inner = standing.inner_at r.place parked in
      let stands = stepping.stands_at k o c kind s h id r here Inner place_is in
      let n : ℕ = world.count r.seat in
      let counted_is : n ≡ r.count = ap (λ (y : SeatRecord). y.count) is in
      let ready : IsReady k o old r.seat command.Look = grind (arith, nat_tests) in
      let after : State = record old { world = after_seat_look world r.seat (found == n + 1) } in
      let kept = stepping.takes_step k o c kind s h id r here command.Look (answer.Looked (found == n + 1)) after Inner
      ready place_is (refl, refl) in
      let places = ap (λ (y : SeatRecord). update world.place r.seat (place_after_seat_look (found == y.count + 1))) is
      ∙ stepping.places_after k o c kind s h id r here w in
      let counts = stepping.counts_after k o c kind s h id r here w (count_after_seat_look n (found == n + 1))
      (ap (λ (y : SeatRecord). count_after_seat_look y.count (found == y.count + 1)) is) in
      let knows = stepping.known_stays k o c kind s h id r here w refl in
      let same : Path State after (shown_state c s.words (update at r.seat w) kh.history) = λ z. record {
        world = record world { place = places z; count = counts z };
        known = knows z;
        floor = old.floor;
      } in
      let moved : stepping.IsMoved k o c kind s h id r here w = grind (arith, nat_tests) in
      let apart = standing.apart_answered (found == r.count + 1) in
      let calls = calls_stay world (shown_world s.words (update at r.seat w)) kh.past r.seat w.place kh.told.calls
      (sym (stepping.places_after k o c kind s h id r here w)) refl (ap back_turn stands) apart.chose in
      subst (λ (x : ℕ). Takes k o c s h r.seat command.Look (answer.Looked (found == x + 1))
      (record s { views = set s.views id (w ∷ []) })) counted_is
      (stepping.holds_after k o c kind s h id r here w s.words moved refl kept same
      (stepping.knows_after k o c kind s h id r here w s.words moved calls (λ e. absurd (omega arith)) apart))

  -- step 4
  pub peeks_at : stage r.place ≡ active_stage
      → Takes k o c s h r.seat command.Peek (answer.Found (unpassed (slice_index s.words 0)))
      (record s { views = set s.views id (record_after_peek r (slice_index s.words 0) ∷ []) })
  peeks_at active =
      let at = h.0 in
      let kh = h.2 in
      let found : ℕ = slice_index s.words 0 in
      let w = record_after_peek r found in
      let world : World = shown_world s.words at in
      let old : State = shown_state c s.words at kh.history in
      let is = stepping.is k o c kind s h id r here in
      let sound = stepping.sound k o c kind s h id r here in
      let place_is : r.place ≡ Active (source_from r.place) = standing.active_at r.place active in
      let stands = stepping.stands_at k o c kind s h id r here (Active (source_from r.place)) place_is in
      let ready : IsReady k o old r.seat command.Peek = grind (arith, nat_tests) in
      let after : State =
      record old { known = update old.known r.seat (old.known r.seat || nat_le 2 world.unpassed) } in
      let kept = stepping.takes_step k o c kind s h id r here command.Peek (answer.Found world.unpassed) after
      (Active (source_from r.place)) ready place_is (refl, refl) in
      let learnt : (old.known r.seat || nat_le 2 world.unpassed) ≡ w.known = grind (arith, nat_tests) in
      let places =
      sym (stored.field_stays (λ (y : SeatRecord). y.place) at r.seat w (ap (λ (y : SeatRecord). y.place) is)) in
      let counts = stepping.counts_stay k o c kind s h id r here w refl in
      let knows =
      stepping.known_after k o c kind s h id r here w (old.known r.seat || nat_le 2 world.unpassed) learnt in
      let same : Path State after (shown_state c s.words (update at r.seat w) kh.history) = λ z. record {
        world = record world { place = places z; count = counts z };
        known = knows z;
        floor = old.floor;
      } in
      let moved : stepping.IsMoved k o c kind s h id r here w = grind (arith, nat_tests) in
      let calls = subst (λ (p : ℕ → Place). CountsCalls
      (record world { place = p; count = λ j. (update at r.seat w j).count }) kh.past) places (recount kh.told.calls)
      in
      stepping.holds_after k o c kind s h id r here w s.words moved refl kept same
      (told_stays k o c s.homes at world kh.past kh.history kh.told r.seat w (ap (λ (y : SeatRecord). y.seen) (sym is))
      (ap (λ (y : SeatRecord). y.mine) (sym is))
      (shown_world s.words (update at r.seat w)) calls (ap (λ (y : SeatRecord). y.place) (sym is)))
    where
      knew : (b : Bool) (n : ℕ) → (b ≡ true → 2 ≤ n) → (b || nat_le 2 n) ≡ nat_le 2 n
      knew true n l = let two = l refl in sym (two_or_more n two)
        where
          two_or_more : (m : ℕ) → 2 ≤ m → nat_le 2 m ≡ true
          two_or_more m l = grind (arith, l)
      knew false n l = refl

      recount : {w : World} {past : List Event} → CountsCalls w past → {count : ℕ → ℕ}
          → CountsCalls (record w { count = count }) past
      recount x = record { choosing = x.choosing; settled = x.settled }

  -- what it knew it finds again
  pub knew_still : stage r.place ≡ active_stage → r.known ≡ true → nat_le 2 (unpassed (slice_index s.words 0)) ≡ true
  knew_still active known =
      let is = stepping.is k o c kind s h id r here in
      two_or_more (unpassed (slice_index s.words 0))
      ((stepping.sound k o c kind s h id r here).known r.seat (ap (λ (y : SeatRecord). stage y.place) is ∙ active)
      (ap (λ (y : SeatRecord). y.known) is ∙ known))
    where
      two_or_more : (m : ℕ) → 2 ≤ m → nat_le 2 m ≡ true
      two_or_more m l = grind (arith, l)

  -- while a seat has taken the floor back, not all tickets are passed on
  pub some_unpassed : stage r.place ≡ back_stage → 0 < unpassed (slice_index s.words 0)
  some_unpassed back =
      let sound = stepping.sound k o c kind s h id r here in
      let at_back = ap (λ (y : SeatRecord). stage y.place) (stepping.is k o c kind s h id r here) ∙ back in
      let mine = held sound.stands.keeps r.seat (omega arith) (omega arith) in
      let some : unpassed (slice_index s.words 0) ≢ 0 = λ z. let f = sound.stands.keeps.holder.free.0 z in cc in
      omega arith

  -- step 6
  pub takes_off_at : (to : Home) → r.place ≡ Back next.Entry to → (x : ℕ)
      → x ≡ (slice_index s.words 0 + 18446744073709551615) % 18446744073709551616
      → Takes k o c s h r.seat command.Drop (answer.Found (unpassed (slice_index s.words 0)))
      (record {
        words = set s.words 0 x;
        homes = s.homes;
        views =
            set s.views id (record_after_drop r (slice_index s.words 0) ∷ []);
      })
  takes_off_at to back x x_is =
      let at = h.0 in
      let kh = h.2 in
      let found : ℕ = slice_index s.words 0 in
      let w = record_after_drop r found in
      let ws : List ℕ = set s.words 0 x in
      let world : World = shown_world s.words at in
      let old : State = shown_state c s.words at kh.history in
      let sound = stepping.sound k o c kind s h id r here in
      let stands = stepping.stands_at k o c kind s h id r here (Back next.Entry to) back in
      let ready : IsReady k o old r.seat command.Drop = grind (arith, nat_tests) in
      let after : State = record old { world = after_drop world r.seat to } in
      let kept = stepping.takes_step k o c kind s h id r here command.Drop (answer.Found world.unpassed) after
      (Back next.Entry to) ready back (refl, refl) in
      let few = few_drawn old kh.kept.bounded in
      let behind = sound.stands.keeps.tickets.behind in
      let halves = after_take_off found few (omega arith) (some_unpassed (ap stage back)) in
      let word : slice_index ws 0 ≡ (found + 18446744073709551615) % 18446744073709551616 =
      get_or-set_same s.words 0 x 0 (let z = kh.wide in omega arith) ∙ x_is in
      let drawn : world.drawn ≡ tickets (slice_index ws 0) = sym (ap tickets word ∙ halves.drawn) in
      let waiting : world.unpassed - 1 ≡ unpassed (slice_index ws 0) = sym (ap unpassed word ∙ halves.waiting) in
      let home_is : to ≡ home_at r.place = sym (ap home_at back) in
      let places = ap (λ (y : Home). update world.place r.seat (place_after_drop (tickets found) (unpassed found) y))
      home_is ∙ stepping.places_after k o c kind s h id r here w in
      let ticket_places = sym (places_stay s.words 0 x (λ m e. omega arith)) in
      let seat_places = sym (seats_stay s.words 0 x (λ m e. omega arith)) in
      let counts = stepping.counts_stay k o c kind s h id r here w refl in
      let knows = stepping.known_stays k o c kind s h id r here w refl in
      let same : Path State after (shown_state c ws (update at r.seat w) kh.history) = λ z. record {
        world = record {
          drawn = drawn z;
          unpassed = waiting z;
          ticket_place = ticket_places z;
          seat_place =
              seat_places z;
          place = places z;
          count = counts z;
        };
        known = knows z;
        floor = old.floor;
      } in
      let moved : stepping.IsMoved k o c kind s h id r here w = grind (arith, nat_tests) in
      let apart = standing.apart_dropped (tickets found) (unpassed found) (home_at r.place) in
      let calls = calls_stay world (shown_world ws (update at r.seat w)) kh.past r.seat w.place kh.told.calls
      (sym (stepping.places_after k o c kind s h id r here w)) (sym seat_places) (ap back_turn stands) apart.chose
      in
      stepping.holds_after k o c kind s h id r here w ws moved (length-set s.words 0 x) kept same
      (stepping.knows_after k o c kind s h id r here w ws moved calls
      (λ e. let z = ap stage back in absurd (omega arith)) apart)
