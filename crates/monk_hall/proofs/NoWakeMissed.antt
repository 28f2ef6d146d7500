-- While a thread waits, what it has seen in its word isn't its grant; and who grants the word owes a wake
use Rattle.std.proofs.Common.{◌≡◌, ◌≢◌, ℕ, ◌+◌, ◌%◌, ◌<◌, ◌≤◌, ◌⊎◌, Bool, true, false, List, [], ◌∷◌, ◌++◌}
use Rattle.std.proofs.Common.{sym, refl, ap, subst, ◌∙◌, inl, inr, ⊎_elim, cond, arith, eq-eqb, mod-lt}
use Rattle.std.proofs.{Math.Nat.mod-eq_of_lt, lemmas.Bool.Decides.eqb_tells, lemmas.Bool.Decides.nat_tests}
use Rattle.std.specs.Prelude.{Option, Some, slice_index}
use mathlib.Core.Option.{some}
use lib.ListN.{get_elem?}
use Rattle.monk_kinds.specs.{Kind.IsKind, declared.mode.Rules.Rules}
use Rattle.monk_object.specs.Object.{Object}
use Rattle.monk_world.proofs.PublicLaws.{few_drawn}
use Rattle.monk_world.specs.Steps.{place_after_ticket_look, place_after_seat_look, count_after_seat_look}
use Rattle.monk_world.specs.declared.place.Place.{Place}
use Rattle.monk_world.specs.declared.place.Place.TheVariants.{Idle, Ticket, Due, Active, Back, Passing, Inner}
use Rattle.monk_world.specs.Places.{ticket}
use Rattle.monk_hall.proofs.Standing as standing
use Rattle.monk_hall.proofs.{GrantStands.Stands, GrantsTaken.moved_stays, ScheduleLaws.IsLed, ScheduleMoves.step_led}
use Rattle.monk_hall.proofs.{ScheduleMoves.led_opening, WordWaits.one_waits_at_a_word}
use Rattle.monk_hall.proofs.HandedOver.{words_stay, others, own, in_view, at_j, no_write}
use Rattle.monk_hall.proofs.RecordLaws.{is, cases_le}
use Rattle.monk_hall.specs.{Changes.record_after_ticket_look, Changes.record_after_seat_look, GrantsInTurn.granted_word}
use Rattle.monk_hall.specs.{HandOver.written_word, Laws.HallState, Laws.IsRecord, NextTicket.IsLooking, Rule.IsHall}
use Rattle.monk_hall.specs.Layout.{seat_word, waiting_word, waiting_word_at, shown_state}
use Rattle.monk_hall.specs.declared.{record.SeatRecord.SeatRecord, setting.Setting.Setting}
use Rattle.monk_hall.specs.declared.deed.Deed.{Deed}
use Rattle.monk_hall.specs.declared.deed.Deed.TheVariants.{Arrive, LookForTicket, LookForCall, Peek, FloorOut, FloorIn}
use Rattle.monk_hall.specs.declared.deed.Deed.TheVariants.{Drop, GrantTicket, CallSeat, Meet}
use Rattle.monk_hall.specs.Wakes.{Wait, Awake, Watched, Polled, Marked, Asleep, Risen, Threads, Act, Take, Watch, Mark}
use Rattle.monk_hall.specs.Wakes.{Sleep, Rise, Clear, Wake, Skip, risen, with_mark, takes_none, MayTake, wait_after}
use Rattle.monk_hall.specs.Wakes.{with_wait, waits_after, owed, IsIn, IsWithout, WakesOne, IsAct, IsRun}
use Rattle.monk_hall.specs.Wakes.{opening_threads, NoWakeIsMissed}
use Rattle.monk_hall.specs.Schedules.{Step, By, Deal, Part, Join, Compare, IsDone, IsStep}

-- what a seat that waits at this place, and has counted so many calls, finds in its word if its grant is there
abbrev wanted_at : Place → ℕ → ℕ
wanted_at (Ticket t) n = t + 1
wanted_at Inner n = n + 1
wanted_at _ n = 0

-- the grant of seat j is in the word w, where the seat waits
record Has (c : Setting) (words : List ℕ) (at : ℕ → SeatRecord) (j w : ℕ) : Type 0 where
  near : j < c.seats
  looking : IsLooking (at j).place
  waits : waiting_word_at c.seats j (at j).place ≡ w
  there : slice_index words w ≡ wanted_at (at j).place (at j).count

has_stands : (c : Setting) (words : List ℕ) (at : ℕ → SeatRecord) (j w : ℕ) → Has c words at j w
    → Stands c words at j w
has_stands c words at j w x = record {
  near = x.near;
  waits = x.waits;
  granted = grind (arith, nat_tests);
}

-- what is so of a thread that waits
abbrev Fits : Setting → List ℕ → (ℕ → SeatRecord) → (ℕ → Bool) → List ℕ → ℕ → Wait → Type 0
Fits c words at marks wakes j Awake = Unit {0}
Fits c words at marks wakes j (Watched w n) = (waiting_word_at c.seats j (at j).place ≡ w) × (n < 4294967296)
    × (IsLooking (at j).place → n ≡ wanted_at (at j).place (at j).count → Has c words at j w)
Fits c words at marks wakes j (Polled w n) = (waiting_word_at c.seats j (at j).place ≡ w) × (n < 4294967296)
    × IsLooking (at j).place × (n ≢ wanted_at (at j).place (at j).count)
Fits c words at marks wakes j (Marked w n) = (waiting_word_at c.seats j (at j).place ≡ w) × (n < 4294967296)
    × IsLooking (at j).place × (n ≢ wanted_at (at j).place (at j).count) × (marks w ≡ true)
Fits c words at marks wakes j (Asleep w) = (waiting_word_at c.seats j (at j).place ≡ w) × IsLooking (at j).place
    × (marks w ≡ true) × (Has c words at j w → IsIn w wakes)
Fits c words at marks wakes j (Risen w) = (waiting_word_at c.seats j (at j).place ≡ w) × IsLooking (at j).place

-- a step that isn't seat j's
abbrev IsNotBy : ℕ → Step → Type 0
IsNotBy j (By i id d) = i ≢ j
IsNotBy j _ = Unit {0}

in_owed : (g : Option ℕ) (w : ℕ) (ws : List ℕ) → IsIn w ws → IsIn w (owed g ws)
in_owed g w ws x = grind (arith, nat_tests)

in_without : (v w : ℕ) (ws vs : List ℕ) → IsWithout w ws vs → v ≢ w → IsIn v ws → IsIn v vs
in_without v w [] vs never ne x = absurd never
in_without v w (y ∷ ys) vs (inl (e, is_vs)) ne x =
    ⊎_elim (λ z. absurd (ne (z ∙ sym e))) (λ z. subst (IsIn v) (sym is_vs) z) x
in_without v w (y ∷ ys) vs (inr (rest, is_vs, more)) ne x = subst (IsIn v) (sym is_vs)
    (⊎_elim (λ z. inl z) (λ z. inr (in_without v w ys rest more ne z)) x)

-- a step grants the word of a seat, or doesn't write it
grants_or_not : (seats j w : ℕ) (p : Place) → waiting_word_at seats j p ≡ w → (y : Step)
    → (granted_word seats y ≡ Some w) ⊎ (written_word seats y ≢ Some w)
grants_or_not seats j w p at y = grind (arith, nat_tests)

-- a seat's word is below 2^32
module _ (k : Rules) (o : Object) (c : Setting) (s : HallState) (h : IsHall k o c s) where
  calls_low : (j : ℕ) → slice_index s.words (seat_word j) < 4294967296
  calls_low j = grind (arith, nat_tests)

  word_low : (j : ℕ) (p : Place) → slice_index s.words (waiting_word_at c.seats j p) < 4294967296
  word_low j (Ticket t) =
      let keeps = h.2.kept.sound.is_sound.stands.keeps in
      let low = keeps.places.low (t % c.seats) (mod-lt t h.2.some_seat) in
      let few = few_drawn (shown_state c s.words h.0 h.2.history) h.2.kept.bounded in
      omega (arith, low, few)
  word_low j Idle = calls_low j
  word_low j (Due q) = calls_low j
  word_low j (Active q) = calls_low j
  word_low j (Back x to) = calls_low j
  word_low j (Passing t to) = calls_low j
  word_low j Inner = calls_low j

-- one more step
module _ (k : Rules) (o : Object) (c : Setting) (kind : IsKind k) (steps : List Step) (s : HallState)
    (led : IsLed k o c steps s) where
  abbrev h : IsHall k o c s
  h = led.hall

  -- a step that isn't its own leaves a seat where it is
  still : (j : ℕ) → j < c.seats → (y : Step) (t : HallState) → IsStep k o c s y t → IsNotBy j y → (more : List Step)
      (next : IsLed k o c more t)
      → ((next.hall.0 j).place ≡ (h.0 j).place) × ((next.hall.0 j).count ≡ (h.0 j).count)
  still j near (By i id d) t (r, here, seat, done) apart more next =
      let e = others k o c kind steps s led id r here d t more next done j near (λ z. apart (sym seat ∙ z)) in
      (ap (λ (z : SeatRecord). z.place) e, ap (λ (z : SeatRecord). z.count) e)
  still j near (Deal id) t step apart more next = moved_stays k o c kind steps s led (Deal id) t step tt more
      next j near
  still j near (Part id) t step apart more next = moved_stays k o c kind steps s led (Part id) t step tt more
      next j near
  still j near (Join i id other) t step apart more next =
      moved_stays k o c kind steps s led (Join i id other) t step tt more next j near
  still j near (Compare i id) t step apart more next =
      moved_stays k o c kind steps s led (Compare i id) t step tt more next j near

  module _ (j : ℕ) (near : j < c.seats) (y : Step) (t : HallState) (step : IsStep k o c s y t) (apart : IsNotBy j y)
      (more : List Step) (next : IsLed k o c more t) where
    place : (next.hall.0 j).place ≡ (h.0 j).place
    place = (still j near y t step apart more next).0

    wants : wanted_at (next.hall.0 j).place (next.hall.0 j).count ≡ wanted_at (h.0 j).place (h.0 j).count
    wants = λ i. wanted_at (place i) ((still j near y t step apart more next).1 i)

    has_stays : (w : ℕ) → Has c s.words h.0 j w → Has c t.words next.hall.0 j w
    has_stays w x = record {
      near = near;
      looking = subst IsLooking (sym place) x.looking;
      waits = ap (waiting_word_at c.seats j) place ∙ x.waits;
      there =
          words_stay k o c s y t step w
          (no_write k o c kind steps s led j w (has_stands c s.words h.0 j w x) y t step) ∙ x.there ∙ sym wants;
    }

    had : (w : ℕ) → written_word c.seats y ≢ Some w → Has c t.words next.hall.0 j w → Has c s.words h.0 j w
    had w ne x = record {
      near = near;
      looking = subst IsLooking place x.looking;
      waits = ap (waiting_word_at c.seats j) (sym place) ∙ x.waits;
      there = sym (words_stay k o c s y t step w ne) ∙ x.there ∙ wants;
    }

    fits_still : (ms : ℕ → Bool) (ws : List ℕ) (a : Wait) → Fits c s.words h.0 ms ws j a
        → Fits c t.words next.hall.0 ms (owed (granted_word c.seats y) ws) j a
    fits_still ms ws Awake f = tt
    fits_still ms ws (Watched w n) (at, low, held) = (
      ap (waiting_word_at c.seats j) place ∙ at,
      low,
      λ looking e. has_stays w (held (subst IsLooking place looking) (e ∙ wants)),
    )
    fits_still ms ws (Polled w n) (at, low, looking, ne) = (
      ap (waiting_word_at c.seats j) place ∙ at,
      low,
      subst IsLooking (sym place) looking,
      λ e. ne (e ∙ wants),
    )
    fits_still ms ws (Marked w n) (at, low, looking, ne, marked) = (
      ap (waiting_word_at c.seats j) place ∙ at,
      low,
      subst IsLooking (sym place) looking,
      (λ e. ne (e ∙ wants)),
      marked,
    )
    fits_still ms ws (Risen w) (at, looking) =
        (ap (waiting_word_at c.seats j) place ∙ at, subst IsLooking (sym place) looking)
    fits_still ms ws (Asleep w) (at, looking, marked, owes) = (
      ap (waiting_word_at c.seats j) place ∙ at,
      subst IsLooking (sym place) looking,
      marked,
      λ x. ⊎_elim (λ g. subst (λ (v : Option ℕ). IsIn w (owed v ws)) (sym g) (inl refl))
          (λ ne. in_owed (granted_word c.seats y) w ws (owes (had w ne x)))
          (grants_or_not c.seats j w (h.0 j).place at y),
    )

  -- a step of the thread's own seat
  module _ (id : ℕ) (r : SeatRecord) (here : get_elem? s.views id ≡ some (r ∷ [])) (t : HallState) (near :
      r.seat < c.seats)
      (more : List Step) (next : IsLed k o c more t) (ms : ℕ → Bool) (ws : List ℕ) where
    mine : h.0 r.seat ≡ r
    mine = is k o c s h r (in_view k o c kind steps s led id r here)

    -- it stays where it was, and has seen no grant
    polled : (d : Deed) (v : SeatRecord) (w n : ℕ) → next.hall.0 r.seat ≡ v → v.place ≡ r.place → v.count ≡ r.count
        → IsLooking r.place → slice_index s.words (waiting_word_at c.seats r.seat r.place) ≢ wanted_at r.place r.count
        → Fits c s.words h.0 ms ws r.seat (Watched w n) → Fits c t.words next.hall.0 ms ws r.seat (Polled w n)
    polled d v w n is_v place count looking ne (at, low, held) =
        let p : (next.hall.0 r.seat).place ≡ r.place = ap (λ (z : SeatRecord). z.place) is_v ∙ place in
        let q : (next.hall.0 r.seat).count ≡ r.count = ap (λ (z : SeatRecord). z.count) is_v ∙ count in
        let old = ap (λ (z : SeatRecord). z.place) mine in
        let wants : wanted_at (h.0 r.seat).place (h.0 r.seat).count ≡ wanted_at r.place r.count =
        ap (λ (z : SeatRecord). wanted_at z.place z.count) mine in (
          ap (waiting_word_at c.seats r.seat) (p ∙ sym old) ∙ at,
          low,
          subst IsLooking (sym p) looking,
          λ e.
              let x = held (subst IsLooking (sym old) looking) (e ∙ (λ i. wanted_at (p i) (q i)) ∙ sym wants) in
              ne (ap (slice_index s.words) (ap (waiting_word_at c.seats r.seat) (sym old) ∙ at) ∙ x.there ∙ wants),
        )

    fits_own : (d : Deed) (a : Wait) → IsDone k o c s id r d t → takes_none a ≡ false
        → Fits c s.words h.0 ms ws r.seat a → Fits c t.words next.hall.0 ms ws r.seat (wait_after a d)
    fits_own d Awake done free f = tt
    fits_own d (Polled w n) done free f = absurd cc
    fits_own d (Marked w n) done free f = absurd cc
    fits_own d (Asleep w) done free f = absurd cc
    fits_own d (Risen w) done free f = absurd cc
    fits_own (Arrive n m) (Watched w v) done free f = tt
    fits_own (LookForTicket true) (Watched w v) done free f = tt
    fits_own (LookForTicket false) (Watched w v) (found, waits, there, says, is_t) free f =
        let at = standing.ticket_at r.place waits in
        polled (LookForTicket false) (record_after_ticket_look r found) w v
        (own k o c kind steps s led id r here (LookForTicket false) t more next _ _ _ is_t refl)
        (ap (place_after_ticket_look (ticket r.place)) (sym says) ∙ sym at) refl (inl waits)
        (λ e.
        let same : found ≡ ticket r.place + 1 = there
        ∙ ap (slice_index s.words) (ap (waiting_word_at c.seats r.seat) (sym at)) ∙ e
        ∙ ap (λ (p : Place). wanted_at p r.count) at in
        let yes = eq-eqb found (ticket r.place + 1) same in absurd cc) f
    fits_own (LookForCall true) (Watched w v) done free f = tt
    fits_own (LookForCall false) (Watched w v) (found, parked, there, says, is_t) free f =
        let at = standing.inner_at r.place parked in
        polled (LookForCall false) (record_after_seat_look r found) w v
        (own k o c kind steps s led id r here (LookForCall false) t more next _ _ _ is_t refl)
        (ap place_after_seat_look (sym says) ∙ sym at) (ap (count_after_seat_look r.count) (sym says)) (inr parked)
        (λ e.
        let same : found ≡ r.count + 1 = there
        ∙ ap (slice_index s.words) (ap (waiting_word_at c.seats r.seat) (sym at)) ∙ e
        ∙ ap (λ (p : Place). wanted_at p r.count) at in
        let yes = eq-eqb found (r.count + 1) same in absurd cc) f
    fits_own (Peek n) (Watched w v) done free f = tt
    fits_own FloorOut (Watched w v) done free f = tt
    fits_own (FloorIn es) (Watched w v) done free f = tt
    fits_own (Drop n) (Watched w v) done free f = tt
    fits_own (GrantTicket n) (Watched w v) done free f = tt
    fits_own (CallSeat m) (Watched w v) done free f = tt
    fits_own Meet (Watched w v) done free f = absurd done

-- what is so of all threads
record Goes (k : Rules) (o : Object) (c : Setting) (x : Threads) : Type 0 where
  steps : List Step
  led : IsLed k o c steps x.table
  fits : (j : ℕ) → j < c.seats → Fits c x.table.words led.hall.0 x.marks x.wakes j (x.waits j)
  far : (j : ℕ) → c.seats ≤ j → x.waits j ≡ Awake

-- by what is so of one thread after a change of another
changed : (waits : ℕ → Wait) (i j : ℕ) (a : Wait) (P : ℕ → Wait → Type 0) → P i a → (i ≢ j → P j (waits j))
    → P j (with_wait waits i a j)
changed waits i j a P new old = elim (eqb_tells i j) [
  | inl e ↦ subst (λ (b : Bool). P j (cond b a (waits j))) (sym e.0) (subst (λ (m : ℕ). P m a) e.1 new)
  | inr ne ↦ subst (λ (b : Bool). P j (cond b a (waits j))) (sym ne.0) (old ne.1)
]

-- one more act
module _ (k : Rules) (o : Object) (c : Setting) (kind : IsKind k) (x : Threads) (g : Goes k o c x) where
  abbrev table : HallState
  table = x.table

  abbrev kept : IsHall k o c x.table
  kept = g.led.hall

  takes : (y : Step) (t : HallState) → IsStep k o c x.table y t → MayTake x.waits y
      → Goes k o c
      (record {
        table = t;
        waits = waits_after x.waits y;
        marks = x.marks;
        wakes = owed (granted_word c.seats y) x.wakes;
      })
  takes y t step may =
      let next = step_led k o c g.steps table g.led kind y t step in
      record {
        steps = g.steps ++ y ∷ [];
        led = next;
        fits = λ j near. each j near y step may next;
        far = λ j far. none_far j far y step;
      }
    where
      none_far : (j : ℕ) → c.seats ≤ j → (y : Step) → IsStep k o c x.table y t → waits_after x.waits y j ≡ Awake
      none_far j far (By i id d) (r, here, seat, done) =
          let there = in_view k o c kind g.steps table g.led id r here in
          let near = (kept.1.each there.id there.view there.at r there.there).2 in
          changed x.waits i j (wait_after (x.waits i) d) (λ m b. c.seats ≤ m → b ≡ Awake)
          (λ low. absurd (omega arith)) (λ _. g.far j) far
      none_far j far (Deal id) step = g.far j far
      none_far j far (Part id) step = g.far j far
      none_far j far (Join i id other) step = g.far j far
      none_far j far (Compare i id) step = g.far j far

      each : (j : ℕ) → j < c.seats → (y : Step) → IsStep k o c x.table y t → MayTake x.waits y
          → (next : IsLed k o c (g.steps ++ y ∷ []) t)
          → Fits c t.words next.hall.0 x.marks (owed (granted_word c.seats y) x.wakes) j (waits_after x.waits y j)
      each j near (By i id d) (r, here, seat, done) may next =
          let ws : List ℕ = owed (granted_word c.seats (By i id d)) x.wakes in
          elim (eqb_tells i j) [
            | inl e ↦ subst (λ (b : Bool). Fits c t.words next.hall.0 x.marks ws j
                (cond b (wait_after (x.waits i) d) (x.waits j))) (sym e.0)
                (subst (λ (m : ℕ). Fits c t.words next.hall.0 x.marks ws m (wait_after (x.waits i) d)) (seat ∙ e.1)
                (fits_own k o c kind g.steps table g.led id r here t
                (subst (λ (m : ℕ). m < c.seats) (sym (seat ∙ e.1)) near) (g.steps ++ By i id d ∷ []) next x.marks ws d
                (x.waits i)
                done may
                (more_owed (x.waits i) (By i id d) (subst (λ (m : ℕ). Fits c table.words kept.0 x.marks x.wakes m
                (x.waits i)) (sym seat)
                (subst (λ (m : ℕ). Fits c table.words kept.0 x.marks x.wakes m (x.waits m)) (sym e.1)
                (g.fits j near))))))
            | inr ne ↦ subst (λ (b : Bool). Fits c t.words next.hall.0 x.marks ws j
                (cond b (wait_after (x.waits i) d) (x.waits j))) (sym ne.0)
                (fits_still k o c kind g.steps table g.led j near (By i id d) t (r, here, seat, done) ne.1
                (g.steps ++ By i id d ∷ []) next x.marks x.wakes (x.waits j) (g.fits j near))
          ]
        where
          more_owed : (a : Wait) (y : Step) → Fits c table.words kept.0 x.marks x.wakes r.seat a
              → Fits c table.words kept.0 x.marks (owed (granted_word c.seats y) x.wakes) r.seat a
          more_owed Awake y f = tt
          more_owed (Watched w n) y f = f
          more_owed (Polled w n) y f = f
          more_owed (Marked w n) y f = f
          more_owed (Risen w) y f = f
          more_owed (Asleep w) y (at, looking, marked, owes) =
              (at, looking, marked, λ z. in_owed (granted_word c.seats y) w x.wakes (owes z))
      each j near (Deal id) step may next = fits_still k o c kind g.steps table g.led j near (Deal id) t step tt
          (g.steps ++ Deal id ∷ []) next x.marks x.wakes (x.waits j) (g.fits j near)
      each j near (Part id) step may next = fits_still k o c kind g.steps table g.led j near (Part id) t step tt
          (g.steps ++ Part id ∷ []) next x.marks x.wakes (x.waits j) (g.fits j near)
      each j near (Join i id other) step may next = fits_still k o c kind g.steps table g.led j near (Join i id
          other) t step
          tt (g.steps ++ Join i id other ∷ []) next x.marks x.wakes (x.waits j) (g.fits j near)
      each j near (Compare i id) step may next = fits_still k o c kind g.steps table g.led j near (Compare i
          id) t step tt
          (g.steps ++ Compare i id ∷ []) next x.marks x.wakes (x.waits j) (g.fits j near)

  -- the number of a seat that waits at a word with its thread
  abbrev AtWord : ℕ → ℕ → Type 0
  AtWord j w = (waiting_word_at c.seats j (kept.0 j).place ≡ w) × IsLooking (kept.0 j).place

  -- two that wait at one word are one
  one : (i j w : ℕ) → i < c.seats → j < c.seats → AtWord i w → AtWord j w → i ≡ j
  one i j w near_i near a b =
      let seat_word_of : (m : ℕ) → waiting_word (kept.0 m) ≡ waiting_word_at c.seats m (kept.0 m).place =
      λ m z. waiting_word_at (kept.1.settings m z).seats (kept.1.seats m z) (kept.0 m).place in
      sym (kept.1.seats i) ∙ ap (λ (z : SeatRecord). z.seat)
      (one_waits_at_a_word k o c table kept (kept.0 i) (kept.0 j) (at_j k o c kind g.steps table g.led i near_i)
      (at_j k o c kind g.steps table g.led j near) a.1 b.1
      (seat_word_of i ∙ a.0 ∙ sym b.0 ∙ sym (seat_word_of j))) ∙ kept.1.seats j

  -- a thread that waits there has a seat
  seated : (i : ℕ) (a : Wait) → x.waits i ≡ a → (a ≡ Awake → ⊥) → i < c.seats
  seated i a e ne = ⊎_elim (λ far. absurd (ne (sym e ∙ g.far i far))) (λ near. near) (cases_le c.seats i)

  -- what is so of a thread stays so while its word is as marked as it was, or becomes marked
  remarked : (ms : ℕ → Bool) (j : ℕ) (a : Wait)
      → ((w : ℕ) → AtWord j w → x.marks w ≡ true → ms w ≡ true)
      → Fits c x.table.words kept.0 x.marks x.wakes j a → Fits c x.table.words kept.0 ms x.wakes j a
  remarked ms j Awake more f = tt
  remarked ms j (Watched w n) more f = f
  remarked ms j (Polled w n) more f = f
  remarked ms j (Marked w n) more (at, low, looking, ne, marked) = (at, low, looking, ne, more w (at, looking) marked)
  remarked ms j (Asleep w) more (at, looking, marked, owes) = (at, looking, more w (at, looking) marked, owes)
  remarked ms j (Risen w) more f = f

  -- a thread does something else, and the table stays
  turns : (i : ℕ) (a : Wait) (ms : ℕ → Bool) → (i < c.seats → Fits c x.table.words kept.0 ms x.wakes i a)
      → (c.seats ≤ i → a ≡ Awake)
      → ((j : ℕ) → j < c.seats → i ≢ j → (w : ℕ) → AtWord j w → x.marks w ≡ true → ms w ≡ true)
      → Goes k o c (record x { waits = with_wait x.waits i a; marks = ms })
  turns i a ms new none more = record {
    steps = g.steps;
    led = g.led;
    far = λ j. changed x.waits i j a (λ m b. c.seats ≤ m → b ≡ Awake) none (λ _. g.far j);
    fits = grind (arith, nat_tests, changed, remarked);
  }

  watches : (r : SeatRecord) → IsRecord x.table r
      → Fits c x.table.words kept.0 x.marks x.wakes r.seat (Watched (waiting_word r) (slice_index x.table.words
      (waiting_word r)))
  watches r there =
      let at = is k o c table kept r there in
      let setting : r.setting ≡ c = ap (λ (z : SeatRecord). z.setting) (sym at) ∙ kept.1.settings r.seat in
      let word : waiting_word_at c.seats r.seat (kept.0 r.seat).place ≡ waiting_word r =
      (λ i. waiting_word_at (sym setting i).seats r.seat (at i).place) in (
        word,
        subst (λ (w : ℕ). slice_index x.table.words w < 4294967296) word
            (word_low k o c table kept r.seat (kept.0 r.seat).place),
        λ looking e. record {
          near = (kept.1.each there.id there.view there.at r there.there).2;
          looking = looking;
          waits = word;
          there = e;
        },
      )

  marks_set : (w v : ℕ) → x.marks v ≡ true → with_mark x.marks w true v ≡ true
  marks_set w v e = grind (arith, nat_tests)

  marks_own : (w : ℕ) → with_mark x.marks w true w ≡ true
  marks_own w = grind (arith, nat_tests)

  marks_others : (w v : ℕ) → w ≢ v → x.marks v ≡ true → with_mark x.marks w false v ≡ true
  marks_others w v apart e = grind (arith, nat_tests)

  sets : (j w n : ℕ) → x.waits j ≡ Polled w n → j < c.seats
      → Fits c x.table.words kept.0 (with_mark x.marks w true) x.wakes j (Marked w n)
  sets j w n was near =
      let f = subst (Fits c x.table.words kept.0 x.marks x.wakes j) was (g.fits j near) in
      (f.0, f.1, f.2, f.3, marks_own w)

  sleeps : (j w n : ℕ) → x.waits j ≡ Marked w n
      → slice_index x.table.words w % 4294967296 ≡ n % 4294967296
      → j < c.seats → Fits c x.table.words kept.0 x.marks x.wakes j (Asleep w)
  sleeps j w n marked same near =
      let f = subst (Fits c x.table.words kept.0 x.marks x.wakes j) marked (g.fits j near) in (
        f.0,
        f.2,
        f.4,
        λ z.
            let low = subst (λ (v : ℕ). slice_index x.table.words v < 4294967296) f.0
            (word_low k o c table kept j (kept.0 j).place) in
            let seen = f.1 in
            let eq : slice_index x.table.words w ≡ n = grind (arith, nat_tests, mod-eq_of_lt) in
            absurd (f.3 (sym eq ∙ z.there)),
      )

  rises : (j : ℕ) (a : Wait) → Fits c x.table.words kept.0 x.marks x.wakes j a
      → Fits c x.table.words kept.0 x.marks x.wakes j (risen a)
  rises j Awake f = tt
  rises j (Watched w n) f = tt
  rises j (Polled w n) f = tt
  rises j (Marked w n) f = (f.0, f.2)
  rises j (Asleep w) f = (f.0, f.1)
  rises j (Risen w) f = f

  -- who clears the mark of its word is the only one that waits there
  clears : (i w : ℕ) → x.waits i ≡ Risen w → (j : ℕ) → j < c.seats → i ≢ j → (v : ℕ) → AtWord j v
      → x.marks v ≡ true → with_mark x.marks w false v ≡ true
  clears i w at_i j near apart v at_v = marks_others w v (λ same.
      let near_i = seated i (Risen w) at_i (λ e. absurd cc) in
      apart (one i j v near_i near
      (subst (AtWord i) same (subst (Fits c x.table.words kept.0 x.marks x.wakes i) at_i (g.fits i near_i))) at_v))

  -- one wake of a word is no longer to come
  fewer : (w : ℕ) (wakes : List ℕ) → IsWithout w x.wakes wakes → (j : ℕ) (a : Wait) → x.waits j ≡ a
      → (a ≢ Asleep w) → Fits c x.table.words kept.0 x.marks x.wakes j a
      → Fits c x.table.words kept.0 x.marks wakes j a
  fewer w wakes less j Awake e ne f = tt
  fewer w wakes less j (Watched v n) e ne f = f
  fewer w wakes less j (Polled v n) e ne f = f
  fewer w wakes less j (Marked v n) e ne f = f
  fewer w wakes less j (Risen v) e ne f = f
  fewer w wakes less j (Asleep v) e ne (at, looking, marked, owes) = (
    at,
    looking,
    marked,
    λ z. in_without v w x.wakes wakes less (λ y. ne (ap Asleep y)) (owes z),
  )

  -- the wake of a word leaves nobody asleep there
  wakes_word : (w : ℕ) (waits : ℕ → Wait) (wakes : List ℕ) → WakesOne w x.waits waits → IsWithout w x.wakes wakes
      → Goes k o c (record x { waits = waits; wakes = wakes })
  wakes_word w waits wakes (inl (nobody, same)) less = record {
    steps = g.steps;
    led = g.led;
    far = λ j far. ap (λ (f : ℕ → Wait). f j) same ∙ g.far j far;
    fits = grind (arith, nat_tests, fewer);
  }
  wakes_word w waits wakes (inr (i, at_i, same)) less = record {
    steps = g.steps;
    led = g.led;
    far = grind (arith, nat_tests, changed);
    fits = λ j near. subst (λ (f : ℕ → Wait). Fits c x.table.words kept.0 x.marks wakes j (f j)) (sym same)
        (changed x.waits i j (Risen w) (λ m b. Fits c x.table.words kept.0 x.marks wakes m b) (here.0, here.1)
        (λ ne. fewer w wakes less j (x.waits j) refl (apart j near ne) (g.fits j near)));
  }
    where
      near_i : i < c.seats
      near_i = seated i (Asleep w) at_i (λ e. absurd cc)

      far_away : c.seats ≤ i → ⊥
      far_away far = let near = near_i in omega arith

      here : Fits c x.table.words kept.0 x.marks x.wakes i (Asleep w)
      here = subst (Fits c x.table.words kept.0 x.marks x.wakes i) at_i (g.fits i near_i)

      apart : (j : ℕ) → j < c.seats → i ≢ j → x.waits j ≢ Asleep w
      apart j near ne e =
          let b = subst (Fits c x.table.words kept.0 x.marks x.wakes j) e (g.fits j near) in
          ne (one i j w near_i near (here.0, here.1) (b.0, b.1))

  -- nobody sleeps on a word that isn't marked: its wake may be skipped
  skips : (w : ℕ) (wakes : List ℕ) → x.marks w ≡ false → IsWithout w x.wakes wakes
      → Goes k o c (record x { wakes = wakes })
  skips w wakes clear less = record {
    steps = g.steps;
    led = g.led;
    far = g.far;
    fits = grind (arith, nat_tests, fewer);
  }

  act_goes : (a : Act) (y : Threads) → IsAct k o c x a y → Goes k o c y
  act_goes (Take step) y (t, done, may, e) = subst (Goes k o c) (sym e) (takes step t done may)
  act_goes (Watch j) y (r, there, seat, e) = subst (Goes k o c) (sym e)
      (subst (λ (m : ℕ). Goes k o c (record x {
        waits = with_wait x.waits m
            (Watched (waiting_word r) (slice_index x.table.words (waiting_word r)));
      })) seat
      (turns r.seat (Watched (waiting_word r) (slice_index x.table.words (waiting_word r))) x.marks
      (λ _. watches r there)
      (λ far. let near = (kept.1.each there.id there.view there.at r there.there).2 in absurd (omega arith))
      (λ j near ne w at m. m)))
  act_goes (Mark j) y (w, n, was, e) = subst (Goes k o c) (sym e)
      (turns j (Marked w n) (with_mark x.marks w true) (sets j w n was)
      (λ far. let awake = g.far j far in absurd cc) (λ i near ne v at m. marks_set w v m))
  act_goes (Sleep j) y (w, n, was, same, e) = subst (Goes k o c) (sym e)
      (turns j (Asleep w) x.marks (sleeps j w n was same) (λ far. let awake = g.far j far in absurd cc)
      (λ i near ne v at m. m))
  act_goes (Rise j) y e = subst (Goes k o c) (sym e)
      (turns j (risen (x.waits j)) x.marks (λ near. rises j (x.waits j) (g.fits j near)) (λ far. ap risen (g.far j far))
      (λ i near ne v at m. m))
  act_goes (Clear j) y (w, rose, e) = subst (Goes k o c) (sym e)
      (turns j Awake (with_mark x.marks w false) (λ _. tt) (λ _. refl) (clears j w rose))
  act_goes (Wake w) y (waits, wakes, woke, less, e) = subst (Goes k o c) (sym e) (wakes_word w waits wakes woke less)
  act_goes (Skip w) y (wakes, clear, less, e) = subst (Goes k o c) (sym e) (skips w wakes clear less)

run_goes : (k : Rules) (o : Object) (c : Setting) (kind : IsKind k) (x : Threads) → Goes k o c x → (acts : List Act)
    (y : Threads) → IsRun k o c x acts y → Goes k o c y
run_goes k o c kind x g [] y run = subst (Goes k o c) (sym run) g
run_goes k o c kind x g (a ∷ acts) y (z, first, run) =
    run_goes k o c kind z (act_goes k o c kind x g a z first) acts y run

pub no_wake_is_missed : NoWakeIsMissed
no_wake_is_missed k o c kind made acts x run r w there asleep =
    let first : Goes k o c (opening_threads c) =
    record { steps = []; led = led_opening k o c made; fits = λ j near. tt; far = λ j far. refl } in
    let g = run_goes k o c kind (opening_threads c) first acts x run in
    let h = g.led.hall in
    let at = is k o c x.table h r there in
    let near = (h.1.each there.id there.view there.at r there.there).2 in
    let f = subst (Fits c x.table.words h.0 x.marks x.wakes r.seat) asleep (g.fits r.seat near) in
    let setting : r.setting ≡ c = ap (λ (z : SeatRecord). z.setting) (sym at) ∙ h.1.settings r.seat in
    let word : waiting_word_at c.seats r.seat (h.0 r.seat).place ≡ waiting_word r = grind (arith, nat_tests) in
    let here : waiting_word r ≡ w = sym word ∙ f.0 in
    grind (arith, nat_tests)
