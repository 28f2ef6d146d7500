-- What holds when a seat goes on from a wait-until
use Rattle.std.proofs.Common.{◌≡◌, ℕ, suc, ◌+◌, ◌≤◌, ◌==◌, ◌&&◌, ◌||◌, not, Bool, true, false, cond, Option, Some, None}
use Rattle.std.proofs.Common.{List, [], ◌∷◌, ◌++◌, length, length-append, map, take, append-nil, append_assoc}
use Rattle.std.proofs.Common.{refl, sym, ap, subst, ◌∙◌, ◌⊎◌, inl, inr, arith, eq-eqb}
use Rattle.std.proofs.lemmas.Bool.{false≢true, eqb-true, Decides.nat_tests}
use Rattle.std.proofs.lemmas.List.{take-append-le, take_all, Elements.filter-append}
use Rattle.std.specs.{Prelude.filter, Prelude.slice_get, List.list_any, Option.option_map_or}
use Rattle.monk_history.proofs.PublicLaws.Meaning.{and_left, and_right, caller_unqueued, legal_front, legal_last}
use Rattle.monk_history.proofs.PublicLaws.Meaning.{legal_placed, length-events_of-push, legal_situation-push, resumes}
use Rattle.monk_history.proofs.PublicLaws.Meaning.{turn-push}
use Rattle.monk_history.specs.Meaning.{Counts.events_of, Legal.IsLegal, Promises.ThePredicateHolds, Reasons.fits_turn}
use Rattle.monk_history.specs.Meaning.{Standing.times, Standing.has_turn, Turn.turn, Turn.turn_by, Turn.is_inside}
use Rattle.monk_history.specs.Meaning.{Situation.Situation, Situation.situation, Monitor.Monitor, Monitor.data_of}
use Rattle.monk_history.specs.Meaning.Events.{seat_of, next_of, is_stay, is_until, awaited_predicate}
use Rattle.monk_history.specs.Meaning.Untils.{untils, chooses, waits_until, StaysWhereItHolds}
use Rattle.monk_history.specs.declared.event.{Turn.TheVariants.Due, Next.Next, Next.TheVariants.Stay}
use Rattle.monk_history.specs.declared.event.From3.{From3, TheVariants.Until as FromUntil}
use Rattle.monk_history.specs.declared.event.Event.{Event, TheVariants.Until, TheVariants.Resume}
use Rattle.monk_kinds.specs.declared.mode.{Pick.Pick, Rules.Rules}
use Rattle.monk_object.specs.Object.{Object}
use Rattle.monk_floor.specs.View.{monitor_of}
use Rattle.monk_world.specs.declared.home.Home.TheVariants as home
use Rattle.monk_world.specs.StepTable.{out_event, queue_due}
use Rattle.monk_hall.specs.{AfterCalls.MatchAfter, Changes.source_from, Tokens.Token, Tokens.Holder}
use Rattle.monk_hall.specs.Calls.{HasEntered, HasReleased, HasStayed}
use Rattle.monk_hall.specs.declared.after.After.{After, TheVariants.Active, TheVariants.Parked}
use Rattle.monk_samples.specs.Styles.{Holds}

-- the seats of these waits
abbrev seats_in : List (ℕ × ℕ) → List ℕ
seats_in us = map (λ u. u.0) us

-- an event of the seat that the turn is due to is its own
due_own : (s : ℕ) (q : From3) (e : Event) → fits_turn (Due s q) e ≡ true → seat_of e ≡ s
due_own s q e h = grind (arith, nat_tests)

until_turn : (s j : ℕ) (x : Option Next) → is_until s x ≡ true → turn_by j x ≡ Due s FromUntil
until_turn s j x h = grind (arith, nat_tests)

there_then : (s : ℕ) (us vs : List (ℕ × ℕ)) → times s (seats_in us) ≤ times s (seats_in (us ++ vs))
there_then s [] vs = omega arith
there_then s (u ∷ us) vs = let more = there_then s us vs in omega (arith, more)

there_last : (s : ℕ) (us vs : List (ℕ × ℕ)) → times s (seats_in vs) ≤ times s (seats_in (us ++ vs))
there_last s [] vs = omega arith
there_last s (u ∷ us) vs = let more = there_last s us vs in omega (arith, more)

there_still : (s : ℕ) (f : ℕ × ℕ → Bool) (us : List (ℕ × ℕ)) → ((u : ℕ × ℕ) → u.0 ≡ s → f u ≡ true)
    → times s (seats_in us) ≤ times s (seats_in (filter f us))
there_still s f [] keeps = omega arith
there_still s f (u ∷ us) keeps = by (f u) refl (there_still s f us keeps)
  where
    dropped : (b : Bool) → (u.0 == s) ≡ b → f u ≡ false
        → times s (seats_in us) ≤ times s (seats_in (filter f us))
        → cond b 1 0 + times s (seats_in us) ≤ times s (seats_in (filter f us))
    dropped true is not_kept more = absurd (false≢true (sym not_kept ∙ keeps u (eqb-true u.0 s is)))
    dropped false is not_kept more = omega (arith, more)

    by : (b : Bool) → f u ≡ b → times s (seats_in us) ≤ times s (seats_in (filter f us))
        → cond (u.0 == s) 1 0 + times s (seats_in us)
        ≤ times s (seats_in (cond b (u ∷ filter f us) (filter f us)))
    by true kept more = omega (arith, more)
    by false not_kept more = dropped (u.0 == s) refl not_kept more

at_most : (b : Bool) → ◌≤◌ (cond b 1 0) 1
at_most b = grind (arith, nat_tests)

second : (xs : List Event) (x y : Event) → slice_get (xs ++ x ∷ y ∷ []) (suc (length xs)) ≡ Some y
second [] x y = refl
second (z ∷ xs) x y = second xs x y

last_is : (xs : List Event) (x : Event) → slice_get (xs ++ x ∷ []) (length xs) ≡ Some x
last_is [] x = refl
last_is (z ∷ xs) x = last_is xs x

-- none of these events is of the seat
abbrev pub NoneIsOf : ℕ → List Event → Type 0
NoneIsOf s [] = Unit {0}
NoneIsOf s (e ∷ es) = (seat_of e ≡ s → ⊥) × NoneIsOf s es

module _ (s p : ℕ) where
  -- each of these waits that is of the seat awaits the predicate
  abbrev AwaitsOnly : List (ℕ × ℕ) → Type 0
  AwaitsOnly [] = Unit {0}
  AwaitsOnly (u ∷ us) = (u.0 ≡ s → u.1 ≡ p) × AwaitsOnly us

  only_then : (us vs : List (ℕ × ℕ)) → AwaitsOnly us → AwaitsOnly vs → AwaitsOnly (us ++ vs)
  only_then [] vs a b = b
  only_then (u ∷ us) vs a b = (a.0, only_then us vs a.1 b)

  only_of : (f : ℕ × ℕ → Bool) (us : List (ℕ × ℕ)) → AwaitsOnly us → AwaitsOnly (filter f us)
  only_of f [] a = tt
  only_of f (u ∷ us) a = by (f u) (only_of f us a.1)
    where
      by : (b : Bool) → AwaitsOnly (filter f us) → AwaitsOnly (cond b (u ∷ filter f us) (filter f us))
      by true rest = (a.0, rest)
      by false rest = rest

  only_none : (us : List (ℕ × ℕ)) → times s (seats_in us) ≡ 0 → AwaitsOnly us
  only_none [] h = tt
  only_none (u ∷ us) h = by (λ rest. only_none us rest) (u.0 == s) refl h
    where
      by : (times s (seats_in us) ≡ 0 → AwaitsOnly us) → (b : Bool) → (u.0 == s) ≡ b
          → cond b 1 0 + times s (seats_in us) ≡ 0 → AwaitsOnly (u ∷ us)
      by rest true e g = absurd (omega (arith, g))
      by rest false e g = ((λ same. absurd (false≢true (sym e ∙ eq-eqb u.0 s same))), rest (omega (arith, g)))

  only_one : (r : ℕ) (us : List (ℕ × ℕ)) → AwaitsOnly us → list_any (λ u. u.0 == s && u.1 == r) us ≡ true → r ≡ p
  only_one r [] a h = absurd (false≢true h)
  only_one r (u ∷ us) a h = by (λ rest. only_one r us a.1 rest) (u.0 == s && u.1 == r) refl h
    where
      by : (list_any (λ v. v.0 == s && v.1 == r) us ≡ true → r ≡ p) → (b : Bool) → (u.0 == s && u.1 == r) ≡ b
          → (b || list_any (λ v. v.0 == s && v.1 == r) us) ≡ true → r ≡ p
      by rest true e g = sym (eqb-true u.1 r (and_right _ _ e)) ∙ a.0 (eqb-true u.0 s (and_left _ _ e))
      by rest false e g = rest g

  joins_only : (e : Event) (w : Option ℕ) (b : Bool) → (seat_of e ≡ s → ⊥)
      → AwaitsOnly (option_map_or (λ r. cond b [] ((seat_of e, r) ∷ [])) w [])
  joins_only e None b other = tt
  joins_only e (Some r) true other = tt
  joins_only e (Some r) false other = ((λ same. absurd (other same)), tt)

  -- the seat awaits that predicate, or is due from there. Before the last event it awaited no other
  record IsAwaiting (h : List Event) : Type 0 where
    pub before : List Event
    pub last : Event
    pub is : h ≡ before ++ last ∷ []
    pub only_before : AwaitsOnly (untils before)
    pub only : AwaitsOnly (untils h)
    pub waits : (1 ≤ times s (seats_in (untils h))) ⊎ (turn h ≡ Due s FromUntil)

  module _ (m : Monitor) where
    untils_are : (h : List Event) (e : Event) → IsLegal m (h ++ e ∷ [])
        → untils (h ++ e ∷ []) ≡ filter (λ w. not (chooses e w)) (untils h) ++ waits_until e
    untils_are h e l = ap (λ (t : Situation). t.untils) (legal_situation-push m h e (legal_front m h (e ∷ []) l))

    -- it begins to wait
    awaits_first : (past : List Event) (x : Next) → IsLegal m (past ++ Until s p x ∷ []) → is_stay (Some x) ≡ false
        → IsAwaiting (past ++ Until s p x ∷ [])
    awaits_first past x l away =
        let e = Until s p x in let legal = legal_front m past (e ∷ []) l in
        let apart = caller_unqueued m (situation m past) e (legal_placed m past legal) (legal_last m past e l) in
        let none : times s (seats_in (untils past)) ≡ 0 = omega (arith, apart) in
        let joins : waits_until e ≡ (s, p) ∷ [] = ap (λ b. cond b [] ((s, p) ∷ [])) away in
        let are : untils (past ++ e ∷ []) ≡ filter (λ w. not (chooses e w)) (untils past) ++ (s, p) ∷ [] =
        untils_are past e l ∙ ap (λ us. filter (λ w. not (chooses e w)) (untils past) ++ us) joins in
        let one : times s (seats_in ((s, p) ∷ [])) ≡ 1 = ap (λ b. cond b 1 0 + 0) (eq-eqb s s refl) in
        let there = there_last s (filter (λ w. not (chooses e w)) (untils past)) ((s, p) ∷ []) in
        let some : 1 ≤ times s (seats_in (filter (λ w. not (chooses e w)) (untils past) ++ (s, p) ∷ [])) =
        omega (arith, one, there) in
        record {
          before = past;
          last = e;
          is = refl;
          only_before = only_none (untils past) none;
          only = subst AwaitsOnly (sym are) (only_then _ ((s, p) ∷ [])
              (only_of (λ w. not (chooses e w)) (untils past) (only_none (untils past) none)) ((λ same. refl), tt));
          waits = inl (subst (λ us. 1 ≤ times s (seats_in us)) (sym are) some);
        }

    -- one more event, of another seat
    awaits_still : (h : List Event) (e : Event) → IsLegal m (h ++ e ∷ []) → (seat_of e ≡ s → ⊥) → IsAwaiting h
        → IsAwaiting (h ++ e ∷ [])
    awaits_still h e l other st = record {
      before = h;
      last = e;
      is = refl;
      only_before = st.only;
      only = subst AwaitsOnly (sym (untils_are h e l)) (only_then _ (waits_until e)
          (only_of (λ w. not (chooses e w)) (untils h) st.only)
          (joins_only e (awaited_predicate e) (is_stay (next_of e)) other));
      waits = by st.waits;
    }
      where
        kept : 1 ≤ times s (seats_in (untils h)) → (b : Bool) → is_until s (next_of e) ≡ b
            → (1 ≤ times s (seats_in (untils (h ++ e ∷ [])))) ⊎ (turn (h ++ e ∷ []) ≡ Due s FromUntil)
        kept has true is = inr (turn-push h e ∙ until_turn s (seat_of e) (next_of e) is)
        kept has false is =
            let stays = there_still s (λ w. not (chooses e w)) (untils h)
            (λ u same. ap not (ap (λ j. is_until j (next_of e)) same ∙ is)) in
            let more = there_then s (filter (λ w. not (chooses e w)) (untils h)) (waits_until e) in
            let some : 1 ≤ times s (seats_in (filter (λ w. not (chooses e w)) (untils h) ++ waits_until e)) =
            omega (arith, has, stays, more) in
            inl (subst (λ us. 1 ≤ times s (seats_in us)) (sym (untils_are h e l)) some)

        by : (1 ≤ times s (seats_in (untils h))) ⊎ (turn h ≡ Due s FromUntil)
            → (1 ≤ times s (seats_in (untils (h ++ e ∷ [])))) ⊎ (turn (h ++ e ∷ []) ≡ Due s FromUntil)
        by (inl has) = kept has (is_until s (next_of e)) refl
        by (inr due) = absurd (other (due_own s FromUntil e
            (subst (λ t. fits_turn t e ≡ true) due ((legal_last m h e l).in_turn))))

    awaits_on : (h mid : List Event) → IsLegal m (h ++ mid) → NoneIsOf s mid → IsAwaiting h → IsAwaiting (h ++ mid)
    awaits_on h [] l none st = subst IsAwaiting (sym (append-nil h)) st
    awaits_on h (e ∷ mid) l none st =
        let all = append_assoc h (e ∷ []) mid in let legal = subst (IsLegal m) (sym all) l in
        subst IsAwaiting all (awaits_on (h ++ e ∷ []) mid legal none.1
        (awaits_still h e (legal_front m (h ++ e ∷ []) mid legal) none.0 st))

    -- it goes on from there
    goes_on_from : (h : List Event) (q : From3) → IsLegal m (h ++ Resume s q ∷ []) → IsAwaiting h → q ≡ FromUntil
    goes_on_from h q l st = by st.waits
      where
        due : turn h ≡ Due s q
        due = ((resumes m h s q).0 (legal_last m h (Resume s q) l)).due

        by : (1 ≤ times s (seats_in (untils h))) ⊎ (turn h ≡ Due s FromUntil) → q ≡ FromUntil
        by (inr is) = let same : Due s q ≡ Due s FromUntil = sym due ∙ is in cc
        by (inl has) =
            let placed = legal_placed m h (legal_front m h (Resume s q ∷ []) l) s in
            let mine : has_turn s (turn h) ≡ 1 = ap (has_turn s) due ∙ ap (λ b. cond b 1 0) (eq-eqb s s refl) in
            let most = at_most (is_inside s h) in
            absurd (omega (arith, has, placed, mine, most))

    no_act : (h : List Event) (q : From3) → IsLegal m (h ++ Resume s q ∷ [])
        → data_of m (h ++ Resume s q ∷ []) ≡ data_of m h
    no_act h q l =
        ap (λ (t : Situation). t.state) (legal_situation-push m h (Resume s q) (legal_front m h (Resume s q ∷ []) l))

    awaited_holds : (h : List Event) → ThePredicateHolds m (h ++ Resume s FromUntil ∷ [])
        → IsLegal m (h ++ Resume s FromUntil ∷ []) → IsAwaiting h
        → m.object.holds (data_of m (h ++ Resume s FromUntil ∷ [])) p ≡ true
    awaited_holds h law l st =
        let e = Resume s FromUntil in let n = length st.before in
        let whole : h ++ e ∷ [] ≡ st.before ++ st.last ∷ e ∷ [] =
        ap (λ x. x ++ e ∷ []) st.is ∙ append_assoc st.before (st.last ∷ []) (e ∷ []) in
        let step : n + 1 ≡ suc n = omega arith in
        let there : slice_get (h ++ e ∷ []) (n + 1) ≡ Some e =
        (λ i. slice_get (whole i) (step i)) ∙ second st.before st.last e in
        let found = law n s there in
        let long : length h ≡ n + 1 = ap length st.is ∙ length-append st.before (st.last ∷ []) in
        let past : take n (h ++ e ∷ []) ≡ st.before =
        ap (take n) whole ∙ take-append-le n st.before (st.last ∷ e ∷ []) (omega arith)
        ∙ take_all n st.before (omega arith) in
        let here : take (n + 1) (h ++ e ∷ []) ≡ h =
        take-append-le (n + 1) h (e ∷ []) (omega (arith, long)) ∙ take_all (n + 1) h (omega (arith, long)) in
        let same : found.0 ≡ p = only_one found.0 (untils st.before) st.only_before
        (subst (λ x. list_any (λ u. u.0 == s && u.1 == found.0) (untils x) ≡ true) past found.1.0) in
        subst (λ r. m.object.holds (data_of m (h ++ e ∷ [])) r ≡ true) same
        (subst (λ d. m.object.holds d found.0 ≡ true) (ap (data_of m) here ∙ sym (no_act h FromUntil l)) found.1.1)

    -- what a seat awaited holds when it goes on
    pub woken_holds : (past mid : List Event) (x : Next) (q : From3)
        → ((h : List Event) → IsLegal m h → ThePredicateHolds m h)
        → IsLegal m (((past ++ Until s p x ∷ []) ++ mid) ++ Resume s q ∷ []) → is_stay (Some x) ≡ false
        → NoneIsOf s mid
        → m.object.holds (data_of m (((past ++ Until s p x ∷ []) ++ mid) ++ Resume s q ∷ [])) p ≡ true
    woken_holds past mid x q law l away none =
        let h = (past ++ Until s p x ∷ []) ++ mid in
        let front = legal_front m h (Resume s q ∷ []) l in
        let st = awaits_on (past ++ Until s p x ∷ []) mid front none
        (awaits_first past x (legal_front m (past ++ Until s p x ∷ []) mid front) away) in
        let is = goes_on_from h q l st in
        let legal = subst (λ r. IsLegal m (h ++ Resume s r ∷ [])) is l in
        subst (λ r. m.object.holds (data_of m (h ++ Resume s r ∷ [])) p ≡ true) (sym is)
        (awaited_holds h (law (h ++ Resume s FromUntil ∷ []) legal) legal st)

    -- and if it stayed, that held before
    pub stayed_holds : (past : List Event) → ((h : List Event) → IsLegal m h → StaysWhereItHolds m h)
        → IsLegal m (past ++ Until s p Stay ∷ []) → m.object.holds (data_of m (past ++ Until s p Stay ∷ [])) p ≡ true
    stayed_holds past law l =
        let e = Until s p Stay in let n = length past in
        let held = (law (past ++ e ∷ []) l n s p Stay (last_is past e)).0 refl in
        let before : take n (past ++ e ∷ []) ≡ past =
        take-append-le n past (e ∷ []) (omega arith) ∙ take_all n past (omega arith) in
        let same : data_of m (past ++ e ∷ []) ≡ data_of m past =
        ap (λ (t : Situation). t.state) (legal_situation-push m past e (legal_front m past (e ∷ []) l)) in
        subst (λ d. m.object.holds d p ≡ true) (ap (data_of m) before ∙ sym same) held

own_length : (s : ℕ) (a b : List Event)
    → length (events_of (a ++ b) s) ≡ length (events_of a s) + length (events_of b s)
unfolding events_of
own_length s a b = grind (arith, nat_tests, filter-append, length-append)

none_own : (s : ℕ) (es : List Event) → length (events_of es s) ≡ 0 → NoneIsOf s es
unfolding events_of
none_own s [] h = tt
none_own s (e ∷ es) h = by (λ rest. none_own s es rest) (seat_of e == s) refl h
  where
    by : (length (filter (λ x. seat_of x == s) es) ≡ 0 → NoneIsOf s es) → (b : Bool) → (seat_of e == s) ≡ b
        → length (cond b (e ∷ filter (λ x. seat_of x == s) es) (filter (λ x. seat_of x == s) es)) ≡ 0
        → NoneIsOf s (e ∷ es)
    by rest true is g = absurd (omega (arith, g))
    by rest false is g = ((λ same. absurd (false≢true (sym is ∙ eq-eqb (seat_of e) s same))), rest g)

no_more : (n m c all : ℕ) → all ≡ n + 1 → all ≡ n + m + c → c ≡ 1 → m ≡ 0
no_more n m c all a b one = omega (arith, a, b, one)

module _ (k : Rules) (o : Object) (p : ℕ) where
  stayed_held : (w : Pick) (a : Holder) (peeks : ℕ) (b : Holder) → HasStayed k o a (Until a.me.seat p Stay) w peeks b
      → ((m : Monitor) (h : List Event) → IsLegal m h → StaysWhereItHolds m h) → Holds k o p b
  stayed_held w a peeks b t law =
      let m = monitor_of k o b.floor in
      let is : b.floor.history ≡ a.floor.history ++ Until a.me.seat p Stay ∷ [] = grind (arith, nat_tests) in
      subst (λ h. o.holds (data_of m h) p ≡ true) (sym is)
      (stayed_holds a.me.seat p m a.floor.history (law m) (subst (IsLegal m) is t.legal))

  came_back_held : (w : Pick) (a : Holder) (peeks : ℕ) (q : Token) (b : Holder)
      → HasReleased k o a (Until a.me.seat p Stay) w home.Inner peeks q → HasEntered k o q b
      → ((m : Monitor) (h : List Event) → IsLegal m h → ThePredicateHolds m h) → Holds k o p b
  came_back_held w a peeks q b r e law =
      let m = monitor_of k o b.floor in let mid = e.starts.0 in let s = a.me.seat in
      let due = queue_due (turn b.me.seen) in
      let out = out_event q.me.seat (source_from q.me.place) (turn b.me.seen) in
      let resumes_own : out ≡ Resume q.me.seat due = grind (arith, nat_tests) in
      let mine : b.floor.history ≡ (q.me.seen ++ mid) ++ Resume q.me.seat due ∷ [] = grind (arith, nat_tests) in
      let is : b.floor.history ≡ ((a.floor.history ++ Until s p r.choice ∷ []) ++ mid) ++ Resume s due ∷ [] =
      mine ∙ (λ i. (r.seen i ++ mid) ++ Resume (r.seat i) due ∷ []) in
      let all : length (events_of b.floor.history b.me.seat) ≡ length q.me.mine + 1 =
      ap length (e.own ∙ e.mine) ∙ length-append q.me.mine (out ∷ []) in
      let parts : length (events_of b.floor.history b.me.seat)
      ≡ length q.me.mine + length (events_of mid q.me.seat) + cond (q.me.seat == q.me.seat) 1 0 =
      (λ i. length (events_of (mine i) (e.seat i)))
      ∙ length-events_of-push (q.me.seen ++ mid) (Resume q.me.seat due) q.me.seat
      ∙ ap (λ n. n + cond (q.me.seat == q.me.seat) 1 0) (own_length q.me.seat q.me.seen mid
      ∙ ap (λ n. n + length (events_of mid q.me.seat)) (ap length r.told.own)) in
      let none = no_more _ _ _ _ all parts (ap (λ b. cond b 1 0) (eq-eqb q.me.seat q.me.seat refl)) in
      let none_here : NoneIsOf s mid = subst (λ j. NoneIsOf j mid) r.seat (none_own q.me.seat mid none) in
      subst (λ h. o.holds (data_of m h) p ≡ true) (sym is)
      (woken_holds s p m a.floor.history mid r.choice due (law m) (subst (IsLegal m) is e.legal) r.away none_here)

  -- a seat that waited until it holds finds that it does
  pub until_held : {K T : Type 0} (w : Pick) (x : After K T) (a : Holder) (peeks : ℕ) (b : Holder)
      → MatchAfter x (λ y. HasStayed k o a (Until a.me.seat p Stay) w peeks y)
      (λ q. HasReleased k o a (Until a.me.seat p Stay) w home.Inner peeks q)
      → MatchAfter x (λ y. b ≡ y) (λ q. HasEntered k o q b)
      → ((m : Monitor) (h : List Event) → IsLegal m h → StaysWhereItHolds m h)
      → ((m : Monitor) (h : List Event) → IsLegal m h → ThePredicateHolds m h) → Holds k o p b
  until_held w (Active y) a peeks b t same stays holds =
      subst (Holds k o p) (sym same) (stayed_held w a peeks y t stays)
  until_held w (Parked q) a peeks b r e stays holds = came_back_held w a peeks q b r e holds
