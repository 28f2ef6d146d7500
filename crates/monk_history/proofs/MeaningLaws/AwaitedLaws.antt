-- A seat that goes on from a wait-until waits for what holds
use Rattle.std.proofs.Common.{◌≡◌, ℕ, ◌+◌, ◌<◌, Bool, true, false, cond, ◌&&◌, ◌==◌, Option, Some, None, List}
use Rattle.std.proofs.Common.{[], ◌∷◌, ◌++◌}
use Rattle.std.proofs.Common.{length, get_or, ◌-◌, take, refl, sym, ap, ◌∙◌, arith, eq-eqb}
use Rattle.std.proofs.lemmas.{Bool.false≢true, Bool.Decides.nat_tests, Option.slice_get_within, Option.slice_get-get_or}
use Rattle.std.specs.{List.list_any, Option.option_map_or}
use Rattle.std.specs.Prelude.{slice_get, is_some, filter, map}
use Rattle.monk_kinds.specs.declared.mode.Rules.{Rules}
use Rattle.monk_object.specs.Object.{Object}
use Rattle.monk_history.proofs.MeaningLaws.HandOverLaws.{take_more_by_one, or_left, or_right, both, by_stay}
use Rattle.monk_history.proofs.MeaningLaws.TurnLaws.{turn-push, data-push}
use Rattle.monk_history.specs.Meaning.{Situation.situation, Reasons.is_due, Legal.IsLegal, Turn.turn, Turn.turn_by}
use Rattle.monk_history.specs.Meaning.Monitor.{Monitor, data_of}
use Rattle.monk_history.specs.Meaning.Events.{seat_of, next_of, is_stay, steps_back, answered_act}
use Rattle.monk_history.specs.Meaning.Promises.{AwaitsWhatHolds, ThePredicateHolds}
use Rattle.monk_history.specs.Meaning.Choice.{Queues, queues_at, may_choose, may_signal, must_stay, is_front}
use Rattle.monk_history.specs.Meaning.Untils.{untils, ready_of}
use Rattle.monk_history.specs.declared.event.{Turn.Turn, Turn.TheVariants.Due, Event.Event, Event.TheVariants.Resume}
use Rattle.monk_history.specs.declared.event.From3.{From3, TheVariants.Until as FromUntil}
use Rattle.monk_history.specs.declared.event.Next.{Next, TheVariants.Until as UntilSeat}

-- seat s is among these waits, with a predicate that holds
abbrev AwaitsAmong : Object → List ℕ → ℕ → List (ℕ × ℕ) → Type 0
AwaitsAmong o d s ws = (p : ℕ) × (list_any (λ u. u.0 == s && u.1 == p) ws ≡ true) × (o.holds d p ≡ true)

ready_by : (o : Object) (d : List ℕ) (s : ℕ) (u : ℕ × ℕ) (us : List (ℕ × ℕ)) (b : Bool) → o.holds d u.1 ≡ b
    → (is_front s (ready_of o d us) ≡ true → AwaitsAmong o d s us)
    → is_front s (map (λ (v : ℕ × ℕ). v.0)
    (cond b (u ∷ filter (λ v. o.holds d v.1) us) (filter (λ v. o.holds d v.1) us))) ≡ true
    → AwaitsAmong o d s (u ∷ us)
ready_by o d s u us true e f g = (
  u.1,
  or_left (u.0 == s && u.1 == u.1) (list_any (λ v. v.0 == s && v.1 == u.1) us)
      (both (u.0 == s) (u.1 == u.1) g (eq-eqb u.1 u.1 refl)),
  e,
)
ready_by o d s u us false e f g =
    let r = f g in (r.0, or_right (u.0 == s && u.1 == r.0) (list_any (λ v. v.0 == s && v.1 == r.0) us) r.1, r.2)

-- the first of the ready seats waits until a predicate that holds
ready_front : (o : Object) (d : List ℕ) (s : ℕ) (ws : List (ℕ × ℕ)) → is_front s (ready_of o d ws) ≡ true
    → AwaitsAmong o d s ws
ready_front o d s [] h = absurd (false≢true h)
ready_front o d s (u ∷ us) h = ready_by o d s u us (o.holds d u.1) refl (λ g. ready_front o d s us g) h

-- a seat that was chosen from the waits-until was the first of the ready seats
until_chosen : (k : Rules) (q : Queues) (s : ℕ) (b : Bool) (x : Option Next) (j : ℕ) → x ≡ Some (UntilSeat j)
    → option_map_or (λ n. cond b (may_signal k q s n) (may_choose k q s n)) x true ≡ true → is_front j q.ready ≡ true
until_chosen k q s b x j e p = grind (arith, nat_tests)

-- if the turn is due from the waits-until, the event chose that
due_from_until : (s j : ℕ) (x : Option Next) → turn_by s x ≡ Due j FromUntil → x ≡ Some (UntilSeat j)
due_from_until s j x e = grind (arith, nat_tests)

-- an event that chooses does nothing on the object
choice_without_act : (e : Event) (x : Next) → next_of e ≡ Some x → answered_act e ≡ None
choice_without_act e x h = grind (arith, nat_tests)

resume_is_due : (s : ℕ) (q : From3) (t : Turn) → is_due s q t ≡ true → t ≡ Due s q
resume_is_due s q t h = grind (arith, nat_tests)

awaits_what_holds : (m : Monitor) (h : List Event) (i s : ℕ) (e : Event) → IsLegal m h → slice_get h i ≡ Some e
    → slice_get h (i + 1) ≡ Some (Resume s FromUntil) → (p : ℕ) × AwaitsWhatHolds m h i s p
awaits_what_holds m h i s e l here there =
    let past = take i h in
    let one : take (i + 1) h ≡ past ++ e ∷ [] = take_more_by_one h i e here in
    let due : turn_by (seat_of e) (next_of e) ≡ Due s FromUntil =
    sym (ap turn one ∙ turn-push past e)
    ∙ resume_is_due s FromUntil (turn (take (i + 1) h)) ((l (i + 1) (Resume s FromUntil) there).in_turn) in
    let chosen : next_of e ≡ Some (UntilSeat s) = due_from_until (seat_of e) s (next_of e) due in
    let found = ready_front m.object (data_of m past) s (untils past)
    (by_stay (is_front s (ready_of m.object (data_of m past) (untils past)) ≡ true)
    (must_stay m.object (situation m past) e)
    (is_stay (next_of e)) _ ((l i e here).permitted)
    (λ p. absurd (false≢true (sym (ap is_stay chosen) ∙ p)))
    (λ p. until_chosen m.kind (queues_at m.object (situation m past) e) (seat_of e) (is_some (steps_back e))
    (next_of e) s chosen p)) in
    let same : data_of m (take (i + 1) h) ≡ data_of m past = grind (arith, nat_tests, data-push, choice_without_act) in
    (found.0, (found.1, ap (λ d. m.object.holds d found.0) same ∙ found.2))

pub the_predicate_holds : (m : Monitor) (h : List Event) → IsLegal m h → ThePredicateHolds m h
the_predicate_holds m h l i s there =
    let within : i + 1 < length h = slice_get_within h (i + 1) (Resume s FromUntil) there in
    let e = get_or h i (Resume s FromUntil) in
    awaits_what_holds m h i s e l (slice_get-get_or h i (Resume s FromUntil) (omega (arith, within))) there
