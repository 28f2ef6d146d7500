-- When a seat in no queue may enter, and whose turn it is by the last event. This is what a caller of a floor can
-- see.
use Rattle.std.proofs.Common.{◌≡◌, ℕ, ◌<◌, ◌-◌, Bool, true, false, ◌&&◌, not, List, [], ◌∷◌, ◌++◌, length, refl}
use Rattle.std.proofs.Common.{sym, ap, ◌∙◌, arith, length-append}
use Rattle.std.{specs.Prelude.nat_lt, specs.Prelude.slice_get, proofs.lemmas.Bool.Decides.nat_tests}
use Rattle.monk_history.proofs.MeaningLaws.{HistoryLaws.history_induction, LegalLaws.get_last}
use Rattle.monk_history.proofs.MeaningLaws.{StandingLaws.legal_placed, StepLaws.situation-none, TurnLaws.turn-push}
use Rattle.monk_history.proofs.MeaningLaws.CallLaws.{may_enter_free, may_enter_handed, queued_is}
use Rattle.monk_history.specs.Meaning.{Legal.IsLegal, Monitor.Monitor, Release.MayCall, Signallers.is_empty}
use Rattle.monk_history.specs.Meaning.{Situation.situation, Standing.is_queued}
use Rattle.monk_history.specs.Meaning.Turn.{turn, turn_after, is_inside}
use Rattle.monk_history.specs.declared.event.{Turn.TheVariants.Open, Via.TheVariants.Free, Via.TheVariants.Handed}
use Rattle.monk_history.specs.declared.event.Event.{Event, TheVariants.Enter}

inside_by : (a b : Bool) → (a && not (nat_lt 0 0)) ≡ b → b ≡ false → a ≡ false
inside_by a b h e = grind (arith, nat_tests)

-- if the turn is open, a seat in no queue is outside
outside : (m : Monitor) (h : List Event) (s : ℕ) → IsLegal m h → turn h ≡ Open
    → is_queued m.conds s (situation m h) ≡ false → is_inside s h ≡ false
outside m h s l t q = grind (arith, nat_tests, inside_by, queued_is, legal_placed)

-- if the turn is open and the history has begun, a seat in no queue may enter as one that is handed in
pub may_enter_begun : (m : Monitor) (h : List Event) (s : ℕ) → IsLegal m h → turn h ≡ Open → s < m.seats
    → is_queued m.conds s (situation m h) ≡ false → not (is_empty h) ≡ true → MayCall m h (Enter s Handed)
may_enter_begun m h s l t lt q b = may_enter_handed m h s t lt (outside m h s l t q) b

none_is : (h : List Event) → not (is_empty h) ≡ false → h ≡ []
none_is h b = grind (arith, nat_tests)

-- if the history has not begun, a seat may enter free
pub may_enter_first : (m : Monitor) (h : List Event) (s : ℕ) → IsLegal m h → turn h ≡ Open → s < m.seats
    → is_queued m.conds s (situation m h) ≡ false → not (is_empty h) ≡ false → MayCall m h (Enter s Free)
may_enter_first m h s l t lt q b =
    let none : situation m h ≡ situation m [] = ap (λ x. situation m x) (none_is h b) in
    grind (arith, nat_tests, may_enter_free, outside, situation-none)

turn_at_none : turn_after (slice_get [] (length {A = Event} [] - 1)) ≡ turn []
unfolding turn
turn_at_none = refl

turn_at_more : (x : List Event) (e : Event) → turn_after (slice_get x (length x - 1)) ≡ turn x
    → turn_after (slice_get (x ++ e ∷ []) (length (x ++ e ∷ []) - 1)) ≡ turn (x ++ e ∷ [])
turn_at_more x e p =
    let at : length (x ++ e ∷ []) - 1 ≡ length x = omega (arith, length-append x (e ∷ [])) in
    ap (λ n. turn_after (slice_get (x ++ e ∷ []) n)) at ∙ (ap turn_after (get_last x e) ∙ sym (turn-push x e))

-- the turn is that after the last event
pub turn_at_last : (h : List Event) → turn_after (slice_get h (length h - 1)) ≡ turn h
turn_at_last h = history_induction (λ x. turn_after (slice_get x (length x - 1)) ≡ turn x) turn_at_none turn_at_more h
