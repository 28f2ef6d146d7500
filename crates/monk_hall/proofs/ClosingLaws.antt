-- If no seat is in a queue, every queue is empty, and a leave lets the entry in
use Rattle.std.proofs.Common.{◌≡◌, ℕ, zero, suc, ◌*◌, ◌==◌, ◌<◌, ◌≤◌, ◌⊎◌, cond, Bool, false, nat_lt}
use Rattle.std.proofs.Common.{List, [], ◌∷◌, ◌++◌, map, length, sym, refl, ap, ◌∙◌, subst, inl, inr, arith, eq-eqb}
use Rattle.std.proofs.lemmas.{List.nil_from_length, Bool.Decides.nat_tests}
use Rattle.monk_kinds.specs.declared.mode.{Pick.TheVariants.Entry as WishEntry, Rules.Rules}
use Rattle.monk_object.specs.Object.{Object}
use Rattle.monk_history.specs.declared.event.Next.TheVariants as next
use Rattle.monk_history.proofs.PublicLaws.Meaning.{legal_seated, IsSeated, times_le_conditions, legal_placed}
use Rattle.monk_history.specs.Meaning.{Conditions.condition, Counts.events_of, Legal.IsLegal, Release.choice_of}
use Rattle.monk_history.specs.Meaning.{Situation.Situation, Situation.situation, Monitor.Monitor, Monitor.data_of}
use Rattle.monk_history.specs.Meaning.Standing.{times, in_queues, IsPlaced}
use Rattle.monk_history.specs.declared.event.{Event.Event, Event.TheVariants.Leave, Next.Next}
use Rattle.monk_floor.specs.{Grown.IsGrown, View.FloorView, View.monitor_of, View.stands_of}
use Rattle.monk_hall.proofs.{Private.own_event, ReleaseLaws.peeked_none}
use Rattle.monk_hall.specs.Closing.{HasNobody, HasSomebody, IsUnqueued, IsEnded, IsBusy}
use Rattle.monk_hall.specs.Tokens.{Holder}

empty_of : (xs : List ℕ) → ((j : ℕ) → times j xs ≡ 0) → xs ≡ []
empty_of [] none = refl
empty_of (x ∷ xs) none =
    let one : ◌≡◌ {A = ℕ} (cond (x == x) 1 0) 1 = ap (λ (b : Bool). cond b 1 0) (eq-eqb x x refl) in
    let n = none x in
    absurd (omega arith)

none_queued : (n : ℕ) → nat_lt 0 n ≡ false → n ≡ 0
none_queued n e = grind (arith, e)

length_seats : (us : List (ℕ × ℕ)) → length (map (λ w. w.0) us) ≡ length us
length_seats [] = refl
length_seats (u ∷ us) = ap suc (length_seats us)

-- a seat that isn't one of the monitor's is in no queue
far_unqueued : (m : Monitor) (t : Situation) (j : ℕ) → IsPlaced m.conds t → IsSeated m.seats t → m.seats ≤ j
    → in_queues m.conds j t ≡ 0
far_unqueued m t j placed seated far = grind (arith, nat_tests)

pub nobody : (k : Rules) (o : Object) (f : FloorView) → IsLegal (monitor_of k o f) f.history
    → IsUnqueued k o f f.seats → HasNobody f
nobody k o f legal unqueued =
    let m = monitor_of k o f in
    let t = situation m f.history in
    let placed = legal_placed m f.history legal in
    let seated = legal_seated m f.history legal in
    let none : (j : ℕ) → in_queues f.conds j t ≡ 0 = grind (arith, nat_tests, far_unqueued, none_queued) in
    record {
      conditions = λ c low. empty_of (condition c f.history)
          (λ j. let n = none j in let l = times_le_conditions f.conds j c t.condition low in omega arith);
      waiters = empty_of t.waiters (λ j. let n = none j in omega arith);
      signallers = empty_of t.signallers (λ j. let n = none j in omega arith);
      untils =
          let seats = empty_of (map (λ w. w.0) t.untils) (λ j. let n = none j in omega arith) in
          nil_from_length t.untils (sym (length_seats t.untils) ∙ ap length seats);
    }
  where
    cases_le : (a b : ℕ) → (a ≤ b) ⊎ (b < a)
    cases_le zero b = inl (omega arith)
    cases_le (suc a) zero = inr (omega arith)
    cases_le (suc a) (suc b) = elim (cases_le a b) [ inl l ↦ inl (omega arith) | inr l ↦ inr (omega arith) ]

pub leaves_last : (k : Rules) (o : Object) (f : FloorView) (s : ℕ) → HasNobody f
    → choice_of k o (stands_of k o f) (Leave s next.Stay) false WishEntry ≡ next.Entry
leaves_last k o f s none = grind (arith, nat_tests)

few_of : (h g : List Event) (m b n c : ℕ) → h ≡ g → m ≡ n → b ≡ c → length g ≤ m * b → length h ≤ n * c
few_of h g m b n c same seats budget within = grind (arith, nat_tests)

-- the active seat has left, when no seat was in a queue
pub ended : (k : Rules) (o : Object) (a : Holder) (f : FloorView) (number : ℕ) (choice : Next) (g : FloorView)
    (history : List Event) (state : List ℕ) → a.floor ≡ f → a.me.seat ≡ number
    → events_of a.floor.history a.me.seat ≡ a.me.mine → IsLegal (monitor_of k o f) f.history
    → IsUnqueued k o a.floor a.floor.seats → IsGrown k o f (Leave number choice) g
    → choice ≡ choice_of k o (stands_of k o f) (Leave number next.Stay) false WishEntry
    → history ≡ g.history → IsLegal (monitor_of k o g) g.history → state ≡ data_of (monitor_of k o g) g.history
    → length g.history ≤ g.seats * g.budget → IsEnded k o a history state
ended k o a f number choice g history state floor seat own legal unqueued grows chosen is_history all_legal
    is_state within =
    let none : HasNobody f = nobody k o f legal (subst (λ (x : FloorView). IsUnqueued k o x x.seats) floor unqueued) in
    let entry : choice ≡ next.Entry = chosen ∙ leaves_last k o f number none in
    let past : g.history ≡ a.floor.history ++ Leave a.me.seat next.Entry ∷ [] = grind (arith, nat_tests) in
    let same : monitor_of k o g ≡ monitor_of k o a.floor = grind (arith, nat_tests) in
    record {
      nobody = subst HasNobody (sym floor) none;
      leaves = is_history ∙ past;
      own =
          ap (λ (x : List Event). events_of x a.me.seat) (is_history ∙ past)
          ∙ own_event a.floor.history (Leave a.me.seat next.Entry) a.me.seat refl
          ∙ ap (λ (x : List Event). x ++ Leave a.me.seat next.Entry ∷ []) own;
      legal = subst (λ (m : Monitor). IsLegal m history) same
          (subst (IsLegal (monitor_of k o g)) (sym is_history) all_legal);
      contents = is_state ∙ (λ i. data_of (same i) (sym is_history i));
      few =
          let seats = ap (λ (x : FloorView). x.seats) grows.grown ∙ ap (λ (x : FloorView). x.seats) (sym floor) in
          let budget = ap (λ (x : FloorView). x.budget) grows.grown ∙ ap (λ (x : FloorView). x.budget) (sym floor) in
          few_of history g.history g.seats g.budget a.floor.seats a.floor.budget is_history seats budget within;
    }

-- the hall has ended for a seat that has looked at the ticket word
pub ended_peeked : (k : Rules) (o : Object) (a b : Holder) (history : List Event) (state : List ℕ) → b.floor ≡ a.floor
    → b.me.seat ≡ a.me.seat → b.me.mine ≡ a.me.mine → IsEnded k o b history state → IsEnded k o a history state
ended_peeked k o a b history state floor seat mine e = record {
  nobody = subst HasNobody floor e.nobody;
  leaves = e.leaves ∙ (λ i. (floor i).history ++ Leave (seat i) next.Entry ∷ []);
  own = ap (λ (j : ℕ). events_of history j) (sym seat) ∙ e.own ∙ (λ i. mine i ++ Leave (seat i) next.Entry ∷ []);
  legal = subst (λ (f : FloorView). IsLegal (monitor_of k o f) history) floor e.legal;
  contents = e.contents ∙ ap (λ (f : FloorView). data_of (monitor_of k o f) history) floor;
  few = subst (λ (f : FloorView). length history ≤ f.seats * f.budget) floor e.few;
}

-- somebody is in a queue, so there was no look
pub busy_unlooked : (k : Rules) (o : Object) (a : Holder) → HasSomebody k o a.floor → IsBusy k o a a
busy_unlooked k o a x = grind (arith, nat_tests, peeked_none)
