-- One more item that a loop has gone through
use Rattle.std.proofs.Common.{◌≡◌, ℕ, ◌+◌, ◌<◌, Bool, cond, not, List, [], ◌∷◌}
use Rattle.std.proofs.Common.{◌++◌, length, map, take, get_or, ap, sym, arith, refl, ◌∙◌}
use Rattle.std.proofs.lemmas.{List.length-map, List.map-append, List.take_more, List.Elements.filter-append}
use Rattle.std.proofs.lemmas.{List.FromFn.map-range_with_len_more, Bool.Decides.nat_tests}
use Rattle.std.specs.{List.position, List.position_or_len, Prelude.filter, Prelude.is_none, Prelude.slice_get}
use Rattle.monk_kinds.specs.declared.mode.Rules.{Rules}
use Rattle.monk_object.specs.Object.{Object}
use Rattle.monk_history.specs.{Just.just, declared.event.Event.Event}
use Rattle.monk_history.specs.Meaning.{Signallers.is_empty, Untils.ready_of}
use Rattle.monk_audit.specs.{Replay.has, Settled.permits}
use Rattle.monk_tell.specs.{Cause.conditions_below, Cause.waits_at, Told.condition_lists}
use Rattle.monk_tell.specs.declared.{lists.SeatList.SeatList, queues.Conditions.Conditions}

abbrev seats_of : SeatList → List ℕ
seats_of s = s.0.items

-- the queue of one more condition
pub conditions_more : (queue : ℕ → List ℕ) (i : ℕ) (xs : List SeatList) (x : SeatList)
    → map seats_of xs ≡ conditions_below queue i → x.0.items ≡ queue i
    → map seats_of (xs ++ x ∷ []) ≡ conditions_below queue (i + 1)
conditions_more queue i xs x so_far is = grind (arith, nat_tests, map-append, map-range_with_len_more)

first_of_lists : (p : List ℕ → Bool) (xs : List SeatList)
    → position_or_len p (map seats_of xs) ≡ position_or_len (λ x. p x.0.items) xs
first_of_lists p [] = refl
first_of_lists p (x ∷ xs) = ap (λ (n : ℕ). cond (not (p x.0.items)) (1 + n) 0) (first_of_lists p xs)

-- a search in the queues finds the same in their lists
pub waits_of_lists : (c : Conditions) (s : ℕ) → position (λ (x : SeatList). has s x.0.items) c.0.items
    ≡ waits_at (condition_lists c) s
waits_of_lists c s = sym (rw (first_of_lists (has s) c.0.items, length-map) refl)

-- if there is no first seat, the queue is empty
pub empty_if_none_first : (xs : List ℕ) → is_none (slice_get xs 0) ≡ is_empty xs
empty_if_none_first xs = grind (arith, nat_tests)

ready_append : (o : Object) (d : List ℕ) (xs ys : List (ℕ × ℕ))
    → ready_of o d (xs ++ ys) ≡ ready_of o d xs ++ ready_of o d ys
ready_append o d xs ys =
    ap (λ (l : List (ℕ × ℕ)). map (λ w. w.0) l) (filter-append (λ w. o.holds d w.1) xs ys)
    ∙ map-append (λ w. w.0) (filter (λ w. o.holds d w.1) xs) (filter (λ w. o.holds d w.1) ys)

ready_one : (o : Object) (d : List ℕ) (w : ℕ × ℕ) (b : Bool) → o.holds d w.1 ≡ b
    → ready_of o d (w ∷ []) ≡ cond b (w.0 ∷ []) []
ready_one o d w b h = grind (arith, nat_tests)

-- the ready seats after one more wait
pub ready_more : (o : Object) (d : List ℕ) (ws : List (ℕ × ℕ)) (i : ℕ) (b : Bool) → i < length ws
    → o.holds d (get_or ws i (0, 0)).1 ≡ b
    → ready_of o d (take (i + 1) ws) ≡ ready_of o d (take i ws) ++ cond b ((get_or ws i (0, 0)).0 ∷ []) []
ready_more o d ws i b there holds =
    ap (λ (l : List (ℕ × ℕ)). ready_of o d l) (take_more ws i (0, 0) there)
    ∙ (ready_append o d (take i ws) (get_or ws i (0, 0) ∷ [])
    ∙ ap (λ (l : List ℕ). ready_of o d (take i ws) ++ l) (ready_one o d (get_or ws i (0, 0)) b holds))

-- the first ready seat alone decides
pub permits_front : (k : Rules) (ws ss xs : List ℕ) (stays : Bool) (e : Event)
    → permits k (record { waiters = ws; signallers = ss; ready = just (slice_get xs 0) }) stays e
    ≡ permits k (record { waiters = ws; signallers = ss; ready = xs }) stays e
permits_front k ws ss xs stays e = grind (arith, nat_tests)
