-- The totals, with one more event
use Rattle.std.proofs.Common.{◌≡◌, ℕ, ◌+◌, ◌-◌, ◌≤◌, ◌<◌, List, [], ◌∷◌, ◌++◌, length, take, drop, subst}
use Rattle.std.proofs.Common.{append-nil, slice_index_or, ap, ◌∙◌, arith}
use Rattle.std.proofs.lemmas.{Grind.flat_map-append, Bool.Decides.nat_tests}
use Rattle.std.proofs.lemmas.List.{map-append, take_more, take-append-drop, Elements.filter-append, Sums.sum_by-append}
use Rattle.std.specs.Prelude.{sum}
use Rattle.monk_object.specs.{Laws.items_taken, Runs.Answered}
use Rattle.monk_history.specs.{Meaning.Acts.act_of, Meaning.Acts.acts_in, declared.event.Event.Event}
use Rattle.monk_samples.specs.Totals.{sum_taken}

last_act : (e : Event) → act_of e ++ [] ≡ act_of e
last_act e = append-nil (act_of e)

acts_more : (h : List Event) (e : Event) → acts_in (h ++ e ∷ []) ≡ acts_in h ++ act_of e
acts_more h e = flat_map-append act_of h (e ∷ []) ∙ ap (λ (xs : List Answered). acts_in h ++ xs) (last_act e)

items_taken_append : (us vs : List Answered) → items_taken (us ++ vs) ≡ items_taken us ++ items_taken vs
items_taken_append us vs = grind (arith, nat_tests, filter-append, map-append)

pub sum_taken_more : (h : List Event) (e : Event) → sum_taken (h ++ e ∷ []) ≡ sum_taken h + sum (items_taken (act_of e))
sum_taken_more h e = grind (arith, nat_tests, acts_more, items_taken_append, sum_by-append)

-- what was taken in a part is no more than in the whole
pub taken_within : (h more : List Event) → sum_taken h ≤ sum_taken (h ++ more)
taken_within h more = grind (arith, nat_tests, flat_map-append, items_taken_append, sum_by-append)

pub taken_next : (n count more : ℕ) (h : List Event) (d : Event) → n < length h → count ≡ sum_taken (take n h)
    → more ≡ sum (items_taken (act_of (slice_index_or h n d))) → count + more ≡ sum_taken (take (n + 1) h)
taken_next n count more h d l e m = let next = ap sum_taken (take_more h n d l)
    ∙ sum_taken_more (take n h) (slice_index_or h n d) in omega (arith, next, e, m)

pub taken_first : (n : ℕ) (h : List Event) → sum_taken (take n h) ≤ sum_taken h
taken_first n h =
    subst (λ (x : List Event). sum_taken (take n h) ≤ sum_taken x) (take-append-drop n h)
    (taken_within (take n h) (drop n h))
