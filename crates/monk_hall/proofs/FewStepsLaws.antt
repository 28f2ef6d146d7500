-- How few steps each call takes
use Rattle.std.proofs.Common.{◌≡◌, ℕ, zero, suc, ◌+◌, ◌≤◌, Bool, false, true, List, [], ◌∷◌, ◌++◌, length, refl, sym, ap}
use Rattle.std.proofs.Common.{◌∙◌, inl, inr, arith, append_assoc, length-append, Option, Some, None}
use Rattle.std.proofs.lemmas.{List.Sums.sum_by-append, Option.none-some, Option.same_Some, Bool.Decides.nat_tests}
use Rattle.monk_kinds.specs.declared.mode.Rules.{Rules}
use Rattle.monk_object.specs.Object.{Object}
use Rattle.monk_history.specs.{Meaning.Counts.enters_of, declared.event.Event.Event}
use Rattle.monk_world.specs.declared.place.Place.{Place}
use Rattle.monk_hall.proofs.HandingLaws.{grants_by}
use Rattle.monk_hall.specs.{Calls.peeks_at, Changes.since, NextTicket.IsLooking, Granting.Grant, Granting.granted_last}
use Rattle.monk_hall.specs.FewSteps.{ArrivalsAreFewSteps, PollsAreFewSteps, ComesInFewSteps, ReleasesAreFewSteps}
use Rattle.monk_hall.specs.FewSteps.{StaysAreFewSteps, BusyIsFewSteps, GrantsAreSteps, UnlookedLearnsNothing}
use Rattle.monk_hall.specs.FewSteps.{IsGrantFor, HasStepped}
use Rattle.monk_hall.specs.declared.deed.Deed.{Deed}
use Rattle.monk_hall.specs.declared.deed.Deed.TheVariants.{Peek, FloorOut, FloorIn, Drop, GrantTicket, CallSeat}
use Rattle.monk_hall.specs.declared.record.SeatRecord.{SeatRecord}
use Rattle.monk_hall.specs.Handing.{HandsOn, seat_called_by}
use Rattle.monk_hall.specs.Tokens.{Token, Holder, House}
use Rattle.monk_hall.specs.Deeds.{knows_from, looks_in, looks_of, steps_of, look_at, looks_in_vain}

-- more deeds are more looks and more steps
stepped : (looks most : ℕ) (r w : SeatRecord) (ds : List Deed) → w.did ≡ r.did ++ ds → looks_of ds ≡ looks
    → steps_of ds ≤ most → HasStepped looks most r w
stepped looks most r w ds is n few = record {
  looks = ap looks_of is ∙ sum_by-append looks_in r.did ds ∙ ap (λ (m : ℕ). looks_of r.did + m) n;
  steps = let l = ap length is ∙ length-append r.did ds in omega arith;
}

pub arrivals : ArrivalsAreFewSteps
arrivals k o p q x = stepped 0 1 p.me q.me _ (ap (λ (w : SeatRecord). w.did) x.me) refl (omega arith)

-- the look of a waiting seat is one look
one_look : (p : Place) (b : Bool) → IsLooking p → (looks_of (look_at p b) ≡ 1) × (steps_of (look_at p b) ≡ 1)
one_look p b e = grind (arith, nat_tests)

few_looks : (p : Place) (b : Bool) → (looks_of (look_at p b) ≤ 1) × (steps_of (look_at p b) ≤ 1)
few_looks p b = grind (arith, nat_tests)

few_in_vain : (n : ℕ) (p : Place) → (looks_of (looks_in_vain n p) ≤ n) × (steps_of (looks_in_vain n p) ≤ n)
few_in_vain zero p = (omega arith, omega arith)
few_in_vain (suc n) p =
    let one = few_looks p false in
    let more = few_in_vain n p in
    let a = sum_by-append looks_in (look_at p false) (looks_in_vain n p) in
    let b = length-append (look_at p false) (looks_in_vain n p) in
    (omega arith, omega arith)

pub polls : PollsAreFewSteps
polls k o p q looking x = let one = one_look p.me.place false looking in
    stepped 1 1 p.me q.me (look_at p.me.place false) (ap (λ (w : SeatRecord). w.did) x.me) one.0 (omega arith)

pub comes_in : ComesInFewSteps
comes_in n r w is =
    let p = r.place in
    let vain = few_in_vain n p in
    let one = few_looks p true in
    let ds : List Deed = look_at p true ++ FloorOut ∷ [] in
    let a = ap looks_of is ∙ sum_by-append looks_in r.did (looks_in_vain n p ++ ds) in
    let b = sum_by-append looks_in (looks_in_vain n p) ds in
    let d = sum_by-append looks_in (look_at p true) (FloorOut ∷ []) in
    let e = ap length is ∙ length-append r.did (looks_in_vain n p ++ ds) in
    let f = length-append (looks_in_vain n p) ds in
    let g = length-append (look_at p true) (FloorOut ∷ []) in
    (omega arith, omega arith)

peeked : (n found : ℕ) → (looks_of (peeks_at n found) ≡ n) × (steps_of (peeks_at n found) ≡ n)
peeked zero found = (refl, refl)
peeked (suc n) found =
    let p = peeked n found in
    let a = sum_by-append looks_in (Peek found ∷ []) (peeks_at n found) in
    (omega arith, omega arith)

handed : (called : Option ℕ) (seen : List Event) (ds : List Deed) → HandsOn called seen ds
    → (looks_of ds ≡ 0) × (steps_of ds ≤ 2)
handed called seen ds is = grind (arith, nat_tests)

pub releases : ReleasesAreFewSteps
releases k o a call wish to peeks p x =
    let ps = peeked peeks x.found in
    let hs = handed (seat_called_by x.choice) p.me.seen x.handed x.hands_on in
    let ds : List Deed = FloorIn (since a.me.seen p.me.seen) ∷ x.handed in
    let a1 = sum_by-append looks_in (peeks_at peeks x.found) ds in
    let b1 = length-append (peeks_at peeks x.found) ds in
    let c1 = sum_by-append looks_in (FloorIn (since a.me.seen p.me.seen) ∷ []) x.handed in
    stepped peeks (peeks + 3) a.me p.me (peeks_at peeks x.found ++ ds) x.did (omega arith) (omega arith)

pub stays : StaysAreFewSteps
stays k o a call wish peeks b x = let ps = peeked peeks x.found in
    stepped peeks peeks a.me b.me (peeks_at peeks x.found) (ap (λ h. h.me.did) x.is) ps.0 (omega arith)

pub busy : BusyIsFewSteps
busy k o a b x =
    let ps = peeked x.peeks x.peeked.found in
    let few = x.few in
    let s = stepped x.peeks x.peeks a.me b.me (peeks_at x.peeks x.peeked.found) (ap (λ h. h.me.did) x.peeked.is) ps.0
    (omega arith) in
    let l = s.looks in
    let n = s.steps in
    (omega arith, omega arith)

-- what was granted, by how the right was handed on
granted : (k : Rules) (o : Object) (a : Holder) (peeks : ℕ) (p : Token) (h : House) (called : Option ℕ)
    (front ds : List Deed) (g : Option Grant) → HandsOn called p.me.seen ds
    → g ≡ granted_last h.id h.setting.seats (front ++ ds)
    → steps_of p.me.did ≡ steps_of a.me.did + peeks + 1 + length ds → IsGrantFor k o a peeks p h called g
granted k o a peeks p h (Some j) front ds g is e n =
    let one = e ∙ ap (λ (l : List Deed). granted_last h.id h.setting.seats (front ++ l)) is
    ∙ grants_by h.id h.setting.seats front (CallSeat j) in
    grind (arith, nat_tests, same_Some, none-some)
granted k o a peeks p h None front ds g (inl is) e n =
    let none = e ∙ ap (λ (l : List Deed). granted_last h.id h.setting.seats (front ++ l)) is
    ∙ grants_by h.id h.setting.seats front (Drop 1) in
    let l = ap length is in
    grind (arith, nat_tests, none-some)
granted k o a peeks p h None front ds g (inr (m, two, is)) e n =
    let t : ℕ = enters_of p.me.seen in
    let one = e ∙ ap (λ (l : List Deed). granted_last h.id h.setting.seats (front ++ l)) is
    ∙ ap (granted_last h.id h.setting.seats) (sym (append_assoc front (Drop m ∷ []) (GrantTicket t ∷ [])))
    ∙ grants_by h.id h.setting.seats (front ++ Drop m ∷ []) (GrantTicket t) in
    let l = ap length is in
    grind (arith, nat_tests, none-some)

pub grants : GrantsAreSteps
grants k o a call wish to peeks p h g x =
    let it = x.released in
    let ps = peeked peeks it.found in
    let home : List Deed = FloorIn (since a.me.seen p.me.seen) ∷ [] in
    let front : List Deed = a.me.did ++ (peeks_at peeks it.found ++ home) in
    let all : p.me.did ≡ front ++ it.handed = grind (arith, nat_tests, append_assoc) in
    let l = ap length all ∙ length-append front it.handed in
    let m = length-append a.me.did (peeks_at peeks it.found ++ home) in
    let n = length-append (peeks_at peeks it.found) home in
    granted k o a peeks p h (seat_called_by it.choice) front it.handed g it.hands_on
    (x.granted ∙ ap (granted_last h.id h.setting.seats) all) (omega arith)

unlooked_knows : (n found : ℕ) (b : Bool) → n ≡ 0 → knows_from b (peeks_at n found) ≡ b
unlooked_knows n found b e = cc

pub unlooked : UnlookedLearnsNothing
unlooked k o a call wish to peeks p x same =
    let s = (releases k o a call wish to peeks p x).looks in
    x.remembers.learns ∙ unlooked_knows peeks x.found a.me.known (omega arith)
