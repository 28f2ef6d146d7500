-- The right is in exactly one place, because it is where `right` says
use Rattle.std.proofs.Common.{◌≡◌, ℕ, ◌+◌, ◌%◌, ◌<◌, sym, ap, ◌∙◌, subst, arith}
use Rattle.std.proofs.lemmas.Bool.Decides.{nat_tests}
use Rattle.monk_world.proofs.RightLooks.{grant_is_there, call_is_there}
use Rattle.monk_world.specs.{OnePlace.IsInOnePlace, World.World}
use Rattle.monk_world.specs.Right.{Whereabouts, AtTicket, KeepsRight, Waits}
use Rattle.monk_world.specs.declared.place.Place.{Place, TheVariants.Ticket, TheVariants.Inner}
use Rattle.monk_world.specs.Places.{stage, ticket, ticketed_stage, inside_stage}

is_ticket : (p : Place) (t : ℕ) → stage p ≡ ticketed_stage → ticket p ≡ t → p ≡ Ticket t
is_ticket p t a b = grind (arith, nat_tests)

is_inner : (p : Place) → stage p ≡ inside_stage → p ≡ Inner
is_inner p a = grind (arith, nat_tests)

module _ (seats : ℕ) (s : World) (right : Whereabouts) (owner : ℕ → ℕ) (r : KeepsRight seats s right owner) where
  taker : (t : ℕ) → Waits s.place owner t → (j : ℕ) × (s.place j ≡ Ticket t)
  taker t h = (owner t, is_ticket (s.place (owner t)) t h.0 h.1)

  -- a seat that waits with a ticket is its owner
  owner_is : (j t : ℕ) → s.place j ≡ Ticket t → owner t ≡ j
  owner_is j t e = let own = r.tickets.waits j (ap stage e) in ap owner (sym (ap ticket e)) ∙ own.2

  pub in_one_place : 0 < seats → IsInOnePlace seats s
  in_one_place some = record {
    right = right;
    free = r.holder.free;
    with_seat = r.holder.with_seat;
    at_ticket = λ j t e. (
      λ found. let one : stage (s.place j) ≡ ticketed_stage = ap stage e in
          let same : ticket (s.place j) ≡ t = ap ticket e in
          (grant_is_there seats s right owner r j one
          (subst (λ (k : ℕ). s.ticket_place (k % seats) ≡ k + 1) (sym same) found) some).1 ∙ ap AtTicket same,
      r.places.granted t,
    );
    has_taker = λ t f. taker t (r.tickets.grant t f).1;
    alone = λ j m t here there. sym (owner_is j t here) ∙ owner_is m t there;
    at_seat = λ j. (
      λ h. call_is_there seats s right owner r j h.1,
      λ e. let a = r.calls.called j e in (is_inner (s.place j) a.0, a.1),
    );
    waiting = λ t a b. taker t (r.tickets.owned t b a);
  }
