-- Who has the right, and who waits for it
use Rattle.std.proofs.Common.{◌≡◌, ◌≢◌, ℕ, ◌≤◌, ◌↔◌, sym, refl, ap, ◌∙◌, subst, arith}
use Rattle.std.proofs.lemmas.Bool.Decides.{nat_tests}
use Rattle.monk_world.specs.declared.home.Home.TheVariants as home
use Rattle.monk_world.proofs.UpdateLaws.{at_update, update_else}
use Rattle.monk_world.specs.{Update.update, World.World, Right.Whereabouts, Right.With, Right.KeepsRight, Right.Waits}
use Rattle.monk_world.specs.declared.home.Home.{Home}
use Rattle.monk_world.specs.declared.place.Place.{Place}
use Rattle.monk_world.specs.declared.place.Place.TheVariants.{Idle, Ticket, Due, Active, Back, Passing, Inner}
use Rattle.monk_world.specs.Places.{HoldsRight, stage, ticket, place_of, ticketed_stage, due_stage, passing_stage}

-- a seat that has the right is between due and passing
pub has_right : (p : Place) → HoldsRight p → (due_stage ≤ stage p) × (stage p ≤ passing_stage)
has_right p h = grind (arith, nat_tests)

pub holds_right : (p : Place) → due_stage ≤ stage p → stage p ≤ passing_stage → HoldsRight p
holds_right Idle a b = absurd (omega arith)
holds_right (Ticket t) a b = absurd (omega arith)
holds_right (Due q) a b = tt
holds_right (Active q) a b = tt
holds_right (Back next home) a b = tt
holds_right (Passing t home) a b = tt
holds_right Inner a b = absurd (omega arith)

pub at_home : (h : Home) (m : ℕ) → 1 ≤ m → m ≤ 5 → stage (place_of h) ≢ m
at_home h m h' h'' = grind (arith, nat_tests)

pub home_has_none : (h : Home) → HoldsRight (place_of h) → ⊥
home_has_none h a = grind (arith, nat_tests)

pub other_stage : (place : ℕ → Place) (i j : ℕ) → stage (place i) ≢ stage (place j) → j ≢ i
other_stage place i j ne e = ne (sym (ap (λ (k : ℕ). stage (place k)) e))

module _ (place : ℕ → Place) (i : ℕ) (to : Place) (none : (j : ℕ) → j ≢ i → due_stage ≤ stage (place j)
    → stage (place j) ≤ passing_stage → ⊥) where
  nobody_else : (j : ℕ) → j ≢ i → HoldsRight (place j) → ⊥
  nobody_else j ne a = let b = has_right (place j) a in none j ne b.0 b.1

  -- after its step only seat i has the right
  pub alone_with : HoldsRight to → (j : ℕ) → HoldsRight (update place i to j) ↔ (With i ≡ With j)
  alone_with here =
      at_update place i to (λ j p. HoldsRight p ↔ (With i ≡ With j)) ((λ _. refl), (λ _. here))
      (λ j ne. ((λ a. absurd (nobody_else j ne a)), (λ e. absurd (ne cc))))

  -- after its step no seat has it
  pub with_none : (x : Whereabouts) → (HoldsRight to → ⊥) → ((j : ℕ) → x ≢ With j)
      → (j : ℕ) → HoldsRight (update place i to j) ↔ (x ≡ With j)
  with_none x here gone =
      at_update place i to (λ j p. HoldsRight p ↔ (x ≡ With j)) ((λ a. absurd (here a)), (λ e. absurd (gone i e)))
      (λ j ne. ((λ a. absurd (nobody_else j ne a)), (λ e. absurd (gone j e))))

-- a seat that is between due and passing has the right, and a seat that has the right is there
pub held : {seats : ℕ} {s : World} {right : Whereabouts} {owner : ℕ → ℕ} → KeepsRight seats s right owner → (j : ℕ)
    → due_stage ≤ stage (s.place j) → stage (s.place j) ≤ passing_stage → right ≡ With j
held {s = s} r j low high = (r.holder.with_seat j).0 (holds_right (s.place j) low high)

pub holds : {seats : ℕ} {s : World} {right : Whereabouts} {owner : ℕ → ℕ} → KeepsRight seats s right owner → (j : ℕ)
    → right ≡ With j → (due_stage ≤ stage (s.place j)) × (stage (s.place j) ≤ passing_stage)
holds {s = s} r j e = has_right (s.place j) ((r.holder.with_seat j).1 e)

module _ (seats : ℕ) (s : World) (right : Whereabouts) (owner : ℕ → ℕ) (r : KeepsRight seats s right owner)
    (i : ℕ) where
  -- a seat that waits with a ticket still waits after a step of another
  pub waiter_stays : (to : Place) (k : ℕ) → stage (s.place i) ≢ ticketed_stage → Waits s.place owner k
      → Waits (update s.place i to) owner k
  waiter_stays to k other h =
      subst (λ (y : Place). (stage y ≡ ticketed_stage) × (ticket y ≡ k))
      (sym (update_else s.place i to (owner k) (λ e. other (sym (ap (λ (j : ℕ). stage (s.place j)) e) ∙ h.0)))) h

  -- no other seat has the right
  pub others : due_stage ≤ stage (s.place i) → stage (s.place i) ≤ passing_stage → (j : ℕ) → j ≢ i
      → due_stage ≤ stage (s.place j) → stage (s.place j) ≤ passing_stage → ⊥
  others a b j ne c d = ne (let h = held r j c d in let m = held r i a b in cc)
