-- One number changes, and the others stay
use Rattle.std.proofs.Common.{◌≡◌, ◌≢◌, ℕ, ◌==◌, cond, inl, inr, Bool, sym, refl, subst}
use Rattle.std.proofs.lemmas.Bool.Decides.{eqb_tells}
use mathlib.Core.Path.{Path}
use Rattle.monk_world.specs.Update.{update}

module _ {X : Type 0} where
  pub at_update : (at : ℕ → X) (i : ℕ) (x : X) (F : ℕ → X → Type 0) → F i x → ((j : ℕ) → j ≢ i → F j (at j))
      → (j : ℕ) → F j (update at i x j)
  unfolding update
  at_update at i x F here other j = elim (eqb_tells j i) as (λ _. F j (cond (j == i) x (at j))) [
    | inl h ↦ subst (λ (b : Bool). F j (cond b x (at j))) (sym h.0) (subst (λ (k : ℕ). F k x) (sym h.1) here)
    | inr h ↦ subst (λ (b : Bool). F j (cond b x (at j))) (sym h.0) (other j h.1)
  ]

  pub update_here : (at : ℕ → X) (i : ℕ) (x : X) → Path X (update at i x i) x
  update_here at i x = at_update at i x (λ j y. j ≡ i → Path X y x) (λ _. refl) (λ j n e. absurd (n e)) i refl

  pub update_else : (at : ℕ → X) (i : ℕ) (x : X) (j : ℕ) → j ≢ i → Path X (update at i x j) (at j)
  update_else at i x j = at_update at i x (λ k y. k ≢ i → Path X y (at k)) (λ n. absurd (n refl)) (λ k n _. refl) j

  -- what holds for all after the change held for all before it, if it did for the one that changed
  pub all_back : (at : ℕ → X) (i : ℕ) (x : X) (F : ℕ → X → Type 0) → ((j : ℕ) → F j (update at i x j))
      → F i (at i) → (j : ℕ) → F j (at j)
  all_back at i x F all old j = elim (eqb_tells j i) as (λ _. F j (at j)) [
    | inl h ↦ subst (λ (k : ℕ). F k (at k)) (sym h.1) old
    | inr h ↦ subst (F j) (update_else at i x j h.1) (all j)
  ]

  -- a store of the value that is there already
  pub update_same : (at : ℕ → X) (i : ℕ) (x : X) → Path X (at i) x → Path (ℕ → X) (update at i x) at
  update_same at i x e = λ k j. at_update at i x (λ m y. Path X y (at m)) (sym e) (λ m _. refl) j k
