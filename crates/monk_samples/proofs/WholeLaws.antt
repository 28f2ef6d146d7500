-- The totals of a whole history, by what each seat of a run has done
use Rattle.std.proofs.Common.{◌≡◌, ℕ, zero, suc, ◌+◌, Bool, List, [], ◌∷◌, refl, ◌∙◌, arith}
use Rattle.std.{specs.List.sum_by, proofs.lemmas.List.Sums.sum_by-append, proofs.lemmas.List.Sums.sum_by-cons}
use Rattle.atomic_table.specs.Seated.{TableId}
use Rattle.monk_kinds.specs.declared.mode.Rules.{Rules}
use Rattle.monk_object.specs.{Object.Object, Runs.Answered}
use Rattle.monk_history.specs.{Meaning.Acts.act_of, Meaning.Acts.acts_in, declared.event.Event.Event}
use Rattle.monk_hall.specs.{Records.opening_records, declared.setting.Setting.Setting}
use Rattle.monk_hall.specs.Tokens.{House, Token, tokens}
use Rattle.monk_samples.{specs.Ends.HaveServed, specs.Rounds.HasServed, specs.declared.end.End.TheVariants.Done}
use Rattle.monk_samples.{specs.declared.scenario.Scenario.Scenario, proofs.SeatSums.over}

-- what an event is worth by the operation in it
module _ (worth : Answered → ℕ) where
  abbrev pub of_event : Event → ℕ
  of_event e = sum_by worth (act_of e)

  pub acts_worth : (h : List Event) → sum_by worth (acts_in h) ≡ sum_by of_event h
  acts_worth [] = refl
  acts_worth (e ∷ h) = omega (arith, sum_by-append, sum_by-cons, acts_worth h)

-- what each seat's own events are worth, summed over the passes that came back
module _ (k : Rules) (o : Object) (answers : ℕ → ℕ → Bool → Type 0) (scenario : Scenario) (seats rounds : ℕ)
    (h : House) (c : Setting)
    (z : TableId) (worth : Answered → ℕ) (share : ℕ → ℕ)
    (each : (p q : Token) → HasServed k o answers scenario seats rounds p q Done → p.me.mine ≡ []
    → sum_by worth (acts_in q.me.mine) ≡ share p.me.seat) where
  pub shares : (n i : ℕ) (qs : List Token)
      → HaveServed k o answers scenario seats rounds h (tokens z (opening_records c n i)) qs
      → sum_by (λ q. sum_by worth (acts_in q.me.mine)) qs ≡ over share n i
  shares zero i [] s = refl
  shares zero i (q ∷ qs) s = absurd s
  shares (suc n) i [] s = absurd s
  shares (suc n) i (q ∷ qs) s =
      sum_by-cons (λ q. sum_by worth (acts_in q.me.mine)) q qs
      ∙ (λ j. each _ q s.0.1 refl j + shares n (suc i) qs s.1 j)
