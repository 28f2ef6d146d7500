-- A closed history that holds what some seats did, and nothing else
use Rattle.std.specs.Prelude.{◌≡◌, ℕ, ◌⊎◌, true, All, List, [], ◌∷◌, ◌++◌, sum_by}
use Rattle.monk_kinds.specs.declared.mode.Rules.{Rules}
use Rattle.monk_object.specs.{Object.Object, Runs.Answered}
use Rattle.monk_history.specs.Meaning.{Acts.acts_in, Counts.events_of}
use Rattle.monk_history.specs.declared.event.{Event.Event, Event.TheVariants.Leave, Next.TheVariants.Entry}
use Rattle.monk_hall.specs.{Closing.IsBusy, Complete.HoldsOnly, Floors.StartsWith, Tokens.Holder, Tokens.Token}
use Rattle.monk_samples.specs.declared.crew_fault.CrewFault.TheVariants as crew
use Rattle.monk_samples.specs.{Samples.IsOfFirstVersion, Styles.IsSpent, Totals.HasEnded, Trails.is_coming}
use Rattle.monk_samples.specs.declared.{crew_fault.CrewFault.CrewFault, sample.Sample.Sample}

-- a pass of the same seat, with the same events
pub record IsSame (p q : Token) : Type 0 where
  pub hall : q.hall ≡ p.hall
  pub seat : q.me.seat ≡ p.me.seat
  pub setting : q.me.setting ≡ p.me.setting
  pub mine : q.me.mine ≡ p.me.mine

-- the passes are of the same seats, with the same events
abbrev pub AreSame : List Token → List Token → Type 0
AreSame [] [] = Unit {0}
AreSame [] (q ∷ qs) = ⊥
AreSame (p ∷ ps) [] = ⊥
AreSame (p ∷ ps) (q ∷ qs) = IsSame p q × AreSame ps qs

-- by any weight of operations, those of the history weigh as much as those that these passes know as their own
abbrev pub HoldsOperationsOf : List Event → List Token → Type 0
HoldsOperationsOf h passes =
    (weight : Answered → ℕ) → sum_by weight (acts_in h) ≡ sum_by (λ p. sum_by weight (acts_in p.me.mine)) passes

-- the history ends with one more visit of this pass's seat, which only leaves. Before that it made what its pass
-- knows
pub record IsClosedBy (h : List Event) (p : Token) : Type 0 where
  pub before : List Event
  pub came : Event
  pub comes : is_coming came ≡ true
  pub ends : h ≡ before ++ came ∷ Leave p.me.seat Entry ∷ []
  pub own : events_of h p.me.seat ≡ p.me.mine ++ came ∷ Leave p.me.seat Entry ∷ []

-- the history holds what this seat and these others did and nothing else, each of its events is of the first version,
-- and each read and write of a book was ended
pub record IsWhole (sample : Sample) (h : List Event) (seat : ℕ) (others : List Token) : Type 0 where
  pub only : HoldsOnly h seat others
  pub early : IsOfFirstVersion h
  pub ended : HasEnded sample h

-- the history of these passes, closed by the seat of the first. It begins with what each seat has seen, and each
-- other seat has made in it exactly what its pass knows
abbrev pub IsLeftBy : List Event → List Token → Type 0
IsLeftBy h [] = ⊥
IsLeftBy h (p ∷ ps) = IsClosedBy h p × All (λ q. events_of h q.me.seat ≡ q.me.mine) ps
    × All (λ q. StartsWith h q.me.seen) (p ∷ ps)

-- the seat of this pass has come in once more, to a history that begins with what it and these others have seen
pub record HasComeBack (p : Token) (ps : List Token) (a : Holder) : Type 0 where
  pub came : Event
  pub comes : is_coming came ≡ true
  pub seat : a.me.seat ≡ p.me.seat
  pub mine : a.me.mine ≡ p.me.mine ++ came ∷ []
  pub seen : All (λ q. StartsWith a.floor.history q.me.seen) (p ∷ ps)

-- the first of these passes can't come in and go out once more
abbrev pub IsFirstSpent : List Token → Type 0
IsFirstSpent [] = ⊥
IsFirstSpent (q ∷ qs) = IsSpent q

module _ (k : Rules) (o : Object) (sample : Sample) where
  -- the seat of this pass has come in once more and could not close the hall, because somebody was in a queue or a
  -- look found somebody at the entry
  pub record IsCrowded (p : Token) (ps : List Token) : Type 0 where
    pub active : Holder
    pub back : HasComeBack p ps active
    pub left : Holder
    pub busy : IsBusy k o active left

  -- the seat of this pass has closed the hall, and the history is not whole
  pub record IsTorn (p : Token) (ps : List Token) : Type 0 where
    pub history : List Event
    pub closed : IsClosedBy history p
    pub seen : All (λ q. StartsWith history q.me.seen) (p ∷ ps)
    pub torn : IsWhole sample history p.me.seat ps → ⊥

  -- why these seats, which have all served to their end, have left no history
  abbrev pub IsUnclosable : List Token → Type 0
  IsUnclosable [] = ⊥
  IsUnclosable (p ∷ ps) = IsCrowded p ps ⊎ IsTorn p ps

  -- why the hall was not closed: no memory, or the first seat came in but could not close it, or it could not come in
  abbrev pub IsFaultOfClosing : List Token → CrewFault → Type 0
  IsFaultOfClosing ps e = (e ≡ crew.Memory) ⊎ ((e ≡ crew.Busy) × (IsFirstSpent ps → ⊥) × IsUnclosable ps)
      ⊎ ((e ≡ crew.Tired) × IsFirstSpent ps)
