-- How the workers of a crew end, all together
use Rattle.std.specs.Prelude.{◌≡◌, ℕ, Bool, All, List, [], ◌∷◌, ◌++◌}
use Rattle.monk_kinds.specs.declared.mode.Rules.{Rules}
use Rattle.monk_object.specs.Object.{Object}
use Rattle.monk_hall.specs.Tokens.{House, Token}
use Rattle.monk_samples.specs.declared.crew_fault.CrewFault.TheVariants as crew
use Rattle.monk_samples.specs.{Crews.IsOf, Rounds.HasServed, Rounds.HasServedToEnd}
use Rattle.monk_samples.specs.declared.{crew_fault.CrewFault.CrewFault, scenario.Scenario.Scenario}
use Rattle.monk_samples.specs.declared.end.End.{End, TheVariants.Done, TheVariants.Tired, TheVariants.Late}

module _ (k : Rules) (o : Object) (answers : ℕ → ℕ → Bool → Type 0) (s : Scenario) (seats rounds : ℕ) where
  -- each of these seats has served to its end, and has returned the pass in the second list
  abbrev pub HaveServed : House → List Token → List Token → Type 0
  HaveServed h [] [] = Unit {0}
  HaveServed h [] (q ∷ qs) = ⊥
  HaveServed h (p ∷ ps) [] = ⊥
  HaveServed h (p ∷ ps) (q ∷ qs) = (IsOf h q × HasServed k o answers s seats rounds p q Done) × HaveServed h ps qs

  -- the first of these seats that did not serve to its end has ended with `end`
  pub record HasEndedFirst (ps : List Token) (end : End) : Type 0 where
    pub before : List Token
    pub seat : Token
    pub rest : List Token
    pub are : ps ≡ before ++ seat ∷ rest
    pub served : All (HasServedToEnd k o answers s seats rounds) before
    pub last : Token
    pub ended : HasServed k o answers s seats rounds seat last end

  -- why the crew has not returned its passes
  abbrev pub IsFaultOfCrew : List Token → CrewFault → Type 0
  IsFaultOfCrew ps crew.Memory = Unit {0}
  IsFaultOfCrew ps crew.Thread = Unit {0}
  IsFaultOfCrew ps crew.Tired = HasEndedFirst ps Tired
  IsFaultOfCrew ps crew.Late = HasEndedFirst ps Late
  IsFaultOfCrew ps crew.Busy = ⊥

-- a thread or memory for it could not be had
abbrev pub IsWantOfRoom : CrewFault → Type 0
IsWantOfRoom crew.Memory = Unit {0}
IsWantOfRoom crew.Thread = Unit {0}
IsWantOfRoom crew.Tired = ⊥
IsWantOfRoom crew.Late = ⊥
IsWantOfRoom crew.Busy = ⊥
