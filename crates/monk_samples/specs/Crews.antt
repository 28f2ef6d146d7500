-- The hall of a run, and what its threads promise
use Rattle.std.specs.Prelude.{◌≡◌, ◌*◌, ◌≤◌, All, List, length}
use Rattle.monk_kinds.specs.declared.mode.Rules.{Rules}
use Rattle.monk_object.specs.Object.{Object}
use Rattle.monk_history.specs.{Meaning.Legal.IsLegal, Meaning.Monitor.monitor, declared.event.Event.Event}
use Rattle.monk_hall.specs.{Tokens.House, Tokens.Token, declared.setting.Setting.Setting}
use Rattle.monk_samples.specs.{Samples.IsOfFirstVersion, Styles.Offers}

-- the token is of this hall
abbrev pub IsOf : House → Token → Type 0
IsOf h p = (p.hall ≡ h.id) × (p.me.setting ≡ h.setting)

-- the token is of this hall, and the hall has the conditions of every sample
abbrev pub IsReady : Rules → House → Token → Type 0
IsReady k h p = IsOf h p × Offers k h.setting.conds 3

-- each of these passes is ready to work
abbrev pub AreReady : Rules → House → List Token → Type 0
AreReady k h ps = All (IsReady k h) ps

-- a hall of this setting was closed with this history, in which each event is of the first version
pub record IsClosed (k : Rules) (o : Object) (c : Setting) (history : List Event) : Type 0 where
  pub legal : IsLegal (monitor k c.seats c.conds o c.opening) history
  pub few : length history ≤ c.seats * c.budget
  pub early : IsOfFirstVersion history
