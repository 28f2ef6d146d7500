-- What a client of a hall proves in the tests
use Rattle.std.specs.Prelude.{◌≡◌, ◌≢◌, ℕ, List, ◌∷◌, ◌++◌, []}
use Rattle.monk_kinds.specs.declared.mode.Rules.{Rules}
use Rattle.monk_object.specs.Object.{Object}
use Rattle.monk_object.specs.declared.op.Op.{Op}
use Rattle.monk_history.specs.Meaning.Counts.{events_of}
use Rattle.monk_history.specs.declared.event.Event.{Event}
use Rattle.monk_history.specs.declared.event.Event.TheVariants.{Enter, Act, Leave}
use Rattle.monk_history.specs.declared.event.Next.TheVariants.{Entry}
use Rattle.monk_history.specs.declared.event.Via.{Via}
use Rattle.monk_world.specs.Places.{stage, active_stage}
use Rattle.monk_hall.specs.Laws.{HallState, IsRecord}
use Rattle.monk_hall.specs.Rule.{IsHall}
use Rattle.monk_hall.specs.Tokens.{Token}
use Rattle.monk_hall.specs.declared.record.SeatRecord.{SeatRecord}
use Rattle.monk_hall.specs.declared.setting.Setting.{Setting}

-- the seat has added an enter, this operation and a leave to what it had done, and nothing else
pub record IsOneVisit (p : Token) (op : Op) (history : List Event) : Type 0 where
  pub via : Via
  pub reply : ℕ
  pub own : events_of history p.me.seat
      ≡ p.me.mine ++ Enter p.me.seat via ∷ Act p.me.seat op reply ∷ Leave p.me.seat Entry ∷ []

-- no two seats are active
abbrev pub NoTwoAreActive : Type 0
NoTwoAreActive =
    (k : Rules) (o : Object) (c : Setting) (s : HallState) → IsHall k o c s → (r q : SeatRecord) → IsRecord s r
    → IsRecord s q → stage r.place ≡ active_stage → stage q.place ≡ active_stage → r.seat ≢ q.seat → ⊥
