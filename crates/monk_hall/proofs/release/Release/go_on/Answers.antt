use Rattle.std.proofs.Common.{refl, sym, ◌∙◌}
use Rattle.monk_hall.proofs.ReleaseLaws.{stayed, stays_holding, room_inside}
use Rattle.monk_hall.proofs.release.Release.go_on.Goals as goal

pub invariant_of-active : goal.invariant_of-active
invariant_of-active g c =
    let known = c.requires.recorded in
    let x = known.recorded in
    stays_holding (known.call c.args.self.numbers.seat) x.holds x.release (sym c.is_stay.ensures ∙ c.if-is_stay.true)
    (room_inside x.holds x.release)

pub returns-then-is_stay : goal.returns-then-is_stay
returns-then-is_stay g c a call wish known x = record {
  stayed = stayed call x.holds x.release (sym c.is_stay.ensures ∙ c.if-is_stay.true) a x.was;
  none = refl;
}
