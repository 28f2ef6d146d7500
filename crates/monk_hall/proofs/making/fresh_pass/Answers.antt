use Rattle.std.proofs.Common.{◌≡◌, ◌∷◌, [], List, refl, sym, ap, subst, ◌∙◌}
use Rattle.atomic_table.specs.Seated.{TableId}
use Rattle.monk_world.specs.declared.place.Place.TheVariants.{Idle}
use Rattle.monk_hall.proofs.making.fresh_pass.Goals as goal
use Rattle.monk_hall.{specs.Records.View, specs.Records.the, specs.Tokens.IsResting, specs.Tokens.top}
use Rattle.monk_hall.{specs.declared.seat_numbers.SeatNumbers.SeatNumbers, proofs.Dealing.fresh_rests}

pub invariant_of-result : goal.invariant_of-result
invariant_of-result g c =
    let setting = (the c.args.seat.me.0).setting in
    let numbers : SeatNumbers =
    record { seat = c.args.number; calls = 0; budget = c.args.budget; gap_byte = 0; gap_pair = 0 } in
    let views = c.into_badge.ensures.2 ∙ ap (λ m. m.0 ∷ []) c.requires.fresh in
    subst (λ (z : TableId). (c.into_badge.result.views ≡ top c.into_badge.result.views ∷ [])
    × IsResting g.K.Kind.rules g.T.Guarded.meaning z (top c.into_badge.result.views, []) numbers c.args.budget
    × ((the (top c.into_badge.result.views)).place ≡ Idle)) (sym c.into_badge.ensures.0)
    (subst (λ (vs : List View). (vs ≡ top vs ∷ []) × IsResting g.K.Kind.rules g.T.Guarded.meaning c.args.seat.table_id
    (top vs, []) numbers c.args.budget × ((the (top vs)).place ≡ Idle)) (sym views) (
      refl,
      fresh_rests g.K.Kind.rules g.T.Guarded.meaning c.args.seat.table_id setting c.args.number c.args.budget
          c.requires.numbers.0 c.requires.table c.requires.numbers.1,
      refl,
    ))
