use Rattle.std.proofs.Common.{arith, ◌≡◌, List, ◌∷◌, [], refl, sym, ap, subst, ◌∙◌}
use Rattle.std.proofs.lemmas.Grind.{common_steps}
use Rattle.monk_hall.proofs.meeting.meet.Goals as goal
use Rattle.monk_hall.proofs.{MeetLaws.has_learned, Reached.IsTwo, Reached.meets, Reached.compares, Reached.parts_again}
use Rattle.monk_hall.specs.{Changes.view_after_join, Changes.view_after_compare, Rule.setting_of, Tokens.top}
use Rattle.monk_hall.specs.Records.{View, IsOne, the, head, tail}

pub join-requires-after_bounds : goal.join-requires-after_bounds
join-requires-after_bounds g c κs within =
    let sized = c.hall.invariant.0.0 in
    let ia = c.a.invariant in
    let ib = c.b.invariant in
    let va = ap (λ m. m.0) c.lift-first.ensures.1 in
    let vb = ap (λ m. m.0) c.lift-other.ensures.1 in
    let at_hall = sym (ap (λ h. h.id) c.hall.view_is) in
    let key = c.hall.inside.words.table.shared.key in (
      c.lift-first.ensures.0 ∙ ap (λ t. t.hall) c.a.view_is ∙ c.requires.0 ∙ at_hall,
      c.lift-other.ensures.0 ∙ ap (λ t. t.hall) c.b.view_is ∙ c.requires.1 ∙ at_hall,
      ap (λ m. m.1) c.lift-other.ensures.1,
      omega arith,
      meets g.K.Kind.rules g.T.Guarded.meaning
          (setting_of (g.T.Guarded.state key.opening.value) key.seats key.conds key.budget) _ c.lift-first.result.me.0 _
          c.lift-other.result.me.0
          (subst IsOne (sym va) ia.1.one) (subst IsOne (sym vb) ib.1.one) (ap (λ (v : View). (the v).place) va ∙ ia.2),
    )

pub compare-requires-after_bounds : goal.compare-requires-after_bounds
compare-requires-after_bounds g c κs within =
    let sized = c.hall.invariant.0.0 in
    let ia = c.a.invariant in
    let ib = c.b.invariant in
    let va = ap (λ m. m.0) c.lift-first.ensures.1 in
    let vb = ap (λ m. m.0) c.lift-other.ensures.1 in
    let at_hall = sym (ap (λ h. h.id) c.hall.view_is) in
    let key = c.hall.inside.words.table.shared.key in
    let both = ap (λ m. m.0) c.join.ensures.2 in (
      c.join.ensures.0 ∙ c.lift-first.ensures.0 ∙ ap (λ t. t.hall) c.a.view_is ∙ c.requires.0 ∙ at_hall,
      omega arith,
      compares g.K.Kind.rules g.T.Guarded.meaning
          (setting_of (g.T.Guarded.state key.opening.value) key.seats key.conds key.budget) g.K.Kind.is_kind _ _
          c.join.new.seat.me
          (subst IsTwo (sym both) refl)
          (ap (λ (v : View). (the v).place) both ∙ ap (λ (v : View). (the v).place) va ∙ ia.2)
          (ap (λ (v : View). (the (tail v)).place) both ∙ ap (λ (v : View). (the v).place) vb ∙ ib.2),
    )

pub part-second-requires-after_bounds : goal.part-second-requires-after_bounds
part-second-requires-after_bounds g c κs within =
    let sized = c.hall.invariant.0.0 in
    let at_hall = sym (ap (λ h. h.id) c.hall.view_is) in
    let key = c.hall.inside.words.table.shared.key in (
      c.compare.ensures.0 ∙ c.join.ensures.0 ∙ c.lift-first.ensures.0 ∙ ap (λ t. t.hall) c.a.view_is
          ∙ c.requires.0 ∙ at_hall,
      omega arith,
      parts_again g.K.Kind.rules g.T.Guarded.meaning
          (setting_of (g.T.Guarded.state key.opening.value) key.seats key.conds key.budget) _ c.compare.new.seat.me.0
          c.join.new.seat.me.0 (ap (λ m. m.0) c.compare.ensures.2.0),
    )

pub invariant_of-a : goal.invariant_of-a
invariant_of-a g c = grind (arith, common_steps)

pub invariant_of-b : goal.invariant_of-b
invariant_of-b g c = grind (arith, common_steps)

pub returns-clause-first_learns : goal.returns-clause-first_learns
returns-clause-first_learns g c =
    let m : View = c.join.new.seat.me.0 in
    let both : m ≡ view_after_join c.lift-first.result.me.0 c.lift-other.result.me.0 = grind (arith, common_steps) in
    let loaded : c.compare.new.seat.me.0 ≡ view_after_compare m = ap (λ m. m.0) c.compare.ensures.2.0 in
    has_learned (the m).seen (the (tail m)).seen _ _ _ c.compare.ensures.2.1
    (ap (λ (v : View). (the v).seen) both ∙ ap (λ m. (the m.0).seen) c.lift-first.ensures.1
    ∙ ap (λ t. t.me.seen) c.a.view_is)
    (ap (λ (v : View). (the (tail v)).seen) both ∙ ap (λ m. (the m.0).seen) c.lift-other.ensures.1
    ∙ ap (λ t. t.me.seen) c.b.view_is)
    (ap (λ (vs : List View). (the (top vs)).seen)
    (c.into_badge.ensures.2 ∙ ap (λ (v : View). v ∷ []) (ap (λ m. m.0) c.part-second.ensures.2 ∙ ap head loaded)))

pub returns-clause-second_learns : goal.returns-clause-second_learns
returns-clause-second_learns g c =
    let m : View = c.join.new.seat.me.0 in
    let both : m ≡ view_after_join c.lift-first.result.me.0 c.lift-other.result.me.0 = grind (arith, common_steps) in
    let loaded : c.compare.new.seat.me.0 ≡ view_after_compare m = ap (λ m. m.0) c.compare.ensures.2.0 in
    has_learned (the m).seen (the (tail m)).seen _ _ _ c.compare.ensures.2.1
    (ap (λ (v : View). (the v).seen) both ∙ ap (λ m. (the m.0).seen) c.lift-first.ensures.1
    ∙ ap (λ t. t.me.seen) c.a.view_is)
    (ap (λ (v : View). (the (tail v)).seen) both ∙ ap (λ m. (the m.0).seen) c.lift-other.ensures.1
    ∙ ap (λ t. t.me.seen) c.b.view_is)
    (ap (λ (vs : List View). (the (top vs)).seen)
    (c.into_badge-2.ensures.2
    ∙ ap (λ (v : View). v ∷ []) (ap (λ m. m.0) c.part-second.ensures.4 ∙ ap tail loaded)))

pub returns-clause-told : goal.returns-clause-told
returns-clause-told g c = ((invariant_of-a g c).1.told, (invariant_of-b g c).1.told)
