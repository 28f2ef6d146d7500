use Rattle.std.proofs.Common.{◌≡◌, ◌∷◌, [], refl, sym, ap, subst, ◌∙◌, rules}
use Rattle.monk_world.specs.Places.{stage}
use Rattle.monk_hall.proofs.steps.Words.never.Goals as goal
use Rattle.monk_hall.proofs.Reached.{IsTwo, deals_next, never_joined, never_both}
use Rattle.monk_hall.specs.{Records.View, Records.IsOne, Records.the, Records.head, Records.tail, Rule.setting_of}

pub split_seat-other-requires : goal.split_seat-other-requires
split_seat-other-requires g c = search (rules, deals_next)

pub join_seat-requires : goal.join_seat-requires
join_seat-requires g c =
    let key = c.args.self.now.table.shared.key in
    let split = c.split_seat-other.ensures in
    let other : c.split_seat-other.result.me.0 ≡ the c.args.b.now.me.0 ∷ [] =
    ap (λ m. m.0) split.4 ∙ ap head c.requires.second.0 in (
      c.requires.tables.0,
      split.3 ∙ c.requires.tables.1,
      ap (λ m. m.1) split.4,
      c.requires.tables.2,
      never_joined g.K.Kind.rules g.T.Guarded.meaning
          (setting_of (g.T.Guarded.state key.opening.value) key.seats key.conds key.budget) g.K.Kind.is_kind _
          c.args.a.now.me.0 _ c.split_seat-other.result.me.0 c.requires.first.0 (subst IsOne (sym other) refl)
          c.requires.first.1 (ap (λ (v : View). stage (the v).place) other ∙ c.requires.second.1),
    )

pub load-requires : goal.load-requires
load-requires g c =
    let key = c.args.self.now.table.shared.key in
    let both = ap (λ m. m.0) c.join_seat.ensures.2 in
    let other : c.split_seat-other.result.me.0 ≡ the c.args.b.now.me.0 ∷ [] =
    ap (λ m. m.0) c.split_seat-other.ensures.4 ∙ ap head c.requires.second.0 in (
      c.join_seat.ensures.0 ∙ c.requires.tables.0,
      c.requires.tables.2,
      never_both g.K.Kind.rules g.T.Guarded.meaning
          (setting_of (g.T.Guarded.state key.opening.value) key.seats key.conds key.budget) g.K.Kind.is_kind _ _
          c.join_seat.new.seat.me (subst IsTwo (sym both) refl)
          (ap (λ (v : View). stage (the v).place) both ∙ c.requires.first.1)
          (ap (λ (v : View). stage (the (tail v)).place) both
          ∙ ap (λ (v : View). stage (the v).place) other ∙ c.requires.second.1),
    )
