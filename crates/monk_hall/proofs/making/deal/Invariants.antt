use Rattle.std.proofs.Common.{◌-◌, ◌≡◌, ◌≤◌, []}
use Rattle.monk_hall.proofs.making.deal.Given as goal
use Rattle.monk_hall.specs.{Records.opening_records, Rule.setting_of, Tokens.tokens}

abbrev pub invariant-loop-dealt : goal.invariant-loop-dealt
invariant-loop-dealt g l =
    (l.first.seat.table_id ≡ l.words.table.shared.table_id) × (l.dealt ≤ l.seats)
    × (l.first.seat.me.0 ≡ opening_records
    (setting_of (g.T.Guarded.state l.words.table.shared.key.opening.value) l.seats
    l.words.table.shared.key.conds l.budget)
    (l.seats - l.dealt) l.dealt) × (l.first.seat.me.1 ≡ [])
    × (l.passes.items ≡ tokens l.words.table.shared.table_id
    (opening_records (setting_of (g.T.Guarded.state l.words.table.shared.key.opening.value) l.seats
    l.words.table.shared.key.conds l.budget)
    l.dealt 0))

abbrev pub decreases-loop-dealt : goal.decreases-loop-dealt
decreases-loop-dealt g l = l.seats - l.dealt
