-- What holds for a floor holds for what its box shows
use Rattle.std.proofs.Common.{◌≡◌, sym, subst}
use Rattle.monk_kinds.specs.declared.mode.Rules.{Rules}
use Rattle.monk_object.specs.Object.{Object}
use Rattle.monk_floor.specs.View.{FloorView}
use Rattle.monk_hall.specs.{Records.the, Recorded.IsApart, declared.release.Release.Release}
use Rattle.monk_hall.specs.Tokens.{Holder, IsHolding, holder}

pub shown_apart : {K T : Type 0} {k : Rules} {o : Object} {a : Holder} {r : Release K T} {f : FloorView} → f ≡ r.floor
    → IsApart k o a r → IsApart k o a (record r { floor = f })
shown_apart {k = k} {o = o} {a = a} {r = r} same x = record {
  holds =
      subst (λ (g : FloorView). IsHolding k o r.seat.table_id r.seat.me r.numbers g) (sym same) x.holds;
  was = subst (λ (g : FloorView). holder r.seat.table_id (the r.seat.me.0) g ≡ a) (sym same) x.was;
}
