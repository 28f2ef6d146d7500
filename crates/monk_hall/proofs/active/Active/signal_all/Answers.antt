use Rattle.std.proofs.Common.{ℕ, ◌+◌, ◌≤◌, length, refl, sym, subst}
use Rattle.monk_history.specs.declared.event.Event.TheVariants.{SignalAll}
use Rattle.monk_floor.specs.{Grown.IsGrown, View.FloorView}
use Rattle.monk_hall.proofs.active.Active.signal_all.Goals as goal
use Rattle.monk_hall.proofs.TokenLaws.{grown_holds, grown_does}
use Rattle.monk_hall.specs.{Calls.HasDone, Records.the, Tokens.Holder, Tokens.holder}

pub invariant_of-self : goal.invariant_of-self
invariant_of-self g c =
    let room =
    subst (λ (a : Holder). length a.me.mine + 2 ≤ a.me.setting.budget) (sym c.self.view_is) c.requires.left in
    let grown = subst (λ (f : FloorView). IsGrown g.K.Kind.rules g.T.Guarded.meaning f
    (SignalAll c.self.inside.numbers.seat c.args.cond) c.signal_all.new.self) c.deref_mut.ensures.shows
    c.signal_all.ensures.grown in
    grown_holds c.self.invariant (SignalAll c.self.inside.numbers.seat c.args.cond) refl refl refl grown.allowed
    room c.signal_all.new.self grown.grown

pub returns-clause-done : goal.returns-clause-done
returns-clause-done g c =
    let r = the c.self.inside.seat.me.0 in let f = c.self.inside.floor in let n = c.self.invariant.seated.is_seat in
    subst (λ (a : Holder). HasDone g.K.Kind.rules g.T.Guarded.meaning a (SignalAll a.me.seat c.args.cond)
    (holder c.self.inside.seat.table_id r c.signal_all.new.self)) c.self.view_is
    (subst (λ (m : ℕ). IsGrown g.K.Kind.rules g.T.Guarded.meaning f (SignalAll m c.args.cond) c.signal_all.new.self
    → HasDone g.K.Kind.rules g.T.Guarded.meaning (holder c.self.inside.seat.table_id r f)
    (SignalAll r.seat c.args.cond) (holder c.self.inside.seat.table_id r c.signal_all.new.self))
    n (λ grown. grown_does c.self.inside.seat.table_id r f c.signal_all.new.self (SignalAll r.seat c.args.cond) refl
    c.self.invariant.goes.legal grown.allowed grown.grown)
    (subst (λ (x : FloorView). IsGrown g.K.Kind.rules g.T.Guarded.meaning x
    (SignalAll c.self.inside.numbers.seat c.args.cond)
    c.signal_all.new.self) c.deref_mut.ensures.shows c.signal_all.ensures.grown))
