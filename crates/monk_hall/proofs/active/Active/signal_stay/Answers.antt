use Rattle.std.proofs.Common.{◌≡◌, ℕ, ◌+◌, ◌≤◌, false, length, refl, sym, ap, subst, ◌∙◌}
use Rattle.monk_history.proofs.PublicLaws.Meaning.{non_blocking, signal_stays}
use Rattle.monk_history.specs.Meaning.Legal.{IsLegal}
use Rattle.monk_history.specs.declared.event.{Event.TheVariants.Signal, Next.Next, Next.TheVariants.Stay}
use Rattle.monk_kinds.specs.declared.mode.Pick.TheVariants.{Signaller}
use Rattle.monk_floor.specs.{Grown.IsGrown, View.FloorView, View.monitor_of}
use Rattle.monk_hall.proofs.active.Active.signal_stay.Goals as goal
use Rattle.monk_hall.proofs.TokenLaws.{grown_holds, grown_does}
use Rattle.monk_hall.specs.{Calls.HasDone, Records.the, Tokens.Holder, Tokens.holder}

pub invariant_of-self : goal.invariant_of-self
invariant_of-self g c =
    let f = c.deref_mut.result.now in let m = monitor_of g.K.Kind.rules g.T.Guarded.meaning f in
    let n = c.self.inside.numbers.seat in
    let legal = subst (λ (x : FloorView). IsLegal (monitor_of g.K.Kind.rules g.T.Guarded.meaning x) x.history)
    (sym c.deref_mut.ensures.shows) c.self.invariant.goes.legal in
    let stays : c.signal.result ≡ Stay = c.signal.ensures.choice
    ∙ sym (signal_stays m f.history n c.args.cond Stay false Signaller
    (non_blocking g.K.Kind.rules g.K.Kind.is_kind
    (sym (ap (λ r. r.mode) g.K.Kind.are_rules)
    ∙ (g.met.K.NonBlocking g.world.𝓛 g.world.𝓜 g.world.𝓡 ((λ s x. x), (λ x. x), (λ x. x), λ x. x)).mode))
    legal) in
    let grown = subst (λ (x : FloorView). IsGrown g.K.Kind.rules g.T.Guarded.meaning x (Signal n c.args.cond Stay)
    c.signal.new.self) c.deref_mut.ensures.shows
    (subst (λ (x : Next). IsGrown g.K.Kind.rules g.T.Guarded.meaning f (Signal n c.args.cond x)
    c.signal.new.self) stays c.signal.ensures.grown) in
    let room =
    subst (λ (a : Holder). length a.me.mine + 2 ≤ a.me.setting.budget) (sym c.self.view_is) c.requires.left in
    grown_holds c.self.invariant (Signal n c.args.cond Stay) refl refl refl grown.allowed room
    c.signal.new.self grown.grown

pub returns : goal.returns
returns g c =
    let f = c.deref_mut.result.now in let m = monitor_of g.K.Kind.rules g.T.Guarded.meaning f in let n =
    c.self.inside.numbers.seat in let r = the c.self.inside.seat.me.0 in
    let legal = subst (λ (x : FloorView). IsLegal (monitor_of g.K.Kind.rules g.T.Guarded.meaning x) x.history)
    (sym c.deref_mut.ensures.shows) c.self.invariant.goes.legal in
    let stays : c.signal.result ≡ Stay = c.signal.ensures.choice
    ∙ sym (signal_stays m f.history n c.args.cond Stay false Signaller
    (non_blocking g.K.Kind.rules g.K.Kind.is_kind
    (sym (ap (λ r. r.mode) g.K.Kind.are_rules)
    ∙ (g.met.K.NonBlocking g.world.𝓛 g.world.𝓜 g.world.𝓡 ((λ s x. x), (λ x. x), (λ x. x), λ x. x)).mode))
    legal) in
    let grown = subst (λ (x : FloorView). IsGrown g.K.Kind.rules g.T.Guarded.meaning x (Signal n c.args.cond Stay)
    c.signal.new.self) c.deref_mut.ensures.shows
    (subst (λ (x : Next). IsGrown g.K.Kind.rules g.T.Guarded.meaning f (Signal n c.args.cond x)
    c.signal.new.self) stays c.signal.ensures.grown) in
    subst (λ (a : Holder). HasDone g.K.Kind.rules g.T.Guarded.meaning a (Signal a.me.seat c.args.cond Stay)
    (holder c.self.inside.seat.table_id r c.signal.new.self)) c.self.view_is
    (subst (λ (i : ℕ). IsGrown g.K.Kind.rules g.T.Guarded.meaning c.self.inside.floor (Signal i c.args.cond Stay)
    c.signal.new.self
    → HasDone g.K.Kind.rules g.T.Guarded.meaning (holder c.self.inside.seat.table_id r c.self.inside.floor)
    (Signal r.seat c.args.cond Stay) (holder c.self.inside.seat.table_id r c.signal.new.self))
    c.self.invariant.seated.is_seat
    (λ x. grown_does c.self.inside.seat.table_id r c.self.inside.floor c.signal.new.self
    (Signal r.seat c.args.cond Stay) refl
    c.self.invariant.goes.legal x.allowed x.grown) grown)
