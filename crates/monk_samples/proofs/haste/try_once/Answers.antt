use Rattle.std.proofs.Common.{ℕ, refl, subst, arith, ◌≡◌, ◌<◌}
use Rattle.monk_kinds.specs.declared.mode.Pick.TheVariants.{Entry}
use Rattle.monk_history.specs.declared.event.{Event.TheVariants.Leave, Next.TheVariants.Stay}
use Rattle.monk_samples.proofs.haste.try_once.Goals as goal
use Rattle.monk_samples.proofs.{HasteLaws.missed_once, HasteLaws.signalled, TrailLaws.released, VisitLaws.tried_in}
use Rattle.monk_samples.specs.{Trails.outside, Visits.HasActedInHaste, Visits.always, Visits.hastily}

some : (n : ℕ) → (n ≡ 0 → ⊥) → 0 < n
some n nonzero = omega (arith, nonzero)

pub returns-then-reply-eq0-clause-tried : goal.returns-then-reply-eq0-clause-tried
returns-then-reply-eq0-clause-tried g c =
    let k = g.K.Kind.rules in let o = g.T.Guarded.meaning in let p = c.args.pass in let a = c.in-Ok.acted.0 in
    let v = hastily c.args.visit.cond c.args.visit.pred c.args.visit.op (always c.args.visit.next) in
    let s = subst (λ (n : ℕ). HasActedInHaste k o (outside p) c.args.visit.cond c.args.visit.pred c.args.visit.op n a)
    c.if-reply-eq0.true c.in-Ok.ensures.acted in
    missed_once k o p v a c.leave.result s.acted (λ none. (let some = s.done none in absurd (omega arith)))
    (released k o Entry a (Leave a.me.seat Stay) _ _ c.leave.result (λ x. (refl, refl, refl)) c.leave.ensures)
    (signalled k c.in-Ok.acted.1 c.if-reply-eq0.true c.in-Ok.ensures.done)

pub returns-clause-tried : goal.returns-clause-tried
returns-clause-tried g c = tried_in g.K.Kind.rules g.T.Guarded.meaning c.args.pass
    (hastily c.args.visit.cond c.args.visit.pred c.args.visit.op (always c.args.visit.next)) c.in-Ok.acted.1
    c.in-Ok.acted.0
    c.finish_by.result.0 c.finish_by.result.1 c.in-Ok.ensures.acted.acted
    (some c.in-Ok.acted.1 c.if-reply-eq0.false) c.finish_by.ensures
