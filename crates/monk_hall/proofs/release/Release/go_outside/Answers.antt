use Rattle.std.proofs.Common.{◌≡◌, ◌∷◌, [], List, sym, ap, subst, ◌∙◌, arith}
use Rattle.monk_history.specs.Meaning.Counts.{left_of}
use Rattle.monk_floor.specs.View.{FloorView}
use Rattle.monk_world.specs.declared.home.Home.TheVariants as home
use Rattle.monk_world.specs.declared.{home.Home.Home}
use Rattle.monk_hall.proofs.release.Release.go_outside.Goals as goal
use Rattle.monk_hall.{specs.Granting.granted_last, specs.Handing.HasGone, specs.Records.View, specs.Records.the}
use Rattle.monk_hall.{specs.Tells.SeesTruly, specs.Tokens.IsResting, specs.Tokens.top, proofs.HandingLaws.gone_rests}
use Rattle.monk_hall.{proofs.HandingLaws.home_is, proofs.ReleaseChosen.has_released, proofs.ReleaseLaws.released_of}
use Rattle.std.proofs.lemmas.Grind.{common_steps}

pub go_home-granted-requires-clause-released : goal.go_home-granted-requires-clause-released
go_home-granted-requires-clause-released g c κs within = let x = c.requires.recorded.recorded in
    (home.Idle, has_released x.holds x.release c.requires.away)

pub go_home-granted-requires-clause-out : goal.go_home-granted-requires-clause-out
go_home-granted-requires-clause-out g c κs within = c.requires.recorded.recorded.holds.out

pub invariant_of-pass : goal.invariant_of-pass
invariant_of-pass g c =
    let rec = c.requires.recorded.recorded in
    let x = has_released rec.holds rec.release c.requires.away in
    let now = c.go_home-granted.new.seat in let view = c.into_badge.ensures in
    let gone = subst (λ (to : Home). HasGone (the c.args.self.seat.me.0) c.args.self.floor.history c.args.self.choice to
    (the now.me.0))
    (home_is x) c.go_home-granted.ensures.gone in
    let left = c.left-left.ensures
    ∙ ap (λ (f : FloorView). left_of f.budget f.history c.args.self.numbers.seat) c.deref.ensures in
    let rests = gone_rests x rec.holds.seated left c.into_badge.result.table_id now.me
    (view.0 ∙ c.go_home-granted.ensures.table) gone c.go_home-granted.ensures.view in
    let views : c.into_badge.result.views ≡ (the now.me.0 ∷ []) ∷ [] = grind (arith, common_steps) in
    let has = subst (λ m. IsResting g.K.Kind.rules g.T.Guarded.meaning c.into_badge.result.table_id m
    c.args.self.numbers c.left-left.result) c.go_home-granted.ensures.view rests.0 in
    grind (arith, common_steps)

pub returns : goal.returns
returns g c a call wish known rec =
    let x = has_released rec.holds rec.release c.requires.away in
    let r = the c.args.self.seat.me.0 in
    let now = c.go_home-granted.new.seat in let view = c.into_badge.ensures in
    let gone =
    subst (λ (to : Home). HasGone r c.args.self.floor.history c.args.self.choice to (the now.me.0))
    (home_is x) c.go_home-granted.ensures.gone in
    let left = c.left-left.ensures
    ∙ ap (λ (f : FloorView). left_of f.budget f.history c.args.self.numbers.seat) c.deref.ensures in
    let rests = gone_rests x rec.holds.seated left c.into_badge.result.table_id now.me
    (view.0 ∙ c.go_home-granted.ensures.table) gone c.go_home-granted.ensures.view in
    let told =
    subst (λ (vs : List View). SeesTruly g.K.Kind.rules g.T.Guarded.meaning (the (top vs)))
    (sym view.2) rests.0.told in
    let at_home =
    subst (λ (vs : List View). HasGone r c.args.self.floor.history c.args.self.choice home.Idle (the (top vs)))
    (sym view.2) gone in
    let granted = subst
    (λ (vs : List View). c.go_home-granted.result
    ≡ granted_last c.args.hall.now.id c.args.hall.now.setting.seats (the (top vs)).did)
    (sym view.2) c.go_home-granted.ensures.granted in
    released_of call rec.holds rec.release c.requires.away _
    (view.0 ∙ c.go_home-granted.ensures.table) at_home told _ _ granted a rec.was
