use Rattle.std.proofs.Common.{sym, ap, subst, ◌∙◌}
use Rattle.monk_history.specs.Meaning.Counts.{left_of}
use Rattle.monk_floor.specs.View.{FloorView}
use Rattle.monk_world.specs.declared.home.Home.TheVariants as home
use Rattle.monk_world.specs.declared.home.Home.{Home}
use Rattle.monk_hall.proofs.release.Release.go_inside.Goals as goal
use Rattle.monk_hall.{specs.Handing.HasGone, specs.Records.the, proofs.HandingLaws.gone_rests}
use Rattle.monk_hall.{proofs.HandingLaws.home_is, proofs.ReleaseChosen.has_released, proofs.ReleaseLaws.released_of}

pub go_home-granted-requires-clause-released : goal.go_home-granted-requires-clause-released
go_home-granted-requires-clause-released g c κs within = let x = c.requires.recorded.recorded in
    (home.Inner, has_released x.holds x.release c.requires.away)

pub go_home-granted-requires-clause-out : goal.go_home-granted-requires-clause-out
go_home-granted-requires-clause-out g c κs within = c.requires.recorded.recorded.holds.out

pub invariant_of-parked : goal.invariant_of-parked
invariant_of-parked g c =
    let rec = c.requires.recorded.recorded in
    let x = has_released rec.holds rec.release c.requires.away in
    let now = c.go_home-granted.new.seat in
    let gone = subst (λ (to : Home). HasGone (the c.args.self.seat.me.0) c.args.self.floor.history c.args.self.choice to
    (the now.me.0))
    (home_is x) c.go_home-granted.ensures.gone in
    let left = c.left-left.ensures
    ∙ ap (λ (f : FloorView). left_of f.budget f.history c.args.self.numbers.seat) c.deref.ensures in
    let rests = gone_rests x rec.holds.seated left now.table_id now.me c.go_home-granted.ensures.table gone
    c.go_home-granted.ensures.view in
    (rests.0, rests.2, sym rests.1, tt)

pub returns : goal.returns
returns g c a call wish known rec =
    let x = has_released rec.holds rec.release c.requires.away in
    let now = c.go_home-granted.new.seat in
    let gone = subst (λ (to : Home). HasGone (the c.args.self.seat.me.0) c.args.self.floor.history c.args.self.choice to
    (the now.me.0))
    (home_is x) c.go_home-granted.ensures.gone in
    let left = c.left-left.ensures
    ∙ ap (λ (f : FloorView). left_of f.budget f.history c.args.self.numbers.seat) c.deref.ensures in
    let told = (gone_rests x rec.holds.seated left now.table_id now.me c.go_home-granted.ensures.table gone
    c.go_home-granted.ensures.view).0.told in
    released_of call rec.holds rec.release c.requires.away _ c.go_home-granted.ensures.table gone told _ _
    c.go_home-granted.ensures.granted a rec.was
