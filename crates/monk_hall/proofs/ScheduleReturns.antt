-- The floor that an active seat takes home is one with which it went on, by calls that its kind allows
use Rattle.std.proofs.Common.{◌≡◌, ℕ, List, [], ◌∷◌, ◌++◌, sym, ap, subst, ◌∙◌, arith}
use Rattle.std.proofs.{Common.append-nil, Common.append_assoc, lemmas.Bool.Decides.nat_tests}
use mathlib.Core.Option as maybe
use lib.ListN.{get_elem?}
use Rattle.monk_kinds.specs.{Kind.IsKind, declared.mode.Rules.Rules}
use Rattle.monk_object.specs.Object.{Object}
use Rattle.monk_history.proofs.PublicLaws.Meaning.{turn-push}
use Rattle.monk_history.specs.{Meaning.Legal.IsLegal, Meaning.Turn.turn, declared.event.Event.Event}
use Rattle.monk_floor.specs.View.{FloorView, monitor_of}
use Rattle.monk_world.specs.{State.with_event, Places.stage, Places.active_stage}
use Rattle.monk_world.specs.declared.{place.Place.TheVariants.Active, source.Source.Source}
use Rattle.monk_hall.proofs.Standing as standing
use Rattle.monk_hall.proofs.Stepping as stepping
use Rattle.monk_hall.proofs.{Private.own_event, EntrySteps.out_seat, EntrySteps.out_owns, TokenLaws.grown_goes}
use Rattle.monk_hall.specs.{Changes.source_from, Floors.GoesOn, Laws.HallState, Layout.floor_of, Rule.IsHall}
use Rattle.monk_hall.specs.{Tells.Returns, Schedules.ArePlayed, Schedules.IsReleasedBy, Schedules.came_in}
use Rattle.monk_hall.specs.declared.{record.SeatRecord.SeatRecord, setting.Setting.Setting}

-- a floor goes on with each event of its own that is allowed
played_goes : (k : Rules) (o : Object) (r : SeatRecord) (f : FloorView) (es : List Event) → GoesOn k o r f
    → ArePlayed k o r.seat f es → GoesOn k o r (record f { history = f.history ++ es })
played_goes k o r f [] x played =
    subst (GoesOn k o r) (ap (λ (g : List Event). record f { history = g }) (sym (append-nil f.history))) x
played_goes k o r f (e ∷ es) x played =
    let budget = ap (λ (g : FloorView). g.budget) x.is_floor in
    let room = played.2 in
    subst (λ (g : List Event). GoesOn k o r (record f { history = g })) (append_assoc f.history (e ∷ []) es)
    (played_goes k o r (with_event f e) es
    (grown_goes r f e x played.0.seat played.0.keeps played.0.enters played.1 (omega arith)) played.3)

module _ (k : Rules) (o : Object) (c : Setting) (kind : IsKind k) (s : HallState) (h : IsHall k o c s) (id : ℕ)
    (r : SeatRecord) (here : get_elem? s.views id ≡ maybe.some (r ∷ [])) (active : stage r.place ≡ active_stage) where
  abbrev q : Source
  q = source_from r.place

  abbrev came : Event
  came = came_in r

  setting : r.setting ≡ c
  setting = stepping.setting k o c kind s h id r here

  is : h.0 r.seat ≡ r
  is = stepping.is k o c kind s h id r here

  at_active : (h.0 r.seat).place ≡ Active q
  at_active = stepping.stands_at k o c kind s h id r here (Active q) (standing.active_at r.place active)

  seen : r.seen ≡ h.2.past
  seen = sym (ap (λ (y : SeatRecord). y.seen) is) ∙ (h.2.told.lent r.seat q at_active).0

  history : h.2.history ≡ r.seen ++ came ∷ []
  history = grind (arith, nat_tests, at_active, seen)

  -- the floor as it came out, with the event by which the seat came in
  comes : GoesOn k o r (floor_of c (r.seen ++ came ∷ []))
  comes = record {
    is_floor = ap (λ (y : Setting). floor_of y (r.seen ++ came ∷ [])) (sym setting);
    near = stepping.near k o c kind s h id r here;
    legal = subst (λ (g : List Event). IsLegal (monitor_of k o (floor_of c g)) g) history
        h.2.kept.sound.is_sound.legal;
    since = [];
    goes = sym (append-nil (r.seen ++ came ∷ []));
    own = tt;
    owned = turn-push r.seen came ∙ out_owns r.seat q (turn r.seen);
    mine = grind (arith, nat_tests, own_event, out_seat, is);
    within = grind (arith, nat_tests, history, setting);
  }

  pub returns : (since : List Event) (e : Event) (es : List Event)
      → ArePlayed k o r.seat (floor_of c (r.seen ++ came ∷ [])) since
      → IsReleasedBy k o r (floor_of c ((r.seen ++ came ∷ []) ++ since)) e → es ≡ came ∷ (since ++ e ∷ [])
      → Returns k o r (floor_of c (r.seen ++ es))
  returns since e es played rel es_is = record {
    before = floor_of c ((r.seen ++ came ∷ []) ++ since);
    goes_on = played_goes k o r (floor_of c (r.seen ++ came ∷ [])) since comes played;
    call = rel.call;
    wish = rel.wish;
    to = rel.to;
    choice = rel.choice;
    release = rel.release;
    may = rel.may;
    chosen = rel.chosen;
    away = rel.away;
    left = rel.left;
    grows = grind (arith, nat_tests, append_assoc);
  }
