-- Two idle seats' views are joined, and both records learn the longer history
use Rattle.std.proofs.Common.{◌≡◌, ◌≢◌, ℕ, ◌+◌, ◌<◌, ◌⊎◌, Bool, true, false, cond, nat_le, List, arith}
use Rattle.std.proofs.Common.{[], ◌∷◌, ◌++◌, length, set, sym, refl, ap, ◌∙◌, subst, inl, inr, ⊎_elim}
use Rattle.std.proofs.{Math.Option.some-injective, lemmas.Bool.Decides.eqb_tells, lemmas.Bool.Decides.nat_tests}
use mathlib.Core.Option as maybe
use lib.ListN.{get_elem?}
use Rattle.atomic_table.proofs.Lists.{at_set, set_here, set_else}
use Rattle.monk_kinds.specs.declared.mode.Rules.{Rules}
use Rattle.monk_object.specs.Object.{Object}
use Rattle.monk_history.proofs.PublicLaws.Meaning.{legal_front}
use Rattle.monk_history.specs.{Meaning.Counts.events_of, Meaning.Legal.IsLegal, declared.event.Event.Event}
use Rattle.monk_world.proofs.PublicLaws.{at_update, update_here, update_else}
use Rattle.monk_world.specs.{Places.stage, Update.update, declared.place.Place.TheVariants.Idle}
use Rattle.monk_floor.specs.View.{monitor_of}
use Rattle.monk_hall.proofs.IdleLearns.{parts, events_between, longer_both, IsLonger, learns, two_of, same_seat, in_a}
use Rattle.monk_hall.proofs.IdleLearns.{in_b, still_b, shown_two}
use Rattle.monk_hall.proofs.Dealing.{shown_moved, IsStill}
use Rattle.monk_hall.proofs.Seats.{is_at, is_desk, is_near, is_setting, long, only}
use Rattle.monk_hall.specs.{Floors.StartsWith, Laws.HallState, Layout.floor_of, Records.View, Records.In, Records.IsOne}
use Rattle.monk_hall.specs.{Records.the, Rule.AreShown, Rule.IsHall, Tells.AreOne, Tells.SeesTruly}
use Rattle.monk_hall.specs.declared.{deed.Deed.TheVariants.Meet, record.SeatRecord.SeatRecord, setting.Setting.Setting}
use Rattle.monk_hall.specs.Changes.{longer, view_after_join}

-- two idle records are in one view
module _ (k : Rules) (o : Object) (c : Setting) (s : HallState) (h : IsHall k o c s) (id : ℕ) (a b : SeatRecord)
    (here : get_elem? s.views id ≡ maybe.some (a ∷ b ∷ [])) where
  abbrev past : List Event
  past = h.2.past

  abbrev both : List Event
  both = longer a.seen b.seen

  abbrev a2 : SeatRecord
  a2 = record a { seen = both }

  abbrev b2 : SeatRecord
  b2 = record b { seen = both; did = b.did ++ Meet ∷ [] }

  pub is_first : h.0 a.seat ≡ a
  is_first = (in_a c s.views h.0 h.1 id a b a2 b2 here refl refl refl refl).0

  pub is_second : h.0 b.seat ≡ b
  is_second = (in_b c s.views h.0 h.1 id a b a2 b2 here refl refl refl refl).0

  still_second : update h.0 a.seat a2 b.seat ≡ b
  still_second = still_b c s.views h.0 h.1 id a b a2 b2 here refl refl refl refl

  begins_a : StartsWith past a.seen
  begins_a = subst (λ (x : SeatRecord). StartsWith past x.seen) is_first (h.2.told.starts a.seat)

  begins_b : StartsWith past b.seen
  begins_b = subst (λ (x : SeatRecord). StartsWith past x.seen) is_second (h.2.told.starts b.seat)

  pub one_past : AreOne a.seen b.seen
  one_past = parts past a.seen b.seen begins_a.0 begins_b.0 begins_a.1 begins_b.1

  part : StartsWith past both
  part = longer_part (nat_le (length a.seen) (length b.seen))
    where
      longer_part : (x : Bool) → StartsWith past (cond x b.seen a.seen)
      longer_part true = begins_b
      longer_part false = begins_a

  pub all_a : events_of both a.seat ≡ a.mine
  all_a =
      let mine : events_of past a.seat ≡ a.mine = h.2.told.mine a.seat ∙ ap (λ (x : SeatRecord). x.mine) is_first in
      let own : events_of a.seen a.seat ≡ a.mine = grind (arith, nat_tests, is_first) in
      events_between past both a.seen a.seat part (longer_both a.seen b.seen one_past).first (mine ∙ sym own) ∙ own

  pub all_b : events_of both b.seat ≡ b.mine
  all_b =
      let mine : events_of past b.seat ≡ b.mine = h.2.told.mine b.seat ∙ ap (λ (x : SeatRecord). x.mine) is_second in
      let own : events_of b.seen b.seat ≡ b.mine = grind (arith, nat_tests, is_second) in
      events_between past both b.seen b.seat part (longer_both a.seen b.seen one_past).second (mine ∙ sym own) ∙ own

  pub sees : (r : SeatRecord) → r.setting ≡ c → events_of both r.seat ≡ r.mine
      → SeesTruly k o (record r { seen = both })
  sees r is own = record {
    legal = subst (λ (y : Setting). IsLegal (monitor_of k o (floor_of y both)) both) (sym is)
        (legal_front (monitor_of k o (floor_of c both)) both part.0
        (subst (IsLegal (monitor_of k o (floor_of c past))) part.1 h.2.told.legal));
    own = own;
  }

  pub compares_at : a.place ≡ Idle → b.place ≡ Idle
      → IsStill k o c s h (record s { views = set s.views id (a2 ∷ b2 ∷ []) })
  unfolding learns
  compares_at idle_a idle_b =
      let first = learns k o c s.words s.homes h.0 h.2 a.seat a2 (ap (λ (x : SeatRecord). x.place) (sym is_first))
      (ap (λ (x : SeatRecord). x.count) (sym is_first)) (ap (λ (x : SeatRecord). x.known) (sym is_first))
      (ap (λ (x : SeatRecord). x.mine) (sym is_first))
      (ap (λ (x : SeatRecord). stage x.place) is_first ∙ ap stage idle_a) part all_a in
      let both_kept = learns k o c s.words s.homes (update h.0 a.seat a2) first b.seat b2
      (ap (λ (x : SeatRecord). x.place) (sym still_second)) (ap (λ (x : SeatRecord). x.count) (sym still_second))
      (ap (λ (x : SeatRecord). x.known) (sym still_second)) (ap (λ (x : SeatRecord). x.mine) (sym still_second))
      (ap (λ (x : SeatRecord). stage x.place) still_second ∙ ap stage idle_b) part all_b in record {
        hall = (
          update (update h.0 a.seat a2) b.seat b2,
          shown_two c s.views h.0 h.1 id a b a2 b2 here refl refl refl
              refl,
          both_kept,
        );
        past = refl;
      }

-- two views become one
pub meets_at : (k : Rules) (o : Object) (c : Setting) (id : ℕ) (v : View) (other : ℕ) (w : View) → IsOne v → IsOne w
    → (the v).place ≡ Idle → (s : HallState) (h : IsHall k o c s) → get_elem? s.views id ≡ maybe.some v
    → other ≢ id → get_elem? (set s.views id (view_after_join v w)) other ≡ maybe.some w
    → IsStill k o c s h (record s { views = set (set s.views id (view_after_join v w)) other [] })
unfolding learns
meets_at k o c id v other w one_v one_w idle s h view ne_id view_w =
    let at = h.0 in
    let sh = h.1 in
    let kh = h.2 in
    let a : SeatRecord = the v in
    let b : SeatRecord = the w in
    let a2 : SeatRecord = record a { did = a.did ++ Meet ∷ [] } in
    let here : get_elem? s.views id ≡ maybe.some (a ∷ []) = view ∙ ap maybe.some one_v in
    let there : get_elem? s.views other ≡ maybe.some (b ∷ []) = grind (arith, nat_tests, set_else) in
    let is_a = is_at c s.views at sh id a here in
    let is_b = is_at c s.views at sh other b there in
    let desk_a = is_desk c s.views at sh id a here in
    let desk_b = is_desk c s.views at sh other b there in
    let near_a = is_near c s.views at sh id a here in
    let near_b = is_near c s.views at sh other b there in
    let ne : b.seat ≢ a.seat = λ e. ne_id (sym desk_b ∙ ap sh.desk e ∙ desk_a) in
    let at_one : ℕ → SeatRecord = update at a.seat a2 in
    let still : at_one b.seat ≡ b = update_else at a.seat a2 b.seat ne ∙ is_b in
    let desk_two : ℕ → ℕ = update sh.desk b.seat id in
    let desk_first : desk_two a.seat ≡ id = update_else sh.desk b.seat id a.seat (λ e. ne (sym e)) ∙ desk_a in
    let views_two : List View = set (set s.views id (view_after_join v w)) other [] in
    let at_id : get_elem? views_two id ≡ maybe.some (view_after_join v w) =
    grind (arith, nat_tests, set_else, set_here, long) in
    let kept = learns k o c s.words s.homes at kh a.seat a2 (ap (λ (x : SeatRecord). x.place) (sym is_a))
    (ap (λ (x : SeatRecord). x.count) (sym is_a)) (ap (λ (x : SeatRecord). x.known) (sym is_a))
    (ap (λ (x : SeatRecord). x.mine) (sym is_a))
    (ap (λ (x : SeatRecord). stage x.place) is_a ∙ ap stage idle)
    (subst (λ (x : SeatRecord). StartsWith kh.past x.seen) is_a (kh.told.starts a.seat))
    (ap (λ (x : SeatRecord). events_of x.seen a.seat) (sym is_a) ∙ kh.told.own a.seat
    ∙ ap (λ (x : SeatRecord). x.mine) is_a) in record {
      hall = (
        at_one,
        record {
          desk = desk_two;
          each = λ j u e x in_u. ⊎_elim
              (λ t. absurd (subst (In x) (sym t.1) in_u))
              (λ t. ⊎_elim
              (λ z. two_of a2 b x (subst (In x) (sym z.1) in_u)
              (λ r. (at_one r.seat ≡ r) × (desk_two r.seat ≡ j) × (r.seat < c.seats))
              (update_here at a.seat a2, desk_first ∙ sym z.0, near_a)
              (still, update_here sh.desk b.seat id ∙ sym z.0, near_b))
              (λ z.
              let old = sh.each j u z.1 x in_u in
              let na : x.seat ≢ a.seat = λ q. z.0 (sym old.1 ∙ ap sh.desk q ∙ desk_a) in
              let nb : x.seat ≢ b.seat = λ q. t.0 (sym old.1 ∙ ap sh.desk q ∙ desk_b) in
              (update_else at a.seat a2 x.seat na ∙ old.0, update_else sh.desk b.seat id x.seat nb ∙ old.1, old.2))
              (at_set s.views id j (view_after_join v w) u t.1))
              (at_set (set s.views id (view_after_join v w)) other j [] u e);
          apart = grind (arith, nat_tests, same_seat, at_set);
          there = λ j near. elim (eqb_tells j a.seat) [
            | inl h ↦ (
              view_after_join v w,
              ap (λ (n : ℕ). get_elem? views_two n) (ap desk_two h.1 ∙ desk_first)
                  ∙ at_id,
              inl (ap at_one h.1 ∙ update_here at a.seat a2),
            )
            | inr na ↦ elim (eqb_tells j b.seat) [
              | inl h ↦ (
                view_after_join v w,
                ap (λ (n : ℕ). get_elem? views_two n) (ap desk_two h.1 ∙ update_here sh.desk b.seat id)
                    ∙ at_id,
                inr (inl (ap at_one h.1 ∙ still)),
              )
              | inr nb ↦
                  let old = sh.there j near in
                  let desk_is : desk_two j ≡ sh.desk j = update_else sh.desk b.seat id j nb.1 in
                  let off_id : sh.desk j ≢ id = λ d. na.1 (alone s.views at sh j old.0 id a old.1 d here old.2) in
                  let off_other : sh.desk j ≢ other =
                  λ d. nb.1 (alone s.views at sh j old.0 other b old.1 d there old.2) in (
                    old.0,
                    ap (λ (n : ℕ). get_elem? views_two n) desk_is
                        ∙ set_else (set s.views id (view_after_join v w)) other (sh.desk j) [] off_other
                        ∙ set_else s.views id (sh.desk j) (view_after_join v w) off_id ∙ old.1,
                    subst (λ (x : SeatRecord). In x old.0) (sym (update_else at a.seat a2 j na.1)) old.2,
                  )
            ]
          ];
          settings =
              at_update at a.seat a2 (λ j x. x.setting ≡ c) (is_setting c s.views at sh id a here)
              (λ j _. sh.settings j);
          seats = at_update at a.seat a2 (λ j x. x.seat ≡ j) refl (λ j _. sh.seats j);
        },
        kept,
      );
      past = refl;
    }
  where
    alone : (views : List View) (at : ℕ → SeatRecord) (sh : AreShown c views at) (j : ℕ) (u : View) (d : ℕ)
        (x : SeatRecord) → get_elem? views (sh.desk j) ≡ maybe.some u → sh.desk j ≡ d
        → get_elem? views d ≡ maybe.some (x ∷ []) → In (at j) u → j ≡ x.seat
    alone views at sh j u d x e is_d there i =
        let is_u : u ≡ x ∷ [] = some-injective u (x ∷ []) (sym e ∙ ap (λ (n : ℕ). get_elem? views n) is_d ∙ there) in
        sym (sh.seats j) ∙ ap (λ (y : SeatRecord). y.seat) (only (at j) x (subst (λ (z : View). In (at j) z) is_u i))

-- the second of two records goes to a seat that has it alone
pub parts_at : (k : Rules) (o : Object) (c : Setting) (id : ℕ) (a b : SeatRecord) (s : HallState) (h : IsHall k o c s)
    → get_elem? s.views id ≡ maybe.some (a ∷ b ∷ [])
    → IsStill k o c s h (record s { views = set s.views id (a ∷ []) ++ (b ∷ []) ∷ [] })
parts_at k o c id a b s h view =
    let distinct = h.1.apart id (a ∷ b ∷ []) view in record {
      hall = (
        h.0,
        shown_moved c s.views h.0 h.1 id (a ∷ b ∷ []) (a ∷ []) b view (inr (inl refl)) first_stays either
            (λ z i e. distinct.0 b (inl refl) (sym e ∙ same_seat a z i)) ((λ y none. absurd none), tt),
        h.2,
      );
      past = refl;
    }
  where
    first_stays : (z : SeatRecord) → In z (a ∷ []) → In z (a ∷ b ∷ [])
    first_stays z (inl e) = inl e
    first_stays z (inr none) = absurd none

    either : (z : SeatRecord) → In z (a ∷ b ∷ []) → (z ≡ b) ⊎ In z (a ∷ [])
    either z (inl e) = inr (inl e)
    either z (inr (inl e)) = inl e
    either z (inr (inr none)) = absurd none

-- a seat that has seen the longer of two has seen what begins with both
pub has_learned : (a b x y g : List Event) → AreOne a b → a ≡ x → b ≡ y → g ≡ longer a b
    → StartsWith g x × StartsWith g y
has_learned a b x y g one is_x is_y is_longer =
    let long : IsLonger a b g = subst (IsLonger a b) (sym is_longer) (longer_both a b one) in
    (subst (StartsWith g) is_x long.first, subst (StartsWith g) is_y long.second)
