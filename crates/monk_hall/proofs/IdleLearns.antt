-- The longer of two histories begins with both, and idle seats' records may learn it
use Rattle.std.proofs.Common.{◌≡◌, ◌≢◌, ℕ, ◌+◌, ◌<◌, ◌≤◌, ◌⊎◌, ◌==◌, Bool, true, false, cond, nat_le, List}
use Rattle.std.proofs.Common.{[], ◌∷◌, ◌++◌, length, set, sym, refl, ap, ◌∙◌, subst, inl, inr, ⊎_elim, arith}
use Rattle.std.proofs.{Math.Option.some-injective, lemmas.Bool.Decides.eqb_tells, lemmas.Bool.Decides.nat_tests}
use Rattle.std.proofs.{lemmas.List.nil_from_length, lemmas.List.Elements.filter-append}
use Rattle.std.proofs.Common.{append-nil, length-append}
use mathlib.Core.Option as maybe
use mathlib.Core.Path.{Path}
use lib.ListN.{get_elem?}
use Rattle.atomic_table.proofs.Lists.{at_set, set_here, set_else}
use Rattle.monk_kinds.specs.declared.mode.Rules.{Rules}
use Rattle.monk_object.specs.Object.{Object}
use Rattle.monk_history.specs.Meaning.{Counts.events_of, Events.seat_of, Turn.turn}
use Rattle.monk_history.specs.declared.event.Event.{Event}
use Rattle.monk_world.proofs.PublicLaws.{at_update, update_here, update_else, all_back}
use Rattle.monk_world.specs.{Kept.IsKept, Update.update, State.State, StepTable.out_event}
use Rattle.monk_world.specs.declared.{place.Place.Place, place.Place.TheVariants.Active, source.Source.Source}
use Rattle.monk_world.specs.Places.{stage, outside_stage, active_stage, back_stage}
use Rattle.monk_hall.proofs.{Seats.long, Stored.field_stays}
use Rattle.monk_hall.specs.{Changes.longer, Floors.StartsWith, Records.View, Records.In, Tells.AreOne, Rule.AreShown}
use Rattle.monk_hall.specs.{Rule.CountsCalls, Rule.Homes, Rule.IsKeptHall, Layout.floor_of, Layout.shown_state}
use Rattle.monk_hall.specs.{Layout.shown_world, declared.record.SeatRecord.SeatRecord, declared.setting.Setting.Setting}

hd : Event → List Event → Event
hd d [] = d
hd d (x ∷ xs) = x

tl : List Event → List Event
tl [] = []
tl (x ∷ xs) = xs

same_head : (x y : Event) (xs ys : List Event) → x ∷ xs ≡ y ∷ ys → x ≡ y
unfolding hd
same_head x y xs ys e = ap (hd x) e

same_tail : (x y : Event) (xs ys : List Event) → x ∷ xs ≡ y ∷ ys → xs ≡ ys
unfolding tl
same_tail x y xs ys e = ap tl e

-- one of two beginnings of a history begins the other
pub parts : (past a b x y : List Event) → past ≡ a ++ x → past ≡ b ++ y → AreOne a b
parts past [] b x y p q = inr (b, refl)
parts past (e ∷ a) [] x y p q = inl (e ∷ a, refl)
parts [] (e ∷ a) (f ∷ b) x y p q = absurd (let z : 0 ≡ length ((e ∷ a) ++ x) = ap length p in omega arith)
parts (g ∷ past) (e ∷ a) (f ∷ b) x y p q =
    let same = same_head g e past (a ++ x) p in
    let other = same_head g f past (b ++ y) q in
    more (sym same ∙ other) (parts past a b x y (same_tail g e past (a ++ x) p) (same_tail g f past (b ++ y) q))
  where
    more : e ≡ f → AreOne a b → AreOne (e ∷ a) (f ∷ b)
    more h (inl k) = inl (k.0, λ i. h i ∷ k.1 i)
    more h (inr k) = inr (k.0, λ i. sym h i ∷ k.1 i)

pub events_of-append : (g h : List Event) (i : ℕ) → events_of (g ++ h) i ≡ events_of g i ++ events_of h i
unfolding events_of
events_of-append g h i = filter-append (λ e. seat_of e == i) g h

-- a history between f and h has the same events of a seat, if these two have the same
pub events_between : (h g f : List Event) (i : ℕ) → StartsWith h g → StartsWith g f → events_of h i ≡ events_of f i
    → events_of g i ≡ events_of f i
events_between h g f i above below same =
    let g_is : events_of g i ≡ events_of f i ++ events_of below.0 i = grind (arith, nat_tests, events_of-append) in
    let h_is : events_of h i ≡ events_of g i ++ events_of above.0 i = grind (arith, nat_tests, events_of-append) in
    let long_g = ap length g_is ∙ length-append (events_of f i) (events_of below.0 i) in
    let long_h = ap length h_is ∙ length-append (events_of g i) (events_of above.0 i) in
    let long_f = ap length same in
    let none = nil_from_length (events_of below.0 i) (omega arith) in
    g_is ∙ ap (λ (x : List Event). events_of f i ++ x) none ∙ append-nil (events_of f i)

-- the longer of two begins with both
pub record IsLonger (a b g : List Event) : Type 0 where
  pub first : StartsWith g a
  pub second : StartsWith g b

self : (g : List Event) → StartsWith g g
self g = ([], sym (append-nil g))

pub longer_both : (a b : List Event) → AreOne a b → IsLonger a b (longer a b)
longer_both a b one = by_length (nat_le (length a) (length b)) refl one
  where
    at_least : nat_le (length a) (length b) ≡ true → length a ≤ length b
    at_least e = grind (arith, e)

    at_most : nat_le (length a) (length b) ≡ false → length b ≤ length a
    at_most e = grind (arith, e)

    equal : (x y : List Event) → StartsWith x y → length x ≤ length y → StartsWith y x
    equal x y s l =
        let n = ap length s.1 ∙ length-append y s.0 in
        let none = nil_from_length s.0 (omega arith) in
        let same : x ≡ y = s.1 ∙ ap (λ (z : List Event). y ++ z) none ∙ append-nil y in
        subst (StartsWith y) (sym same) (self y)

    by_length : (c : Bool) → nat_le (length a) (length b) ≡ c → AreOne a b → IsLonger a b (cond c b a)
    by_length true e (inl s) = record { first = equal a b s (at_least e); second = self b }
    by_length true e (inr s) = record { first = s; second = self b }
    by_length false e (inl s) = record { first = self a; second = s }
    by_length false e (inr s) = record { first = self a; second = equal b a s (at_most e) }

-- an idle seat's record changes only in what it has seen and done
module _ (k : Rules) (o : Object) (c : Setting) (words : List ℕ) (homes : Homes) (at : ℕ → SeatRecord)
    (kh : IsKeptHall k o c words homes at) (i : ℕ) (w : SeatRecord)
    (place : w.place ≡ (at i).place) (count : w.count ≡ (at i).count) (known : w.known ≡ (at i).known)
    (mine : w.mine ≡ (at i).mine) (idle : stage (at i).place ≡ outside_stage)
    (part : StartsWith kh.past w.seen) (own : events_of w.seen i ≡ w.mine) where
  pub same : Path State (shown_state c words at kh.history) (shown_state c words (update at i w) kh.history)
  same = λ z. record {
    world = record (shown_world words at) {
      place = sym (field_stays (λ (y : SeatRecord). y.place) at i w (sym place)) z;
      count = sym (field_stays (λ (y : SeatRecord). y.count) at i w (sym count)) z;
    };
    known = sym (field_stays (λ (y : SeatRecord). y.known) at i w (sym known)) z;
    floor = floor_of c kh.history;
  }

  pub recount : CountsCalls (shown_world words (update at i w)) kh.past
  recount = subst (λ (p : ℕ → Place). CountsCalls
      (record (shown_world words at) { place = p; count = λ j. (update at i w j).count }) kh.past)
      (sym (field_stays (λ (y : SeatRecord). y.place) at i w (sym place)))
      (record { choosing = kh.told.calls.choosing; settled = kh.told.calls.settled })

  unfoldable pub learns : IsKeptHall k o c words homes (update at i w)
  learns =
      let told = kh.told in
      let not_at : (n : ℕ) → n ≢ outside_stage → stage w.place ≢ n = λ n ne e. ne (sym e ∙ ap stage place ∙ idle) in
      record {
        past = kh.past;
        history = kh.history;
        some_seat = kh.some_seat;
        wide = kh.wide;
        kept = subst (IsKept k o c.seats c.conds) same kh.kept;
        told = record {
          one_slot = told.one_slot;
          legal = told.legal;
          starts = at_update at i w (λ j x. StartsWith kh.past x.seen) part (λ j _. told.starts j);
          mine = at_update at i w (λ j x. events_of kh.past j ≡ x.mine) (told.mine i ∙ sym mine) (λ j _. told.mine j);
          own = at_update at i w (λ j x. events_of x.seen j ≡ x.mine) own (λ j _. told.own j);
          back = at_update at i w (λ j x. stage x.place ≡ back_stage → x.seen ≡ kh.past)
              (λ e. absurd (not_at back_stage (λ z. absurd (omega arith)) e)) (λ j _. told.back j);
          lent = λ j. at_update at i w
              (λ n x. (q : Source) → x.place ≡ Active q
              → (x.seen ≡ kh.past) × (kh.history ≡ kh.past ++ out_event n q (turn kh.past) ∷ [])
              × (get_elem? homes 0 ≡ maybe.some maybe.none))
              (λ q e. absurd (not_at active_stage (λ z. absurd (omega arith)) (ap stage e))) (λ n _. told.lent n) j;
          home = λ none. told.home (all_back at i w (λ j x. stage x.place ≢ active_stage) none
              (λ e. absurd (omega arith)));
          calls = recount;
        };
      }

pub two_of : (x y r : SeatRecord) → In r (x ∷ y ∷ []) → (F : SeatRecord → Type 0) → F x → F y → F r
two_of x y r (inl e) F p q = subst F (sym e) p
two_of x y r (inr (inl e)) F p q = subst F (sym e) q
two_of x y r (inr (inr h)) F p q = absurd h

pub same_seat : (x r : SeatRecord) → In r (x ∷ []) → r.seat ≡ x.seat
same_seat x r (inl e) = ap (λ (z : SeatRecord). z.seat) e
same_seat x r (inr h) = absurd h

-- both records of one view change, and no other's
module _ (c : Setting) (views : List View) (at : ℕ → SeatRecord) (sh : AreShown c views at) (id : ℕ)
    (a b a2 b2 : SeatRecord) (view : get_elem? views id ≡ maybe.some (a ∷ b ∷ []))
    (seat_a : a2.seat ≡ a.seat) (seat_b : b2.seat ≡ b.seat) (set_a : a2.setting ≡ a.setting)
    (set_b : b2.setting ≡ b.setting) where
  pub in_a : (at a.seat ≡ a) × (sh.desk a.seat ≡ id) × (a.seat < c.seats)
  in_a = sh.each id (a ∷ b ∷ []) view a (inl refl)

  pub in_b : (at b.seat ≡ b) × (sh.desk b.seat ≡ id) × (b.seat < c.seats)
  in_b = sh.each id (a ∷ b ∷ []) view b (inr (inl refl))

  pub apart : b.seat ≢ a.seat
  apart = (sh.apart id (a ∷ b ∷ []) view).0 b (inl refl)

  abbrev pub at_one : ℕ → SeatRecord
  at_one = update at a.seat a2

  abbrev pub at_two : ℕ → SeatRecord
  at_two = update at_one b.seat b2

  pub still_b : at_one b.seat ≡ b
  still_b = update_else at a.seat a2 b.seat apart ∙ in_b.0

  is_a : at_two a.seat ≡ a2
  is_a = update_else at_one b.seat b2 a.seat (λ e. apart (sym e)) ∙ update_here at a.seat a2

  is_b : at_two b.seat ≡ b2
  is_b = update_here at_one b.seat b2

  other : (j : ℕ) → j ≢ a.seat → j ≢ b.seat → at_two j ≡ at j
  other j na nb = update_else at_one b.seat b2 j nb ∙ update_else at a.seat a2 j na

  pub shown_two : AreShown c (set views id (a2 ∷ b2 ∷ [])) at_two
  shown_two = record {
    desk = sh.desk;
    each = λ j u e x in_u. ⊎_elim
        (λ z. two_of a2 b2 x (subst (In x) (sym z.1) in_u)
        (λ r. (at_two r.seat ≡ r) × (sh.desk r.seat ≡ j) × (r.seat < c.seats)) (
          ap at_two seat_a ∙ is_a,
          ap sh.desk seat_a ∙ in_a.1
              ∙ sym z.0,
          subst (λ (m : ℕ). m < c.seats) (sym seat_a) in_a.2,
        ) (
          ap at_two seat_b ∙ is_b,
          ap sh.desk seat_b ∙ in_b.1
              ∙ sym z.0,
          subst (λ (m : ℕ). m < c.seats) (sym seat_b) in_b.2,
        ))
        (λ z.
        let old = sh.each j u z.1 x in_u in (
          other x.seat (λ q. z.0 (sym old.1 ∙ ap sh.desk q ∙ in_a.1))
              (λ q. z.0 (sym old.1 ∙ ap sh.desk q ∙ in_b.1)) ∙ old.0,
          old.1,
          old.2,
        ))
        (at_set views id j (a2 ∷ b2 ∷ []) u e);
    apart = grind (arith, nat_tests, apart, same_seat, at_set);
    there = λ j near. elim (eqb_tells j a.seat) [
      | inl h ↦ (a2 ∷ b2 ∷ [], here j (ap sh.desk h.1 ∙ in_a.1), inl (ap at_two h.1 ∙ is_a))
      | inr na ↦ elim (eqb_tells j b.seat) [
        | inl h ↦ (a2 ∷ b2 ∷ [], here j (ap sh.desk h.1 ∙ in_b.1), inr (inl (ap at_two h.1 ∙ is_b)))
        | inr nb ↦
            let old = sh.there j near in (
              old.0,
              set_else views id (sh.desk j) (a2 ∷ b2 ∷ []) (away j old.0 old.1 old.2 na.1 nb.1)
                  ∙ old.1,
              subst (λ (x : SeatRecord). In x old.0) (sym (other j na.1 nb.1)) old.2,
            )
      ]
    ];
    settings = at_update at_one b.seat b2 (λ j x. x.setting ≡ c)
        (set_b ∙ ap (λ (x : SeatRecord). x.setting) (sym in_b.0) ∙ sh.settings b.seat)
        (λ j _. at_update at a.seat a2 (λ m x. x.setting ≡ c) (set_a ∙ ap (λ (x : SeatRecord). x.setting) (sym in_a.0)
        ∙ sh.settings a.seat) (λ m _. sh.settings m) j);
    seats = at_update at_one b.seat b2 (λ j x. x.seat ≡ j) seat_b
        (λ j _. at_update at a.seat a2 (λ m x. x.seat ≡ m) seat_a (λ m _. sh.seats m) j);
  }
    where
      here : (j : ℕ) → sh.desk j ≡ id → get_elem? (set views id (a2 ∷ b2 ∷ [])) (sh.desk j) ≡ maybe.some (a2 ∷ b2 ∷ [])
      here j e = ap (λ (n : ℕ). get_elem? (set views id (a2 ∷ b2 ∷ [])) n) e
          ∙ set_here views id (a2 ∷ b2 ∷ []) (long views id (a ∷ b ∷ []) view)

      away : (j : ℕ) (v : View) → get_elem? views (sh.desk j) ≡ maybe.some v → In (at j) v → j ≢ a.seat
          → j ≢ b.seat → sh.desk j ≢ id
      away j v e i na nb d =
          let is_v : v ≡ a ∷ b ∷ [] = grind (arith, nat_tests, some-injective) in
          two_of a b (at j) (subst (λ (z : View). In (at j) z) is_v i) (λ r. r ≡ at j → ⊥)
          (λ q. na (sym (sh.seats j) ∙ ap (λ (x : SeatRecord). x.seat) (sym q)))
          (λ q. nb (sym (sh.seats j) ∙ ap (λ (x : SeatRecord). x.seat) (sym q))) refl
