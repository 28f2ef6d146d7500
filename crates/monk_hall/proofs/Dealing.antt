-- The table at the start, and how a record goes from one view to a seat of its own
use Rattle.std.proofs.Common.{◌≡◌, ◌≢◌, ℕ, zero, suc, ◌+◌, ◌-◌, ◌<◌, ◌≤◌, ◌⊎◌, cond, Bool, true, false, ◌||◌, nat_lt}
use Rattle.std.proofs.Common.{List, [], ◌∷◌, ◌++◌, length, set, replicate, sym, refl, ap, ◌∙◌, subst, inl, inr, ⊎_elim}
use Rattle.std.{proofs.Common.arith, proofs.Math.Option.some-injective, proofs.lemmas.Bool.Decides.eqb_tells}
use Rattle.std.{proofs.lemmas.Bool.Decides.nat_tests, specs.Prelude.Some, specs.Prelude.None, specs.Prelude.slice_index}
use mathlib.Core.Option as maybe
use mathlib.Core.Path.{Path}
use lib.ListN.{get_elem?}
use Rattle.atomic_table.proofs.Lists.{at_set, set_here, set_else, at_longer, at_last}
use Rattle.atomic_table.specs.{Seated.TableId, Table.opening}
use Rattle.monk_kinds.specs.declared.mode.Rules.{Rules}
use Rattle.monk_object.specs.Object.{Object}
use Rattle.monk_history.proofs.PublicLaws.Meaning.{granted_none, legal_none}
use Rattle.monk_history.specs.Meaning.Counts.{events_of}
use Rattle.monk_history.specs.Limits.{most_seats, most_conds, least_budget, most_budget}
use Rattle.monk_world.proofs.PublicLaws.{update_here, update_else, opening_kept}
use Rattle.monk_world.specs.{Kept.IsKept, Update.update, Runs.opening_state, State.State}
use Rattle.monk_floor.specs.declared.fault.MakeFault.TheVariants as fault
use Rattle.monk_floor.specs.{Making.make_refusal, View.monitor_of}
use Rattle.monk_hall.proofs.Seats.{long, only}
use Rattle.monk_hall.specs.{Laws.HallState, Rule.AreShown, Rule.IsHall, Tokens.Token, Tokens.IsResting, Tokens.tokens}
use Rattle.monk_hall.specs.Layout.{tickets, unpassed, word_count, place_word, seat_word, floor_of, shown_state}
use Rattle.monk_hall.specs.declared.{record.SeatRecord.SeatRecord, setting.Setting.Setting}
use Rattle.monk_hall.specs.Records.{View, In, Distinct, opening_record, opening_records, first_view}

-- one of the records of n seats from i on
record IsFresh (c : Setting) (n i : ℕ) (r : SeatRecord) : Type 0 where
  is : r ≡ opening_record c r.seat
  low : i ≤ r.seat
  high : r.seat < i + n

in_fresh : (c : Setting) (n i : ℕ) (r : SeatRecord) → In r (opening_records c n i) → IsFresh c n i r
in_fresh c zero i r h = absurd h
in_fresh c (suc n) i r (inl e) = let s : r.seat ≡ i = ap (λ (x : SeatRecord). x.seat) e in
    record { is = e ∙ ap (opening_record c) (sym s); low = omega arith; high = omega arith }
in_fresh c (suc n) i r (inr h) = let a = in_fresh c n (suc i) r h in let l = a.low in let m = a.high in
    record { is = a.is; low = omega arith; high = omega arith }

fresh_in : (c : Setting) (n i j : ℕ) → i ≤ j → j < i + n → In (opening_record c j) (opening_records c n i)
fresh_in c zero i j low high = absurd (omega arith)
fresh_in c (suc n) i j low high = elim (eqb_tells j i) [
  | inl e ↦ inl (ap (opening_record c) e.1)
  | inr ne ↦ let apart = ne.1 in inr (fresh_in c n (suc i) j (let z : j ≢ i = apart in omega arith) (omega arith))
]

distinct_fresh : (c : Setting) (n i : ℕ) → Distinct (opening_records c n i)
distinct_fresh c zero i = tt
distinct_fresh c (suc n) i =
    ((λ y h e. let l = (in_fresh c n (suc i) y h).low in omega arith), distinct_fresh c n (suc i))

none_of : (j : ℕ) → events_of [] j ≡ []
unfolding events_of
none_of j = refl

only_at : {A : Type 0} (a b : A) (j : ℕ) → get_elem? (a ∷ []) j ≡ maybe.some b → (a ≡ b) × (j ≡ 0)
only_at a b zero e = (some-injective a b e, refl)
only_at a b (suc j) e = absurd cc

-- a table with no ticket drawn, every seat idle and the floor at home
pub opens : (k : Rules) (o : Object) (c : Setting) (words : List ℕ) → make_refusal c.seats c.conds c.budget ≡ None
    → 0 < c.seats → length words ≡ word_count c.seats → ((i : ℕ) → slice_index words i ≡ 0)
    → IsHall k o c (opening words (Some (floor_of c []) ∷ []) (first_view c))
opens k o c words made some wide zeros = (
  opening_record c,
  record {
    desk = λ _. 0;
    each = grind (arith, nat_tests, only_at, in_fresh);
    apart = λ id v e. subst Distinct (only_at (first_view c) v id e).0 (distinct_fresh c c.seats 0);
    there = λ j near. (first_view c, refl, fresh_in c c.seats 0 j (omega arith) (omega arith));
    settings = λ j. refl;
    seats = λ j. refl;
  },
  record {
    past = [];
    history = [];
    some_seat = some;
    wide = wide;
    kept = subst (IsKept k o c.seats c.conds) shows (opening_kept k o c.opening c.seats c.conds c.budget made);
    told = record {
      one_slot = refl;
      legal = legal_none (monitor_of k o (floor_of c []));
      starts = λ j. ([], refl);
      mine = λ j. none_of j;
      own = λ j. none_of j;
      back = λ j e. absurd (omega arith);
      lent = λ j q e. absurd cc;
      home = λ _. (refl, refl);
      calls = record {
        choosing = λ j m e. absurd (omega arith);
        settled = λ m _. granted_none m ∙ sym (zeros (seat_word m));
      };
    };
  },
)
  where
    shows : Path State (opening_state c.opening c.seats c.conds c.budget) (shown_state c words (opening_record c) [])
    shows = λ z. record {
      world = record {
        drawn = tickets (sym (zeros 0) z);
        unpassed = unpassed (sym (zeros 0) z);
        ticket_place = λ i. sym (zeros (place_word i)) z;
        seat_place = λ j. sym (zeros (seat_word j)) z;
        place = λ j. (opening_record c j).place;
        count = λ j. 0;
      };
      known = λ j. (opening_record c j).known;
      floor = floor_of c [];
    }

pub opens_empty : (k : Rules) (o : Object) (c : Setting) (words : List ℕ)
    (made : make_refusal c.seats c.conds c.budget ≡ None) (some : 0 < c.seats)
    (wide : length words ≡ word_count c.seats) (zeros : (i : ℕ) → slice_index words i ≡ 0)
    → (opens k o c words made some wide zeros).2.past ≡ []
unfolding opens
opens_empty k o c words made some wide zeros = refl

pub at_end : (l : List View) (a b : View) (j : ℕ) → get_elem? (l ++ a ∷ []) j ≡ maybe.some b
    → (get_elem? l j ≡ maybe.some b) ⊎ ((a ≡ b) × (j ≡ length l))
at_end [] a b zero e = inr (some-injective a b e, refl)
at_end [] a b (suc j) e = absurd cc
at_end (x ∷ xs) a b zero e = inl e
at_end (x ∷ xs) a b (suc j) e = ⊎_elim (λ h. inl h) (λ h. inr (h.0, ap suc h.1)) (at_end xs a b j e)

-- the record x goes from the view v to a new seat, and ys stay
module _ (c : Setting) (views : List View) (at : ℕ → SeatRecord) (sh : AreShown c views at) (id : ℕ) (v ys : View)
    (x : SeatRecord) (view : get_elem? views id ≡ maybe.some v)
    (there_x : In x v) (there_ys : (z : SeatRecord) → In z ys → In z v)
    (either : (z : SeatRecord) → In z v → (z ≡ x) ⊎ In z ys) (apart : (z : SeatRecord) → In z ys → z.seat ≢ x.seat)
    (distinct : Distinct ys) where
  abbrev left_views : List View
  left_views = set views id ys

  abbrev moved_desk : ℕ → ℕ
  moved_desk = update sh.desk x.seat (length left_views)

  desk_else : (j : ℕ) → j ≢ x.seat → moved_desk j ≡ sh.desk j
  desk_else j ne = update_else sh.desk x.seat (length left_views) j ne

  each_after : (j : ℕ) (u : View) → get_elem? (left_views ++ (x ∷ []) ∷ []) j ≡ maybe.some u → (r : SeatRecord) → In r u
      → (at r.seat ≡ r) × (moved_desk r.seat ≡ j) × (r.seat < c.seats)
  each_after j u e r in_u = ⊎_elim
      (λ old. ⊎_elim
      (λ t.
      let stays = subst (λ (z : View). In r z) (sym t.1) in_u in
      let was = sh.each id v view r (there_ys r stays) in
      (was.0, desk_else r.seat (apart r stays) ∙ was.1 ∙ sym t.0, was.2))
      (λ t.
      let was = sh.each j u t.1 r in_u in (
        was.0,
        desk_else r.seat (λ eq. t.0 (sym was.1 ∙ ap sh.desk eq ∙ (sh.each id v view x there_x).1))
            ∙ was.1,
        was.2,
      ))
      (at_set views id j ys u old))
      (λ new.
      let is_x = only r x (subst (λ (z : View). In r z) (sym new.0) in_u) in
      let old = sh.each id v view x there_x in
      let seat : r.seat ≡ x.seat = ap (λ (z : SeatRecord). z.seat) is_x in (
        ap at seat ∙ old.0 ∙ sym is_x,
        ap moved_desk seat ∙ update_here sh.desk x.seat (length left_views) ∙ sym new.1,
        subst (λ (z : ℕ). z < c.seats) (sym seat) old.2,
      ))
      (at_end left_views (x ∷ []) u j e)

  there_after : (j : ℕ) → j < c.seats
      → (u : View) × (get_elem? (left_views ++ (x ∷ []) ∷ []) (moved_desk j) ≡ maybe.some u) × In (at j) u
  there_after j near = elim (eqb_tells j x.seat) [
    | inl h ↦ (
      x ∷ [],
      ap (λ (n : ℕ). get_elem? (left_views ++ (x ∷ []) ∷ []) n)
          (ap moved_desk h.1 ∙ update_here sh.desk x.seat (length left_views))
          ∙ at_last left_views (x ∷ []) (length left_views) refl,
      inl (ap at h.1 ∙ (sh.each id v view x there_x).0),
    )
    | inr h ↦
        let old = sh.there j near in
        elim (eqb_tells (sh.desk j) id) [
          | inl d ↦
              let is_v : old.0 ≡ v = grind (arith, nat_tests, some-injective) in
              elim (either (at j) (subst (λ (z : View). In (at j) z) is_v old.2)) [
                | inl e ↦ absurd (h.1 (sym (sh.seats j) ∙ ap (λ (z : SeatRecord). z.seat) e))
                | inr e ↦ (
                  ys,
                  ap (λ (n : ℕ). get_elem? (left_views ++ (x ∷ []) ∷ []) n) (desk_else j h.1 ∙ d.1)
                      ∙ at_longer left_views ((x ∷ []) ∷ []) id ys (set_here views id ys (long views id v view)),
                  e,
                )
              ]
          | inr d ↦ (
            old.0,
            ap (λ (n : ℕ). get_elem? (left_views ++ (x ∷ []) ∷ []) n) (desk_else j h.1)
                ∙ at_longer left_views ((x ∷ []) ∷ []) (sh.desk j) old.0 (set_else views id (sh.desk j) ys d.1 ∙ old.1),
            old.2,
          )
        ]
  ]

  pub shown_moved : AreShown c (left_views ++ (x ∷ []) ∷ []) at
  shown_moved = record {
    desk = moved_desk;
    each = each_after;
    apart = grind (arith, nat_tests, at_set, at_end);
    there = there_after;
    settings = sh.settings;
    seats = sh.seats;
  }

-- the rule holds for the table t as for s, with the same history at home
pub record IsStill (k : Rules) (o : Object) (c : Setting) (s : HallState) (h : IsHall k o c s) (t : HallState)
    : Type 0 where
  pub hall : IsHall k o c t
  pub past : hall.2.past ≡ h.2.past

-- the first record of a view goes to a seat that has it alone
pub deals_at : (k : Rules) (o : Object) (c : Setting) (id : ℕ) (r : SeatRecord) (rs : View) (s : HallState)
    (h : IsHall k o c s) → get_elem? s.views id ≡ maybe.some (r ∷ rs)
    → IsStill k o c s h (record s { views = set s.views id rs ++ (r ∷ []) ∷ [] })
deals_at k o c id r rs s h view =
    let distinct = h.1.apart id (r ∷ rs) view in record {
      hall = (
        h.0,
        shown_moved c s.views h.0 h.1 id (r ∷ rs) rs r view (inl refl) (λ z i. inr i)
            (λ z i. i) distinct.0 distinct.1,
        h.2,
      );
      past = refl;
    }

fresh_step : (c : Setting) (n d : ℕ) → 0 < n
    → opening_records c n d ≡ opening_record c d ∷ opening_records c (n - 1) (suc d)
fresh_step c zero d h = absurd (omega arith)
fresh_step c (suc n) d h = let e : n ≡ suc n - 1 = omega arith in
    ap (λ (m : ℕ). opening_record c d ∷ opening_records c m (suc d)) e

-- the view of the seats from d on, out of m in all
pub fresh_next : (c : Setting) (v : View) (m d : ℕ) → d < m → v ≡ opening_records c (m - d) d
    → v ≡ opening_record c d ∷ opening_records c (m - (d + 1)) (d + 1)
fresh_next c v m d h e =
    e ∙ fresh_step c (m - d) d (omega arith)
    ∙ (let a : m - d - 1 ≡ m - (d + 1) = omega arith in let b : suc d ≡ d + 1 = omega arith in
    λ i. opening_record c d ∷ opening_records c (a i) (b i))

-- the tokens of one more seat
pub tokens_more : (z : TableId) (c : Setting) (n i : ℕ)
    → tokens z (opening_records c (n + 1) i) ≡ tokens z (opening_records c n i)
    ++ record { hall = z; me = opening_record c (i + n) } ∷ []
tokens_more z c zero i =
    let e : i ≡ i + 0 = omega arith in
    ap (λ (m : ℕ). token m ∷ []) e
  where
    token : ℕ → Token
    token m = record { hall = z; me = opening_record c m }
tokens_more z c (suc n) i =
    let e : suc n + 1 ≡ suc (n + 1) = omega arith in
    let a : suc i + n ≡ i + suc n = omega arith in
    ap (λ (m : ℕ). tokens z (opening_records c m i)) e
    ∙ ap (λ (l : List Token). token i ∷ l)
    (tokens_more z c n (suc i) ∙ ap (λ (m : ℕ). tokens z (opening_records c n (suc i)) ++ token m ∷ []) a)
  where
    token : ℕ → Token
    token m = record { hall = z; me = opening_record c m }

pub zero_words : (n i : ℕ) → slice_index (replicate n 0) i ≡ 0
zero_words zero i = refl
zero_words (suc n) zero = refl
zero_words (suc n) (suc i) = zero_words n i

-- a seat that has its record rests
pub fresh_rests : (k : Rules) (o : Object) (z : TableId) (c : Setting) (number budget : ℕ) → number < c.seats
    → z.words ≡ word_count c.seats → budget ≡ c.budget
    → IsResting k o z (opening_record c number ∷ [], [])
    (record { seat = number; calls = 0; budget = budget; gap_byte = 0; gap_pair = 0 }) budget
fresh_rests k o z c number budget near sized enough = record {
  one = refl;
  free = refl;
  seated = record { is_seat = refl; near = near; sized = sized; counted = refl; budgeted = enough };
  spent = omega arith;
  told = record { legal = legal_none (monitor_of k o (floor_of c [])); own = none_of number };
}

-- a hall that is made has a seat
pub some_seat : (seats conds budget : ℕ) → make_refusal seats conds budget ≡ None → 0 < seats
some_seat seats conds budget made =
    not_below (first_test (nat_lt seats 1) (nat_lt most_seats seats) (nat_lt most_conds conds)
    (nat_lt budget least_budget || nat_lt most_budget budget) made)
  where
    first_test : (a b c d : Bool)
        → cond (a || b) (Some fault.Seats) (cond c (Some fault.Conds) (cond d (Some fault.Budget) None)) ≡ None
        → a ≡ false
    first_test false b c d e = refl
    first_test true b c d e = absurd cc

    not_below : nat_lt seats 1 ≡ false → 0 < seats
    not_below e = grind (arith, e)
