-- One seat's record changes, and the others stay
use Rattle.std.proofs.Common.{◌≡◌, ℕ, zero, suc, ◌<◌, List, [], ◌∷◌, set, length, sym, refl, ap, ◌∙◌, subst, inl, inr, ⊎_elim, arith}
use Rattle.std.proofs.{lemmas.Bool.Decides.eqb_tells, lemmas.Bool.Decides.nat_tests, Math.Option.some-injective}
use mathlib.Core.Option.{some}
use lib.ListN.{get_elem?}
use Rattle.atomic_table.proofs.Lists.{at_set, set_else, set_here}
use Rattle.monk_world.proofs.PublicLaws.{at_update, update_here, update_else}
use Rattle.monk_world.specs.Update.{update}
use Rattle.monk_hall.specs.{Rule.AreShown, Records.View, Records.In}
use Rattle.monk_hall.specs.declared.{record.SeatRecord.SeatRecord, setting.Setting.Setting}

pub long : {A : Type 0} (l : List A) (i : ℕ) (a : A) → get_elem? l i ≡ some a → i < length l
long [] i a e = absurd cc
long (x ∷ xs) zero a e = omega arith
long (x ∷ xs) (suc i) a e = let l = long xs i a e in omega arith

pub only : (x w : SeatRecord) → In x (w ∷ []) → x ≡ w
only x w h = grind (arith, nat_tests)

module _ (c : Setting) (views : List View) (at : ℕ → SeatRecord) (s : AreShown c views at) (id : ℕ) (r : SeatRecord)
    (here : get_elem? views id ≡ some (r ∷ [])) where
  pub is_at : at r.seat ≡ r
  is_at = (s.each id (r ∷ []) here r (inl refl)).0

  pub is_desk : s.desk r.seat ≡ id
  is_desk = (s.each id (r ∷ []) here r (inl refl)).1

  pub is_near : r.seat < c.seats
  is_near = (s.each id (r ∷ []) here r (inl refl)).2

  pub is_setting : r.setting ≡ c
  is_setting = ap (λ (x : SeatRecord). x.setting) (sym is_at) ∙ s.settings r.seat

  -- the record of a seat that is alone in its view changes
  pub shown_set : (w : SeatRecord) → w.seat ≡ r.seat → w.setting ≡ r.setting
      → AreShown c (set views id (w ∷ [])) (update at r.seat w)
  shown_set w same kept = record {
    desk = s.desk;
    each = λ j v e x in_v. ⊎_elim
        (λ t.
        let is_w : x ≡ w = only x w (subst (λ (z : View). In x z) (sym t.1) in_v) in
        let seat : x.seat ≡ r.seat = ap (λ (z : SeatRecord). z.seat) is_w ∙ same in (
          ap (update at r.seat w) seat ∙ update_here at r.seat w ∙ sym is_w,
          ap s.desk seat ∙ is_desk
              ∙ sym t.0,
          subst (λ (z : ℕ). z < c.seats) (sym seat) is_near,
        ))
        (λ t.
        let old = s.each j v t.1 x in_v in
        (update_else at r.seat w x.seat (λ eq. t.0 (sym old.1 ∙ ap s.desk eq ∙ is_desk)) ∙ old.0, old.1, old.2))
        (at_set views id j (w ∷ []) v e);
    apart = grind (arith, nat_tests, at_set);
    there = λ j near. elim (eqb_tells j r.seat) [
      | inl h ↦ (
        w ∷ [],
        ap (λ (n : ℕ). get_elem? (set views id (w ∷ [])) n) (ap s.desk h.1 ∙ is_desk)
            ∙ set_here views id (w ∷ []) (long views id (r ∷ []) here),
        inl (ap (update at r.seat w) h.1 ∙ update_here at r.seat w),
      )
      | inr h ↦
          let old = s.there j near in
          elim (eqb_tells (s.desk j) id) [
            | inl d ↦ absurd (h.1 (alone j old.0 (sym (ap (λ (n : ℕ). get_elem? views n) d.1) ∙ old.1) old.2))
            | inr d ↦ (
              old.0,
              set_else views id (s.desk j) (w ∷ []) d.1
                  ∙ old.1,
              subst (λ (x : SeatRecord). In x old.0) (sym (update_else at r.seat w j h.1)) old.2,
            )
          ]
    ];
    settings = at_update at r.seat w (λ j x. x.setting ≡ c) (kept ∙ is_setting) (λ j n. s.settings j);
    seats = at_update at r.seat w (λ j x. x.seat ≡ j) same (λ j n. s.seats j);
  }
    where
      alone : (j : ℕ) (v : View) → get_elem? views id ≡ some v → In (at j) v → j ≡ r.seat
      alone j v e i = sym (s.seats j)
          ∙ ap (λ (x : SeatRecord). x.seat)
          (only (at j) r (subst (λ (z : View). In (at j) z) (some-injective v (r ∷ []) (sym e ∙ here)) i))
