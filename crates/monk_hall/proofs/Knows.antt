-- What the seats know of the history after one seat's record changes
use Rattle.std.proofs.Common.{◌≡◌, ◌≢◌, ℕ, ◌+◌, List, [], ◌∷◌, ◌++◌, sym, refl, ap, ◌∙◌, subst, arith}
use mathlib.Core.Option.{none, some}
use lib.ListN.{get_elem?}
use Rattle.monk_kinds.specs.declared.mode.Rules.{Rules}
use Rattle.monk_object.specs.Object.{Object}
use Rattle.monk_history.specs.Meaning.{Counts.events_of, Counts.granted_of, Turn.turn}
use Rattle.monk_history.specs.declared.event.Event.{Event}
use Rattle.monk_world.proofs.PublicLaws.{at_update, all_back}
use Rattle.monk_world.specs.{Update.update, StepTable.out_event, World.World}
use Rattle.monk_world.specs.Places.{stage, back_turn, open_turn, due_to, active_stage, back_stage}
use Rattle.monk_world.specs.declared.{place.Place.Place, place.Place.TheVariants.Active, source.Source.Source}
use Rattle.monk_hall.specs.{Floors.StartsWith, declared.record.SeatRecord.SeatRecord, declared.setting.Setting.Setting}
use Rattle.monk_hall.specs.Rule.{AreTold, CountsCalls, Homes}

-- if a seat steps that has chosen no other before or after, and no seat's word changes, the calls stay counted
pub calls_stay : (s t : World) (h : List Event) (i : ℕ) (p : Place) → CountsCalls s h → t.place ≡ update s.place i p
    → t.seat_place ≡ s.seat_place → back_turn (s.place i) ≡ open_turn → back_turn p ≡ open_turn → CountsCalls t h
calls_stay s t h i p c place seat_place old new = record {
  choosing =
      λ j m. subst (λ (at : ℕ → Place). back_turn (at j) ≡ due_to m → granted_of h m ≡ t.seat_place m + 1) (sym place)
      (at_update s.place i p (λ n y. back_turn y ≡ due_to m → granted_of h m ≡ t.seat_place m + 1)
      (λ e. absurd (omega arith))
      (λ n ne e. c.choosing n m e ∙ ap (λ (f : ℕ → ℕ). f m + 1) (sym seat_place)) j);
  settled = λ m none.
      c.settled m (all_back s.place i p (λ n y. back_turn y ≢ due_to m)
      (λ n. subst (λ (at : ℕ → Place). back_turn (at n) ≢ due_to m) place (none n)) (λ e. absurd (omega arith)))
      ∙ ap (λ (f : ℕ → ℕ). f m) (sym seat_place);
}

module _ (k : Rules) (o : Object) (c : Setting) (homes : Homes) (at : ℕ → SeatRecord) (s : World)
    (past history : List Event) (told : AreTold k o c homes at s past history)
    (i : ℕ) (w : SeatRecord) (same_seen : w.seen ≡ (at i).seen) (same_mine : w.mine ≡ (at i).mine) (t : World)
    (calls : CountsCalls t past) where
  starts : (j : ℕ) → StartsWith past (update at i w j).seen
  starts =
      at_update at i w (λ j x. StartsWith past x.seen)
      (subst (StartsWith past) (sym same_seen) (told.starts i)) (λ j _. told.starts j)

  mine : (j : ℕ) → events_of past j ≡ (update at i w j).mine
  mine = at_update at i w (λ j x. events_of past j ≡ x.mine) (told.mine i ∙ sym same_mine) (λ j _. told.mine j)

  own : (j : ℕ) → events_of (update at i w j).seen j ≡ (update at i w j).mine
  own = at_update at i w (λ j x. events_of x.seen j ≡ x.mine) (ap (λ (h : List Event). events_of h i) same_seen
      ∙ told.own i ∙ sym same_mine) (λ j _. told.own j)

  -- it was not active and is not, and it has not just taken the floor back
  pub told_moves : stage (at i).place ≢ active_stage → stage w.place ≢ active_stage → stage w.place ≢ back_stage
      → AreTold k o c homes (update at i w) t past history
  told_moves was is back = record {
    one_slot = told.one_slot;
    legal = told.legal;
    starts = starts;
    mine = mine;
    own = own;
    back = at_update at i w (λ j x. stage x.place ≡ back_stage → x.seen ≡ past) (λ e. absurd (back e))
        (λ j _. told.back j);
    lent = λ j. at_update at i w
        (λ n x. (q : Source) → x.place ≡ Active q → (x.seen ≡ past) × (history ≡ past ++ out_event n q (turn past) ∷ [])
        × (get_elem? homes 0 ≡ some none))
        (λ q e. absurd (is (ap stage e))) (λ n _. told.lent n) j;
    home = λ none. told.home (all_back at i w (λ j x. stage x.place ≢ active_stage) none was);
    calls = calls;
  }

  -- it stays where it is
  pub told_stays : w.place ≡ (at i).place → AreTold k o c homes (update at i w) t past history
  told_stays same = record {
    one_slot = told.one_slot;
    legal = told.legal;
    starts = starts;
    mine = mine;
    own = own;
    back = at_update at i w (λ j x. stage x.place ≡ back_stage → x.seen ≡ past)
        (λ e. same_seen ∙ told.back i (ap stage (sym same) ∙ e)) (λ j _. told.back j);
    lent = λ j. at_update at i w
        (λ n x. (q : Source) → x.place ≡ Active q → (x.seen ≡ past) × (history ≡ past ++ out_event n q (turn past) ∷ [])
        × (get_elem? homes 0 ≡ some none))
        (λ q e. let l = told.lent i q (sym same ∙ e) in (same_seen ∙ l.0, l.1, l.2)) (λ n _. told.lent n) j;
    home = λ none. told.home
        (λ j. subst (λ (p : Place). stage p ≢ active_stage)
        (at_update at i w (λ n x. x.place ≡ (at n).place) same (λ n _. refl) j) (none j));
    calls = calls;
  }
