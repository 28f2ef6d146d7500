use Rattle.std.proofs.Common.{◌≡◌, ℕ, ◌<◌, List, [], ◌∷◌, ◌++◌, length, get_or, refl, sym, ap, subst, ◌∙◌, length-append, arith, rules}
use Rattle.std.specs.Arc.{arc_value}
use Rattle.monk_hall.specs.Tokens.{Token}
use Rattle.monk_c.proofs.deal.Deal.deal.Goals as goal
use Rattle.monk_c.specs.{Dealing.ArePasses, Dealing.fresh_pass, Stands.IsAtHome, Stands.RoomView, Stands.At.Outside}

-- the last item of a list
last : {A : Type 0} (qs : List A) (x d : A) → get_or (qs ++ (x ∷ [])) (length qs) d ≡ x
last [] x d = refl
last (q ∷ qs) x d = last qs x d

longer : {A : Type 0} (qs : List A) (x : A) → length qs < length (qs ++ (x ∷ []))
longer qs x = omega (arith, length-append qs (x ∷ []))

-- the last pass is of the last seat, and the last room is the first one
last_pass : (r : RoomView) (ps qs : List Token) (p : Token) → ps ≡ qs ++ (p ∷ []) → ArePasses r ps
    → p ≡ fresh_pass r (length qs)
last_pass r ps qs p e all =
    sym (last qs p p) ∙ subst (λ (xs : List Token). ArePasses r xs) e all (length qs) p (longer qs p)

last_room : {A : Type 0} (f : A → RoomView) (r : RoomView) (rs qs : List A) (x : A) → rs ≡ qs ++ (x ∷ [])
    → ((k : ℕ) (d : A) → k < length rs → f (get_or rs k d) ≡ r) → f x ≡ r
last_room {A} f r rs qs x e all =
    ap f (sym (last qs x x))
    ∙ subst (λ (xs : List A). (k : ℕ) (d : A) → k < length xs → f (get_or xs k d) ≡ r) e all (length qs) x (longer qs x)

at_home : (v r : RoomView) (n : ℕ) (p : Token) → v ≡ r → p ≡ fresh_pass r n → IsAtHome v (Outside p)
at_home v r n p e h = record {
  table = ap (λ (t : Token). t.hall) h ∙ sym (ap (λ (w : RoomView). w.house.id) e);
  setting = ap (λ (t : Token). t.me.setting) h ∙ sym (ap (λ (w : RoomView). w.house.setting) e);
}

pub new-requires : goal.new-requires
new-requires g c =
    let held = c.self.invariant in
    let rooms = c.in-Some.ensures.items in
    let passes = c.in_ok-pass.ensures.items in (
      search rules,
      (
        search rules,
        at_home (arc_value c.in-Some.room) (arc_value c.self.inside.first) (length c.pop.new.self.items)
            c.in_ok-pass.pass
            (last_room (λ s. arc_value s) (arc_value c.self.inside.first) c.self.inside.rooms.items
            c.pop-2.new.self.items
            c.in-Some.room rooms held.1)
            (last_pass (arc_value c.self.inside.first) c.self.inside.passes.items c.pop.new.self.items
            c.in_ok-pass.pass
            passes held.2),
      ),
    )
