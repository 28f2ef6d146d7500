-- At most one seat waits at a word
use Rattle.std.proofs.Common.{◌≡◌, ◌≢◌, ℕ, zero, suc, ◌+◌, ◌-◌, ◌%◌, ◌==◌, ◌<◌, ◌≤◌, ◌⊎◌, cond, Bool, sym, ap, subst, ◌∙◌}
use Rattle.std.proofs.{Common.inl, Common.inr, Common.arith, lemmas.Bool.Decides.eqb_tells}
use Rattle.atomic_table.proofs.Lists.{one_turn}
use Rattle.monk_kinds.specs.declared.mode.Rules.{Rules}
use Rattle.monk_object.specs.Object.{Object}
use Rattle.monk_world.specs.{Places.stage, Places.ticket, Right.Waits}
use Rattle.monk_world.specs.declared.place.Place.{Place, TheVariants.Ticket, TheVariants.Inner}
use Rattle.monk_hall.proofs.Standing.{ticket_at, inner_at}
use Rattle.monk_hall.proofs.RecordLaws.{is, place, cases_le}
use Rattle.monk_hall.specs.{Laws.HallState, Laws.IsRecord, NextTicket.IsLooking, NextTicket.OneWaitsAtAWord}
use Rattle.monk_hall.specs.{Rule.IsHall, declared.record.SeatRecord.SeatRecord, declared.setting.Setting.Setting}
use Rattle.monk_hall.specs.Layout.{waiting_word, waiting_word_at}
use Rattle.std.proofs.lemmas.Bool.Decides.{nat_tests}

-- the number with the last place gets the place of the last number
abbrev moved : (ℕ → ℕ) → ℕ → ℕ → ℕ → ℕ
moved f n m k = cond (f k == n) (f m) (f k)

is_moved : (f : ℕ → ℕ) (n m k : ℕ) → ((f k ≡ n) × (moved f n m k ≡ f m)) ⊎ ((f k ≢ n) × (moved f n m k ≡ f k))
is_moved f n m k = elim (eqb_tells (f k) n) [
  | inl e ↦ inl (e.1, ap (λ (b : Bool). cond b (f m) (f k)) e.0)
  | inr ne ↦ inr (ne.1, ap (λ (b : Bool). cond b (f m) (f k)) ne.0)
]

-- there are no more numbers than places, if no two have one place
pub few_places : (n m : ℕ) (f : ℕ → ℕ) → ((k : ℕ) → k < m → f k < n)
    → ((i j : ℕ) → i < m → j < m → f i ≡ f j → i ≡ j) → m ≤ n
few_places n zero f low apart = omega arith
few_places zero (suc m) f low apart = let z = low 0 (omega arith) in absurd (omega arith)
few_places (suc n) (suc m) f low apart =
    let less = few_places n m (moved f n m) moved_low moved_apart in omega arith
  where
    moved_low : (k : ℕ) → k < m → moved f n m k < n
    moved_low k small = elim (is_moved f n m k) [
      | inl e ↦ grind (arith, nat_tests)
      | inr e ↦ (let a = low k (omega arith) in let b = e.1 in let ne = e.0 in omega arith)
    ]

    moved_apart : (i j : ℕ) → i < m → j < m → moved f n m i ≡ moved f n m j → i ≡ j
    moved_apart i j small_i small_j same = elim (is_moved f n m i) [
      | inl a ↦ elim (is_moved f n m j) [
        | inl b ↦ apart i j (omega arith) (omega arith) (a.0 ∙ sym b.0)
        | inr b ↦ (let z = apart m j (omega arith) (omega arith) (sym a.1 ∙ same ∙ b.1) in absurd (omega arith))
      ]
      | inr a ↦ elim (is_moved f n m j) [
        | inl b ↦ (let z = apart i m (omega arith) (omega arith) (sym a.1 ∙ same ∙ b.1) in absurd (omega arith))
        | inr b ↦ apart i j (omega arith) (omega arith) (sym a.1 ∙ same ∙ b.1)
      ]
    ]

module _ (k : Rules) (o : Object) (c : Setting) (s : HallState) (h : IsHall k o c s) where
  abbrev owner : ℕ → ℕ
  owner = h.2.kept.sound.owner

  abbrev stands : ℕ → Place
  stands j = (h.0 j).place

  -- two tickets of one word that seats wait with are the same: those between would have too many seats
  not_later : (r q : SeatRecord) → IsRecord s r → IsRecord s q → (t u : ℕ) → r.place ≡ Ticket t → q.place ≡ Ticket u
      → t ≤ u → t % c.seats ≡ u % c.seats → t ≡ u
  not_later r q x y t u at_t at_u le same =
      let few = few_places c.seats (suc (u - t)) (λ n. owner (t + n)) low apart in
      one_turn t u c.seats le (omega arith) same
    where
      stands_r : stands r.seat ≡ Ticket t
      stands_r = place k o c s h r x ∙ at_t

      stands_q : stands q.seat ≡ Ticket u
      stands_q = place k o c s h q y ∙ at_u

      waits : (n : ℕ) → n < suc (u - t) → Waits stands owner (t + n)
      waits zero small =
          let mine = (h.2.kept.sound.is_sound.stands.keeps.tickets.waits r.seat (ap stage stands_r)).2 in
          let is_t = ap ticket stands_r in
          let zero_t : t ≡ t + 0 = omega arith in
          let owns : owner t ≡ r.seat = ap owner (sym is_t) ∙ mine in
          subst (Waits stands owner) zero_t
          (ap (λ (j : ℕ). stage (stands j)) owns ∙ ap stage stands_r, ap (λ (j : ℕ). ticket (stands j)) owns ∙ is_t)
      waits (suc n) small =
          let tickets = h.2.kept.sound.is_sound.stands.keeps.tickets in
          let mine = tickets.waits r.seat (ap stage stands_r) in
          let theirs = tickets.waits q.seat (ap stage stands_q) in
          let is_t = ap ticket stands_r in
          let is_u = ap ticket stands_q in
          let a = mine.1 in
          let b = theirs.0 in
          tickets.owned (t + suc n) (omega arith) (omega arith)

      low : (n : ℕ) → n < suc (u - t) → owner (t + n) < c.seats
      low n small = elim (cases_le c.seats (owner (t + n))) [
        | inl far ↦ (let a = h.2.kept.sound.is_sound.outside (owner (t + n)) far in let b = (waits n small).0 in
            absurd (omega arith))
        | inr near ↦ near
      ]

      apart : (i j : ℕ) → i < suc (u - t) → j < suc (u - t) → owner (t + i) ≡ owner (t + j) → i ≡ j
      apart i j small_i small_j e =
          let a = (waits i small_i).1 in
          let b = (waits j small_j).1 in
          let z = ap (λ (m : ℕ). ticket (stands m)) e in omega arith

  one_ticket : (r q : SeatRecord) → IsRecord s r → IsRecord s q → (t u : ℕ) → r.place ≡ Ticket t → q.place ≡ Ticket u
      → t % c.seats ≡ u % c.seats → t ≡ u
  one_ticket r q x y t u at_t at_u same = elim (cases_le t u) [
    | inl le ↦ not_later r q x y t u at_t at_u le same
    | inr lt ↦ sym (not_later q r y x u t at_u at_t (omega arith) (sym same))
  ]

  -- where a seat looks
  word_at : (r : SeatRecord) → IsRecord s r → (p : Place) → r.place ≡ p
      → waiting_word r ≡ waiting_word_at c.seats r.seat p
  word_at r x p at_p =
      let setting : r.setting ≡ c = ap (λ (y : SeatRecord). y.setting) (sym (is k o c s h r x)) ∙ h.1.settings r.seat in
      grind (arith, nat_tests, place)

  same_seat : (r q : SeatRecord) → IsRecord s r → IsRecord s q → r.seat ≡ q.seat → r ≡ q
  same_seat r q x y e = sym (is k o c s h r x) ∙ ap h.0 e ∙ is k o c s h q y

  by_places : (r q : SeatRecord) → IsRecord s r → IsRecord s q → IsLooking r.place → IsLooking q.place
      → waiting_word r ≡ waiting_word q → r ≡ q
  by_places r q x y (inl a) (inl b) word =
      let at_r = ticket_at r.place a in
      let at_q = ticket_at q.place b in
      let words = sym (word_at r x (Ticket (ticket r.place)) at_r) ∙ word
      ∙ word_at q y (Ticket (ticket q.place)) at_q in
      let same = one_ticket r q x y (ticket r.place) (ticket q.place) at_r at_q (omega arith) in
      let tickets = h.2.kept.sound.is_sound.stands.keeps.tickets in
      let mine = (tickets.waits r.seat (ap stage (place k o c s h r x) ∙ a)).2 in
      let theirs = (tickets.waits q.seat (ap stage (place k o c s h q y) ∙ b)).2 in
      grind (arith, nat_tests, same_seat, place)
  by_places r q x y (inl a) (inr b) word =
      let words = sym (word_at r x (Ticket (ticket r.place)) (ticket_at r.place a)) ∙ word
      ∙ word_at q y Inner (inner_at q.place b) in absurd (omega arith)
  by_places r q x y (inr a) (inl b) word =
      let words = sym (word_at r x Inner (inner_at r.place a)) ∙ word
      ∙ word_at q y (Ticket (ticket q.place)) (ticket_at q.place b) in absurd (omega arith)
  by_places r q x y (inr a) (inr b) word =
      let words = sym (word_at r x Inner (inner_at r.place a)) ∙ word ∙ word_at q y Inner (inner_at q.place b) in
      same_seat r q x y (omega arith)

pub one_waits_at_a_word : OneWaitsAtAWord
one_waits_at_a_word k o c s h r q x y a b word = by_places k o c s h r q x y a b word
