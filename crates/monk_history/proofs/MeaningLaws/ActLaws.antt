-- The acts of a legal history are a run of its object, so the laws of the object hold for them
use Rattle.std.proofs.Common.{◌≡◌, ℕ, true, List, [], ◌∷◌, ◌++◌, map, refl, sym, ap, ◌∙◌}
use Rattle.std.proofs.lemmas.{Grind.flat_map-append, List.map-append, List.Sums.fold-append, Bool.Decides.nat_tests}
use Rattle.std.proofs.Common.{arith}
use Rattle.monk_kinds.specs.declared.mode.Rules.{Rules}
use Rattle.monk_object.proofs.PublicLaws.{first_in_first_out, exclusive, customers, last_set}
use Rattle.monk_object.specs.{Object.Object, Names.meaning_named, Names.opening_named}
use Rattle.monk_object.specs.Runs.{Answered, answers_of, state_after}
use Rattle.monk_object.specs.declared.op.Op.{Op}
use Rattle.monk_object.specs.declared.name.ObjectName.{ObjectName}
use Rattle.monk_object.specs.declared.name.ObjectName.TheVariants.{Buffer, Book, Shop, Flags}
use Rattle.monk_history.proofs.MeaningLaws.{HistoryLaws.history_induction, TurnLaws.data-push}
use Rattle.monk_history.proofs.MeaningLaws.LegalLaws.{legal_front, legal_last}
use Rattle.monk_history.specs.Meaning.{Legal.IsLegal, Reasons.is_right_reply}
use Rattle.monk_history.specs.Meaning.Monitor.{Monitor, monitor, data_after, data_of}
use Rattle.monk_history.specs.Meaning.Acts.{act_of, acts_in, ops_in, IsRunOf, IsInOrder, ExcludesEachOther}
use Rattle.monk_history.specs.Meaning.Acts.{ServesEachOne, HoldsLastSet}
use Rattle.monk_history.specs.declared.event.Event.{Event}

abbrev ops : List Answered → List Op
ops acts = map (λ act. act.op) acts

answered-append : (o : Object) (d : List ℕ) (xs ys : List Op) → answers_of o d (xs ++ ys) ≡ answers_of o d xs
    ++ answers_of o (state_after o d xs) ys
answered-append o d [] ys = refl
answered-append o d (x ∷ xs) ys = grind (arith, nat_tests, answered-append o (o.after d x) xs ys)

acts-push : (h : List Event) (e : Event) → acts_in (h ++ e ∷ []) ≡ acts_in h ++ acts_in (e ∷ [])
acts-push h e = flat_map-append act_of h (e ∷ [])

ops-push : (h : List Event) (e : Event) → ops_in (h ++ e ∷ []) ≡ ops_in h ++ ops_in (e ∷ [])
ops-push h e = ap ops (acts-push h e) ∙ map-append (λ (act : Answered). act.op) (acts_in h) (acts_in (e ∷ []))

data_by : (o : Object) (d : List ℕ) (e : Event) → state_after o d (ops_in (e ∷ [])) ≡ data_after o d e
data_by o d e = grind (arith, nat_tests)

reply_by : (o : Object) (d : List ℕ) (e : Event) → is_right_reply o d e ≡ true
    → answers_of o d (ops_in (e ∷ [])) ≡ acts_in (e ∷ [])
reply_by o d e h = grind (arith, nat_tests)

data_none : (m : Monitor) → state_after m.object m.opening (ops_in []) ≡ data_of m []
unfolding data_of
data_none m = refl

-- the data are the state that the acts lead to, in each history
data_is : (m : Monitor) (h : List Event) → state_after m.object m.opening (ops_in h) ≡ data_of m h
data_is m h =
    history_induction (λ x. state_after m.object m.opening (ops_in x) ≡ data_of m x) (data_none m) (λ x e more.
    ap (λ xs. state_after m.object m.opening xs) (ops-push x e)
    ∙ (fold-append m.object.after m.opening (ops_in x) (ops_in (e ∷ []))
    ∙ (data_by m.object (state_after m.object m.opening (ops_in x)) e
    ∙ (ap (λ d. data_after m.object d e) more
    ∙ sym (data-push m x e))))) h

replies_are : (m : Monitor) (h : List Event) → IsLegal m h → answers_of m.object m.opening (ops_in h) ≡ acts_in h
replies_are m h =
    history_induction (λ x. IsLegal m x → answers_of m.object m.opening (ops_in x) ≡ acts_in x) (λ l. refl)
    (λ x e more l.
    ap (λ xs. answers_of m.object m.opening xs) (ops-push x e)
    ∙ (answered-append m.object m.opening (ops_in x) (ops_in (e ∷ []))
    ∙ (ap (λ acts. acts ++ answers_of m.object (state_after m.object m.opening (ops_in x)) (ops_in (e ∷ [])))
    (more (legal_front m x (e ∷ []) l))
    ∙ (ap (λ d. acts_in x ++ answers_of m.object d (ops_in (e ∷ []))) (data_is m x)
    ∙ (ap (λ acts. acts_in x ++ acts) (reply_by m.object (data_of m x) e ((legal_last m x e l).right_reply))
    ∙ sym (acts-push x e)))))) h

pub acts_are_run : (m : Monitor) (h : List Event) → IsLegal m h → IsRunOf m h
acts_are_run m h l = record { replies = replies_are m h l; leads_to = data_is m h }

-- the monitor over that object
abbrev over : Rules → ℕ → ℕ → ObjectName → ℕ → Monitor
over rules seats conds o size = monitor rules seats conds (meaning_named o) (opening_named o size)

pub in_order : (rules : Rules) (seats conds size : ℕ) (h : List Event)
    → IsLegal (monitor rules seats conds (meaning_named Buffer) (opening_named Buffer size)) h
    → IsInOrder size (data_of (monitor rules seats conds (meaning_named Buffer) (opening_named Buffer size)) h)
    (acts_in h)
in_order rules seats conds size h l =
    let run = acts_are_run (over rules seats conds Buffer size) h l in
    let law = first_in_first_out size (ops_in h) in
    grind (arith, nat_tests)

pub excludes : (rules : Rules) (seats conds size : ℕ) (h : List Event)
    → IsLegal (monitor rules seats conds (meaning_named Book) (opening_named Book size)) h
    → ExcludesEachOther size (data_of (monitor rules seats conds (meaning_named Book) (opening_named Book size)) h)
    (acts_in h)
excludes rules seats conds size h l =
    let run = acts_are_run (over rules seats conds Book size) h l in
    let law = exclusive size (ops_in h) in
    grind (arith, nat_tests)

pub serves_each : (rules : Rules) (seats conds size : ℕ) (h : List Event)
    → IsLegal (monitor rules seats conds (meaning_named Shop) (opening_named Shop size)) h
    → ServesEachOne size (data_of (monitor rules seats conds (meaning_named Shop) (opening_named Shop size)) h)
    (acts_in h)
serves_each rules seats conds size h l =
    let run = acts_are_run (over rules seats conds Shop size) h l in
    let law = customers size (ops_in h) in
    grind (arith, nat_tests)

pub holds_last : (rules : Rules) (seats conds size : ℕ) (h : List Event)
    → IsLegal (monitor rules seats conds (meaning_named Flags) (opening_named Flags size)) h
    → HoldsLastSet size (data_of (monitor rules seats conds (meaning_named Flags) (opening_named Flags size)) h)
    (acts_in h)
holds_last rules seats conds size h l =
    let run = acts_are_run (over rules seats conds Flags size) h l in
    let law = last_set size (ops_in h) in
    grind (arith, nat_tests, in_order)
