-- Traces grow by a line for each command
use Rattle.std.proofs.Common.{◌≡◌, ℕ, suc, ◌+◌, List, [], ◌∷◌, ◌++◌, refl, sym, ap, subst, ◌∙◌, append_assoc, arith}
use Rattle.std.proofs.{KnownBytes.Appends-trans, lemmas.List.append-nil, lemmas.Bool.Decides.nat_tests}
use Rattle.std.specs.{Prelude.Option, Io.KnownBytes.Appends}
use Rattle.monk_object.specs.declared.name.ObjectName.{ObjectName}
use Rattle.monk_history.specs.Meaning.{Monitor.Monitor, Situation.situation}
use Rattle.monk_tell.specs.declared.place.SeatPlace.{SeatPlace}
use Rattle.monk_world.specs.{State.State, StepTable.IsStep}
use Rattle.monk_world.specs.declared.{answer.Answer.Answer, command.Command.Command}
use Rattle.monk_commands.specs.Traced.{AreTraced, places_text, seat_text, trace_line}

pub places_more : (s : State) (stands : ℕ → SeatPlace) (j : ℕ)
    → places_text s stands (j + 1) ≡ places_text s stands j ++ seat_text s stands j
unfolding places_text
places_more s stands j = let on : j + 1 ≡ suc j = omega arith in ap (λ n. places_text s stands n) on

-- what was on a page, and the seats so far with one more
pub with_seat : (page places seat more : List ℕ) → more ≡ places ++ seat → (page ++ places) ++ seat ≡ page ++ more
with_seat page places seat more is = append_assoc page places seat ∙ ap (λ (all : List ℕ). page ++ all) (sym is)

-- the line of a command comes before those of the commands after it
pub traced_on : (name : ObjectName) (m : Monitor) (before : ℕ) (s : State) (all cs : List (ℕ × Command))
    (c : ℕ × Command) (a : Answer) (u last : State) (rest : List ℕ)
    → all ≡ c ∷ cs → IsStep m.kind m.object s c.0 c.1 a u → AreTraced name m (before + 1) u cs last rest
    → AreTraced name m before s all last
    (trace_line name m (before + 1) c a u (situation m u.floor.history) ++ rest)
traced_on name m before s all cs c a u last rest is step are =
    subst (λ (l : List (ℕ × Command)). AreTraced name m before s l last
    (trace_line name m (before + 1) c a u (situation m u.floor.history) ++ rest)) (sym is)
    (a, (u, (rest, (step, (refl, are)))))

-- what is traced by a text
abbrev pub Tracing : Type 1
Tracing = State → List ℕ → Type 0

-- a part of the lines was written, and the page has more: they come before those that are left
pub record IsOnItsWay (before now : Option (List ℕ)) (page : List ℕ) (Left All : Tracing) : Type 0 where
  pub gone : List ℕ
  pub got : Appends before now gone
  pub on : (last : State) (rest : List ℕ) → Left last rest → All last (gone ++ (page ++ rest))

-- a line comes on the page, and of that a part is written
pub goes_on : (before now later : Option (List ℕ)) (page more sent left line : List ℕ) (Left After All : Tracing)
    → IsOnItsWay before now page Left All → more ≡ page ++ line
    → ((last : State) (rest : List ℕ) → After last rest → Left last (line ++ rest))
    → Appends now later sent → more ≡ sent ++ left → IsOnItsWay before later left After All
goes_on before now later page more sent left line Left After All way is on appends parts =
    grind (arith, nat_tests, Appends-trans, append_assoc)

-- if no command is left, what was written and the page are all lines
pub traced_all : (name : ObjectName) (m : Monitor) (before : ℕ) (last : State) (left : List (ℕ × Command))
    (start now later : Option (List ℕ)) (page : List ℕ) (All : Tracing)
    → left ≡ [] → IsOnItsWay start now page (AreTraced name m before last left) All → Appends now later page
    → (text : List ℕ) × (All last text × Appends start later text)
traced_all name m before last left start now later page All none way appends =
    let none_left : AreTraced name m before last left last [] =
    subst (λ (l : List (ℕ × Command)). AreTraced name m before last l last []) (sym none) (refl, refl) in (
      way.gone ++ page,
      (
        subst (λ (text : List ℕ). All last (way.gone ++ text)) (append-nil page) (way.on last [] none_left),
        Appends-trans start now later way.gone page way.got appends,
      ),
    )
