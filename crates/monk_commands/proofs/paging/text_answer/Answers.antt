use Rattle.std.proofs.Common.{◌≡◌, ◌≤◌, List, ℕ, Bool, ltb, Option, Result, arith}
use Rattle.std.proofs.{lemmas.Result.IfOk-weaker, lemmas.Bool.Decides.nat_tests, Common.rules}
use Rattle.monk_draw.specs.{Window.is_behind, declared.window.Window.Window}
use Rattle.monk_history.specs.{Meaning.Named.named_monitor, Text.Reading.History}
use Rattle.monk_history.specs.{declared.text.fault.ReadFault.ReadFault}
use Rattle.monk_object.specs.Names.{most}
use Rattle.monk_audit.specs.Verdict.{verdict_of}
use Rattle.monk_commands.proofs.paging.text_answer.Goals as goal
use Rattle.monk_commands.specs.{Answer.IsReading, Paged.IsReadArticle, declared.paging.Paged.Paged}
use Rattle.monk_commands.specs.{declared.show.HistoryForm.HistoryForm, declared.show.HistoryForm.TheVariants.Article}
use Rattle.monk_commands.specs.Shown.{IsAnsweredBy, IsShown, IsShownAs, last_shown}

-- with status 0 or 1 a history is shown
module _ (f : HistoryForm) (w : Option Window) (x : History) (status : ℕ) (text : List ℕ) (few : status ≤ 1) where
  there : (b : Bool) → is_behind w (last_shown (verdict_of (named_monitor x.0) x.1) x.1) ≡ b
      → IsAnsweredBy f w (verdict_of (named_monitor x.0) x.1) x.0 x.1 status text → IsShownAs f w x.0 x.1 text
  there b is a = grind (arith, nat_tests)

  fits : (b : Bool) → ltb (most x.0.object) x.0.size ≡ b → IsShown f w x status text → IsShownAs f w x.0 x.1 text
  fits b is a = grind (arith, nat_tests)

part_of : (w : Option Window) (p : Paged) (r : Result History ReadFault) (status : ℕ) (text : List ℕ)
    → IsReading (IsShown (Article p.beside) w) r status text → status ≤ 1 → IsReadArticle w p.beside.now r text
part_of w p r status text a few = grind (arith, nat_tests)

pub returns : goal.returns
returns c = search (rules, IfOk-weaker, part_of)
