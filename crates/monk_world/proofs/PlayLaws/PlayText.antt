-- The laws of the text of a play: what is read has that text, and what has a text is read from it.
use Rattle.std.specs.Prelude.{nat_le, ◌&&◌, Bool, true}
use Rattle.std.proofs.Common.{◌≡◌, ℕ, ◌≤◌, List, [], ◌∷◌, length, Result, Ok, Err, refl, ap, subst, ◌∙◌, arith}
use Rattle.std.{specs.List.AllByRecursion, specs.Global.Vec, proofs.lemmas.Bool.Decides.nat_tests}
use Rattle.monk_history.proofs.PublicLaws.Formats as formats
use Rattle.monk_history.{specs.declared.text.fault.ReadFault.ReadFault, specs.Text.Heading, specs.Text.Lines.Gives}
use Rattle.monk_history.{specs.Text.Lines.lines_of, specs.Text.Lines.lines_at, proofs.PublicLaws.Formats.IsFormat}
use Rattle.monk_world.proofs.PlayLaws.CommandReading.{FitsVersion, command_takes, command_again}
use Rattle.monk_world.proofs.PlayLaws.PlayHeads.{HeadFits, head_words, head_takes, head_again}
use Rattle.monk_world.proofs.PlayLaws.PlainPlays.{command_are_words, head_are_words}
use Rattle.monk_world.specs.{Records.AreToldIn, StepTable.command_version}
use Rattle.monk_world.specs.declared.{command.Command.Command, play.head.PlayHead.PlayHead}
use Rattle.monk_world.specs.Play.{HasPlayText, CommandFits, command_words, playtext}
use Rattle.monk_world.specs.Play.Reading.{Play, play, play_view, play_head, play_head_at, command_under}
use Rattle.monk_world.specs.Play.Reading.{play_of_reading, play_at}

heads : IsFormat head_words play_head_at HeadFits
heads = record { takes = head_takes; again = head_again; plain = head_are_words; some = λ h. omega arith }

abbrev CommandFitsUnder : PlayHead → ℕ × Command → Type 0
CommandFitsUnder h = FitsVersion h.header.version

commands : (h : PlayHead) → IsFormat command_words (command_under h) (CommandFitsUnder h)
commands h = record {
  takes = command_takes h.header.version;
  again = command_again h.header.version;
  plain = λ m fits. command_are_words m fits.0;
  some = λ m. omega arith;
}

told_both : (a b : Bool) → (a && b) ≡ true → (a ≡ true) × (b ≡ true)
told_both a b h = grind (arith, nat_tests)

-- each command fits the version if each is in range and the version has all
fit_under : (h : PlayHead) (cs : List (ℕ × Command)) → AllByRecursion CommandFits cs → AreToldIn h.header.version cs
    → AllByRecursion (CommandFitsUnder h) cs
fit_under h [] fit told = tt
fit_under h (c ∷ cs) fit told =
    let p = told_both (nat_le (command_version c.1) h.header.version) _ told in ((fit.0, p.0), fit_under h cs fit.1 p.1)

fit_alone : (h : PlayHead) (cs : List (ℕ × Command)) → AllByRecursion (CommandFitsUnder h) cs
    → AllByRecursion CommandFits cs
fit_alone h [] fit = tt
fit_alone h (c ∷ cs) fit = (fit.0.0, fit_alone h cs fit.1)

told_under : (h : PlayHead) (cs : List (ℕ × Command)) → AllByRecursion (CommandFitsUnder h) cs
    → AreToldIn h.header.version cs
told_under h [] fit = refl
told_under h (c ∷ cs) fit = rw (fit.0.1, told_under h cs fit.1) refl

head_fits : (h : Heading) (budget : ℕ) (cs : List (ℕ × Command)) → HasPlayText h budget cs
    → HeadFits (play_head h budget)
head_fits h budget cs has =
    record { header_fits = has.header_fits; some_budget = has.some_budget; budget_fits = has.budget_fits }

pub play_again : (limit : ℕ) (h : Heading) (budget : ℕ) (cs : List (ℕ × Command)) → HasPlayText h budget cs
    → length cs ≤ limit → play_at limit (playtext h budget cs) ≡ Ok (play h budget cs)
play_again limit h budget cs has le =
    ap play_of_reading (formats.text_again head_words play_head_at HeadFits heads command_words command_under
    CommandFitsUnder commands limit (play_head h budget) cs (head_fits h budget cs has)
    (fit_under (play_head h budget) cs has.commands_fit has.told) le)

pub play_one : (h g : Heading) (b c : ℕ) (xs ys : List (ℕ × Command)) → HasPlayText h b xs → HasPlayText g c ys
    → playtext h b xs ≡ playtext g c ys → play h b xs ≡ play g c ys
play_one h g b c xs ys one two same =
    let is = formats.text_one head_words play_head_at HeadFits heads command_words command_under CommandFitsUnder
    commands (play_head h b) (play_head g c) xs ys (head_fits h b xs one)
    (fit_under (play_head h b) xs one.commands_fit one.told) (head_fits g c ys two)
    (fit_under (play_head g c) ys two.commands_fit two.told) same in
    ap (λ (x : PlayHead). play x.header x.budget xs) is.0 ∙ ap (λ (x : List (ℕ × Command)). play g c x) is.1

-- ---- what a function returns

-- a play that was found in the bytes
pub record IsPlay (limit : ℕ) (bytes : List ℕ) (h : Heading) (budget : ℕ) (cs : List (ℕ × Command)) : Type 0 where
  pub has_text : HasPlayText h budget cs
  pub few : length cs ≤ limit
  pub whole : bytes ≡ playtext h budget cs

pub play_read : (limit : ℕ) (bytes : List ℕ) (h : PlayHead) (cs : List (ℕ × Command))
    → lines_at play_head_at command_under limit (lines_of bytes) ≡ Ok (h, cs) → IsPlay limit bytes h.header h.budget cs
play_read limit bytes h cs e =
    let r = formats.text_read head_words play_head_at HeadFits heads command_words command_under CommandFitsUnder
    commands limit bytes h cs e in
    grind (arith, nat_tests, fit_alone, told_under)

-- the same for the play
pub play_found : (limit : ℕ) (bytes : List ℕ) (p : Play) → play_at limit bytes ≡ Ok p → IsPlay limit bytes p.0 p.1 p.2
play_found limit bytes p found = by (lines_at play_head_at command_under limit (lines_of bytes)) refl found
  where
    by : (r : Result (PlayHead × List (ℕ × Command)) ReadFault)
        → lines_at play_head_at command_under limit (lines_of bytes) ≡ r → play_of_reading r ≡ Ok p
        → IsPlay limit bytes p.0 p.1 p.2
    by (Ok x) is e = let same : play x.0.header x.0.budget x.1 ≡ p = cc in
        subst (λ (y : Play). IsPlay limit bytes y.0 y.1 y.2) same (play_read limit bytes x.0 x.1 is)
    by (Err f) is e = absurd cc

pub is_exact : (limit : ℕ) (bytes : List ℕ) (h : PlayHead) (cs : List (ℕ × Command))
    → lines_at play_head_at command_under limit (lines_of bytes) ≡ Ok (h, cs)
    → play_at limit bytes ≡ Ok (play h.header h.budget cs)
is_exact limit bytes h cs e = ap play_of_reading e

pub is_fault : (limit : ℕ) (bytes : List ℕ) (f : ReadFault)
    → lines_at play_head_at command_under limit (lines_of bytes) ≡ Err f → play_at limit bytes ≡ Err f
is_fault limit bytes f e = ap play_of_reading e

pub is_only : (limit : ℕ) (bytes : List ℕ) (r : Result (Heading × ℕ × Vec (ℕ × Command)) ReadFault) (h : Heading)
    (budget : ℕ) (cs : List (ℕ × Command)) → HasPlayText h budget cs → length cs ≤ limit → bytes ≡ playtext h budget cs
    → Gives play_view r (play_at limit bytes) → Gives play_view r (Ok (play h budget cs))
is_only limit bytes r h budget cs has le same given =
    subst (λ (x : Result Play ReadFault). Gives play_view r x)
    (ap (play_at limit) same ∙ play_again limit h budget cs has le) given
