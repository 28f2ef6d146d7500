-- No word of a command or of a play's first line has a byte 32 or 10.
use Rattle.std.proofs.Common.{ℕ, refl, arith}
use Rattle.monk_kinds.specs.declared.mode.Pick.{Pick}
use Rattle.monk_history.proofs.PublicLaws.Texts.{AreWords, IsWord, IsWord-decimal, decimal_word, kind_is_word}
use Rattle.monk_history.proofs.PublicLaws.Texts.{none_newer, object_is_word}
use Rattle.monk_world.specs.declared.command.Command.{Command}
use Rattle.monk_world.specs.declared.command.Command.TheVariants.{Arrive, Look, Out, Peek, Drop, Grant, Act, Leave}
use Rattle.monk_world.specs.declared.command.Command.TheVariants.{Wait, Signal, SignalLeave, Until, SignalAll, SignalWait}
use Rattle.monk_world.specs.declared.play.head.PlayHead.{PlayHead}
use Rattle.monk_world.specs.Play.{pick_word, action_words, command_words, ActionFits, CommandFits}
use Rattle.monk_world.proofs.PlayLaws.PlayHeads.{HeadFits, head_words}
use Rattle.std.proofs.lemmas.Bool.Decides.{nat_tests}

pick_is_word : (p : Pick) → IsWord (pick_word p)
pick_is_word p = grind arith

action_are_words : (c : Command) → ActionFits c → AreWords (action_words c)
action_are_words Arrive fits = refl
action_are_words Look fits = refl
action_are_words Out fits = refl
action_are_words Peek fits = refl
action_are_words Drop fits = refl
action_are_words Grant fits = refl
action_are_words (Act op) fits = rw (decimal_word op.code fits.0, IsWord-decimal op.arg (omega (arith, fits.1))) refl
action_are_words (Leave p) fits = rw (pick_is_word p) refl
action_are_words (Wait c p) fits = rw (decimal_word c fits, pick_is_word p) refl
action_are_words (Signal c p) fits = rw (decimal_word c fits, pick_is_word p) refl
action_are_words (SignalLeave c p) fits = rw (decimal_word c fits, pick_is_word p) refl
action_are_words (Until c p) fits = rw (decimal_word c fits, pick_is_word p) refl
action_are_words (SignalAll c) fits = rw (decimal_word c fits) refl
action_are_words (SignalWait c d p) fits = rw (decimal_word c fits.0, decimal_word d fits.1, pick_is_word p) refl

pub command_are_words : (m : ℕ × Command) → CommandFits m → AreWords (command_words m)
command_are_words m fits = rw (decimal_word m.0 fits.0) (action_are_words m.1 fits.1)

pub head_are_words : (h : PlayHead) → HeadFits h → AreWords (head_words h)
head_are_words h fits =
    let parts = fits.header_fits in
    grind (arith, nat_tests, decimal_word, none_newer, kind_is_word, object_is_word, IsWord-decimal)
