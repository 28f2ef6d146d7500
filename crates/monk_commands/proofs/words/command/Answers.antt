use Rattle.std.proofs.Common.{◌≡◌, ℕ, ◌+◌, ◌<◌, List, length, get_or, drop, add-one, map, arith}
use Rattle.std.{specs.Prelude.fold, proofs.Math.Seq.drop-cons, proofs.lemmas.Grind.common_steps}
use Rattle.clap.specs.Words.{App, Rule, with_rule}
use Rattle.monk_commands.proofs.words.command.Goals as goal
use Rattle.monk_commands.specs.{Request.word_rule, declared.word.Word.Word}

-- with one more word
words_more : (a b new : App) (rule : Rule) (ws : List Word) (i : ℕ) (w : Word) → i < length ws
    → fold with_rule a (map word_rule (drop i ws)) ≡ b → rule ≡ word_rule (get_or ws i w)
    → new ≡ with_rule a rule → fold with_rule new (map word_rule (drop (i + 1) ws)) ≡ b
words_more a b new rule ws i w within so_far r is = rw (is, r, add-one) (rw (drop-cons ws i w within) at so_far)

pub loop-word-preserved : goal.loop-word-preserved
loop-word-preserved c = grind (arith, common_steps)
