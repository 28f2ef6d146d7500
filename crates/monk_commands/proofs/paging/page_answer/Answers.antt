use Rattle.std.proofs.Common.{◌≡◌, ◌+◌, ℕ, suc, arith, rules, subst}
use Rattle.std.{specs.Prelude.string_bytes, proofs.lemmas.Option.slice_get-get_or, proofs.lemmas.Grind.common_steps}
use Rattle.monk_commands.proofs.paging.page_answer.Goals as goal
use Rattle.monk_commands.specs.Paged.{ArePaged}

pub loop-history-init : goal.loop-history-init
loop-history-init c = record { articles = c.new-articles.ensures.bytes; status = omega arith }

pub loop-history-preserved : goal.loop-history-preserved
loop-history-preserved c =
    let at = c.loop-history.history-index in
    let histories = c.args.histories.now in
    let part = string_bytes c.in_ok-answer.answer.text in
    let next : suc at ≡ at + 1 = omega arith in
    record {
      articles = subst (λ (n : ℕ). ArePaged c.args.window histories n (string_bytes c.push_str.new.self)) next
          (record {
            before = string_bytes c.loop-history.articles;
            part = part;
            are = c.loop-history.invariant.articles;
            is_part = grind (arith, common_steps, slice_get-get_or);
            is = grind (arith, common_steps);
          });
      status = search rules;
    }
