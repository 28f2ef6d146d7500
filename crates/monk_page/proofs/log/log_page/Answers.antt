use Rattle.std.proofs.Common.{◌∙◌, arith}
use Rattle.std.proofs.lemmas.{Result.IfOk-weaker, Grind.common_steps}
use Rattle.monk_page.proofs.log.log_page.Goals as goal
use Rattle.monk_page.proofs.{LogPlain.log_plain, WriteLaws.article_of}
use Rattle.monk_page.specs.{Html.log_end, Html.nothing_told, Log.log_json}

pub returns : goal.returns
unfolding log_end
returns g c =
    let o = g.T.Guarded.meaning in
    let d = g.T.Guarded.state c.args.object in
    let shown = c.args.shown in
    let span = shown.span in
    let one = article_of 5 (log_json c.args.header.now o d shown.run.now shown.lines.now span.before span.last)
    c.new-out.result.writer c.write_log.new.out.writer c.args.picture.now c.as_str.result.now nothing_told _
    c.in_ok-write_log.ensures c.new-out.ensures.tokens c.text.ensures.reads_back
    (log_plain c.args.header.now o d shown.run.now shown.lines.now span.before span.last) (omega arith)
    (c.as_str.ensures.value ∙ c.in_ok-data.ensures.text) (c.as_str-2.ensures.value ∙ c.in_ok-article.ensures) in
    grind (arith, common_steps, IfOk-weaker)
