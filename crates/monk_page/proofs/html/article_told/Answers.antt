use Rattle.std.proofs.Common.{◌∙◌, arith}
use Rattle.std.proofs.lemmas.Result.{IfOk-weaker}
use Rattle.monk_page.proofs.html.article_told.Goals as goal
use Rattle.monk_page.{specs.Page.told_json, proofs.WriteLaws.article_of, proofs.PlainLaws.page_plain}

pub returns : goal.returns
returns c =
    let told = c.args.told in
    IfOk-weaker c.article_around.result _ _
    (λ text. article_of 6 (told_json told) c.new-out.result.writer c.write_page.new.out.writer c.as_str.result.now
    c.as_str-2.result.now c.args.beside.now _ c.in_ok-write_page.ensures c.new-out.ensures.tokens
    c.text.ensures.reads_back (page_plain told.header.now told.events.now told.span.before told.span.last)
    (omega arith) (c.as_str-2.ensures.value ∙ c.in_ok-data.ensures.text))
    c.article_around.ensures
