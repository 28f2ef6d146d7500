use Rattle.monk_page.specs.Html.{article}
use Rattle.monk_page.proofs.shell.article_around.Goals as goal

-- (the constants are the same; the proof doesn't look at them)
pub returns : goal.returns
unfolding article
returns c = c.format.ensures.ok
