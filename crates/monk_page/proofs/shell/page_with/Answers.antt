use Rattle.monk_page.specs.Html.{page_of}
use Rattle.monk_page.proofs.shell.page_with.Goals as goal

-- (the constants are the same; the proof doesn't look at them)
pub returns : goal.returns
unfolding page_of
returns c = c.format.ensures.ok
