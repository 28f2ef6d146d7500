use Rattle.monk_draw.specs.Window.{last_of, not_shown}
use Rattle.monk_tell.specs.Told.{account, forbidden_step}
use Rattle.monk_page.proofs.laws.data_are_unbroken.Goals as goal
use Rattle.monk_page.{specs.Html.window_json, proofs.PlainData.value_plain, proofs.PlainLaws.page_plain}

pub returns : goal.returns
returns c h es w =
    let last = last_of w (forbidden_step (account h es).verdict) es in
    (value_plain 6 (window_json h es w) (page_plain h es (not_shown w last) last)).1
