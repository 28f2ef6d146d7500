use Rattle.std.proofs.Common.{◌≡◌, ◌∙◌, ℕ, List, Option, ap, ap₂, length, string_bytes, arith}
use Rattle.std.proofs.lemmas.{Bool.Decides.nat_tests, Grind.common_steps}
use Rattle.monk_draw.specs.Window.{last_of, not_shown, showable, shown_last}
use Rattle.monk_draw.specs.declared.window.Window.{Window}
use Rattle.monk_history.specs.{Text.Heading, declared.event.Event.Event}
use Rattle.monk_audit.specs.declared.verdict.Verdict.{Verdict}
use Rattle.monk_tell.specs.Told.{account, forbidden_step}
use Rattle.monk_page.proofs.html.article.Goals as goal
use Rattle.monk_page.specs.{Html.window_json, Page.page_json}

-- the data of that span are those of the window
same_data : (h : Heading) (es : List Event) (w : Option Window) (v : Verdict) (fault : Option ℕ) (count before last : ℕ)
    → v ≡ (account h es).verdict → fault ≡ forbidden_step v → count ≡ showable fault (length es)
    → last ≡ shown_last w count → before ≡ not_shown w last
    → page_json h es before last ≡ window_json h es w
same_data h es w v fault count before last is known many shown hidden =
    let end : last ≡ last_of w (forbidden_step (account h es).verdict) es = grind (arith, nat_tests) in
    ap₂ (page_json h es) (hidden ∙ ap (not_shown w) end) end

pub returns-clause-article : goal.returns-clause-article
returns-clause-article c =
    let same = same_data c.args.header.now c.args.events.now c.args.window c.in_ok-verdict.verdict _ _
    c.of-span.result.before c.of-span.result.last c.in_ok-verdict.ensures.verdict c.forbidden_step.ensures
    c.showable.ensures.value c.of-span.ensures.last c.of-span.ensures.before in
    grind (arith, common_steps, string_bytes)
