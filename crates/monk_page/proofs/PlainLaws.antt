-- The data of a page hold no byte that markup reads, and don't nest deeply
use Rattle.std.proofs.Common.{◌≡◌, ℕ, true, List}
use Rattle.monk_history.specs.{Text.Heading, declared.event.Event.Event}
use Rattle.monk_object.specs.declared.name.ObjectName.{ObjectName}
use Rattle.monk_tell.specs.Steps.{ShownStep}
use Rattle.monk_page.proofs.{PlainData.is_plain, PlainData.plain_parts, PlainWords.bare_words}
use Rattle.monk_page.specs.{Kinds.kind_json, Page.page_json, Step.step_json}

step_plain : (o : ObjectName) (s : ShownStep) → is_plain 4 (step_json o s) ≡ true
unfolding step_json
step_plain o s = search (plain_parts, bare_words) depth 20

pub page_plain : (h : Heading) (es : List Event) (before last : ℕ) → is_plain 6 (page_json h es before last) ≡ true
unfolding kind_json
page_plain h es before last = search (plain_parts, bare_words, step_plain) depth 40
