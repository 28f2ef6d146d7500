use Rattle.std.proofs.Common.{◌≡◌, List, refl, rules, subst, sym, arith}
use Rattle.std.proofs.lemmas.{Result.on_ok_weaker, Grind.common_steps}
use Rattle.monk_kinds.specs.declared.name.KindName.{KindName}
use Rattle.monk_audit.specs.Under.{under}
use Rattle.monk_history.specs.{Text.Heading, declared.event.Event.Event}
use Rattle.monk_tell.specs.Told.{account}
use Rattle.monk_page.proofs.kinds.write_kind.Goals as goal
use Rattle.monk_page.specs.Kinds.{kind_json}

-- the answer under a history's own kind is the answer for the history
own_kind : (h : Heading) (es : List Event) (k : KindName) → k ≡ h.kind → account h es ≡ account (under k h) es
own_kind h es k is = subst (λ (l : KindName). account h es ≡ account (under l h) es) (sym is) refl

pub returns : goal.returns
unfolding kind_json
returns c =
    let own : c.args.kind ≡ c.args.told.header.now.kind = search rules in
    grind (arith, common_steps, on_ok_weaker, own_kind)
