use Rattle.std.proofs.Common.{ap, rules, sym, subst, ◌∙◌}
use Rattle.monk_c.proofs.seat.Seat.text.Goals as goal
use Rattle.monk_c.proofs.Texts.{is_text}
use Rattle.monk_c.specs.{Stands.At, Stands.IsAtHome, Texts.HasTextAt, Tokens.at_of}

pub returns-in-Ok-clause-text : goal.returns-in-Ok-clause-text
returns-in-Ok-clause-text g c =
    let here = sym c.token.ensures.token ∙ ap at_of c.in-Inside.is in
    subst (λ (x : At). HasTextAt g.K.Kind.NAME c.args.self.now.room x c.into_inner.result.items) (sym here)
    (is_text g.K.Kind.NAME c.args.self.now.room c.in-Inside.active c.header-header.ensures.opening
    (subst (λ (x : At). IsAtHome c.args.self.now.room x) here c.token.ensures.home) c.left.ensures.floor
    g.K.Kind.rules c.header-header.result c.history.result.now c.into_inner.result.items g.K.Kind.are_named
    c.history.ensures.legal c.history.ensures.few
    c.header-header.ensures.header c.history.ensures.history c.in-Ok.ensures.has_text
    (search rules))
