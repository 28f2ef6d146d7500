use Rattle.std.proofs.Common.{rules, ◌≡◌, ℕ, ◌≤◌, true, sym, ap, ◌∙◌, arith}
use Rattle.std.specs.Prelude.{slice_index_or, nat_lt, ◌&&◌, false}
use Rattle.std.proofs.lemmas.{Grind.common_steps, Bool.Decides.nat_tests}
use Rattle.monk_kinds.specs.declared.mode.Rules.{Rules}
use Rattle.monk_object.specs.Object.{Object}
use Rattle.monk_floor.specs.View.{FloorView}
use Rattle.monk_history.specs.Meaning.Counts.{left_of}
use Rattle.monk_world.specs.declared.place.Place.TheVariants as place
use Rattle.monk_world.proofs.WorldLaws as world
use Rattle.monk_world.proofs.world.World.refusal.Goals as goal
use Rattle.monk_world.specs.Telling as telling
use Rattle.monk_world.specs.{declared.command.Command.Command, declared.place.Place.Place, WorldViews.state_of_view}
use Rattle.monk_world.specs.StepTable.{may_be_told, is_call_in_range, is_call_offered, call_of, left_for}

reach : (o : Object) (f : FloorView) (seat : ℕ) (c : Command) (conds codes predicates : ℕ) → nat_lt seat f.seats ≡ true
    → conds ≡ f.conds → o.codes ≡ codes → o.predicates ≡ predicates
    → telling.is_command_in_range conds codes predicates c ≡ true
    → (nat_lt seat f.seats && is_call_in_range o f (call_of seat c)) ≡ true
reach o f seat c conds codes predicates here same_conds same_codes same_predicates fits = grind (arith, nat_tests)

offers : (k : Rules) (i : ℕ) (c : Command) → telling.is_command_offered k.mode c ≡ true
    → is_call_offered k (call_of i c) ≡ true
offers k i c e = grind (arith, nat_tests)

pub returns-then-not-may_be_told : goal.returns-then-not-may_be_told
returns-then-not-may_be_told g c =
    let told : c.may_be_told.result
    ≡ may_be_told (slice_index_or c.self.inside.words.places.items c.args.seat place.Idle) c.args.command =
    c.may_be_told.ensures ∙ ap (λ (p : Place). may_be_told p c.args.command) c.place.ensures in
    let s = state_of_view c.args.self.now in
    let here : nat_lt c.args.seat s.floor.seats ≡ true = grind arith in
    let conds : c.self.inside.conds ≡ s.floor.conds = grind arith in
    let passed : c.is_in_range.result ≡ true = search rules in
    let offered : is_call_offered g.K.Kind.rules (call_of c.args.seat c.args.command) ≡ true = grind arith in
    let no : may_be_told (s.world.place c.args.seat) c.args.command ≡ false = grind (arith, told) in
    world.not_now g.K.Kind.rules g.T.Guarded.meaning s c.args.seat c.args.command
    (reach g.T.Guarded.meaning s.floor c.args.seat c.args.command c.self.inside.conds c.CODES.result c.PREDICATES.result
    here conds (g.T.Guarded.codes ∙ sym c.CODES.ensures) (g.T.Guarded.predicates ∙ sym c.PREDICATES.ensures)
    (sym c.is_in_range.ensures ∙ passed))
    offered no

pub returns : goal.returns
returns g c =
    let told : c.may_be_told.result
    ≡ may_be_told (slice_index_or c.self.inside.words.places.items c.args.seat place.Idle) c.args.command =
    c.may_be_told.ensures ∙ ap (λ (p : Place). may_be_told p c.args.command) c.place.ensures in
    let s = state_of_view c.args.self.now in
    let here : nat_lt c.args.seat s.floor.seats ≡ true = grind arith in
    let conds : c.self.inside.conds ≡ s.floor.conds = grind arith in
    let passed : c.is_in_range.result ≡ true = search rules in
    let open_to : c.is_offered.result ≡ true = search rules in
    let offered : is_call_offered g.K.Kind.rules (call_of c.args.seat c.args.command) ≡ true =
    grind (arith, common_steps, offers, rules) in
    let yes : may_be_told (s.world.place c.args.seat) c.args.command ≡ true = grind (arith, told) in
    let enough : left_for c.args.command ≤ left_of s.floor.budget s.floor.history c.args.seat = grind arith in
    world.not_refused g.K.Kind.rules g.T.Guarded.meaning s c.args.seat c.args.command
    (reach g.T.Guarded.meaning s.floor c.args.seat c.args.command c.self.inside.conds c.CODES.result c.PREDICATES.result
    here conds (g.T.Guarded.codes ∙ sym c.CODES.ensures) (g.T.Guarded.predicates ∙ sym c.PREDICATES.ensures)
    (sym c.is_in_range.ensures ∙ passed))
    offered yes enough
