-- What the bounds on a kind say about the mode that its rules have
use Rattle.std.proofs.Common.{arith, ◌≡◌, ◌≢◌, true, false, sym, ap, ◌∙◌}
use Rattle.monk_kinds.specs.declared.mode.Mode.{Mode, TheVariants.ImmediateReturn, TheVariants.Automatic}
use Rattle.monk_kinds.specs.declared.mode.Rules.{Rules}
use Rattle.monk_history.specs.Meaning.Events.{has_conditions, has_signaller_queue, returns_at_once}

conditions_of : (m : Mode) → m ≢ Automatic → has_conditions m ≡ true
conditions_of m n = grind (arith)

signallers_of : (m : Mode) → m ≢ Automatic → m ≢ ImmediateReturn → has_signaller_queue m ≡ true
signallers_of m n i = grind (arith)

pub conditional : (k : Rules) (m : Mode) → m ≡ k.mode → m ≢ Automatic → has_conditions k.mode ≡ true
conditional k m is n = ap has_conditions (sym is) ∙ conditions_of m n

pub explicit : (k : Rules) (m : Mode) → m ≡ k.mode → m ≢ Automatic → m ≢ ImmediateReturn
    → has_signaller_queue k.mode ≡ true
explicit k m is n i = ap has_signaller_queue (sym is) ∙ signallers_of m n i

pub immediate : (k : Rules) (m : Mode) → m ≡ k.mode → m ≡ ImmediateReturn → returns_at_once k.mode ≡ true
immediate k m is e = ap returns_at_once (sym is ∙ e)

pub automatic : (k : Rules) (m : Mode) → m ≡ k.mode → m ≡ Automatic → has_conditions k.mode ≡ false
automatic k m is e = ap has_conditions (sym is ∙ e)
