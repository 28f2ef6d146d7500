use Rattle.std.proofs.Common.{◌≡◌, ◌++◌, ◌||◌, drop}
use Rattle.std.specs.Prelude.{string_bytes}
use Rattle.monk_commands.specs.FitAnswered.{fit_lines, fits_some}
use Rattle.monk_commands.proofs.fitting.lines_under.Given as goal

-- the lines of the kinds so far and of those that are left, and whether the events fit one of them
abbrev pub invariant-loop-kind : goal.invariant-loop-kind
invariant-loop-kind l =
    let h = l.history.header.now in
    let es = l.history.events.now in
    record {
      lines : string_bytes l.text ++ fit_lines h es (drop l.kind-index l.kinds) ≡ fit_lines h es l.kinds;
      fits : (l.is_fit || fits_some h es (drop l.kind-index l.kinds)) ≡ fits_some h es l.kinds;
    }
