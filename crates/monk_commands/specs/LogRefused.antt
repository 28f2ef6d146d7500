-- Why a log isn't judged
use Rattle.std.specs.Prelude.{ℕ, Bool, true, false, not, ◌&&◌, ◌++◌, List, Option, Some, None, codes, nat_lt}
use Rattle.std.specs.Prelude.{if◌then◌else◌, length, ◌==◌}
use Rattle.std.specs.List.{list_any}
use Rattle.monk_kinds.specs.Names.{kind_word}
use Rattle.monk_kinds.specs.declared.name.KindName.{KindName}
use Rattle.monk_kinds.specs.declared.name.KindName.TheVariants.{Pb, Npb, Pnb, Npnb, Pqb, Npqb, Pir, Npir, Pis, Npis}
use Rattle.monk_object.specs.Names.{most}
use Rattle.monk_judge.specs.declared.waits_for.WaitsFor.{WaitsFor}
use Rattle.monk_logs.specs.Log.{LogHeading}
use Rattle.monk_logs.specs.declared.text.line.LogLine.{LogLine}
use Rattle.monk_logs.specs.declared.text.line.LogLine.TheVariants.{Enter, Resume, Lapse, Leave, Wait, Signal, Broadcast, Until, Act}
use Rattle.monk_commands.specs.declared.logs.refusal.LogRefusal.{LogRefusal}
use Rattle.monk_commands.specs.declared.logs.refusal.LogRefusal.TheVariants.{TooBig, OtherKind, NoActs}

-- whether the line is an act
abbrev pub is_act : LogLine → Bool
is_act (Enter s) = false
is_act (Resume s) = false
is_act (Lapse s) = false
is_act (Leave s) = false
is_act (Wait s c) = false
is_act (Signal s c) = false
is_act (Broadcast s c) = false
is_act (Until s p) = false
is_act (Act s op r) = true

-- the kind, if it is another than that of a mutex with condition variables
abbrev pub unlike_mesa : KindName → Option KindName
unlike_mesa Pb = Some Pb
unlike_mesa Npb = Some Npb
unlike_mesa Pnb = Some Pnb
unlike_mesa Npnb = None
unlike_mesa Pqb = Some Pqb
unlike_mesa Npqb = Some Npqb
unlike_mesa Pir = Some Pir
unlike_mesa Npir = Some Npir
unlike_mesa Pis = Some Pis
unlike_mesa Npis = Some Npis

-- the kind that is named, if it is such a kind
abbrev pub other_kind : Option KindName → Option KindName
other_kind None = None
other_kind (Some k) = unlike_mesa k

-- the options say what threads wait for, but the log has no act on the object
abbrev pub lacks_acts : List WaitsFor → List LogLine → Bool
lacks_acts means lines = not (length means == 0) && not (list_any is_act lines)

-- the refusal by a kind, or else by the acts
abbrev pub refusal_by : Option KindName → Bool → Option LogRefusal
refusal_by (Some k) lacks = Some (OtherKind k)
refusal_by None lacks = if lacks then Some NoActs else None

-- why the log isn't judged, if it isn't
abbrev pub refusal_of : Option KindName → List WaitsFor → LogHeading → List LogLine → Option LogRefusal
refusal_of k means h lines =
    if nat_lt (most h.object) h.size then Some TooBig else refusal_by (other_kind k) (lacks_acts means lines)

-- the line of a refusal
abbrev pub refusal_line : LogRefusal → List ℕ
refusal_line TooBig = codes "object\n"
refusal_line (OtherKind k) =
    codes "refused, monk complete --kind " ++ (kind_word k ++ codes " judges a log by that kind\n")
refusal_line NoActs = codes "refused, --means asks what the object holds, but the log tells no act on it\n"
