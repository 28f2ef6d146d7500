use Rattle.std.specs.Str.Parse.{ParsesUnsigned, ExplainsUnsignedError, HasUnsignedDigitsIfOk}
use Rattle.clap.specs.Words.{found_of}
use Rattle.monk_commands.proofs.Requests.{number_tried}
use Rattle.monk_commands.proofs.found_words.number_of.Goals as goal

pub returns-in-Ok : goal.returns-in-Ok
returns-in-Ok c =
    number_tried _ (λ bs r. ParsesUnsigned 32 10 bs r × ExplainsUnsignedError 10 bs r × HasUnsignedDigitsIfOk bs r) 32
    c.in-Ok.number c.try_get_one.result c.args.name.now (found_of c.args.matches.now) (λ u x g. g.0) c.in-Ok.is
    c.try_get_one.ensures.none c.try_get_one.ensures.value
