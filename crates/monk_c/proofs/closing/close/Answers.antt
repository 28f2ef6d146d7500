use Rattle.std.proofs.Common.{rules}
use Rattle.monk_c.proofs.Closes.{is_closed, is_refused}
use Rattle.monk_c.proofs.closing.close.Goals as goal

pub returns-in-None-clause-refused : goal.returns-in-None-clause-refused
returns-in-None-clause-refused c =
    is_refused c.args.handles.now c.refusal_of_seats.new.handles c.args.by c.index-handles-by.result
    c.come.new.self c.come.result _
    (search rules) (search rules) (search rules) c.come.ensures.same (search rules) c.come.ensures.refused

pub returns-in-None-clause-closed : goal.returns-in-None-clause-closed
returns-in-None-clause-closed c =
    is_closed c.args.handles.now c.refusal_of_seats.new.handles c.args.by c.index-handles-by.result
    c.come.new.self c.come.result _
    (search rules) (search rules) (search rules) c.come.ensures.same (search rules) c.come.ensures.come
