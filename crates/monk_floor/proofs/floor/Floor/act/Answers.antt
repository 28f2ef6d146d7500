use Rattle.std.proofs.Common.{◌<◌, sym, subst}
use Rattle.std.specs.Prelude.{vec_capacity}
use Rattle.monk_history.specs.{Meaning.Monitor.monitor, declared.event.Event.TheVariants.Act}
use Rattle.monk_floor.proofs.floor.Floor.act.Goals as goal
use Rattle.monk_floor.proofs.ChoiceLaws.{kept_act}
use Rattle.monk_floor.proofs.KeptLaws.{is_ready, has_room, kept_push, call_here, left_here}
use Rattle.monk_floor.specs.Kept.{KeepsHistory}

pub note-requires : goal.note-requires
note-requires g c =
    is_ready c.self.invariant g.K.Kind.is_kind (Act c.args.seat c.args.op c.act-reply.result)
    (kept_act c.self.invariant c.args.seat c.args.op c.act-reply.result
    (call_here g.K.Kind.rules g.T.Guarded.meaning c.args.self.now _ (Act c.args.seat c.args.op 0) c.self.view_is
    c.requires.call) c.act-reply.ensures.reply)
    (left_here c.args.self.now _ c.args.seat c.self.view_is c.requires.left)

pub push_reserved-requires : goal.push_reserved-requires
push_reserved-requires g c =
    subst (λ n. n < vec_capacity c.self.inside.history) (sym c.self.inside.history.ok.0)
    (has_room c.self.invariant (Act c.args.seat c.args.op c.act-reply.result)
    (kept_act c.self.invariant c.args.seat c.args.op c.act-reply.result
    (call_here g.K.Kind.rules g.T.Guarded.meaning c.args.self.now _ (Act c.args.seat c.args.op 0) c.self.view_is
    c.requires.call) c.act-reply.ensures.reply)
    (left_here c.args.self.now _ c.args.seat c.self.view_is c.requires.left))

pub invariant_of-self : goal.invariant_of-self
invariant_of-self g c =
    subst (λ es. KeepsHistory
    (monitor g.K.Kind.rules c.self.inside.seats c.self.inside.conds g.T.Guarded.meaning
    (g.T.Guarded.state c.self.inside.opening.value)) c.self.inside.budget es (vec_capacity c.push_reserved.new.self)
    c.note.new.self.queues (g.T.Guarded.state c.act-reply.new.self) c.note.new.self.turn
    c.note.new.self.inside.items c.note.new.self.spent.items c.note.new.self.granted.items c.note.new.self.entered)
    (sym c.push_reserved.ensures.items)
    (kept_push c.self.invariant (Act c.args.seat c.args.op c.act-reply.result)
    (kept_act c.self.invariant c.args.seat c.args.op c.act-reply.result
    (call_here g.K.Kind.rules g.T.Guarded.meaning c.args.self.now _ (Act c.args.seat c.args.op 0) c.self.view_is
    c.requires.call) c.act-reply.ensures.reply)
    (left_here c.args.self.now _ c.args.seat c.self.view_is c.requires.left)
    _ _ _ _ _ _ _ _ c.push_reserved.ensures.capacity c.note.ensures.queues c.act-reply.ensures.state c.note.ensures.turn
    c.note.ensures.inside c.note.ensures.spent c.note.ensures.granted c.note.ensures.entered
    c.note.ensures.granted_seats c.note.ensures.inside_seats c.note.ensures.spent_seats)
