-- `held` lends what is in the place that the pointer names, and the handle follows it: a walk.
use Rattle.std.proofs.Common.{List, [], ◌∷◌, ◌++◌, refl, sym, ap, ◌∙◌, subst}
use Rattle.std.proofs.{raw_atomic.Walks.proved_at, VecSteps.Shapes.after}
use denote.Exit.{no}
use base.Fraction.{full_share}
use base.Logic.{ent, sep, id⊢}
use base.Fml.{GName, Fml, ftrue, flft, fsep}
use mir.Syntax.{named}
use mir.Val.{Val, vptr}
use prog.Wp.{WpFn}
use contract.Running.{tables}
use types.Logic.{sem}
use types.Kit.{‵, raw, later, await, group, ◌⊛◌, some, at_ret, ◌$◌, ◌∵◌, !, qed, by, done, move, keep}
use types.Kit.{use1, pick, split, join, fsplit, fsplit3, fjoin, fpack, rewrite, suffices, frame}
use types.Run.{enter, of_opd, load, stop, fld, addr, first, blocks, exec, returns}
use types.ByLocal.{alloc_all, pass_all, free_all, look_at, get, through, sets, sets_last, env}
use types.Part.{whole, sub, look_in}
use denote.RattleType.{owns}
use denote.Laws.{shows}
use denote.Memory.{mem, cell_at, part_at, part_of}
use denote.RawPtr.{Ptr, lies_at, in_a_block, block_ptr}
use denote.Ref.{MutBor, MutRef, mut_vals}
use denote.Signature.{plain, mut_ref_to}
use denote.Struct.Owning.{shape, to}
use denote.Struct.Struct.{Struct}
use denote.Follow.{follows, Part, lends_Part}
use denote.Steps.{nothing, opens, peeks}
use denote.Triple.Walked.{Stays, walk_of, says, stay_dropped, Goes-spent_ref, ends_at}
use Rattle.monk_c.specs.contracts.handle.MonkSeat.held as f
use Rattle.monk_c.proofs.handle.MonkSeat.held.Code as code
use Rattle.monk_c.proofs.handle.MonkSeat.{held.Statement.statement, TheLaws.lowers}
use Rattle.monk_c.specs.{Lending.with_has, contracts.handle.MonkSeat.the_row as S, contracts.handle.MonkSeat.the_type}
use Rattle.monk_c.specs.{contracts.any_seat.AnySeat.the_row as R}

abbrev stayed : Stays f.ended.signature.params f.ended.kept
stayed = (stay_dropped (mut_ref_to (0 ∷ []) tt (plain (λ _. S))) no, tt)

pub held_spec : {M : Type 1} → statement M
unfolding part_of
held_spec 𝓤 𝓛 𝓜 𝓡 wired =
    let c = f.clauses 𝓛 𝓜.mem 𝓡.returns in let W = walk_of 𝓛 f.ended stayed c in let 𝓣 = tables 𝓤 𝓛.H 𝓜 𝓡 𝓡.env in
    proved_at 𝓛 f.ended stayed c 𝓜 𝓡
    (Goes-spent_ref 𝓛 1 (0 ∷ []) tt (plain (λ _. S)), tt)
    f.Key.name code.function (code.unfolded 𝓤 𝓛.H 𝓜 𝓡 wired) (λ z are.
    let κs = z.0.0 in let qs = z.0.1 in let a = z.0.3 in let m = a.0 in let b = m.ref_ptr.0 in let o = m.ref_ptr.1 in
    let γ = m.ghost_name in let h = m.now in let new = with_has h in
    let y : W.Ghost = ((κs, qs, z.0.2, a, (mut_vals m, tt)), z.1) in
    let Goal : List Val → Type 1 = λ us.
    ent 𝓤 (W.pre ((κs, qs, z.0.2, a, (us, tt)), z.1))
    (WpFn 𝓤 𝓛.H 𝓣.C 𝓣.Λ code.function (us ++ []) (W.post ((κs, qs, z.0.2, a, (us, tt)), z.1))) in
    subst (λ us. Goal us) (sym are.0.0) (
    qed 𝓛 (((‵ (flft κs.0 qs.0) ⊛ ‵ ftrue) ⊛ ‵
    (owns (MutRef (named 0) κs.0 S ∷ []) a (mut_vals m, tt))) ∷ ‵ ftrue ∷ []) ∵
    split ! $ split ! $ move ! (2 ∷ []) $ fsplit ! $ keep ! (0 ∷ 2 ∷ []) $
    enter ! _ _ _ _ _ $ alloc_all ! (λ l. pass_all ! refl ((tt, tt), tt) $
    fsplit3 ! $ move ! (1 ∷ 2 ∷ 3 ∷ []) $ opens ! tt S b o (λ us.
    move ! (1 ∷ []) $ peeks ! S _ (shows 𝓛 S) h us (λ is. fsplit ! $ move ! (1 ∷ []) $
    in_a_block ! h.at (λ p. lies_at R full_share p h.has) (id⊢ 𝓤 _) (λ b' o' e.
    let word = lowers.val_is h us is ∙ ap (λ (p : Ptr). lowers.lowered (record h { at = p }) ∷ []) e in
    let vs = lowers.lowered (record h { at = block_ptr b' o' }) ∷ [] in
    let Had = λ (ws : List Val). ‵ ((Struct (shape the_type)).own_val (to the_type h) ws) in
    let Cell = λ (ws : List Val). ‵ (cell_at full_share S.mir ws b o) in
    rewrite ! 2 Cell word refl $ rewrite ! 1 Had word refl $
    let Rest : Fml = fsep ((Struct (shape the_type)).own_val (to the_type h) vs) (cell_at full_share S.mir vs b o) in
    let back : (w : R.Denot)
    → ent 𝓤 (sep 𝓤 (sem 𝓛 ((mem R).own_at w b' o')) (sem 𝓛 Rest)) (sem 𝓛 ((mem S).own_at (new w) b o)) = λ w.
    qed 𝓛 (‵ (part_at R full_share w b' o') ∷ ‵ Rest ∷ []) ∵ move ! (1 ∷ []) $ fsplit ! $ move ! (2 ∷ []) $
    rewrite ! 0 (λ (p : Ptr). ‵ (lies_at R full_share p w)) (sym e) refl $
    move ! (1 ∷ 0 ∷ []) $ fjoin ! $ move ! (1 ∷ 0 ∷ []) $ fjoin ! $
    fpack ! (List Val) (λ (xs : List Val). fsep (cell_at full_share S.mir xs b o) (S.own_val (new w) xs)) vs $
    done ! in
    let lent : GName → MutBor R.Denot = λ δ. record { ref_ptr = (b', o'); ghost_name = δ; now = h.has } in
    let exits : (δ : GName)
    → ent 𝓤 (Part 𝓛 S R new (named 0) κs.0 qs.0 b o b' o' γ (sem 𝓛 Rest) back h.has δ) (W.post y (vptr b' o'))
    = λ δ.
    qed 𝓛 (‵ ((MutRef (named 0) κs.0 R).own_val (lent δ) (vptr b' o' ∷ [])) ∷ ‵ (flft κs.0 qs.0)
    ∷ ‵ (follows S R γ δ new) ∷ []) ∵
    suffices ! _ (ends_at 𝓛 f.ended stayed c y (vptr b' o') (lent δ) (tt, tt) (tt, tt)) $
    nothing ! $ nothing ! $ fjoin ! $ join ! $ nothing ! $ move ! (2 ∷ 0 ∷ []) $ join ! $ join ! $
    frame ! $ says ! refl $ done ! in
    -- [what is in the place; what the fields own; the handle's cell; the open borrow, in three entries; the
    -- reference's word]
    first ! $ blocks ! $
    sets ! (of_opd ! (load ! (through ! refl (fld ! refl (stop !))) (look_in ! 2 (sub ! 0 refl (whole !)))))
    refl (tt, tt) $
    sets ! (of_opd ! (get ! refl)) refl (tt, tt) $
    sets_last ! (addr ! (through ! refl (stop !))) refl (tt, tt) $
    exec ! 𝓣.C 𝓣.Λ (env code.Mir.locals l) (after 1 (code.function).body) (at_ret _ (W.post y)) $
    sets ! (of_opd ! (get ! refl)) refl (tt, tt) $
    move ! (1 ∷ 2 ∷ []) $ fjoin ! $ move ! (2 ∷ 3 ∷ 4 ∷ 1 ∷ 0 ∷ []) $ group ! 5 $
    use1 𝓛
    (later (some (λ (δ : GName). raw (Part 𝓛 S R new (named 0) κs.0 qs.0 b o b' o' γ (sem 𝓛 Rest) back h.has δ))))
    (lends_Part 𝓛 S R new (named 0) κs.0 qs.0 b o b' o' γ (sem 𝓛 Rest) back (S.coded.code h) (S.coded.code h) h.has) $
    await ! tt $ pick ! (λ δ.
    returns ! (look_at ! 0 refl) $ free_all ! refl $ keep ! (0 ∷ []) $ by ! (exits δ))))))))
