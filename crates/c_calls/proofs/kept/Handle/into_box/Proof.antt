-- `into_box` builds the box again from the raw pointer.
use Rattle.std.proofs.Common.{◌≡◌, List, [], ◌∷◌, ◌++◌, refl, sym, ap, subst}
use lib.Dec.{T as IsT}
use mathlib.Core.Bool.{true, ◌&&◌}
use mir.Syntax.{a_type, dcons, dnil}
use mir.Raw.{raw as bare}
use mir.MapTy.{inst_fn}
use mir.Val.{Val, vptr, vstruct, vcons, vnil, of_list, has_ty, WT}
use base.Fraction.{full_share}
use base.Fml.{Incl-refl, Lft, Share, ftrue, flft}
use base.Logic.{SProp, ent, id⊢, never, fst∗, emp}
use prog.Wp.{WpFn}
use types.Logic.{sem}
use types.Kit.{‵, raw, ◌⊛◌, some, later, at_ret, ◌$◌, ◌∵◌, !, qed, by, move, keep, drop, split, split3, join}
use types.Kit.{fsplit, fjoin, fpick, feq_l, feq_i, pick, suffices, use0, use1, await, rewrite}
use types.Run.{stop, fld, of_opd, no_more, and_then, first, blocks, exec, returns, enter}
use types.ByLocal.{alloc_all, pass_all, free_all, look_at, get, get_in, sets, lands_last, env}
use types.Part.{sub, whole}
use contract.Monad.{fact, fact_i}
use contract.BorrowLft.{◌⊑◌}
use contract.Running.{tables}
use denote.RattleType.{RattleType, owns}
use denote.RawPtr.{Ptr, block_ptr, null_ptr, ptr_val, in_a_block}
use denote.Memory.{lone}
use denote.Signature.{types_at, plain}
use denote.Steps.{nothing, only}
use denote.Param.{bounded, layout, param}
use denote.Param.NoDrop as NoDrop
use denote.Triple.Clauses.{Lasts, lasts}
use denote.Triple.Spec.{triple_of}
use denote.Triple.Call.{calls_at_last}
use denote.Triple.Table.{framed}
use denote.Triple.Walked.{Stays, stay_dropped, walk_of}
use Rattle.std.proofs.{alloc.Calls.Goes-blank, alloc.Calls.handle_tells, Shapes.after}
use Rattle.std.proofs.raw_atomic.Walks.{proved_at, leaves}
use Rattle.std_alloc.specs.{Box.Ownership.box_owns}
use Rattle.std_alloc.proofs.BoxSteps.Steps.{box_out, box_in}
use Rattle.std_alloc.proofs.{ResultValues.and_tt, boxed.Box.from_raw.Met.met}
use Rattle.c_calls.proofs.{Borrowing.Good, Keeping.heap_box, kept.Handle.into_box.Statement.statement}
use Rattle.c_calls.specs.contracts.kept.Handle.into_box.{ended, clauses, Key.name as #self}
use Rattle.std_alloc.proofs.BoxSteps.Form as box
use Rattle.std.proofs.impls.GlobalAllocator.TheImpl.Met as heap
use Rattle.std_alloc.specs.contracts.boxed.Box.from_raw as callee
use Rattle.c_calls.specs.contracts.kept.Handle as Handle
use Rattle.c_calls.proofs.kept.Handle.into_box.Code as code
use Rattle.c_calls.proofs.Destruct++none.drop.Code as none

pub into_box_spec : {M : Type 1} → statement M
unfolding none.code
into_box_spec {M = M} 𝓤 𝓛 𝓜 𝓡 wired T L dx glue =
    let H = 𝓛.H in let 𝓣 = tables 𝓤 H 𝓜 𝓡 𝓡.env in
    let E = heap_box T L in let A = E.al.row in let LA = E.al.laws in
    let g = E.al.g in let d = E.al.d in let dd = E.al.drops in
    let R : RattleType = param 0 T in let B : RattleType = box.B E in
    let En = ended T dx in let c = clauses T dx 𝓛 𝓜.mem 𝓡.returns in
    let at = bounded (a_type ∷ []) (T, tt) (dcons dx dnil) in let fn = inst_fn at code.function in
    let hs : Stays En.signature.params En.kept = (
      stay_dropped (plain (λ _. Handle.the_row R)) En.kept.0,
      tt,
    ) in
    proved_at 𝓛 En hs c 𝓜 𝓡 (
      Goes-blank 𝓛 1 (plain (λ _. Handle.the_row R)) En.kept.0 (λ κs x f. tt),
      tt,
    ) (#self at) fn (code.unfolded 𝓤 H 𝓜 𝓡 wired (T, tt) dx) (λ z are.
    let κ = z.0.0.0 in let q = z.0.1.0 in let v = z.0.3.0 in let a = v.alloc in
    let Post : Val → SProp 𝓤 = (walk_of 𝓛 En hs c).post z in
    let Run : List Val → SProp 𝓤 = λ ws. WpFn 𝓤 H 𝓣.C 𝓣.Λ fn ws Post in
    let κs : Lft × (Lft × Unit {0}) = (κ, ([], tt)) in
    let qs : Share × (Share × Unit {0}) = (q, (full_share, tt)) in
    qed 𝓛 (((‵ (flft κ q) ⊛ ‵ ftrue) ⊛ ‵ (owns (types_at En.signature.params z.0.0) z.0.3 z.0.4))
    ∷ (raw (fact 𝓤 (κ ⊑ T.lives)) ⊛ raw (emp 𝓤)) ∷ []) ∵
    split ! $ move ! (1 ∷ []) $ fsplit ! $
    fsplit ! $ fpick ! (λ vss. fsplit ! $ feq_l ! (λ ev. fsplit ! $ feq_l ! (λ ep. fsplit ! $
    handle_tells E.al ! a vss.1.0 (λ h ea fits. move ! (1 ∷ []) $ drop ! $ move ! (1 ∷ []) $
    in_a_block ! v.at (λ p. box_owns (g.dealloc_token a) R p v.value) (fst∗ 𝓤 (never 𝓤) (sem 𝓛
    (g.dealloc_token a (bare (lone R.mir)) null_ptr))) (λ b o e.
    -- [the block; the allocator; true; the lifetime tokens; the precondition]
    let w : Val = vstruct (vcons (vptr b o) (vcons h vnil)) in
    let ws : z.0.4.0 ≡ w ∷ [] = subst (λ (p : Ptr).
    z.0.4.0 ≡ vstruct (of_list (ptr_val p ∷ h ∷ [])) ∷ []) e
    (subst (λ (ws : List Val). z.0.4.0 ≡ vstruct (of_list (ptr_val v.at ∷ (ws ++ []))) ∷ []) ea
    (subst (λ (ps : List Val). z.0.4.0 ≡ vstruct (of_list (ps ++ (vss.1.0 ++ []))) ∷ []) ep ev)) in
    let typed : IsT (has_ty (layout A) h && true) × WT w = (
      and_tt (has_ty (layout A) h) fits.0,
      (
        tt,
        (fits.1, tt),
      ),
    ) in
    let k = triple_of 𝓛 (callee.signature T A g d dd) (callee.spec T A g d dd 𝓛 𝓜.mem
    𝓡.returns) in
    let y : k.Ghost = ((κs, qs, tt, (a, (block_ptr b o, tt)), (h ∷ [], (vptr b o ∷ [], tt))), v.value)
    in
    move ! (4 ∷ []) $ split ! $ move ! (2 ∷ []) $
    use0 𝓛 (raw (fact 𝓤 ([] ⊑ A.lives))) (fact_i 𝓤 ([] ⊑ A.lives) (emp 𝓤) (Incl-refl [])) $ join ! $
    move ! (1 ∷ 0 ∷ []) $ join ! $ move ! (3 ∷ []) $
    feq_i ! (List Val) (vptr b o ∷ []) (vptr b o ∷ []) refl $ fjoin ! $
    move ! (3 ∷ 0 ∷ []) $ fjoin ! $
    -- [the arguments; the precondition; true; the lifetime tokens]
    move ! (3 ∷ []) $ split ! $ move ! (1 ∷ []) $
    use0 𝓛 (‵ (flft [] full_share)) (𝓛.lfts.lft-nil full_share) $ join ! $ move ! (1 ∷ 0 ∷ []) $ join ! $
    join ! $ join ! $ use1 𝓛 (raw (k.pre y)) (id⊢ 𝓤 _) $
    suffices ! (Run (w ∷ [])) (subst (λ (us : List Val). ent 𝓤 (Run (w ∷ [])) (Run us)) (sym (λ i.
    ws i ++ [])) (id⊢ 𝓤 (Run (w ∷ [])))) $
    enter ! 𝓣.C 𝓣.Λ fn (w ∷ []) Post $ alloc_all ! (λ l. pass_all ! refl (typed, tt) $
    let Ev = env fn.locals l in
    sets ! (of_opd ! (get_in ! (fld ! refl (stop !)) (sub ! 0 refl (whole !)))) refl (tt, tt) $
    sets ! (of_opd ! (get_in ! (fld ! refl (stop !)) (sub ! 1 refl (whole !)))) refl fits $ first ! $
    blocks ! $
    calls_at_last ! (framed 𝓤 H 𝓜 𝓣) k (met 𝓤 𝓛 𝓜 𝓡 (code.calls-std_alloc::boxed::Box::from_raw 𝓡.env
    wired) T A L LA g d dd
    (heap.passed 𝓡.env (code.calls-std_heap::GlobalAllocator::allocate 𝓡.env wired)
    (code.calls-std_heap::GlobalAllocator::deallocate 𝓡.env wired)
    (code.calls-std_heap::GlobalAllocator::grow 𝓡.env wired)
    (code.calls-std_heap::GlobalAllocator::shrink 𝓡.env wired) M 𝓤 𝓛 𝓜 𝓡)
    (NoDrop.glues "c_calls::Destruct++none::drop" 𝓡.env (code.calls-c_calls::Destruct++none::drop
    𝓡.env wired) A LA M 𝓤 𝓛 𝓜 𝓡)) y (and_then ! (get ! refl) (and_then ! (get ! refl)
    (no_more !))) (λ u.
    use1 𝓛 (later (some (λ (r : B.Denot). ((‵ (flft κ q) ⊛ ‵ (flft [] full_share) ⊛
    ‵ ftrue) ⊛ ‵ (B.own_val r (u ∷ []))) ⊛ some (λ (ls : Lasts (callee.ended T A g d dd) κs
    y.0.3). ‵ (lasts (callee.ended T A g d dd) κs y.0.3 ls) ⊛ (raw (fact 𝓤 (r.value ≡ v.value))
    ⊛ raw (fact 𝓤 (r.alloc ≡ a))))))) (id⊢ 𝓤 (k.post y u)) $
    await ! tt $ pick ! (λ r. split ! $ move ! (1 ∷ []) $ pick ! (λ _. split3 ! $ drop ! $
    move ! (2 ∷ []) $ split ! $ split ! $ move ! (1 ∷ []) $ split ! $ drop ! $ move ! (1 ∷ 0 ∷ []) $ join ! $
    -- [the lifetime tokens; the box; the fact about its value; the fact about its allocator; true]
    move ! (1 ∷ []) $
    box_out E ! r (u ∷ []) (λ b' o' h' e' us fits'. box_in E ! r b' o' r.value e' refl $
    rewrite ! 0 (λ (xs : List Val). ‵ (B.own_val r xs)) (sym us) refl $
    let good : Good (layout B) u = subst (Good (layout B)) (sym (ap only us)) (
      and_tt (has_ty (layout A)
          h') fits'.0,
      (tt, (fits'.1, tt)),
    ) in
    lands_last ! refl good $ exec ! 𝓣.C 𝓣.Λ Ev (after 3 fn.body) (at_ret Ev Post) $
    sets ! (of_opd ! (get ! refl)) refl good $ nothing ! $ nothing ! $ fjoin ! $
    returns ! (look_at ! 0 refl) $ free_all ! refl $ keep ! (2 ∷ 0 ∷ 1 ∷ 3 ∷ []) $
    by ! (leaves 𝓛 En hs c z u r (tt, tt) (tt, tt)))))))))))))
