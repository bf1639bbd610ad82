-- `boxed` turns the box into a raw pointer, whose value C owns.
use Rattle.std.proofs.Common.{◌≡◌, List, [], ◌∷◌, ◌++◌, Some, refl, sym, ap, ◌∙◌, subst}
use mir.Syntax.{dcons, dnil, a_type, w32, ty_int}
use mir.Raw.{raw as bare}
use mir.MapTy.{inst_fn}
use mir.Val.{Val, vptr, vint, of_z, has_ty, WT}
use lib.Dec.{T as IsT}
use mir.ValLaws.{of_z_fits}
use base.Fraction.{full_share}
use base.Fml.{Incl-refl, ftrue, flft, Lft, Share}
use base.Logic.{SProp, ent, emp, never, id⊢, fst∗}
use prog.Wp.{WpFn}
use types.Logic.{sem}
use types.Kit.{‵, raw, ◌⊛◌, some, later, ◌$◌, ◌∵◌, !, qed, by, move, keep, drop, split, join, fsplit, fjoin}
use types.Kit.{pick, suffices, use0, use1, await, feq_l}
use types.Run.{of_opd, no_more, and_then, returns, enter}
use types.ByLocal.{alloc_all, pass_all, free_all, look_at, get, sets, lands_as}
use types.Part.{agg}
use contract.Monad.{fact, fact_i}
use contract.BorrowLft.{◌⊑◌}
use contract.Running.{tables}
use denote.Builtin.{i32, RawPtr}
use denote.Exit.{no, yes}
use denote.Memory.{lone}
use denote.RattleType.{RattleType, owns}
use denote.RawPtr.{Ptr, block_ptr, null_ptr, ptr_val, in_a_block}
use denote.Signature.{types_at, plain}
use denote.Steps.{nothing, only}
use denote.Param.{bounded, param}
use Rattle.std_alloc.specs.contracts.boxed.Box as Box
use denote.Param.NoDrop as NoDrop
use denote.Triple.Clauses.{Lasts, lasts}
use denote.Triple.Spec.{triple_of}
use denote.Triple.Call.{calls_at}
use denote.Triple.Table.{framed}
use denote.Triple.Walked.{Stays, stay_dropped, Goes-dropped, walk_of}
use Rattle.std.proofs.{alloc.Calls.Goes-blank, raw_atomic.Walks.proved_at, raw_atomic.Walks.leaves}
use Rattle.std_alloc.specs.{Box.Ownership.box_owns}
use Rattle.std_alloc.proofs.BoxSteps.Steps.{box_out, box_in}
use Rattle.std_alloc.proofs.{ResultValues.and_tt, boxed.Box.into_raw.Met.met}
use Rattle.c_calls.proofs.Keeping.{heap_box, word, kept_in}
use Rattle.c_calls.specs.contracts.kept.Kept.boxed.{ended, clauses, Key.name as #self}
use Rattle.c_calls.proofs.{kept.Kept.boxed.Statement.statement}
use Rattle.std_alloc.proofs.BoxSteps.Form as box
use Rattle.std.specs.contracts.alloc.Global as Global
use Rattle.std.proofs.impls.GlobalAllocator.TheImpl.Met as heap
use Rattle.std_alloc.specs.contracts.boxed.Box.into_raw as callee
use Rattle.c_calls.proofs.kept.Kept.boxed.Code as code
use Rattle.c_calls.proofs.Destruct++none.drop.Code as none

pub boxed_spec : {M : Type 1} → statement M
unfolding none.code
boxed_spec {M = M} 𝓤 𝓛 𝓜 𝓡 wired T L dx glue =
    let H = 𝓛.H in let 𝓣 = tables 𝓤 H 𝓜 𝓡 𝓡.env in
    let E = heap_box T L in let A = E.al.row in let LA = E.al.laws in
    let g = E.al.g in let d = E.al.d in let dd = E.al.drops in
    let R : RattleType = param 0 T in let B : RattleType = Box.the_row R Global.the_row g in
    let En = ended T dx in let c = clauses T dx 𝓛 𝓜.mem 𝓡.returns in
    let at = bounded (a_type ∷ []) (T, tt) (dcons dx dnil) in let fn = inst_fn at code.function in
    let hs : Stays En.signature.params En.kept = (
      stay_dropped (plain
          (λ _. i32)) yes,
      (stay_dropped (plain (λ _. B)) no, tt),
    ) in
    proved_at 𝓛 En hs c 𝓜 𝓡 (
      Goes-dropped 𝓛 1 (plain (λ _. i32)) yes
          (λ κs x f. refl),
      (
        Goes-blank 𝓛 1 (plain (λ _. B)) no
            (λ κs x f. tt),
        tt,
      ),
    ) (#self at) fn (code.unfolded 𝓤 H 𝓜 𝓡 wired (T, tt) dx) (λ z are.
    let κ = z.0.0.0 in let q = z.0.1.0 in let n = z.0.3.0 in let v = z.0.3.1.0 in let a = v.alloc in
    let is = are.0 in
    let Post : Val → SProp 𝓤 = (walk_of 𝓛 En hs c).post z in
    let Run : List Val → SProp 𝓤 = λ ws. WpFn 𝓤 H 𝓣.C 𝓣.Λ fn ws Post in
    qed 𝓛 (((‵ (flft κ q) ⊛ ‵ ftrue)
    ⊛ ‵ (owns (types_at En.signature.params z.0.0) z.0.3 z.0.4)) ∷ (raw (fact 𝓤 (κ ⊑ T.lives))
    ⊛ raw (emp 𝓤)) ∷ []) ∵
    split ! $ move ! (1 ∷ []) $ fsplit ! $ drop ! $ fsplit ! $
    box_out E ! v z.0.4.1.0 (λ b o h e ws fits. box_in E ! v b o v.value e refl $
    -- [the box; true; the lifetime tokens; the precondition]
    let w : Val = box.word E h b o in
    let k = triple_of 𝓛 (callee.signature T A g d dd dx) (callee.spec T A g d dd dx 𝓛 𝓜.mem 𝓡.returns) in
    let κs : Lft × (Lft × Unit {0}) = (κ, ([], tt)) in
    let qs : Share × (Share × Unit {0}) = (q, (full_share, tt)) in
    let y : k.Ghost = ((κs, qs, tt, (v, tt), (w ∷ [], tt)), tt) in
    let i : Val = vint w32 (of_z w32 n) in let typed = and_tt _ fits.0 in
    let good_i : IsT (has_ty (ty_int w32) i) × WT i = (tt, of_z_fits w32 n (record { sfits = is.1 })) in
    fjoin ! $ move ! (1 ∷ []) $ split ! $ move ! (1 ∷ []) $
    use0 𝓛 (‵ (flft [] full_share)) (𝓛.lfts.lft-nil full_share) $ join ! $ move ! (1 ∷ 0 ∷ []) $ join ! $
    move ! (0 ∷ 1 ∷ []) $ join ! $ move ! (1 ∷ []) $ split ! $ move ! (1 ∷ []) $
    use0 𝓛 (raw (fact 𝓤 ([] ⊑ A.lives))) (fact_i 𝓤 ([] ⊑ A.lives) (emp 𝓤) (Incl-refl [])) $ join ! $
    move ! (1 ∷ 0 ∷ []) $ join ! $
    move ! (1 ∷ 0 ∷ []) $ join ! $ use1 𝓛 (raw (k.pre y)) (id⊢ 𝓤 _) $
    suffices ! (Run (i ∷ w ∷ [])) (subst (λ (us : List Val). ent 𝓤 (Run (i ∷ w ∷ [])) (Run us)) (sym
    (λ j. is.0 j ++ (ws j ++ []))) (id⊢ 𝓤 (Run (i ∷ w ∷ [])))) $
    enter ! 𝓣.C 𝓣.Λ fn (i ∷ w ∷ []) Post $
    alloc_all ! (λ l. pass_all ! refl (good_i, ((typed, (tt, (fits.1, tt))), tt)) $
    sets ! (of_opd ! (get ! refl)) refl (typed, (tt, (fits.1, tt))) $
    calls_at ! (framed 𝓤 H 𝓜 𝓣) k (met 𝓤 𝓛 𝓜 𝓡
    (code.calls-std_alloc::boxed::Box::into_raw 𝓡.env wired) T A L LA g d dd dx
    (heap.passed 𝓡.env (code.calls-std_heap::GlobalAllocator::allocate 𝓡.env wired)
    (code.calls-std_heap::GlobalAllocator::deallocate 𝓡.env wired)
    (code.calls-std_heap::GlobalAllocator::grow 𝓡.env wired)
    (code.calls-std_heap::GlobalAllocator::shrink 𝓡.env wired) M 𝓤 𝓛 𝓜 𝓡)
    (NoDrop.glues "c_calls::Destruct++none::drop" 𝓡.env
    (code.calls-c_calls::Destruct++none::drop 𝓡.env wired) A LA M 𝓤 𝓛 𝓜 𝓡) glue) y (and_then !
    (get ! refl) (no_more !)) (λ u.
    use1 𝓛 (later (some (λ (r : Ptr). ((‵ (flft κ q) ⊛ ‵ (flft [] full_share) ⊛ ‵ ftrue)
    ⊛ ‵ (RawPtr.own_val r (u ∷ []))) ⊛ some (λ (ls : Lasts (callee.ended T A g d dd dx) κs y.0.3).
    ‵ (lasts (callee.ended T A g d dd dx) κs y.0.3 ls)
    ⊛ ‵ (box_owns (g.dealloc_token a) R r v.value))))) (id⊢ 𝓤 (k.post y u)) $
    await ! tt $ pick ! (λ r. split ! $ move ! (1 ∷ []) $ pick ! (λ _. split ! $ drop ! $
    in_a_block ! r (λ p. box_owns (g.dealloc_token a) R p v.value) (fst∗ 𝓤 (never 𝓤) (sem 𝓛
    (g.dealloc_token a (bare (lone R.mir)) null_ptr))) (λ b' o' e'.
    move ! (1 ∷ []) $ split ! $ move ! (1 ∷ []) $ feq_l ! (λ eu.
    -- [the lifetime tokens; the block]
    lands_as ! (ap only (eu ∙ ap (λ (p : Ptr). ptr_val p ∷ []) e')) refl (tt, tt) $
    sets ! (agg ! (and_then ! (get ! refl) (and_then ! (get ! refl) (no_more !)))) refl (
      tt,
      (
        good_i.1,
        (tt, tt),
      ),
    ) $
    move ! (1 ∷ []) $ kept_in R ! n (block_ptr b' o') (Some v.value) is.1 $
    move ! (1 ∷ []) $ split ! $ move ! (1 ∷ []) $ split ! $ drop ! $ move ! (1 ∷ 0 ∷ []) $ join ! $
    -- [the lifetime tokens; the result]
    use0 𝓛 (raw (fact 𝓤 (Some v.value ≡ Some v.value))) (fact_i 𝓤 (Some v.value ≡ Some v.value)
    (emp 𝓤) refl) $
    use0 𝓛 (raw (fact 𝓤 (n ≡ n))) (fact_i 𝓤 (n ≡ n) (emp 𝓤) refl) $ join ! $
    nothing ! $ nothing ! $ fjoin ! $ nothing ! $ fjoin ! $
    returns ! (look_at ! 0 refl) $ free_all ! refl $ keep ! (2 ∷ 0 ∷ 3 ∷ 1 ∷ []) $
    by ! (leaves 𝓛 En hs c z (word n (vptr b' o'))
    (record { status = n; at = block_ptr b' o'; value = Some v.value }) (tt, (tt, tt)) (
      tt,
      (tt, tt),
    ))))))))))
