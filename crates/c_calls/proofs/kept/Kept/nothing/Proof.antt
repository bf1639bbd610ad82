-- `nothing` combines a status and a pointer, and owns no value.
use Rattle.std.proofs.Common.{◌≡◌, List, [], ◌∷◌, ◌++◌, None, refl}
use mir.Syntax.{a_type, dnil, w32, ty_int, ty_ptr}
use mir.MapTy.{inst_fn}
use mir.Val.{Val, vint, of_z, has_ty, WT}
use mir.ValLaws.{of_z_fits}
use lib.Dec.{T as IsT}
use base.Fml.{ftrue, flft}
use base.Logic.{SProp, emp}
use prog.Wp.{WpFn}
use types.Kit.{‵, raw, ◌⊛◌, prop, ◌$◌, ◌∵◌, !, qed, by, move, keep, split, join, fjoin, regoal, use0}
use types.Run.{no_more, and_then, returns, enter}
use types.ByLocal.{alloc_all, pass_all, free_all, look_at, get, sets}
use types.Part.{agg}
use contract.Monad.{fact, fact_i}
use contract.Running.{tables}
use denote.Builtin.{i32, RawPtr}
use denote.Exit.{yes}
use denote.RattleType.{owns}
use denote.RawPtr.{ptr_val, rawptr_Lawful}
use denote.Signature.{types_at, plain}
use denote.Steps.{nothing}
use denote.Param.{bounded, param}
use denote.Triple.Walked.{Stays, stay_dropped, Goes-dropped, walk_of}
use Rattle.std.proofs.raw_atomic.Walks.{proved_at, leaves}
use Rattle.std_alloc.proofs.{ResultValues.and_tt}
use Rattle.c_calls.proofs.{Keeping.word, Keeping.kept_in, kept.Kept.nothing.Statement.statement}
use Rattle.c_calls.specs.contracts.kept.Kept.nothing.{ended, clauses, Key.name as #self}
use Rattle.c_calls.proofs.kept.Kept.nothing.Code as code

pub nothing_spec : {M : Type 1} → statement M
nothing_spec 𝓤 𝓛 𝓜 𝓡 wired T L =
    let H = 𝓛.H in let 𝓣 = tables 𝓤 H 𝓜 𝓡 𝓡.env in
    let En = ended T in let c = clauses T 𝓛 𝓜.mem 𝓡.returns in
    let at = bounded (a_type ∷ []) (T, tt) dnil in let fn = inst_fn at code.function in
    let hs : Stays En.signature.params En.kept = (
      stay_dropped (plain
          (λ _. i32)) yes,
      (stay_dropped (plain (λ _. RawPtr)) yes, tt),
    ) in
    proved_at 𝓛 En hs c 𝓜 𝓡 (
      Goes-dropped 𝓛 1 (plain (λ _. i32)) yes
          (λ κs x f. refl),
      (
        Goes-dropped 𝓛 1 (plain (λ _. RawPtr)) yes
            (λ κs x f. refl),
        tt,
      ),
    ) (#self at) fn (code.unfolded 𝓤 H 𝓜 𝓡 wired (T, tt)) (λ z are.
    let n = z.0.3.0 in let p = z.0.3.1.0 in let is = are.0 in let i : Val = vint w32 (of_z w32 n) in
    let Post : Val → SProp 𝓤 = (walk_of 𝓛 En hs c).post z in
    let good_i : IsT (has_ty (ty_int w32) i) × WT i = (tt, of_z_fits w32 n (record { sfits = is.1 })) in
    let good_p : IsT (has_ty ty_ptr (ptr_val p)) × WT (ptr_val p) = ((rawptr_Lawful 𝓛).typed p (ptr_val p
    ∷ []) refl).0 in
    qed 𝓛 (((‵ (flft z.0.0.0 z.0.1.0) ⊛ ‵ ftrue)
    ⊛ ‵ (owns (types_at En.signature.params z.0.0) z.0.3 z.0.4)) ∷ raw ((c z.0.0 z.0.3).requires z.1)
    ∷ []) ∵ split ! $ keep ! (0 ∷ []) $
    regoal ! (λ (us : List Val). prop (WpFn 𝓤 H 𝓣.C 𝓣.Λ fn us Post)) (λ j. is.0 j ++ (are.1.0 j ++ [])) refl $
    enter ! 𝓣.C 𝓣.Λ fn (i ∷ ptr_val p ∷ []) Post $ alloc_all ! (λ l. pass_all ! refl (good_i, (good_p, tt)) $
    sets ! (agg ! (and_then ! (get ! refl) (and_then ! (get ! refl) (no_more !)))) refl
    (and_tt _ good_p.0, (good_i.1, (good_p.1, tt))) $
    returns ! (look_at ! 0 refl) $ free_all ! refl $
    nothing ! $ kept_in (param 0 T) ! n p None is.1 $
    use0 𝓛 (raw (fact 𝓤 (p ≡ p))) (fact_i 𝓤 (p ≡ p) (emp 𝓤) refl) $
    use0 𝓛 (raw (fact 𝓤 (n ≡ n))) (fact_i 𝓤 (n ≡ n) (emp 𝓤) refl) $ join ! $
    nothing ! $ nothing ! $ fjoin ! $ nothing ! $ fjoin ! $ move ! (3 ∷ 0 ∷ 2 ∷ 1 ∷ []) $
    by ! (leaves 𝓛 En hs c z (word n (ptr_val p)) (record { status = n; at = p; value = None }) (
      tt,
      (tt, tt),
    ) (tt, (tt, tt)))))
