-- What C keeps between calls: the machine values of a `Kept` and a `Handle`, what they own, and C functions
-- that open and close it.
pub use Rattle.std.proofs.Common.{◌≢◌, ℤ, pos, Some, lit<}
pub use base.Fml.{ftrue, fall, fsep}
pub use base.Logic.{SProp, emp, id⊢, sep}
pub use mir.Syntax.{named}
pub use types.Logic.{sem}
pub use types.Kit.{await, split, move, at_ret, by}
pub use denote.Builtin.{usize}
pub use Rattle.std_alloc.proofs.ResultValues.{and_tt}
pub use mir.Val.{vunit}
pub use types.Run.{bin, lit, unit_lit, first, branches, skips, exec, returns_within}
pub use types.ByLocal.{env}
pub use denote.RawPtr.{block_ptr, null_ptr, tests_null}
pub use Rattle.std.proofs.Shapes.{after}
use Rattle.std.proofs.Common.{◌≡◌, ◌<◌, ◌^◌, ℕ, List, [], ◌∷◌, ◌++◌, Option, refl, subst, sym, ap, MutBor}
use Rattle.std.proofs.Common.{◌∙◌}
use seplogic.Ra.Ura.{Ura}
use base.Fml.{fex, Fml, Lft, Share, fauth, fbor, feq, fres, fobor, fobs, flft}
use base.Logic.{all_i, ent, guard_i, snd∗, via, ex, guard, mono_l}
use mir.Raw.{raw as bare}
use mir.Syntax.{impl, tcons, tnil, dnil, w32, Callee, Fn, Lifetime, ty_int, ty_ptr, ty_unit}
use mir.Val.{Val, vint, vptr, vstruct, vcons, vnil, of_list, of_z, hbits, vnull}
use lib.Signed.{mag}
use types.Logic.{Logic}
use types.Kit.{Item, Goal, Seq, Step, step, ‵, given, ◌$◌, ◌∵◌, !, qed, done, drop, learn, use1, fsplit}
use types.Kit.{fjoin, fpick, fpack, feq_i, feq_l, flt_i, Go, raw, ◌⊛◌, later, some, check, frame}
use types.Kit.{fsplit3, join, now, pick, prop, show, suffices, updating, use2, rewrite, use0}
use contract.Monad.{fact_use, fact}
use denote.RattleType.{RattleType, Valss}
use denote.Builtin.{RawPtr, i32, unit}
use denote.Laws.{Is, shows}
use denote.Memory.{lone, cell_at, mem}
use denote.RawPtr.{Ptr, Testable, ptr_val}
use denote.Steps.{nothing, peeks, closes, heard, only, opens, owned}
use denote.Struct.Struct.{within}
use denote.Struct.Owning.{shape}
use Rattle.std.proofs.{GlobalToken.dealloc_token-Testable}
use Rattle.std.specs.{Ptr.points_to, declared.alloc.Global.Global as GlobalValue}
use Rattle.c_calls.specs.Kept.{frees, heap, kept_at, opened_at, owned_at, owned_or_null}
use base.Fraction.{full_share}
use base.Stored.{Gv}
use mir.ValLaws.{of_z_fits}
use prog.Model.{Model}
use prog.Wp.{WpFn}
use contract.Running.{Running, tables_of}
use sound.WpLaws.{WpFn-mono}
use types.SemTy.{Body as Behind}
use denote.Ref.{MutRef}
use denote.Signed.{sint_Makes}
use denote.Triple.Table.{framed}
use Rattle.c_calls.proofs.Borrowing.{CallGives, Exit, Good, Returns, Word, are_values, in_a_row, under}
use Rattle.c_calls.proofs.Borrowing.{values, 𝓣}
use denote.Exit.{no}
use denote.Param.{arg, layout}
use denote.Param.Laws.{Laws, arg_laws}
use Rattle.std_alloc.proofs.BoxSteps.Form as box
use Rattle.std.specs.contracts.impls.GlobalAllocator.TheImpl as TheImpl
use Rattle.std.specs.contracts.alloc.Global as Global
use Rattle.std.proofs.alloc.Global.TheLaws as Global-laws
use Rattle.c_calls.specs.contracts.kept.Handle as Handle
use Rattle.c_calls.specs.contracts.kept.Kept as kept

abbrev pub word : ℤ → Val → Val
word z v = vstruct (vcons (vint w32 (of_z w32 z)) (vcons v vnil))

abbrev pub Fits : ℤ → Type 0
Fits z = mag z < 2 ^ hbits w32

abbrev pub handle_word : ℕ → ℕ → Val → Val
handle_word b o h = vstruct (vcons (vptr b o) (vcons h vnil))

abbrev heap_row : RattleType
heap_row = arg (bare (layout Global.the_row)) no Global.the_row

abbrev pub heap_box : (T : RattleType) → Laws T → box.Bx
heap_box T L = record {
  row = T;
  laws = L;
  al = record {
    row = heap_row;
    laws = arg_laws (bare (layout Global.the_row)) no Global.the_row Global-laws.the_row_laws refl;
    g = TheImpl.ghosts;
    d = TheImpl.dict;
    drops = impl ("c_calls::Destruct++none::drop" ∷ []) (tcons (layout heap_row) tnil) dnil;
  };
}

module _ (R : RattleType) where
  abbrev pub Row : RattleType
  Row = kept.the_row R

  module _ {M : Type 1} {𝓤 : Ura M} {𝓛 : Logic 𝓤} {K : Type 0} {Γ : List (Item 𝓤)} {G : Goal 𝓤 𝓛.H} where
    pub kept_in : K → (z : ℤ) (at : Ptr) (value : Option R.Denot) → Fits z
        → Step K 𝓛 (‵ (Row.own_val (record { status = z; at = at; value = value }) (word z (ptr_val at)
        ∷ [])) ∷ Γ) G (‵ (kept_at R at value) ∷ Γ) G
    kept_in t z at value fits = step (λ s. let v : Val = word z (ptr_val at) in
        nothing t $ feq_i t (List Val) (ptr_val at ∷ []) (ptr_val at ∷ []) refl $ fjoin t $
        flt_i t (mag z) (2 ^ hbits w32) fits $
        feq_i t (List Val) (vint w32 (of_z w32 z) ∷ []) (vint w32 (of_z w32 z) ∷ []) refl $ fjoin t $
        fjoin t $
        feq_i t (List Val) (v ∷ []) (v ∷ []) refl $ fjoin t $
        fpack t (Valss (i32 ∷ RawPtr ∷ [])) (within (shape (kept.the_type R)) (
          z,
          (at, tt),
        ) (v ∷ [])) (vint w32 (of_z w32 z) ∷ [], (ptr_val at ∷ [], tt)) $ fjoin t $ s)

    pub kept_out : K → (d : Row.Denot) (vs : List Val)
        → (vs ≡ word d.status (ptr_val d.at) ∷ [] → Fits d.status
        → Seq K 𝓛 (‵ (kept_at R d.at d.value) ∷ Γ) G)
        → Seq K 𝓛 (‵ (Row.own_val d vs) ∷ Γ) G
    kept_out t d vs k =
        fsplit t $ fpick t (λ vss. fsplit t $ feq_l t (λ ev. fsplit t $
        peeks t i32 (Is i32) (shows 𝓛 i32) d.status vss.0 (λ is. drop t $ fsplit t $ feq_l t (λ ep. drop t $
        k (subst (λ (ps : List Val). vs ≡ vstruct (of_list ((vint w32 (of_z w32 d.status)
        ∷ []) ++ (ps ++ []))) ∷ []) ep (subst
        (λ (ws : List Val). vs ≡ vstruct (of_list (ws ++ (vss.1.0 ++ []))) ∷ []) is.0 ev)) is.1))))

    pub handle_in : K → (g : GlobalValue) (h : Val) (b o : ℕ) (x : R.Denot)
        → Step K 𝓛 (‵ ((Handle.the_row R).own_val (record { at = block_ptr b o; alloc = g; value = x })
        (handle_word b o h ∷ [])) ∷ Γ) G
        (‵ (Global.the_row.own_val g (h ∷ [])) ∷ ‵ (owned_at R (block_ptr b o) x) ∷ Γ) G
    handle_in t g h b o x = step (λ s. let w = handle_word b o h in
        nothing t $ move t (1 ∷ 0 ∷ []) $ fjoin t $
        feq_i t (List Val) (vptr b o ∷ []) (vptr b o ∷ []) refl $ fjoin t $
        feq_i t (List Val) (w ∷ []) (w ∷ []) refl $ fjoin t $
        fpack t (Valss (RawPtr ∷ Global.the_row ∷ [])) (within (shape (Handle.the_type R)) (
          block_ptr b o,
          (((tt, tt), tt), tt),
        ) (w ∷ [])) (vptr b o ∷ [], (h ∷ [], tt)) $ fjoin t $ s)

    -- either the pointer is null and nothing is owned, or it points to an owned value
    pub null_or_owned : K → (p : Ptr) (x : R.Denot) → (p ≡ null_ptr → Seq K 𝓛 Γ G)
        → ((b o : ℕ) → p ≡ block_ptr b o → Testable (block_ptr b o)
        → Seq K 𝓛 (‵ (owned_at R (block_ptr b o) x) ∷ Γ) G)
        → Seq K 𝓛 (‵ (owned_or_null R p x) ∷ Γ) G
    null_or_owned t null_ptr x none some' = drop t $ none refl
    null_or_owned t (block_ptr b o) x none some' =
        let at = block_ptr b o in let F = owned_at R at x in let τ = bare (lone R.mir) in
        use1 𝓛 (given (Testable at) (‵ F)) (fact_use 𝓤 (Testable at)
        (via 𝓤 _ (snd∗ 𝓤 (sem 𝓛 (points_to R at x)) (sem 𝓛 (frees τ at)))
        (dealloc_token-Testable 𝓛 heap τ at))
        (guard_i 𝓤 (Testable at) (sem 𝓛 F))) $ learn t (λ may. some' b o refl may)

  -- if `A` holds, the kept value is one of which `P` holds, and C owns it from then on
  module _ {M : Type 1} {𝓤 : Ura M} (𝓛 : Logic 𝓤) (P : R.Denot → Type 0) (at : Ptr) where
    pub owned_then : (kept : Option R.Denot) (A : Type 0) → (A
        → (x : R.Denot) × P x × (kept ≡ Some x))
        → ent 𝓤 (sem 𝓛 (kept_at R at kept)) (sem 𝓛 (fall A (λ _. opened_at R P at)))
    owned_then kept A known = all_i 𝓤 (λ (e : A). sem 𝓛 (opened_at R P at)) (λ e. let x = known e in
        subst (λ (k : Option R.Denot). ent 𝓤 (sem 𝓛 (kept_at R at k)) (sem 𝓛
        (opened_at R P at))) (sym x.2)
        (qed 𝓛 (‵ (owned_at R at x.0) ∷ []) ∵ fpack ! (P x.0) (λ _. owned_at R at x.0) x.1 $
        fpack ! R.Denot (λ x. fex (P x) (λ _. owned_at R at x)) x.0 $ done !))

-- ---- A C function that opens something makes a call, writes the pointer of what that gives, and returns its
-- status.

abbrev pub last_value : (R : RattleType) → Lft → MutBor R.Denot → R.Denot → Fml
last_value R γ x last = fsep (fres x.ghost_name (R.coded.code last))
    (fbor γ (Behind (mem R) x.ref_ptr.0 x.ref_ptr.1 x.ghost_name))

abbrev pub status_val : ℤ → Val
status_val n = vint w32 (of_z w32 n)

pub status_typed : (n : ℤ) → Fits n → Good (ty_int w32) (status_val n)
status_typed n small = (tt, of_z_fits w32 n (record { sfits = small }))

module _ {M : Type 1} {𝓤 : Ura M} (𝓛 : Logic 𝓤) where
  open 𝓛 use {H}

  abbrev pub CellOf : MutBor Ptr → Ptr → Fml
  CellOf out p = cell_at full_share RawPtr.mir (ptr_val p ∷ []) out.ref_ptr.0 out.ref_ptr.1

  -- one of several formulas, taken out and put back
  taken : (before : List Fml) (F rest : Fml) → ent 𝓤 (sem 𝓛 (under before (fsep F rest))) (sep 𝓤 (sem 𝓛 F)
      (sem 𝓛 (under before rest)))
  taken [] F rest = id⊢ 𝓤 _
  taken (A ∷ As) F rest = qed 𝓛 (‵ (fsep A (under As (fsep F rest))) ∷ []) ∵ fsplit ! $ move ! (1 ∷ []) $
      use1 𝓛 (‵ F ⊛ ‵ (under As rest)) (taken As F rest) $ split ! $ frame ! $ move ! (1 ∷ 0 ∷ []) $
      fjoin ! $ done !

  put_back : (before : List Fml) (F rest : Fml) → ent 𝓤 (sep 𝓤 (sem 𝓛 F) (sem 𝓛 (under before rest)))
      (sem 𝓛 (under before (fsep F rest)))
  put_back [] F rest = id⊢ 𝓤 _
  put_back (A ∷ As) F rest = qed 𝓛 (‵ F ∷ ‵ (fsep A (under As rest)) ∷ []) ∵ move ! (1 ∷ []) $ fsplit ! $
      frame ! $
      move ! (1 ∷ 0 ∷ []) $ use2 𝓛 (‵ (under As (fsep F rest))) (put_back As F rest) $ done !

module _ {M : Type 1} {𝓤 : Ura M} (𝓛 : Logic 𝓤) (𝓜 : Model 𝓤 𝓛.H) (𝓡 : Running 𝓤 𝓛.H 𝓜) (R : RattleType) where
  open 𝓛 use {H}

  -- a call gives Q of what is kept
  abbrev pub KeptGiven : Callee → List Val → SProp 𝓤 → ((Row R).Denot → SProp 𝓤) → Type 2
  KeptGiven f us X Q = CallGives 𝓛 𝓜 𝓡 f us (λ (r : (Row R).Denot) u. (u ≡ word r.status (ptr_val r.at)) ×
      Fits r.status) X
      (λ r u. Q r)

  abbrev pub Wrote : MutBor Ptr → ((Row R).Denot → SProp 𝓤) → Val → SProp 𝓤
  Wrote out Q v = ex 𝓤 (λ (r : (Row R).Denot). guard 𝓤 ((v ≡ status_val r.status) × Fits r.status)
      (sep 𝓤 (sem 𝓛 (CellOf 𝓛 out r.at)) (Q r)))

  pub wrote : (out : MutBor Ptr) (Q : (Row R).Denot → SProp 𝓤) (r : (Row R).Denot) → Fits r.status
      → Seq (Go {0}) 𝓛 (raw (Q r) ∷ ‵ (CellOf 𝓛 out r.at) ∷ []) (prop (Wrote out Q (status_val r.status)))
  wrote out Q r small = show ! (λ (s : (Row R).Denot). guard 𝓤 ((status_val r.status ≡ status_val s.status)
      × Fits s.status)
      (sep 𝓤 (sem 𝓛 (CellOf 𝓛 out s.at)) (Q s))) r $ check ! (refl, small) $ move ! (1 ∷ 0 ∷ []) $ done !

  abbrev pub Writes : Callee → Fn → List Val → List Val → MutBor Ptr → Type 2
  Writes f fn us vs out = (X : SProp 𝓤) (Q : (Row R).Denot → SProp 𝓤) → KeptGiven f us X Q
      → Seq (Go {0}) 𝓛 (later (‵ (CellOf 𝓛 out out.now) ⊛ raw X)
      ∷ []) (prop (WpFn 𝓤 H (𝓣 𝓛 𝓜 𝓡).C (𝓣 𝓛 𝓜 𝓡).Λ fn vs (Wrote out Q)))

  pub owned_now : (P : R.Denot → Type 0) (A : Type 0) (E : SProp 𝓤) (r : (Row R).Denot)
      → (A → r.status ≡ pos 0 → (x : R.Denot) × P x × (r.value ≡ Some x))
      → ent 𝓤 (sep 𝓤 (sep 𝓤 (fact 𝓤 A) E) (sem 𝓛 (kept_at R r.at r.value)))
      (sep 𝓤 (sem 𝓛 (fall (r.status ≡ pos 0) (λ _. opened_at R P r.at))) E)
  owned_now P A E r known = qed 𝓛 ((raw (fact 𝓤 A) ⊛ raw E) ∷ ‵ (kept_at R r.at r.value) ∷ []) ∵ split ! $
      heard ! A (λ is. move ! (1 ∷ []) $ use1 𝓛 (‵ (fall (r.status ≡ pos 0) (λ _. opened_at R P r.at)))
      (owned_then R 𝓛 P r.at r.value (r.status ≡ pos 0) (known is)) $ done !)

  -- ---- the variable of the caller is opened, a call is made, and the variable is closed with the new
  -- pointer
  module _ (ℓ : Lifetime) (γ : Lft) (qγ : Share) (out : MutBor Ptr) where
    abbrev Code : Ptr → Gv
    Code = RawPtr.coded.code

    abbrev Last_out : Ptr → Fml
    Last_out = last_value RawPtr γ out

    abbrev Left_open : Fml
    Left_open = fsep (fobor γ qγ (Behind (mem RawPtr) out.ref_ptr.0 out.ref_ptr.1 out.ghost_name))
        (fsep (fobs out.ghost_name (Code out.now)) (fauth out.ghost_name (Code out.now)))

    abbrev pub KeptExit : {W : Type 0} → Fml → (W → Fml) → ((Row R).Denot → W → SProp 𝓤) → Val → SProp 𝓤
    KeptExit {W} T lasts E v = H.⇛ (ex 𝓤 (λ (r : (Row R).Denot). sep 𝓤 (sep 𝓤 (sem 𝓛 T)
        (sem 𝓛 ((Row R).own_val r (v ∷ [])))) (ex 𝓤 (λ (w : W). sep 𝓤 (sem 𝓛 (lasts w)) (E r w)))))

    abbrev Given : {W : Type 0} → Fml → (W → Fml) → ((Row R).Denot → W → SProp 𝓤) → (Row R).Denot → SProp 𝓤
    Given {W} T lasts E r = sep 𝓤 (sep 𝓤 (sem 𝓛 T) (sep 𝓤 (sem 𝓛 (kept_at R r.at r.value))
        (ex 𝓤 (λ (w : W). sep 𝓤 (sem 𝓛 (lasts w)) (E r w))))) (sem 𝓛 Left_open)

    kept_after : {W : Type 0} (T : Fml) (lasts : W → Fml) (E : (Row R).Denot → W → SProp 𝓤) (u : Val)
        → ent 𝓤 (sep 𝓤 (KeptExit T lasts E u) (sem 𝓛 Left_open)) (H.⇛ (ex 𝓤 (λ (r : (Row R).Denot). guard 𝓤
        ((u ≡ word r.status (ptr_val r.at)) × Fits r.status) (Given T lasts E r))))
    kept_after {W} T lasts E u = qed 𝓛 (later (some (λ (r : (Row R).Denot). (‵ T ⊛ ‵ ((Row R).own_val r (u
        ∷ [])))
        ⊛ some (λ (w : W). ‵ (lasts w) ⊛ raw (E r w)))) ∷ ‵ Left_open ∷ []) ∵
        updating ! $ await ! tt $ pick ! (λ r. split ! $ split ! $ move ! (1 ∷ []) $
        kept_out R ! r (u ∷ []) (λ is small.
        now ! $ show ! (λ (r : (Row R).Denot). guard 𝓤 ((u ≡ word r.status (ptr_val r.at)) × Fits r.status)
        (Given T lasts E r)) r $ check ! (ap only is, small) $ move ! (0 ∷ 2 ∷ []) $ join ! $
        move ! (1 ∷ 0 ∷ []) $
        join ! $ done !))

    abbrev pub Called : List Fml → Fml → List Fml → Fml → SProp 𝓤 → SProp 𝓤
    Called ts t os o P = sep 𝓤 (sep 𝓤 (sem 𝓛 (under ts t)) (sem 𝓛 (under os (fsep
        (feq (List Val) (ptr_val out.now ∷ []) (ptr_val out.now ∷ [])) o)))) P

    opened : (ts : List Fml) (t : Fml) (os : List Fml) (w : List Val) (o : Fml) (P : SProp 𝓤)
        → Seq (Go {0}) 𝓛 ((‵ (under ts (fsep (flft γ qγ) t))
        ⊛ ‵ (under os (fsep ((MutRef ℓ γ RawPtr).own_val out w) o))) ∷ raw P ∷ [])
        (prop (H.⇛ (sep 𝓤 (sem 𝓛 (CellOf 𝓛 out out.now)) (sep 𝓤 (Called ts t os o P) (sem 𝓛 Left_open)))))
    opened ts t os w o P = split ! $ use1 𝓛 (‵ (flft γ qγ) ⊛ ‵ (under ts t)) (taken 𝓛 ts (flft γ qγ) t) $
        split ! $
        move ! (2 ∷ []) $ use1 𝓛 (‵ ((MutRef ℓ γ RawPtr).own_val out w) ⊛ ‵ (under os o))
        (taken 𝓛 os ((MutRef ℓ γ RawPtr).own_val out w) o) $ split ! $ fsplit ! $ drop ! $ fsplit ! $
        updating ! $
        move ! (0 ∷ 1 ∷ 3 ∷ []) $ opens ! tt RawPtr out.ref_ptr.0 out.ref_ptr.1 (λ us. move ! (1 ∷ []) $
        feq_l ! (λ is.
        rewrite ! 0 (λ (us : List Val). ‵ (cell_at full_share RawPtr.mir us out.ref_ptr.0 out.ref_ptr.1)) is
        refl $
        -- [the cell; the open borrow, in three entries; the other parameters; the other tokens; the rest]
        now ! $ frame ! $ move ! (3 ∷ []) $ feq_i ! (List Val) (ptr_val out.now ∷ []) (ptr_val out.now
        ∷ []) refl $
        use2 𝓛 (‵ (under os (fsep (feq (List Val) (ptr_val out.now ∷ []) (ptr_val out.now ∷ [])) o)))
        (put_back 𝓛 os (feq (List Val) (ptr_val out.now ∷ []) (ptr_val out.now ∷ [])) o) $
        move ! (4 ∷ 0 ∷ []) $ join ! $ move ! (0 ∷ 4 ∷ []) $ join ! $ frame ! $ move ! (1 ∷ 2 ∷ []) $
        fjoin ! $
        move ! (1 ∷ 0 ∷ []) $ fjoin ! $ done !))

    module _ {W V : Type 0} (ts : List Fml) (t : Fml) (lasts : V → Fml) (E : ℤ → V → SProp 𝓤)
        (made : W → Ptr → V) (lasts' : W → Fml) (E' : (Row R).Denot → W → SProp 𝓤) (ls : List Fml)
        (l : W → Fml)
        (apart : (w : W) → ent 𝓤 (sem 𝓛 (lasts' w)) (sem 𝓛 (under ls (fsep ftrue (l w)))))
        (together : (w : W) (p : Ptr) → ent 𝓤 (sem 𝓛 (under ls (fsep (Last_out p) (l w))))
        (sem 𝓛 (lasts (made w p))))
        (ensured : (r : (Row R).Denot) (w : W) → ent 𝓤 (sep 𝓤 (E' r w) (sem 𝓛 (kept_at R r.at r.value)))
        (E r.status (made w r.at))) where
      abbrev T : Fml
      T = under ts (fsep (flft γ qγ) t)

      closed : (v : Val) → ent 𝓤 (Wrote out (Given (under ts t) lasts' E') v) (Exit 𝓛 𝓜 𝓡 T lasts E v)
      closed v = qed 𝓛 (some (λ (r : (Row R).Denot). given ((v ≡ status_val r.status) × Fits r.status)
          (‵ (CellOf 𝓛 out r.at) ⊛ ((‵ (under ts t) ⊛ (‵ (kept_at R r.at r.value)
          ⊛ some (λ (w : W). ‵ (lasts' w) ⊛ raw (E' r w)))) ⊛ ‵ Left_open))) ∷ []) ∵
          updating ! $ pick ! (λ r. learn ! (λ is. split ! $ move ! (1 ∷ []) $ split ! $ move ! (1 ∷ []) $
          fsplit3 ! $
          feq_i ! (List Val) (ptr_val r.at ∷ []) (ptr_val r.at ∷ []) refl $ move ! (5 ∷ 0 ∷ 1 ∷ 2 ∷ 3 ∷ []) $
          closes ! tt RawPtr r.at (ptr_val r.at ∷ []) out.ref_ptr.0 out.ref_ptr.1 $
          use1 𝓛 (‵ (fres out.ghost_name (Code r.at))) (𝓛.names.obs-res out.ghost_name (Code r.at)) $
          fjoin ! $
          -- [the last value of the variable; its token; what the call gave]
          move ! (2 ∷ []) $ split ! $ move ! (3 ∷ 0 ∷ []) $ use2 𝓛 (‵ T) (put_back 𝓛 ts (flft γ qγ) t) $
          move ! (1 ∷ []) $ split ! $ move ! (1 ∷ []) $ pick ! (λ w. split ! $
          -- [last values; what is ensured; what is kept; the tokens; the last value of the variable]
          use1 𝓛 (‵ (under ls (fsep ftrue (l w)))) (apart w) $ use1 𝓛 (‵ ftrue ⊛ ‵ (under ls (l w)))
          (taken 𝓛 ls ftrue (l w)) $ split ! $ drop ! $ move ! (4 ∷ 0 ∷ []) $
          use2 𝓛 (‵ (under ls (fsep (Last_out r.at) (l w)))) (put_back 𝓛 ls (Last_out r.at) (l w)) $
          use1 𝓛 (‵ (lasts (made w r.at))) (together w r.at) $
          move ! (1 ∷ 2 ∷ []) $ use2 𝓛 (raw (E r.status (made w r.at))) (ensured r w) $ now ! $
          show ! (λ (z : ℤ). sep 𝓤 (sep 𝓤 (sem 𝓛 T) (sem 𝓛 (i32.own_val z (v ∷ [])))) (ex 𝓤 (λ (w : V).
          sep 𝓤 (sem 𝓛 (lasts w)) (E z w)))) r.status $
          owned ! i32 (Is i32) (sint_Makes 𝓛 w32) r.status (v ∷ []) ((λ j. is.0 j ∷ []), is.1) $
          move ! (3 ∷ 0 ∷ []) $ join ! $ frame ! $
          show ! (λ (w : V). sep 𝓤 (sem 𝓛 (lasts w)) (E r.status w)) (made w r.at) $ move ! (1 ∷ 0 ∷ []) $
          done !)))

      pub opens_out : (os : List Fml) (w : List Val) (o : Fml) (P : SProp 𝓤) (f : Callee) (fn : Fn)
          (given_words words : List Word)
          → ent 𝓤 (Called ts t os o P) ((𝓣 𝓛 𝓜 𝓡).C f (in_a_row given_words)
          (KeptExit (under ts t) lasts' E'))
          → Writes f fn (values given_words) (values words) out
          → Seq (Go {0}) 𝓛 ((‵ T ⊛ ‵ (under os (fsep ((MutRef ℓ γ RawPtr).own_val out w) o))) ∷ raw P ∷ [])
          (prop (WpFn 𝓤 H (𝓣 𝓛 𝓜 𝓡).C (𝓣 𝓛 𝓜 𝓡).Λ fn (in_a_row words) (Exit 𝓛 𝓜 𝓡 T lasts E)))
      unfolding tables_of
      opens_out os w o P f fn given_words words met writes =
          let Q = Given (under ts t) lasts' E' in let tables = 𝓣 𝓛 𝓜 𝓡 in let us = in_a_row given_words in
          let X : SProp 𝓤 = sep 𝓤 (Called ts t os o P) (sem 𝓛 Left_open) in
          let before : Val → SProp 𝓤 = KeptExit (under ts t) lasts' E' in
          let both : Val → SProp 𝓤 = λ u. sep 𝓤 (before u) (sem 𝓛 Left_open) in
          suffices ! (WpFn 𝓤 H tables.C tables.Λ fn (in_a_row words) (Wrote out Q))
          (WpFn-mono 𝓤 H 𝓛.laws (tables_of 𝓤 H 𝓜 tables) fn (in_a_row words) (Wrote out Q)
          (Exit 𝓛 𝓜 𝓡 T lasts E) closed) $
          by ! (via 𝓤 (H.⇛ (sep 𝓤 (sem 𝓛 (CellOf 𝓛 out out.now)) X)) (opened ts t os w o P).prf
          (subst (λ (vs : List Val). ent 𝓤 (H.⇛ (sep 𝓤 (sem 𝓛 (CellOf 𝓛 out out.now)) X))
          (WpFn 𝓤 H tables.C tables.Λ fn vs (Wrote out Q))) (sym (are_values words)) (writes X Q (record {
            given_at = both;
            called = subst (λ (us : List Val). ent 𝓤 X (tables.C f us both)) (are_values given_words)
                (via 𝓤 (sep 𝓤 (tables.C f us before) (sem 𝓛 Left_open)) (mono_l 𝓤 (sem 𝓛 Left_open) met)
                (framed 𝓤 H 𝓜 tables f us before both (sem 𝓛 Left_open) (λ u. id⊢ 𝓤 _)));
            after = kept_after (under ts t) lasts' E';
          })).prf))

-- ---- A C function that closes something makes a handle of a pointer, unless the pointer is null.

abbrev pub null_place : {at : Ptr} {vs : List Val} → vs ≡ ptr_val at ∷ [] → at ≡ null_ptr → Word
null_place {vs = vs} is e = record {
  type = ty_ptr;
  listed = vs;
  value = vnull;
  is = is ∙ ap (λ (p : Ptr). ptr_val p ∷ []) e;
  good = (tt, record { fits = lit< tt });
}

module _ {M : Type 1} {𝓤 : Ura M} (𝓛 : Logic 𝓤) where
  open 𝓛 use {H}

  abbrev pub UnitExit : {W : Type 0} → (W → Fml) → Val → SProp 𝓤
  UnitExit {W} lasts v = H.⇛ (ex 𝓤 (λ (r : Unit {0}). sep 𝓤 (sep 𝓤 (emp 𝓤) (sem 𝓛 (unit.own_val r (v ∷ []))))
      (ex 𝓤 (λ (w : W). sep 𝓤 (sem 𝓛 (lasts w)) (emp 𝓤)))))

  pub returns_unit : {W : Type 0} (lasts : W → Fml) (w : W) → ent 𝓤 (sem 𝓛 (fsep ftrue (fsep ftrue ftrue)))
      (sem 𝓛 (lasts w))
      → ent 𝓤 (emp 𝓤) (UnitExit lasts vunit)
  returns_unit {W} lasts w none = qed 𝓛 [] ∵ updating ! $ now ! $
      show ! (λ (r : Unit {0}). sep 𝓤 (sep 𝓤 (emp 𝓤) (sem 𝓛 (unit.own_val r (vunit ∷ []))))
      (ex 𝓤 (λ (w : W). sep 𝓤 (sem 𝓛 (lasts w)) (emp 𝓤)))) tt $
      feq_i ! (List Val) (vunit ∷ []) (vunit ∷ []) refl $ use0 𝓛 (raw (emp 𝓤)) (id⊢ 𝓤 _) $ join ! $ frame ! $
      show ! (λ (w : W). sep 𝓤 (sem 𝓛 (lasts w)) (emp 𝓤)) w $ use0 𝓛 (raw (emp 𝓤)) (id⊢ 𝓤 _) $
      nothing ! $ nothing ! $ fjoin ! $ nothing ! $ fjoin ! $ use1 𝓛 (‵ (lasts w)) none $ frame ! $ done !

  module _ (𝓜 : Model 𝓤 H) (𝓡 : Running 𝓤 H 𝓜) (R : RattleType) (at : Ptr) (x : R.Denot)
      (g : Global.the_row.Denot) where
    unit_after : {W : Type 0} (lasts : W → Fml) (v : Val)
        → ent 𝓤 (UnitExit lasts v) (H.⇛ (ex 𝓤 (λ (u : Unit {0}). guard 𝓤 (Good ty_unit v) (emp 𝓤))))
    unit_after {W} lasts v = qed 𝓛 (later (some (λ (r : Unit {0}). (raw (emp 𝓤) ⊛ ‵ (unit.own_val r (v ∷ [])))
        ⊛ some (λ (w : W). ‵ (lasts w) ⊛ raw (emp 𝓤)))) ∷ []) ∵ updating ! $ await ! tt $
        pick ! (λ r. split ! $ split ! $
        drop ! $ feq_l ! (λ is. drop ! $ now ! $ show ! (λ (u : Unit {0}). guard 𝓤 (Good ty_unit v)
        (emp 𝓤)) tt $ check ! (subst (Good ty_unit) (sym (ap only is)) (tt, tt)) $
        use0 𝓛 (raw (emp 𝓤)) (id⊢ 𝓤 _) $ done !))

    pub closes_unless_null : (w : List Val) {T : Fml} (heap : Word) {f : Callee} (fn : Fn) (vs : List Val)
        (Q : Val → SProp 𝓤)
        {W : Type 0} (lasts : W → Fml)
        → (at ≡ null_ptr → (ws : List Word) × (vs ≡ in_a_row ws)
        × Seq (Go {0}) 𝓛 [] (prop (WpFn 𝓤 H (𝓣 𝓛 𝓜 𝓡).C (𝓣 𝓛 𝓜 𝓡).Λ fn (values ws) Q)))
        → ((b o : ℕ) → at ≡ block_ptr b o → Testable (block_ptr b o) → (ws : List Word) × (vs ≡ in_a_row ws)
        × ((X : SProp 𝓤) → Returns 𝓛 𝓜 𝓡 f ty_unit (handle_word b o heap.value ∷ []) X (λ v. emp 𝓤)
        → Seq (Go {0}) 𝓛 (raw X ∷ []) (prop (WpFn 𝓤 H (𝓣 𝓛 𝓜 𝓡).C (𝓣 𝓛 𝓜 𝓡).Λ fn (values ws) Q))))
        → ((b o : ℕ) → ent 𝓤 (sep 𝓤 (sep 𝓤 (emp 𝓤) (sem 𝓛 (fsep ((Handle.the_row R).own_val
        (record { at = block_ptr b o; alloc = g; value = x }) (handle_word b o heap.value
        ∷ [])) ftrue))) (emp 𝓤))
        ((𝓣 𝓛 𝓜 𝓡).C f (handle_word b o heap.value ∷ []) (UnitExit lasts)))
        → Seq (Go {0}) 𝓛 ((‵ T ⊛ ‵ (fsep (Global.the_row.own_val g heap.listed)
        (fsep (feq (List Val) w (ptr_val at ∷ []))
        ftrue))) ∷ ‵ (owned_or_null R at x) ∷ []) (prop (WpFn 𝓤 H (𝓣 𝓛 𝓜 𝓡).C (𝓣 𝓛 𝓜 𝓡).Λ fn vs Q))
    closes_unless_null w heap {f} fn vs Q lasts null full met = let tables = 𝓣 𝓛 𝓜 𝓡 in
        let at_values : (us ws : List Val) → us ≡ ws → (X : SProp 𝓤)
        → ent 𝓤 X (WpFn 𝓤 H tables.C tables.Λ fn ws Q)
        → ent 𝓤 X (WpFn 𝓤 H tables.C tables.Λ fn us Q) = λ us ws e X run.
        subst (λ (us : List Val). ent 𝓤 X (WpFn 𝓤 H tables.C tables.Λ fn us Q)) (sym e) run in
        split ! $ drop ! $ fsplit ! $ rewrite ! 0 (λ (us : List Val). ‵ (Global.the_row.own_val g us))
        heap.is refl $
        move ! (1 ∷ []) $ drop ! $ move ! (1 ∷ []) $
        null_or_owned R ! at x (λ e. drop ! $ let n = null e in by ! (at_values vs (values n.0)
        (n.1 ∙ are_values n.0) (emp 𝓤)
        n.2.prf))
        (λ b o e may. move ! (1 ∷ []) $ handle_in R ! g heap.value b o x $
        nothing ! $ move ! (1 ∷ 0 ∷ []) $ fjoin ! $ use0 𝓛 (raw (emp 𝓤)) (id⊢ 𝓤 _) $ join ! $
        use0 𝓛 (raw (emp 𝓤)) (id⊢ 𝓤 _) $ move ! (1 ∷ 0 ∷ []) $ join ! $ let n = full b o e may in
        by ! (at_values vs (values n.0) (n.1 ∙ are_values n.0) _ (n.2 _ (record {
          given_at = UnitExit lasts;
          called = met b o;
          after = unit_after lasts;
        })).prf))
