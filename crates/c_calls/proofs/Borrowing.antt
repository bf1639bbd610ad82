-- Borrowing what C keeps: calls, and what they lend.
use Rattle.std.proofs.Common.{◌<◌, ◌^◌, Bool, ℤ, sym, subst, Bor, ◌++◌}
use Rattle.c_calls.specs.File.{IsRobotFor, IsRobotOfSomeFile, site_of}
use Rattle.c_calls.specs.Kept.{Robots, Sites, opened_at, owned_at, owned_or_null}
use Rattle.std.specs.contracts.alloc.Global as Global
use Rattle.std.proofs.alloc.Global.TheLaws as Global-laws
use Rattle.c_calls.proofs.reading.OpenRobot.TheLaws as Robot-laws
use Rattle.c_calls.proofs.reading.OpenSite.TheLaws as Site-laws
use Rattle.c_calls.specs.Kept as kept
use denote.SharingLaws.{contraction}
use denote.Struct.Lending.{lent_at_shr_laws}
use seplogic.Ra.Ura.{Ura}
use lib.Dec.{T as IsT}
use base.Share
use base.Fml.{Fml, Lft, Share, ftrue, fat, fsep, feq, Incl, Incl-refl}
use base.Logic.{SProp, emp, ent, ex, fst∗, snd∗, guard, id⊢, never, sep, via, never_e, wand}
use contract.Monad.{fact_use}
use mir.Syntax.{Callee, Fn, Place, Opd as Operand, Body, Ty, call, named, seq, ty_bool, ty_int, ty_ptr}
use mir.Syntax.{w32, w64}
use mir.Syntax.{addr_of, copy, deref, place as local_place, rv_opd}
use mir.Val.{Val, WT, has_ty, vbool, vint, vptr}
use mir.ValLaws.{of_z_fits}
use prog.Model.{Model}
use prog.Wp.{Closed, Env, WpFn, spot_of}
use contract.Running.{MachineTables, Running, tables, tables_of}
use sound.WpLaws.{WpFn-mono}
use types.Logic.{Logic, sem}
use types.Kit.{⋆, suffices, Goal, Item, Post, Seq, given, later, some, await, check, by, drop, fjoin, frame}
use types.Kit.{fsplit, join, lands, learn, move, now, pick, prop, runs, show, split, updating, use1, use0, Go}
use types.Kit.{use2, assume, fpick}
use types.Run.{Opds, Rv}
use types.ByLocal.{at}
use denote.Builtin.{i32}
use denote.Laws.{Are, Is, Ises, Typed, owns_show, shows, showss}
use denote.Memory.{hidden_shr, shared_of}
use denote.Param.{layout}
use denote.Param.Laws.{param_laws, Laws}
use denote.RattleType.{RattleType}
use denote.RawPtr.{block_ptr, in_a_block, rawptr_Lawful, null_ptr}
use denote.Ref.{ShrRef}
use denote.Slice.{slice_ty, slice_val}
use denote.Steps.{only, peeks}
use denote.Signature.{Signature}
use denote.Triple.Call.{calls_from}
use denote.Triple.Bound.{Bound}
use denote.Triple.Clauses.{Clauses, Ended, at_exit}
use denote.Triple.Entry.{Res, alive, on_entry}
use denote.Triple.Spec.{Meets, Spec, triple_of}
use denote.Triple.Statement.{Contract}
use denote.Triple.Table.{entered, framed}
use base.Fraction.{full_share}
use contract.BorrowLft.{⊑_static}
use types.Tokens.{lft_new, lft_end, bor_new, lent_back}
use denote.Struct.Lending.{Lends-lies}
pub use Rattle.std.proofs.Common.{◌≡◌, ℕ, zero, suc, List, [], ◌∷◌, refl, ap, ◌∙◌}
pub use base.Fml.{flft}
pub use contract.Lifetimes.{Lfts, Shares}
pub use contract.Monad.{fact}
pub use types.Kit.{‵, raw, ◌⊛◌, ◌$◌, ◌∵◌, !, qed, done}
pub use types.Run.{of_opd, addr, load, look, store, assigns, stop, from, fld, hop, no_more, and_then, returns}
pub use types.Run.{enter}
pub use types.ByLocal.{alloc_all, pass_all, free_all, look_at, look_in_at, get, get_in, through, sets}
pub use types.ByLocal.{lands_as}
pub use types.Part.{agg, sub, whole}
pub use denote.RattleType.{owns}
pub use denote.RawPtr.{Ptr, ptr_val}
pub use denote.Signature.{types_at}
pub use denote.Struct.Lending.{lent_at}
pub use denote.Triple.Clauses.{Lasts, lasts}
pub use denote.Triple.Entry.{Args}

-- ---- Borrow, call, return: a C function that borrows a handle makes a call that takes a reference in place
-- of the pointer, with its other arguments unchanged, and returns the call's status.

abbrev pub Good : Ty → Val → Type 0
Good τ v = IsT (has_ty τ v) × WT v

pub record Word : Type 0 where
  pub type : Ty
  pub listed : List Val
  pub value : Val
  pub is : listed ≡ value ∷ []
  pub good : Good type value

abbrev pub values : List Word → List Val
values [] = []
values (w ∷ ws) = w.value ∷ values ws

abbrev pub in_a_row : List Word → List Val
in_a_row [] = []
in_a_row (w ∷ ws) = w.listed ++ in_a_row ws

abbrev pub kinds : List Word → List Ty
kinds [] = []
kinds (w ∷ ws) = w.type ∷ kinds ws

abbrev pub goods : (ws : List Word) → Typed (kinds ws) (values ws)
goods [] = tt
goods (w ∷ ws) = (w.good, goods ws)

pub are_values : (ws : List Word) → in_a_row ws ≡ values ws
are_values [] = refl
are_values (w ∷ ws) = λ j. w.is j ++ are_values ws j

pub pointer_typed : {M : Type 1} {𝓤 : Ura M} (𝓛 : Logic 𝓤) (p : Ptr) → Good ty_ptr (ptr_val p)
pointer_typed 𝓛 p = ((rawptr_Lawful 𝓛).typed p (ptr_val p ∷ []) refl).0

abbrev pub place : {b o : ℕ} {vs : List Val} → vs ≡ vptr b o ∷ [] → Word
place {b} {o} {vs} is = record { type = ty_ptr; listed = vs; value = vptr b o; is = is; good = (tt, tt) }

abbrev pub lent_place : {at : Ptr} {b o : ℕ} {vs : List Val} → vs ≡ ptr_val at
    ∷ [] → at ≡ block_ptr b o → Word
lent_place is e = place (is ∙ ap (λ (p : Ptr). ptr_val p ∷ []) e)

abbrev pub reference : {X : Type 0} → X → ℕ → ℕ → Bor X
reference x b o = record { ref_ptr = (b, o); now = x }

abbrev pub number : {n : ℕ} {vs : List Val} → (vs ≡ vint w64 n ∷ []) × (n < 2 ^ 64) → Word
number {n} {vs} (is, fits) = record {
  type = ty_int w64;
  listed = vs;
  value = vint w64 n;
  is = is;
  good = (tt, record { fits = fits });
}

abbrev pub flag : {b : Bool} {vs : List Val} → vs ≡ vbool b ∷ [] → Word
flag {b} is = record { type = ty_bool; listed = _; value = vbool b; is = is; good = (tt, tt) }

abbrev pub pointer : {M : Type 1} {𝓤 : Ura M} (𝓛 : Logic 𝓤) → Ptr → Word
pointer 𝓛 p = record {
  type = ty_ptr;
  listed = ptr_val p ∷ [];
  value = ptr_val p;
  is = refl;
  good = pointer_typed 𝓛 p;
}

abbrev pub slice : {p : ℕ × ℕ} {n : ℕ} {vs : List Val} {A : Type 0}
    → (vs ≡ slice_val p n ∷ []) × ((n < 2 ^ 64) × A) → Word
slice {p} {n} {vs} (is, (fits, more)) = record {
  type = slice_ty ty_ptr;
  listed = vs;
  value = slice_val p n;
  is = is;
  good = (tt, (tt, (record { fits = fits }, tt)));
}

alone : (τ : Ty) (vs : List Val) → Typed (τ ∷ []) vs → (vs ≡ only vs ∷ []) × Good τ (only vs)
alone τ [] typed = absurd typed
alone τ (v ∷ []) typed = (refl, typed.0)
alone τ (v ∷ w ∷ vs) typed = absurd typed.1

pub heap_typed : {M : Type 1} {𝓤 : Ura M} (𝓛 : Logic 𝓤) (g : Global.the_row.Denot) (vs : List Val)
    → Is Global.the_row g vs
    → (vs ≡ only vs ∷ []) × Good (layout Global.the_row) (only vs)
heap_typed 𝓛 g vs is =
    alone (layout Global.the_row) vs (((param_laws 0 Global.the_row Global-laws.the_row_laws).lawful
    𝓛).typed g vs is)

abbrev pub heap : {M : Type 1} {𝓤 : Ura M} (𝓛 : Logic 𝓤) (g : Global.the_row.Denot) (vs : List Val)
    → Is Global.the_row g vs → Word
heap 𝓛 g vs is = record {
  type = layout Global.the_row;
  listed = vs;
  value = only vs;
  is = (heap_typed 𝓛 g vs is).0;
  good = (heap_typed 𝓛 g vs is).1;
}

-- ---- Steps: the next argument is a local; a local; a reference in a local, taken again

module _ {M : Type 1} {𝓤 : Ura M} {𝓛 : Logic 𝓤} {K : Type 0} {Γ : List (Item 𝓤)} {E : Env 𝓤 𝓛.H} {i : ℕ}
    {s : Share} where
  pub arg : K → {v : Val} {xs : List Operand} {vs : List Val}
      → at 𝓛 i Γ ≡ ‵ (fat s (spot_of 𝓤 𝓛.H E i).0 (spot_of 𝓤 𝓛.H E i).1 zero v) → Opds K 𝓛 Γ E xs vs
      → Opds K 𝓛 Γ E (copy (local_place i []) ∷ xs) (v ∷ vs)
  arg t is more = and_then t (get t is) more

  pub local : K → {v : Val} → at 𝓛 i Γ ≡ ‵ (fat s (spot_of 𝓤 𝓛.H E i).0 (spot_of 𝓤 𝓛.H E i).1 zero v)
      → Rv K 𝓛 Γ E (rv_opd (copy (local_place i []))) v
  local t is = of_opd t (get t is)

  pub again : K → {b o : ℕ} {τ : Ty}
      → at 𝓛 i Γ ≡ ‵ (fat s (spot_of 𝓤 𝓛.H E i).0 (spot_of 𝓤 𝓛.H E i).1 zero (vptr b o))
      → Rv K 𝓛 Γ E (addr_of (local_place i (deref τ ∷ []))) (vptr b o)
  again t is = addr t (through t is (stop t))

-- ---- Formulas.

abbrev pub tokens : (n : ℕ) → Lfts n → Shares n → Fml
tokens zero κs qs = ftrue
tokens (suc n) κs qs = fsep (flft κs.0 qs.0) (tokens n κs.1 qs.1)

abbrev pub under : List Fml → Fml → Fml
under [] F = F
under (A ∷ As) F = fsep A (under As F)

abbrev pub ensured_by : {M : Type 1} {𝓤 : Ura M} (T : Ended) (c : Clauses 𝓤 T)
    (κs : Lfts T.signature.lifetimes) (a : Args T.signature κs) → (c κs a).ghost → Res T.signature κs
    → Lasts T κs a → SProp 𝓤
ensured_by T c κs a g r w = (c κs a).ensures g r (at_exit T κs a w)

module _ {M : Type 1} {𝓤 : Ura M} (𝓛 : Logic 𝓤) where
  open 𝓛 use {H}

  -- on entry: tokens, parameters, what is lent, and what else is required
  abbrev pub context : (R : RattleType) → Ptr → R.Denot → Lft → Share → (S : Signature) → Bound 𝓛 S
      → List (Item 𝓤) → List (Item 𝓤)
  context R at x κ q S y Γ = (‵ (tokens S.lifetimes y.0 y.1) ⊛ ‵ (owns (types_at S.params y.0) y.3 y.4))
      ∷ ‵ (kept.lends R at (κ, q, x)) ∷ Γ

  -- nothing else is required
  pub and_nothing : {i j : Item 𝓤} {G : Goal 𝓤 H} → Seq (Go {0}) 𝓛 (i ∷ j ∷ raw (emp 𝓤) ∷ []) G
      → Seq (Go {0}) 𝓛 (i ∷ j ∷ []) G
  and_nothing s = use0 𝓛 (raw (emp 𝓤)) (id⊢ 𝓤 _) $ move ! (1 ∷ 2 ∷ 0 ∷ []) $ s

  adds : (before : List Fml) (S F F' rest : Fml) → ent 𝓤 (sem 𝓛 F) (sem 𝓛 F')
      → ent 𝓤 (sep 𝓤 (sem 𝓛 S) (sem 𝓛 (under before (fsep F rest))))
      (sem 𝓛 (under before (fsep (fsep F' S) rest)))
  adds [] S F F' rest same = qed 𝓛 (‵ S ∷ ‵ (fsep F rest) ∷ []) ∵ move ! (1 ∷ []) $ fsplit ! $
      use1 𝓛 (‵ F') same $ move ! (0 ∷ 2 ∷ []) $ fjoin ! $ fjoin ! $ done !
  adds (A ∷ As) S F F' rest same = qed 𝓛 (‵ S ∷ ‵ (fsep A (under As (fsep F rest))) ∷ []) ∵ move ! (1 ∷ []) $
      fsplit ! $ frame ! $ move ! (1 ∷ 0 ∷ []) $ use2 𝓛 (‵ (under As (fsep (fsep F' S) rest)))
      (adds As S F F' rest same) $ done !

module _ {M : Type 1} {𝓤 : Ura M} (𝓛 : Logic 𝓤) (𝓜 : Model 𝓤 𝓛.H) (𝓡 : Running 𝓤 𝓛.H 𝓜) where
  open 𝓛 use {H}

  abbrev pub 𝓣 : MachineTables 𝓤 H 𝓜
  𝓣 = tables 𝓤 H 𝓜 𝓡 𝓡.env

  module _ (S : Signature) (c : Spec 𝓤 S) where
    abbrev t : Contract 𝓤
    t = triple_of 𝓛 S c

    -- a proof may use what the parameters' values mean for the machine's
    pub meets : (key : Callee) (fn : Fn) → Closed 𝓤 H 𝓣.C 𝓣.Λ key fn
        → ((z : t.Ghost) → Are (types_at S.params z.0.0) (Ises (types_at S.params z.0.0)) z.0.3 z.0.4
        → ent 𝓤 (t.pre z) (WpFn 𝓤 H 𝓣.C 𝓣.Λ fn (t.args z) (t.post z)))
        → Meets 𝓛 S (𝓣.C key) c
    meets key fn closed walk = entered 𝓤 H t 𝓣.C 𝓣.Λ key fn closed (λ z. let Rs = types_at S.params z.0.0 in
        fact_use 𝓤 (Are Rs (Ises Rs) z.0.3 z.0.4) (via 𝓤 (sem 𝓛 (owns Rs z.0.3 z.0.4))
        (via 𝓤 (on_entry 𝓛 S z.0.0 z.0.1 z.0.3 z.0.4)
        (fst∗ 𝓤 (on_entry 𝓛 S z.0.0 z.0.1 z.0.3 z.0.4) ((c z.0.0 z.0.3).requires z.1))
        (snd∗ 𝓤 (alive 𝓛 S z.0.0 z.0.1) (sem 𝓛 (owns Rs z.0.3 z.0.4))))
        (owns_show 𝓛 Rs (Ises Rs) (showss 𝓛 Rs) z.0.3 z.0.4)) (walk z))

  -- a call at these values gives Q, for some r of which Φ holds with the machine's result
  pub record CallGives (f : Callee) (vs : List Val) {A : Type 0} (Φ : A → Val → Type 0) (X : SProp 𝓤)
      (Q : A → Val → SProp 𝓤) : Type 2 where
    pub given_at : Val → SProp 𝓤
    pub called : ent 𝓤 X (𝓣.C f vs given_at)
    pub after : (v : Val) → ent 𝓤 (given_at v) (H.⇛ (ex 𝓤 (λ (r : A). guard 𝓤 (Φ r v) (Q r v))))

  pub hands_on : {K : Type 0} → K → {E : Env 𝓤 H} {f : Callee} {xs : List Operand} {Γ : List (Item 𝓤)}
      {q : Post 𝓤 H} {d : Place} {rest : Body} {X : SProp 𝓤} {vs : List Val} {A : Type 0}
      {Φ : A → Val → Type 0} {Q : A → Val → SProp 𝓤} → CallGives f vs Φ X Q → Opds K 𝓛 (raw X ∷ Γ) E xs vs
      → ((v : Val) (r : A) → Φ r v → Seq K 𝓛 (raw (Q r v) ∷ Γ) (lands 𝓣.C 𝓣.Λ E d v rest q))
      → Seq K 𝓛 (raw X ∷ Γ) (runs 𝓣.C 𝓣.Λ E (seq (call f xs d) rest) q)
  hands_on t {vs = vs} {A = A} {Φ = Φ} {Q = Q} c opds k = calls_from t (framed 𝓤 H 𝓜 𝓣)
      (raw _) vs c.given_at c.called opds
      (λ v. use1 𝓛 (later (some (λ (r : A). given (Φ r v) (raw (Q r v))))) (c.after v) $ await t tt $
      pick t (λ r. learn t (k v r)))

  abbrev pub Returns : Callee → Ty → List Val → SProp 𝓤 → (Val → SProp 𝓤) → Type 2
  Returns f τ vs X Q = CallGives f vs {A = Unit {0}} (λ r v. Good τ v) X (λ r v. Q v)

  -- the function hands these values on to the call, and returns its result
  abbrev pub HandsOn : Callee → Fn → Ty → List Val → Type 2
  HandsOn f fn τ vs = (X : SProp 𝓤) (Q : Val → SProp 𝓤) → Returns f τ vs X Q
      → Seq (Go {0}) 𝓛 (raw X ∷ []) (prop (WpFn 𝓤 H 𝓣.C 𝓣.Λ fn vs Q))

  -- at the exit: tokens, the status, and what is ensured of the last values
  abbrev pub Exit : {W : Type 0} → Fml → (W → Fml) → (ℤ → W → SProp 𝓤) → Val → SProp 𝓤
  Exit {W} T lasts E v = H.⇛ (ex 𝓤 (λ (r : ℤ). sep 𝓤 (sep 𝓤 (sem 𝓛 T) (sem 𝓛 (i32.own_val r (v ∷ []))))
      (ex 𝓤 (λ (w : W). sep 𝓤 (sem 𝓛 (lasts w)) (E r w)))))

  status_good : {W : Type 0} (T : Fml) (lasts : W → Fml) (E : ℤ → W → SProp 𝓤) (v : Val)
      → ent 𝓤 (Exit T lasts E v) (H.⇛ (ex 𝓤 (λ (u : Unit {0}). guard 𝓤 (Good (ty_int w32) v)
      (Exit T lasts E v))))
  status_good {W} T lasts E v =
      qed 𝓛 (later (some (λ (r : ℤ). (‵ T ⊛ ‵ (i32.own_val r (v ∷ [])))
      ⊛ some (λ (w : W). ‵ (lasts w) ⊛ raw (E r w)))) ∷ []) ∵
      updating ! $ await ! tt $ pick ! (λ r. split ! $ split ! $ move ! (1 ∷ []) $
      peeks ! i32 (Is i32) (shows 𝓛 i32) r (v ∷ []) (λ is. now ! $
      show ! (λ (u : Unit {0}). guard 𝓤 (Good (ty_int w32) v) (Exit T lasts E v)) tt $
      check ! (subst (Good (ty_int w32)) (sym (ap only is.0))
      (tt, of_z_fits w32 r (record { sfits = is.1 }))) $
      updating ! $ now ! $
      show ! (λ (r : ℤ). sep 𝓤 (sep 𝓤 (sem 𝓛 T) (sem 𝓛 (i32.own_val r (v ∷ [])))) (ex 𝓤 (λ (w : W).
      sep 𝓤 (sem 𝓛 (lasts w)) (E r w)))) r $ move ! (1 ∷ 0 ∷ []) $ join ! $ frame ! $ done !))

  pub calls_at_once : {X : List (Item 𝓤)} {f : Callee} (fn : Fn)
      (ws : List Word) {vs : List Val} {W : Type 0} (T : Fml)
      (lasts : W → Fml) (E : ℤ → W → SProp 𝓤) → vs ≡ values ws → ent 𝓤 (⋆ 𝓛 X) (𝓣.C f vs (Exit T lasts E))
      → HandsOn f fn (ty_int w32) (values ws) → Seq (Go {0}) 𝓛 X (prop (WpFn 𝓤 H 𝓣.C 𝓣.Λ fn vs (Exit T lasts
      E)))
  calls_at_once {X} {f} fn ws {vs} T lasts E same met hands = by !
      (subst (λ (us : List Val). ent 𝓤 (⋆ 𝓛 X) (WpFn 𝓤 H 𝓣.C 𝓣.Λ fn us (Exit T lasts E))) (sym same)
      (hands (⋆ 𝓛 X) (Exit T lasts E) (record {
        given_at = Exit T lasts E;
        called = subst (λ (us : List Val). ent 𝓤 (⋆ 𝓛 X) (𝓣.C f us (Exit T lasts E))) same met;
        after = status_good T lasts E;
      })).prf)

  -- ---- the same for a handle
  module _ (R : RattleType) (at : Ptr) (x : R.Denot) (κ : Lft) (q : Share) where
    -- with the token of the reference, which is left of it
    abbrev pub with_token : {W : Type 0} → (ℤ → W → SProp 𝓤) → ℤ → W → SProp 𝓤
    with_token E r w = sep 𝓤 (sem 𝓛 (flft κ q)) (E r w)

    token_back : {W : Type 0} (T : Fml) (lasts : W → Fml) (E : ℤ → W → SProp 𝓤) (v : Val)
        → ent 𝓤 (Exit (fsep (flft κ q) T) lasts E v) (Exit T lasts (with_token E) v)
    token_back {W} T lasts E v = qed 𝓛 (later (some (λ (r : ℤ). (‵ (fsep (flft κ q) T) ⊛ ‵ (i32.own_val r (v
        ∷ [])))
        ⊛ some (λ (w : W). ‵ (lasts w) ⊛ raw (E r w)))) ∷ []) ∵
        updating ! $ await ! tt $ pick ! (λ r. split ! $ split ! $ fsplit ! $ now ! $
        show ! (λ (r : ℤ). sep 𝓤 (sep 𝓤 (sem 𝓛 T) (sem 𝓛 (i32.own_val r (v ∷ [])))) (ex 𝓤 (λ (w : W).
        sep 𝓤 (sem 𝓛 (lasts w)) (with_token E r w)))) r $
        move ! (1 ∷ 2 ∷ []) $ join ! $ frame ! $ move ! (1 ∷ []) $ pick ! (λ w. split ! $
        show ! (λ (w : W). sep 𝓤 (sem 𝓛 (lasts w)) (with_token E r w)) w $ frame ! $ move ! (1 ∷ 0 ∷ []) $
        done !))

    pub lends : (before : List Fml) {T : Fml} (w : List Val) (rest : Fml) {P : SProp 𝓤} (fn : Fn)
        (vs : List Val)
        {W : Type 0} (lasts : W → Fml) (E : ℤ → W → SProp 𝓤)
        → ((b o : ℕ) → at ≡ block_ptr b o → Seq (Go {0}) 𝓛 ((‵ (fsep (flft κ q) T)
        ⊛ ‵ (under before (fsep ((ShrRef (named 0) κ R).own_val (reference x b o) w) rest))) ∷ raw P ∷ [])
        (prop (WpFn 𝓤 H 𝓣.C 𝓣.Λ fn vs (Exit (fsep (flft κ q) T) lasts E))))
        → Seq (Go {0}) 𝓛 ((‵ T ⊛ ‵ (under before (fsep (feq (List Val) w (ptr_val at ∷ [])) rest)))
        ∷ ‵ (kept.lends R at (κ, q, x)) ∷ raw P ∷ [])
        (prop (WpFn 𝓤 H 𝓣.C 𝓣.Λ fn vs (Exit T lasts (with_token E))))
    unfolding tables_of kept.lends
    lends before {T} w rest fn vs lasts E calls = move ! (1 ∷ []) $ fsplit ! $
        in_a_block ! at (λ p. lent_at R p x κ) (fst∗ 𝓤 (never 𝓤) (sem 𝓛 (shared_of R x 0 0 κ))) (λ b o e.
        fsplit ! $ drop ! $ use1 𝓛 (‵ (hidden_shr R κ x b o)) (id⊢ 𝓤 _) $ move ! (2 ∷ []) $ split ! $
        move ! (2 ∷ 1 ∷ []) $
        use2 𝓛 (‵ (under before (fsep ((ShrRef (named 0) κ R).own_val (reference x b o) w) rest)))
        (adds 𝓛 before (hidden_shr R κ x b o) (feq (List Val) w (ptr_val at
        ∷ [])) (feq (List Val) w (vptr b o ∷ [])) rest
        (subst (λ (p : Ptr). ent 𝓤 (sem 𝓛 (feq (List Val) w (ptr_val at ∷ [])))
        (sem 𝓛 (feq (List Val) w (ptr_val p ∷ [])))) e (id⊢ 𝓤 _))) $
        move ! (2 ∷ 1 ∷ []) $ fjoin ! $ join ! $
        suffices ! _ (WpFn-mono 𝓤 H 𝓛.laws (tables_of 𝓤 H 𝓜 𝓣) fn vs (Exit (fsep (flft κ q) T) lasts E)
        (Exit T lasts (with_token E)) (token_back T lasts E)) $ calls b o e)

    pub borrows : (before : List Fml) {T : Fml} (w : List Val) (rest : Fml) {P : SProp 𝓤}
        {f : Callee} (fn : Fn) {W : Type 0} (lasts : W → Fml) (E : ℤ → W → SProp 𝓤) (vs : List Val)
        → ((b o : ℕ) → at ≡ block_ptr b o → (ws : List Word) × (vs ≡ in_a_row ws)
        × HandsOn f fn (ty_int w32) (values ws))
        → ((b o : ℕ) → ent 𝓤 (sep 𝓤 (sep 𝓤 (sem 𝓛 (fsep (flft κ q) T)) (sem 𝓛 (under before
        (fsep ((ShrRef (named 0) κ R).own_val (reference x b o) w) rest)))) P)
        (𝓣.C f vs (Exit (fsep (flft κ q) T) lasts E)))
        → Seq (Go {0}) 𝓛 ((‵ T ⊛ ‵ (under before (fsep (feq (List Val) w (ptr_val at ∷ [])) rest)))
        ∷ ‵ (kept.lends R at (κ, q, x)) ∷ raw P ∷ [])
        (prop (WpFn 𝓤 H 𝓣.C 𝓣.Λ fn vs (Exit T lasts (with_token E))))
    borrows before {T} w rest fn lasts E vs hands met = lends before w rest fn vs lasts E (λ b o e.
        let h = hands b o e in
        calls_at_once fn h.0 (fsep (flft κ q) T) lasts E (h.1 ∙ are_values h.0) (met b o) h.2)

-- ---- What C opens can be lent to calls, and closed when they have ended: what `robots_open` ensures gives
-- what `robots_verdict` requires, and for what that ensures again there is what `robots_close` requires.

-- the value is lent for a lifetime of which the caller has the whole token; for this token the caller gets
-- back what can be closed
abbrev pub Lent : {M : Type 1} {𝓤 : Ura M} (𝓛 : Logic 𝓤) (R : RattleType) → Ptr → R.Denot → ℕ → SProp 𝓤
Lent {𝓤 = 𝓤} 𝓛 R at x α =
    let token : SProp 𝓤 = sem 𝓛 (flft (α ∷ []) full_share) in
    sep 𝓤 (sem 𝓛 (lent_at R at x (α ∷ []))) (sep 𝓤 token
    (wand 𝓤 token (𝓛.H.⇛ (sem 𝓛 (owned_or_null R at x)))))

abbrev pub CanBeLent : {M : Type 1} {𝓤 : Ura M} (𝓛 : Logic 𝓤) (R : RattleType) → (R.Denot → Type 0) → Ptr
    → SProp 𝓤
CanBeLent {𝓤 = 𝓤} 𝓛 R P at =
    𝓛.H.⇛ (ex 𝓤 (λ (x : R.Denot). guard 𝓤 (P x) (ex 𝓤 (Lent 𝓛 R at x))))

module _ {M : Type 1} {𝓤 : Ura M} (𝓛 : Logic 𝓤) where
  module _ (R : RattleType) (L : Laws R) (static : R.lives ≡ []) where
    closable : (at : Ptr) (x : R.Denot) → ent 𝓤 (sem 𝓛 (owned_at R at x)) (sem 𝓛 (owned_or_null R at x))
    closable (block_ptr b o) x = id⊢ 𝓤 _
    closable null_ptr x = qed 𝓛 (‵ (owned_at R null_ptr x) ∷ []) ∵ fsplit ! $ move ! (1 ∷ []) $ drop ! $
        by ! (never_e 𝓤 _)

    within : (κ : Lft) → Incl κ R.lives
    within κ = subst (Incl κ) (sym static) (⊑_static κ)

    can_be_lent : (P : R.Denot → Type 0) (at : Ptr)
        → ent 𝓤 (sem 𝓛 (opened_at R P at)) (CanBeLent 𝓛 R P at)
    can_be_lent P at = qed 𝓛 (‵ (opened_at R P at) ∷ []) ∵ updating ! $ fpick ! (λ x. fpick ! (λ is.
        fsplit ! $ lft_new ! tt (λ α. let κ : Lft = α ∷ [] in move ! (1 ∷ []) $ bor_new ! tt κ $
        move ! (0 ∷ 2 ∷ []) $
        use2 𝓛 (later (‵ (lent_at R at x κ) ⊛ ‵ (flft κ full_share)))
        (Lends-lies 𝓛 R R.lives at x (L.shares 𝓛 x) κ ((κ, full_share) ∷ []) (within κ) (Incl-refl κ)) $
        await ! tt $ split ! $ now ! $ show ! (λ (y : R.Denot). guard 𝓤 (P y) (ex 𝓤 (Lent 𝓛 R at y))) x $
        check ! is $ show ! (Lent 𝓛 R at x) α $ frame ! $ frame ! $ assume ! (‵ (flft κ full_share)) $
        updating ! $ lft_end ! tt $ lent_back ! tt $ now ! $ fjoin ! $ by ! (closable at x))))

  -- what `robots_open` and `robots_site_robot` give
  pub robots_can_be_lent : (P : Robots.Denot → Type 0) (at : Ptr)
      → ent 𝓤 (sem 𝓛 (opened_at Robots P at)) (CanBeLent 𝓛 Robots P at)
  robots_can_be_lent = can_be_lent Robots Robot-laws.the_row_laws refl

  -- what `robots_site_open` gives
  pub sites_can_be_lent : (P : Sites.Denot → Type 0) (at : Ptr)
      → ent 𝓤 (sem 𝓛 (opened_at Sites P at)) (CanBeLent 𝓛 Sites P at)
  sites_can_be_lent = can_be_lent Sites Site-laws.the_row_laws refl

-- What a call requires of a handle suffices for two calls on it at the same time: each gets half of the
-- token, and the halves that both give back are the whole one. So it suffices for any number of calls.
abbrev pub LentToTwoCalls : {M : Type 1} {𝓤 : Ura M} → Logic 𝓤 → RattleType → Type 1
LentToTwoCalls {𝓤 = 𝓤} 𝓛 R = (at : Ptr) (x : R.Denot) (κ : Lft) (q : Share)
    → let one : Share → SProp 𝓤 = λ s. sem 𝓛 (kept.lends R at (κ, s, x)) in
    let token : Share → SProp 𝓤 = λ s. sem 𝓛 (flft κ s) in let l = Share.left q in let r = Share.right q in
    ent 𝓤 (one q) (sep 𝓤 (one l) (sep 𝓤 (one r) (wand 𝓤 (sep 𝓤 (token l) (token r)) (token q))))

module _ {M : Type 1} {𝓤 : Ura M} (𝓛 : Logic 𝓤) where
  lent_twice : (R : RattleType) → Laws R → LentToTwoCalls 𝓛 R
  unfolding kept.lends
  lent_twice R L at x κ q = let l = ‵ (flft κ (Share.left q)) in let r = ‵ (flft κ (Share.right q)) in
      qed 𝓛 (‵ (kept.lends R at (κ, q, x)) ∷ []) ∵ fsplit ! $
      use1 𝓛 (‵ (lent_at R at x κ) ⊛ ‵ (lent_at R at x κ))
      (contraction 𝓛 (lent_at R at x) (lent_at_shr_laws R L.shr_laws at x) κ) $ split ! $ move ! (2 ∷ []) $
      use1 𝓛 (l ⊛ r) (𝓛.lfts.lft_split κ q) $ split ! $ move ! (2 ∷ 0 ∷ []) $ fjoin ! $ frame ! $
      move ! (1 ∷ 0 ∷ []) $ fjoin ! $ frame ! $ assume ! (l ⊛ r) $ by ! (𝓛.lfts.lft_join κ q)

  pub robots_lent_to_two_calls : LentToTwoCalls 𝓛 Robots
  robots_lent_to_two_calls = lent_twice Robots Robot-laws.the_row_laws

  pub sites_lent_to_two_calls : LentToTwoCalls 𝓛 Sites
  sites_lent_to_two_calls = lent_twice Sites Site-laws.the_row_laws

-- and such a robot is one that the calls take
pub calls_take_it : (by_rfc9309 : Bool) (agent file : List ℕ) (x : Robots.Denot)
    → IsRobotFor agent (site_of by_rfc9309 file) x → IsRobotOfSomeFile x
calls_take_it by_rfc9309 agent file x is = (agent, site_of by_rfc9309 file, (by_rfc9309, file, refl), is.1)
