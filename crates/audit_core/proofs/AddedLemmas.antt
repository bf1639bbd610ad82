-- Warnings that an audit has besides those about its lines, and which of all are reported.
use Rattle.std.proofs.Common.{◌≡◌, ◌∙◌, ◌<◌, ◌+◌, ◌||◌, ℕ, All, Bool, true, false, Contains, List, [], ◌∷◌}
use Rattle.std.proofs.Common.{◌++◌, MatchOption, Option, None, Some, ap, ap₂, append-nil, append_assoc, codes}
use Rattle.std.proofs.Common.{filter, flat_map, if◌then◌else◌, inl, inr, length, option_to_list, refl}
use Rattle.std.proofs.Common.{slice_index_or, sym, take}
use Rattle.std.proofs.lemmas.Bool.{cases_Bool, false≢true}
use Rattle.std.proofs.lemmas.List.{Concat.flat_map-append, map-append, take_more}
use Rattle.std.proofs.lemmas.List.Elements.{All-append, All-cons, All-filter, All-head, All-nil, All-tail}
use Rattle.std.proofs.lemmas.List.Elements.{All-weaker, Contains-append_left, filter_passes}
use Rattle.texting_robots.specs.Callers.{Label, lines_read}
use Rattle.robots_rules.proofs.TogetherLemmas.{to_filter}
use Rattle.robots_rules.specs.{Needless.numbers_of, declared.needless.NeedlessRule.NeedlessRule}
use Rattle.robots_warnings.specs.{Means.Means, Means.is_style, Message.WarningValue}
use Rattle.robots_warnings.proofs.TellsLemmas.{each_stays}
use Rattle.robots_warnings.specs.Conflicts.{is_empty_at, overrules_for_one}
use Rattle.robots_warnings.specs.Warnings.{ClosesToOne, HasClosed, HasEach, HasOverruling, is_closing_cause}
use Rattle.robots_warnings.specs.Warnings.{is_empty_cause, url_warnings}
use Rattle.robots_warnings.specs.{Table.name_of, declared.table.Cause.Cause, declared.warning.Detail.Detail}
use Rattle.robots_warnings.specs.declared.table.Cause.TheVariants as causes
use Rattle.audit_core.specs.Internal.{AddsNeedless, AreFoundFor, is_plain}
use Rattle.audit_core.specs.Together.{is_needless, needless_line}
use Rattle.audit_core.specs.{Audit.IsSo, Chosen.chosen, Chosen.is_chosen}

abbrev IsPlain : WarningValue → Type 0
IsPlain warning = is_plain warning ≡ true

pub none_added : (found : List WarningValue) → AddsNeedless [] found found
none_added found = record {
  added = [];
  appended = sym (append-nil found);
  in_lines = refl;
  plain = All-nil IsPlain;
}

pub one_added : {found new : List WarningValue} (warning : WarningValue) {lines : List ℕ}
    → new ≡ found ++ warning ∷ [] → is_plain warning ≡ true → needless_line warning ≡ lines
    → AddsNeedless lines found new
one_added warning added plain is = record {
  added = warning ∷ [];
  appended = added;
  in_lines = append-nil (needless_line warning) ∙ is;
  plain = All-cons IsPlain warning [] plain (All-nil IsPlain);
}

pub rule_added : {found new : List WarningValue} {line : ℕ} (cause : Cause) (about : Option (List ℕ))
    (detail : Option Detail)
    → new ≡ found ++ (record { line = Some line; cause = cause; about = about; detail = detail }) ∷ []
    → is_needless cause ≡ true → AddsNeedless (line ∷ []) found new
rule_added cause about detail added is = one_added _ added (rw is (or_true (is_style cause))) (rw is refl)
  where
    or_true : (a : Bool) → (a || true) ≡ true
    or_true true = refl
    or_true false = refl

pub more_added : {one two : List ℕ} {old mid new : List WarningValue} → AddsNeedless one old mid
    → AddsNeedless two mid new → AddsNeedless (one ++ two) old new
more_added {old} first second = record {
  added = first.added ++ second.added;
  appended = second.appended ∙ ap (λ front. front ++ second.added) first.appended
      ∙ append_assoc old first.added second.added;
  in_lines = flat_map-append needless_line first.added second.added
      ∙ ap₂ (λ front (back : List ℕ). front ++ back) first.in_lines second.in_lines;
  plain = All-append IsPlain first.added second.added first.plain second.plain;
}

pub more_none : {lines : List ℕ} {old mid new : List WarningValue} → AddsNeedless lines old mid
    → AddsNeedless [] mid new → AddsNeedless lines old new
more_none {new} first second = rw append-nil at (more_added {new = new} first second)

pub next_rule : (rules : List NeedlessRule) (at : ℕ) (rule : NeedlessRule) {old mid new : List WarningValue}
    → at < length rules → AddsNeedless (numbers_of (take at rules)) old mid
    → AddsNeedless ((slice_index_or rules at rule).line ∷ []) mid new
    → AddsNeedless (numbers_of (take (at + 1) rules)) old new
next_rule rules at rule below first second =
    rw (take_more rules at rule below, map-append) (more_added first second)

name_is : (cause : Cause) → is_needless cause ≡ true → name_of cause ≡ codes "needless-rule"
unfolding name_of
name_is causes.NeverDecides is = refl
name_is causes.MatchesNothing is = refl
name_is causes.AllowedAnyway is = refl
name_is causes.NotNeeded is = refl
name_is cause is = absurd (false≢true is)

lines_kept : (test : WarningValue → Bool) (shown : Bool)
    → ((warning : WarningValue) → is_needless warning.cause ≡ true → test warning ≡ shown)
    → (found : List WarningValue) → flat_map needless_line (filter test found)
    ≡ (if shown then flat_map needless_line found else [])
lines_kept test true same [] = refl
lines_kept test false same [] = refl
lines_kept test true same (one ∷ found) = elim (cases_Bool (is_needless one.cause)) [
  | inl is ↦ rw (same one is, is)
      (ap (λ lines. option_to_list one.line ++ lines) (lines_kept test true same found))
  | inr isnt ↦ elim (cases_Bool (test one)) [
    | inl stays ↦ rw (stays, isnt) (lines_kept test true same found)
    | inr goes ↦ rw (goes, isnt) (lines_kept test true same found)
  ]
]
lines_kept test false same (one ∷ found) = elim (cases_Bool (is_needless one.cause)) [
  | inl is ↦ rw (same one is) (lines_kept test false same found)
  | inr isnt ↦ elim (cases_Bool (test one)) [
    | inl stays ↦ rw (stays, isnt) (lines_kept test false same found)
    | inr goes ↦ rw goes (lines_kept test false same found)
  ]
]

told_chosen : (test : WarningValue → Bool) (found told : List WarningValue) → All (Contains found) told
    → All (Contains (filter test found)) (filter test told)
told_chosen test found told are k other below =
    to_filter test found _ (All-filter test (Contains found) told are k other below)
    (filter_passes test told k other below)

-- ---- Lines of which each has a warning.

each_chosen : (is_reason : Cause → Bool) (IsIn : ℕ → Type 0) (name : List ℕ)
    → ((cause : Cause) → is_reason cause ≡ true → name_of cause ≡ name) → (only ignored : List (List ℕ))
    (found : List WarningValue) → HasEach is_reason IsIn found → is_chosen only ignored name ≡ true
    → HasEach is_reason IsIn (chosen only ignored found)
each_chosen is_reason IsIn name named only ignored found has shown =
    let test = λ (warning : WarningValue). is_chosen only ignored (name_of warning.cause) in
    each_stays is_reason IsIn found (filter test found) (λ warning reason among.
    to_filter test found warning among (ap (is_chosen only ignored) (named warning.cause reason) ∙ shown)) has

closing_name : (cause : Cause) → is_closing_cause cause ≡ true → name_of cause ≡ codes "closed-site"
unfolding name_of
closing_name causes.ClosedSite is = refl
closing_name causes.ClosedSiteToOthers is = refl
closing_name cause is = absurd (false≢true is)

empty_name : (cause : Cause) → is_empty_cause cause ≡ true → name_of cause ≡ codes "empty-disallow"
unfolding name_of
empty_name causes.EmptyDisallow is = refl
empty_name cause is = absurd (false≢true is)

no_line : (line : Option ℕ) → MatchOption line ⊥ (λ number. ⊥) → ⊥
no_line None says = says
no_line (Some number) says = says

module _ (agents urls : List (List ℕ)) (file : List ℕ) (labels : List Label) where
  abbrev Says : WarningValue → Type 0
  Says = Means agents file labels

  isnt_needless : (line : Option ℕ) (cause : Cause) (about : Option (List ℕ)) (detail : Option Detail)
      → Says (record { line = line; cause = cause; about = about; detail = detail })
      → is_needless cause ≡ false
  isnt_needless line causes.NeverDecides about detail means = elim (means refl) [
    | inl is ↦ absurd (false≢true is.so)
    | inr says ↦ absurd (no_line line says)
  ]
  isnt_needless line causes.MatchesNothing about detail means = elim (means refl) [
    | inl is ↦ absurd (false≢true is.so)
    | inr says ↦ absurd (no_line line says)
  ]
  isnt_needless line causes.AllowedAnyway about detail means = elim (means refl) [
    | inl is ↦ absurd (false≢true is.so)
    | inr says ↦ absurd (no_line line says)
  ]
  isnt_needless line causes.NotNeeded about detail means = elim (means refl) [
    | inl is ↦ absurd (false≢true is.so)
    | inr says ↦ absurd (no_line line says)
  ]
  isnt_needless line cause about detail means = refl

  none_needless : (found : List WarningValue) → All Says found → flat_map needless_line found ≡ []
  none_needless [] are = refl
  none_needless (one ∷ found) are =
      rw (isnt_needless one.line one.cause one.about one.detail (All-head Says one found are))
      (none_needless found (All-tail Says one found are))

  plain_so : (warning : WarningValue) → is_plain warning ≡ true
      → IsSo agents file labels warning
  plain_so warning plain isnt style = absurd (false≢true (rw (style, isnt) at plain))

  abbrev IsOverruling : ℕ → Type 0
  IsOverruling number = overrules_for_one (is_empty_at labels) agents (lines_read file) number ≡ true

  pub found_more : {one two : List ℕ} {old new : List WarningValue}
      → AreFoundFor agents urls file labels one old → AddsNeedless two old new
      → AreFoundFor agents urls file labels (one ++ two) new
  found_more {old} {new} found all = record {
    are = rw all.appended (All-append (IsSo agents file labels) old all.added found.are
        (All-weaker IsPlain (IsSo agents file labels) plain_so all.added all.plain));
    in_lines = ap (flat_map needless_line) all.appended ∙ flat_map-append needless_line old all.added
        ∙ ap₂ (λ front (back : List ℕ). front ++ back) found.in_lines all.in_lines;
    told = λ k other below. rw all.appended (Contains-append_left old all.added _ (found.told k other below));
    closed = each_stays is_closing_cause (ClosesToOne agents (lines_read file)) old new
        (λ warning _ has. rw all.appended (Contains-append_left old all.added warning has)) found.closed;
    overruling = each_stays is_empty_cause IsOverruling old new
        (λ warning _ has. rw all.appended (Contains-append_left old all.added warning has)) found.overruling;
  }

  pub all_found : {lines : List ℕ} {old new : List WarningValue} → All Says old
      → All (Contains old) (flat_map url_warnings urls)
      → HasClosed agents (lines_read file) old
      → HasOverruling (is_empty_at labels) agents (lines_read file) old
      → AddsNeedless lines old new → AreFoundFor agents urls file labels lines new
  all_found {lines} {old} {new} are told closed overruling all =
      let found : AreFoundFor agents urls file labels [] old = record {
        are = λ k other below _. are k other below;
        in_lines = none_needless old are;
        told = told;
        closed = closed;
        overruling = overruling;
      } in
      found_more found all

  pub chosen_so : (only ignored : List (List ℕ)) (lines : List ℕ) (found new : List WarningValue)
      → AreFoundFor agents urls file labels lines found → new ≡ chosen only ignored found
      → All (IsSo agents file labels) new
      × (flat_map needless_line new
      ≡ (if is_chosen only ignored (codes "needless-rule") then lines else []))
      × All (Contains new) (chosen only ignored (flat_map url_warnings urls))
      × (is_chosen only ignored (codes "closed-site") ≡ true → HasClosed agents (lines_read file) new)
      × (is_chosen only ignored (codes "empty-disallow") ≡ true
      → HasOverruling (is_empty_at labels) agents (lines_read file) new)
  chosen_so only ignored lines found new is same =
      let test = λ (warning : WarningValue). is_chosen only ignored (name_of warning.cause) in
      let shown = is_chosen only ignored (codes "needless-rule") in
      rw same (
        All-filter test (IsSo agents file labels) found is.are,
        lines_kept test shown (λ warning needless. ap (is_chosen only ignored)
            (name_is warning.cause needless)) found
            ∙ ap (λ (lines : List ℕ). if shown then lines else []) is.in_lines,
        told_chosen test found (flat_map url_warnings urls) is.told,
        each_chosen is_closing_cause (ClosesToOne agents (lines_read file)) (codes "closed-site")
            closing_name only ignored found is.closed,
        each_chosen is_empty_cause IsOverruling (codes "empty-disallow") empty_name only ignored found
            is.overruling,
      )
