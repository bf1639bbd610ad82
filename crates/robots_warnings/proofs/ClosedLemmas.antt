-- Closed sites, product tokens, and the tables of warnings.
use Rattle.std.specs.{Prelude.slice_get, Prelude.Any, Prelude.MatchOption, Global.Global}
use Rattle.std.specs.{HashSet.contains_text, String.string_eq, List.filter_map, List.list_any, Str.byte}
use Rattle.std.specs.List.{before_first, position_or_len}
use Rattle.std.proofs.lemmas.List.{length-take, take_all, get_or-map, length-map, Folds.list_any-append}
use Rattle.robots_warnings.specs.Crawlers.{ends_token, is_near}
use Rattle.std.specs.{Str.str_to_ascii_lowercase, BTreeSet.BTreeSet, BTreeSet.Updates, BTreeSet.contains}
use Rattle.std.proofs.Common.{[], ◌≡◌, ℕ, ◌+◌, ◌==◌, Bool, false, true, List, ◌∷◌, ap, arith, inl, inr, refl}
use Rattle.std.proofs.Common.{suc, sym, ◌∙◌, ◌&&◌, ◌||◌, nat_le, nat_lt, not, ◌++◌, Bor, Option, String, cond}
use Rattle.std.proofs.Common.{length, map, slice_index_or, string_bytes, bytes_eq, zero, None, Some, Contains}
use Rattle.std.proofs.Common.{All, if◌then◌else◌}
use Rattle.std.specs.Option.{option_or}
use Rattle.std.proofs.lemmas.List.Elements.{All-contains, All-map, All-weaker, Contains-append_right}
use Rattle.std.proofs.lemmas.List.Elements.{filter_map-append}
use Rattle.std.proofs.lemmas.Bool.{and_parts, or_parts, cases_Bool, false≢true, ne_eqb, Decides.nat_tests}
use Rattle.std.proofs.lemmas.Map.Text.{is_eq-slice_cmp, hash_set_updates_text}
use Rattle.texting_robots.specs.Callers.{AreSitemapsOf, Label, LineValue, PlacedRule, escaped, file_lines}
use Rattle.texting_robots.specs.Callers.{sitemaps_in}
use Rattle.texting_robots.specs.Escape.{is_escaped}
use Rattle.texting_robots.specs.Line.{AreFileLinesOf, nul_as_lf}
use Rattle.texting_robots.proofs.Shared.{each_text_has_its_lines, lines_satisfy, sitemaps_are_computed}
use Rattle.robots_warnings.specs.Closed.{closes, are_signs, first_closing, first_line, is_closing, is_rival}
use Rattle.robots_warnings.specs.Closed.{is_literally, is_star_or_dollar, is_whole_site, leaves_closed}
use Rattle.robots_warnings.specs.Closed.{line_closing_site, opened_path}
use Rattle.robots_warnings.specs.{Message.WarningValue, File.lines_of, Internal.IsAt, Internal.Rules.Patterns}
use Rattle.robots_warnings.specs.Warnings.{HasClosed, IsAbout, IsTold, is_closing_cause}
use Rattle.robots_warnings.specs.Means.{Closes, Means}
use Rattle.robots_warnings.specs.declared.{table.Cause.Cause, warning.Detail.Detail}
use Rattle.robots_warnings.specs.declared.table.Cause.TheVariants.{ClosedSite, ClosedSiteToOthers}
use Rattle.robots_warnings.specs.Internal.Closed.{IsClosed, IsNeeded}
use Rattle.robots_warnings.specs.Internal.Names.{AddsName, Key, key_cmp}
use Rattle.std.proofs.{Math.Bool.or-false}
use Rattle.std.specs.HashSet as hash
use Rattle.texting_robots.specs.Callers as callers

-- ---- Rules that leave nothing, or nearly nothing, of a site to a crawler.

pub differs : (b c : ℕ) → is_escaped c ≡ false → is_escaped b ≡ true → (b == c) ≡ false
differs b c plain bad = ne_eqb b c (λ same. false≢true (sym plain ∙ ap is_escaped (sym same) ∙ bad))

isnt_sign : (b : ℕ) → is_escaped b ≡ true → (is_star_or_dollar b || b == byte "/") ≡ false
isnt_sign b bad =
    rw (differs b (byte "*") refl bad, differs b (byte "$") refl bad, differs b (byte "/") refl bad) refl

signs_escaped : (text : List ℕ) → are_signs (escaped text) ≡ are_signs text
signs_escaped [] = refl
signs_escaped (b ∷ text) = elim (cases_Bool (is_escaped b)) [
  | inl bad ↦ rw (bad, isnt_sign b bad) refl
  | inr good ↦ rw good (ap (λ rest. (is_star_or_dollar b || b == byte "/") && rest) (signs_escaped text))
]

signs_stay : (text : List ℕ) → are_signs text ≡ true → escaped text ≡ text
signs_stay [] signs = refl
signs_stay (b ∷ text) signs =
    let (first, later) = and_parts (is_star_or_dollar b || b == byte "/") _ signs in
    elim (cases_Bool (is_escaped b)) [
      | inl bad ↦ absurd (false≢true (sym (isnt_sign b bad) ∙ first))
      | inr good ↦ rw (good, signs_stay text later) refl
    ]

pub whole_site_stays : (pattern : List ℕ) → is_whole_site pattern ≡ true → escaped pattern ≡ pattern
whole_site_stays pattern whole = signs_stay pattern (and_parts (are_signs pattern) _ whole).0

pub whole_site_escaped : (value : List ℕ) → is_whole_site (escaped value) ≡ is_whole_site value
whole_site_escaped value = elim (cases_Bool (are_signs value)) [
  | inl signs ↦ ap is_whole_site (signs_stay value signs)
  | inr other ↦ rw (signs_escaped value, other) refl
]

-- the sitemaps of a site are those in its lines
pub sitemaps_read : (text : List ℕ) (urls : List (List ℕ))
    → callers.HasLines text (λ lines. AreSitemapsOf lines urls)
    → urls ≡ sitemaps_in (file_lines text)
sitemaps_read text urls has =
    let read : AreFileLinesOf (file_lines text) text =
    (each_text_has_its_lines (map nul_as_lf text) _).1 refl in
    (sitemaps_are_computed (file_lines text) urls).0
    (lines_satisfy text (λ lines. AreSitemapsOf lines urls) has (file_lines text) read)

pub any_opened : (pattern : List ℕ) (urls : List (Bor (List ℕ)))
    → list_any (λ url. list_any (is_literally pattern) (filter_map opened_path (url.now ∷ []))) urls
    ≡ list_any (is_literally pattern) (filter_map opened_path (map (λ url. url.now) urls))
any_opened pattern [] = refl
any_opened pattern (url ∷ urls) =
    let first = filter_map opened_path (url.now ∷ []) in
    let rest = filter_map opened_path (map (λ url. url.now) urls) in
    ap (λ is. list_any (is_literally pattern) first || is) (any_opened pattern urls)
    ∙ sym (list_any-append (is_literally pattern) first rest)
    ∙ sym (ap (list_any (is_literally pattern))
    (filter_map-append opened_path (url.now ∷ []) (map (λ url. url.now) urls)))

pub closes_if : (is_exempt : List ℕ → Bool) (rules : List PlacedRule) (needed : ℕ)
    (placed : PlacedRule) (value : List ℕ) → is_closing placed ≡ true → placed.rule.0 ≡ escaped value
    → IsNeeded is_exempt rules needed → nat_le needed (length value) ≡ closes is_exempt rules placed
closes_if is_exempt rules needed placed value closing same is =
    let (denies, whole) = and_parts _ _ closing in
    let stays = whole_site_stays value
    (sym (whole_site_escaped value) ∙ ap is_whole_site (sym same) ∙ whole) in
    at_least needed (length value) _
    (sym (is placed.rule.0) ∙ ap (λ pattern. nat_lt (length pattern) needed) (same ∙ stays))
    ∙ ap (λ closing. closing && not (list_any (is_rival is_exempt placed.rule.0) rules)) (sym closing)
  where
    at_least : (m n : ℕ) (rival : Bool) → rival ≡ nat_lt n m → nat_le m n ≡ not rival
    at_least m n rival is = rw is (grind (arith, nat_tests))

pub none_closing : (is_exempt : List ℕ → Bool) (rules : List PlacedRule) → list_any is_closing rules ≡ false
    → first_closing is_exempt rules ≡ None
none_closing is_exempt rules none = none_in rules none
  where
    none_in : (some : List PlacedRule) → list_any is_closing some ≡ false
        → first_line (closes (leaves_closed is_exempt) rules) some ≡ None
    none_in [] none = refl
    none_in (placed ∷ some) none =
        let (first, later) = or_parts (is_closing placed) _ none in
        let rival = list_any (is_rival (leaves_closed is_exempt) placed.rule.0) rules in
        let rest = first_line (closes (leaves_closed is_exempt) rules) some in
        ap (λ closing. option_or (if closing && not rival then Some placed.line else None) rest) first
        ∙ none_in some later

abbrev row_of : List LineValue → Bor (List ℕ) → Option ℕ × Bor (List ℕ)
row_of lines agent = (line_closing_site lines agent.now, agent)

abbrev IsRow : (agents : List (List ℕ)) → List LineValue → Option ℕ × Bor (List ℕ) → Type 0
IsRow agents lines row = Contains agents row.1.now × (line_closing_site lines row.1.now ≡ row.0)

are_rows : (agents : List (Bor (List ℕ))) (lines : List LineValue)
    → All (IsRow (map (λ agent. agent.now) agents) lines) (map (row_of lines) agents)
are_rows agents lines =
    All-map (IsRow (map (λ agent. agent.now) agents) lines) (row_of lines) agents (λ k agent below. (
      (
        k,
        omega (arith, length-map agents (λ agent. agent.now), below),
        get_or-map (λ (agent : Bor (List ℕ)). agent.now) agents k agent _ below,
      ),
      refl,
    ))

pub told_of : (agents : List (Bor (List ℕ))) (lines : List LineValue) (found : List WarningValue)
    → All (λ row. IsTold found row.0) (map (row_of lines) agents)
    → HasClosed (map (λ agent. agent.now) agents) lines found
told_of agents lines found told number (k, agent, below, at, is) =
    rw is at (All-contains (λ agent. IsTold found (line_closing_site lines agent))
    (map (λ agent. agent.now) agents) agent
    (All-map (λ agent. IsTold found (line_closing_site lines agent)) (λ (agent : Bor (List ℕ)). agent.now)
    agents
    (λ k agent below. rw (get_or-map (row_of lines) agents k agent (row_of lines agent) below)
    at (told k (row_of lines agent) (omega (arith, length-map agents (row_of lines), below)))))
    (k, below, at))

pub told_last : (old : List WarningValue) (warning : WarningValue) (number : ℕ) → warning.line ≡ Some number
    → is_closing_cause warning.cause ≡ true
    → Any (IsAbout is_closing_cause number) (old ++ warning ∷ [])
told_last old warning number line closing =
    let (k, below, at) = Contains-append_right old (warning ∷ []) warning (0, omega arith, refl) in
    (k, warning, below, at, (line, closing))

module _ (asked : List (Bor (List ℕ))) (file : List ℕ) (labels : List Label) where
  closes_to : (number : ℕ) (about : Option (List ℕ))
      → Any (λ row. (row.0 ≡ Some number) × (about ≡ Some row.1.now)) (map (row_of (lines_of labels)) asked)
      → Closes (map (λ agent. agent.now) asked) labels number about
  closes_to number about (k, row, below, there, (line, name)) =
      let lines = lines_of labels in
      let is = All-contains (IsRow (map (λ agent. agent.now) asked) lines) (map (row_of lines) asked) row
      (are_rows asked lines) (k, below, there) in
      rw name (is.0, is.1 ∙ line)

  closed_means : (warning : WarningValue) → IsClosed (map (row_of (lines_of labels)) asked) warning
      → Means (map (λ agent. agent.now) asked) file labels warning
  closed_means warning is = so warning.cause warning.line warning.about warning.detail is.0 is.1
    where
      so : (cause : Cause) (line : Option ℕ) (about : Option (List ℕ)) (detail : Option Detail)
          → is_closing_cause cause ≡ true
          → MatchOption line ⊥ (λ number. Any (λ row. (row.0 ≡ Some number) × (about ≡ Some row.1.now))
          (map (row_of (lines_of labels)) asked))
          → Means (map (λ agent. agent.now) asked) file labels
          (record { line = line; cause = cause; about = about; detail = detail })
      so ClosedSite (Some number) about detail closing is = λ isnt. inr (closes_to number about is)
      so ClosedSiteToOthers (Some number) about detail closing is = λ isnt. inr (closes_to number about is)
      so cause None about detail closing is = absurd is
      so cause line about detail closing is = absurd (false≢true closing)

  pub all_mean : (found : List WarningValue) → All (IsClosed (map (row_of (lines_of labels)) asked)) found
      → All (Means (map (λ agent. agent.now) asked) file labels) found
  all_mean = All-weaker (IsClosed (map (row_of (lines_of labels)) asked))
      (Means (map (λ agent. agent.now) asked) file labels) closed_means

-- ---- Sets of names in lower case.

pub either : (has is : Bool) → cond is true has ≡ (has || is)
either true true = refl
either true false = refl
either false true = refl
either false false = refl

pub text_added : {S : Type 0} (old new : Patterns S) (key : String Global)
    → hash.Updates string_eq old new key true → (text : List ℕ)
    → contains_text new text ≡ (contains_text old text || bytes_eq (string_bytes key) text)
text_added old new key updates text =
    hash_set_updates_text (string_bytes key) old new true updates text
    ∙ either (contains_text old text) (bytes_eq (string_bytes key) text)

-- inserting a name in lower case makes the set that `AddsName` describes
pub name_added : (old new : BTreeSet Key) (lowered : Key) (name : List ℕ) (is_new : Bool)
    → lowered.items ≡ str_to_ascii_lowercase name → is_new ≡ not (contains key_cmp old lowered)
    → Updates key_cmp old new lowered true → AddsName old new name is_new
name_added old new lowered name is_new in_lower_case is updates = record {
  lowered = lowered;
  in_lower_case = in_lower_case;
  new_if = is;
  each = λ key.
      let has : Bool = contains key_cmp old key in
      updates.0 key
      ∙ ap (λ (t : Bool). cond t true has) (is_eq-slice_cmp lowered.items key.items)
      ∙ either has (bytes_eq lowered.items key.items)
      ∙ ap (λ (items : List ℕ). has || bytes_eq items key.items) in_lower_case;
}

pub any_last : {X : Type 0} (test : X → Bool) (xs : List X) (x : X)
    → list_any test (xs ++ x ∷ []) ≡ (list_any test xs || test x)
any_last test xs x =
    list_any-append test xs (x ∷ []) ∙ ap (λ is. list_any test xs || is) (or-false (test x))

-- ---- The rows of tables.

-- a field of the row at an index is at this index in the list of that field of all rows
at_place : {R X : Type 0} (part : R → X) (rows : List R) (at : ℕ) (row : R) (other : X)
    → slice_get rows at ≡ Some row → slice_index_or (map part rows) at other ≡ part row
at_place part [] at row other found = cc
at_place part (first ∷ rows) zero row other found = ap part cc
at_place part (first ∷ rows) (suc at) row other found = at_place part rows at row other found

pub part_in : {R X : Type 0} (part : R → X) {rows : List R} {at : ℕ} {row : R} {all : List X} (other : X)
    → IsAt rows at row → map part rows ≡ all → part row ≡ slice_index_or all at other
part_in part {rows} {at} {row} other is same =
    sym (at_place part rows at row other is.found) ∙ ap (λ all. slice_index_or all at other) same

-- ---- Names of crawlers.

pub near_whole : (value name : List ℕ) → length (before_first ends_token value) ≡ length value
    → (is_near value name || false) ≡ (is_near value name || is_near (before_first ends_token value) name)
near_whole value name whole =
    let same : before_first ends_token value ≡ value = take_all (position_or_len ends_token value) value
    (omega (arith, length-take (position_or_len ends_token value) value, whole)) in
    either_same (is_near value name) ∙ ap (λ start. is_near value name || is_near start name) (sym same)
  where
    either_same : (is : Bool) → (is || false) ≡ (is || is)
    either_same true = refl
    either_same false = refl
