-- The computed lines are those of the text, and their values are ranges of it.
use Rattle.std.proofs.Common.{◌≡◌, ◌⊎◌, ℕ, false, true, inl, inr, List, [], ◌∷◌, ◌++◌, map, sym, refl, ◌∙◌}
use Rattle.std.proofs.Common.{◌≢◌, bytes_eq, append_assoc, append-nil, Option, Some, None, ◌==◌, arith, subst}
use Rattle.std.proofs.Common.{◌↔◌}
use Rattle.std.specs.{List.AllZip, Str.str_to_ascii_lowercase}
use Rattle.std.proofs.lemmas.Bool.{cases_Bool, cond-true, cond-false, ne_eqb, Decides.eqb_tells}
use Rattle.texting_robots.specs.{declared.parser.statement.Kind.Kind, Cut.lf, Delay.IsDelay}
use Rattle.texting_robots.specs.Group.{is_agent, is_agent_named}
use Rattle.texting_robots.specs.Internal.{Delay.delay_of, Cut.bodies_of, Cut.cut, Statement.value_of}
use Rattle.texting_robots.specs.Internal.Statement.{colon, kind_by, skip_blanks, statement_of, tail_as}
use Rattle.texting_robots.specs.Executable.{file_bodies, file_lines, parsed}
use Rattle.texting_robots.specs.Statement.{IsAfterBlanks, IsAfterColon, IsStatement}
use Rattle.texting_robots.specs.Line.{AreFileBodiesOf, AreLinesOf, HoldRangesOf, HoldsRangeOf, IsLineOf, Raw}
use Rattle.texting_robots.specs.Line.{IsLineWith, IsRangeOf, LineValue, CrawlDelay, Sitemap, UserAgent}
use Rattle.texting_robots.specs.Line.{delay_in, is_raw, is_sitemap, nul_as_lf, without, without_bom}
use Rattle.texting_robots.specs.Internal.Line.{delay_or_raw, line_of, line_with}
use Rattle.texting_robots.proofs.DelayLemmas.{delay_of_is, is_delay_of}
use Rattle.texting_robots.proofs.CutLemmas.{is_cut, cut_unique}
use Rattle.texting_robots.proofs.StatementLemmas.{statement_complete, statement_sound, no_statement}
use Rattle.texting_robots.specs.declared.parser.statement.Kind.TheVariants as kind

pub line_stated : (body : List ℕ) (kind : Kind) (value : List ℕ)
    → statement_of body ≡ Some (kind, value) → line_of body ≡ line_with kind value body
unfolding line_of
line_stated body kind value found = cc

pub line_raw : (body : List ℕ) → statement_of body ≡ None → line_of body ≡ Raw body
unfolding line_of
line_raw body none = cc

with_delay : (value body : List ℕ) (delay : Option ℕ) → IsDelay value delay
    → IsLineWith kind.CrawlDelay value body (delay_or_raw delay body)
with_delay value body delay names = grind arith

is_line_with : (kind : Kind) (value body : List ℕ)
    → IsLineWith kind value body (line_with kind value body)
is_line_with kind value body = grind (arith, delay_of_is, with_delay)

only_line_with : (kind : Kind) (value body : List ℕ) (line : LineValue) → IsLineWith kind value body line
    → line ≡ line_with kind value body
only_line_with kind.CrawlDelay value body line (inl (delay, names, is)) =
    cc (is_delay_of value (Some delay) names)
only_line_with kind.CrawlDelay value body line (inr (names, is)) = cc (is_delay_of value None names)
only_line_with kind.Disallow [] body line is = is
only_line_with _ value body line is = is

is_line : (body : List ℕ) (found : Option (Kind × List ℕ)) → statement_of body ≡ found
    → IsLineOf (line_of body) body
is_line body None none = inr (no_statement body none, line_raw body none)
is_line body (Some (kind, value)) found = inl (
  kind,
  value,
  statement_sound kind value body found,
  subst (IsLineWith kind value body) (sym (line_stated body kind value found))
      (is_line_with kind value body),
)

only_line : (line : LineValue) (body : List ℕ) (found : Option (Kind × List ℕ))
    → statement_of body ≡ found → IsLineOf line body → line ≡ line_of body
only_line line body found reads (inl (kind, value, is, line_is)) = only_line_with kind value body line line_is
    ∙ sym (line_stated body kind value (statement_complete kind value body is))
only_line line body None none (inr (not_one, line_is)) = line_is ∙ sym (line_raw body none)
only_line line body (Some (kind, value)) found (inr (not_one, line_is)) =
    absurd (not_one kind value (statement_sound kind value body found))

are_lines : (bodies : List (List ℕ)) → AllZip IsLineOf (map line_of bodies) bodies
are_lines [] = tt
are_lines (body ∷ bodies) = (is_line body (statement_of body) refl, are_lines bodies)

pub only_lines : (lines : List LineValue) (bodies : List (List ℕ)) → AllZip IsLineOf lines bodies
    → lines ≡ map line_of bodies
only_lines [] [] all = refl
only_lines [] (body ∷ bodies) all = absurd all
only_lines (line ∷ lines) [] all = absurd all
only_lines (line ∷ lines) (body ∷ bodies) all =
    cc (only_line line body (statement_of body) refl all.0, only_lines lines bodies all.1)

parsed_are_lines : (text : List ℕ) → AreLinesOf (parsed text) text
parsed_are_lines text =
    record {
      pairs = cut (without_bom text);
      is_cut = is_cut (without_bom text);
      each = are_lines (bodies_of (without_bom text));
    }

pub each_text_has_its_lines : (text : List ℕ) (lines : List LineValue)
    → AreLinesOf lines text ↔ lines ≡ parsed text
each_text_has_its_lines text lines = grind (arith, cut_unique, only_lines, parsed_are_lines)

pub file_bodies_are : (text : List ℕ) (bodies : List (List ℕ)) → bodies ≡ file_bodies text
    → AreFileBodiesOf bodies text
file_bodies_are text bodies same =
    let rest = without_bom (map nul_as_lf text) in (cut rest, is_cut rest, same)

pub lines_of_file_bodies : (text : List ℕ) (bodies : List (List ℕ)) → bodies ≡ file_bodies text
    → AllZip IsLineOf (file_lines text) bodies
lines_of_file_bodies text bodies same = grind (arith, are_lines)

module _ (body text : List ℕ) (is : text ≡ skip_blanks body) where
  pub line_without_kind : kind_by text ≡ None → line_of body ≡ Raw body
  unfolding line_of statement_of
  line_without_kind none = rw (← is, none) refl

  pub line_without_tail : (kind : Kind) → kind_by text ≡ Some kind → tail_as kind text ≡ None
      → line_of body ≡ Raw body
  unfolding line_of statement_of
  line_without_tail kind by none = rw (← is, by, none) refl

  pub line_read : (kind : Kind) (tail : List ℕ) → kind_by text ≡ Some kind
      → tail_as kind text ≡ Some tail
      → line_of body ≡ line_with kind (value_of tail) body
  unfolding line_of statement_of
  line_read kind tail by found = rw (← is, by, found) refl

  pub no_agent_tail : kind_by text ≡ Some kind.UserAgent → tail_as kind.UserAgent text ≡ None
      → is_agent (line_of body) ≡ false
  no_agent_tail by none = rw (line_without_tail _ by none) refl

  pub agent_tail : (tail : List ℕ) → kind_by text ≡ Some kind.UserAgent
      → tail_as kind.UserAgent text ≡ Some tail → is_agent (line_of body) ≡ true
  agent_tail tail by found = rw (line_read _ tail by found) refl

  pub agent_value : (tail name : List ℕ) → kind_by text ≡ Some kind.UserAgent
      → tail_as kind.UserAgent text ≡ Some tail
      → is_agent_named name (line_of body) ≡ bytes_eq (str_to_ascii_lowercase (value_of tail)) name
  agent_value tail name by found = rw (line_read _ tail by found) refl

-- ---- The first letter of a line selects its directive.

abbrev kind_in : LineValue → Option Kind
kind_in (UserAgent value) = Some kind.UserAgent
kind_in (Sitemap value) = Some kind.Sitemap
kind_in (CrawlDelay delay) = Some kind.CrawlDelay
kind_in _ = None

abbrev IsKindOf : Option Kind → LineValue → Type 0
IsKindOf kind line = (kind_in line ≡ kind) ⊎ (kind_in line ≡ None)

kind_with_value : (k : Kind) (value body : List ℕ) → IsKindOf (Some k) (line_with k value body)
kind_with_value k value body = grind arith

pub kind_is : (body : List ℕ) → IsKindOf (kind_by (skip_blanks body)) (line_of body)
kind_is body = at (kind_by (skip_blanks body)) refl
  where
    keyed : (k : Kind) (tail : Option (List ℕ)) → kind_by (skip_blanks body) ≡ Some k
        → tail_as k (skip_blanks body) ≡ tail → IsKindOf (Some k) (line_of body)
    keyed k None by none = rw (line_without_tail body _ refl k by none) (inr refl)
    keyed k (Some tail) by is =
        rw (line_read body _ refl k tail by is) (kind_with_value k (value_of tail) body)

    at : (found : Option Kind) → kind_by (skip_blanks body) ≡ found → IsKindOf found (line_of body)
    at None none = rw (line_without_kind body _ refl none) (inr refl)
    at (Some k) by = keyed k (tail_as k (skip_blanks body)) by refl

pub agent_or_raw : (body : List ℕ) → kind_by (skip_blanks body) ≡ Some kind.UserAgent
    → (is_agent (line_of body) ≡ true) ⊎ (is_raw (line_of body) ≡ true)
agent_or_raw body by = at (tail_as kind.UserAgent (skip_blanks body)) refl
  where
    at : (tail : Option (List ℕ)) → tail_as kind.UserAgent (skip_blanks body) ≡ tail
        → (is_agent (line_of body) ≡ true) ⊎ (is_raw (line_of body) ≡ true)
    at None none = rw (line_without_tail body _ refl _ by none) (inr refl)
    at (Some tail) is = rw (line_read body _ refl _ tail by is) (inl refl)

pub agent_or_other : (found : Option Kind) (line : LineValue) → IsKindOf found line
    → (found ≡ Some kind.UserAgent) ⊎ (is_agent line ≡ false)
agent_or_other found line is = grind arith

pub no_agent_kind : (body : List ℕ) → ¬ (kind_by (skip_blanks body) ≡ Some kind.UserAgent)
    → is_agent (line_of body) ≡ false
no_agent_kind body other =
    elim (agent_or_other _ _ (kind_is body)) [ inl is ↦ absurd (other is) | inr none ↦ none ]

pub delay_or_other : (found : Option Kind) (line : LineValue) → IsKindOf found line
    → (found ≡ Some kind.CrawlDelay) ⊎ (delay_in line ≡ None)
delay_or_other found line is = grind arith

pub sitemap_or_other : (found : Option Kind) (line : LineValue) → IsKindOf found line
    → (found ≡ Some kind.Sitemap) ⊎ (is_sitemap line ≡ false)
sitemap_or_other found line is = grind arith

-- ---- Values are ranges of the content, and contents of the text.

range_of_range : (part middle whole : List ℕ) → IsRangeOf part middle → IsRangeOf middle whole
    → IsRangeOf part whole
range_of_range part middle whole (before, after, is) (first, last, all) =
    (first ++ before, after ++ last, rw (all, is) (simp append_assoc))

tail_range : (tail rest : List ℕ) → IsAfterColon tail rest ⊎ IsAfterBlanks tail rest
    → IsRangeOf tail rest
tail_range tail rest (inl (blanks, all, whole)) =
    (blanks ++ colon ∷ [], [], rw whole (simp (append_assoc, append-nil)))
tail_range tail rest (inr (blanks, all, some, whole, plain)) = (blanks, [], rw whole (simp append-nil))

value_range : (kind : Kind) (value body : List ℕ) → IsStatement kind value body → IsRangeOf value body
value_range kind value body s =
    let in_region : IsRangeOf value s.region = grind arith in
    let in_tail : IsRangeOf s.region s.tail = ([], s.comment, s.parted) in
    let in_rest : IsRangeOf s.rest body =
    (s.margin ++ s.key, [], s.whole ∙ simp (append_assoc, append-nil)) in
    range_of_range value s.region body in_region
    (range_of_range s.region s.tail body in_tail
    (range_of_range s.tail s.rest body (tail_range s.tail s.rest s.separated) in_rest))

delay_range : (delay : Option ℕ) (body : List ℕ) → HoldsRangeOf (delay_or_raw delay body) body
delay_range delay body = grind arith

with_range : (kind : Kind) (value body : List ℕ) → IsStatement kind value body
    → HoldsRangeOf (line_with kind value body) body
with_range kind.Allow value body s = inl (value_range kind.Allow value body s)
with_range kind.Disallow [] body s = inr (refl, s)
with_range kind.CrawlDelay value body s = delay_range (delay_of value) body
with_range kind value body s = value_range kind value body s

line_range : (body : List ℕ) → IsLineOf (line_of body) body → HoldsRangeOf (line_of body) body
line_range body h = grind (arith, only_line_with, with_range)

line_ranges : (bodies : List (List ℕ)) → AllZip HoldsRangeOf (map line_of bodies) bodies
line_ranges [] = tt
line_ranges (body ∷ bodies) = grind (arith, is_line, line_range, line_ranges bodies)

taken_off : (byte : ℕ) (text : List ℕ) → (taken : List ℕ) × (text ≡ taken ++ without byte text)
taken_off byte [] = ([], refl)
taken_off byte (b ∷ text) = elim (cases_Bool (b == byte)) [
  | inl is ↦ (b ∷ [], cc (cond-true _ _ _ is))
  | inr isnt ↦ ([], sym (cond-false _ _ _ isnt))
]

read_other : (byte b : ℕ) → byte ≢ 0 → byte ≢ lf → (nul_as_lf b == byte) ≡ (b == byte)
read_other byte b some other = grind (arith, eqb_tells, ne_eqb)

without_read : (byte : ℕ) (text : List ℕ) → byte ≢ 0 → byte ≢ lf
    → map nul_as_lf (without byte text) ≡ without byte (map nul_as_lf text)
without_read byte text some other = grind (arith, read_other)

pub without_bom_map : (text : List ℕ) → map nul_as_lf (without_bom text) ≡ without_bom (map nul_as_lf text)
without_bom_map text = grind (arith, without_read)

pub without_bom_suffix : (text : List ℕ) → (taken : List ℕ) × (text ≡ taken ++ without_bom text)
without_bom_suffix text =
    let one = taken_off 0xEF text in
    let two = taken_off 0xBB (without 0xEF text) in
    let three = taken_off 0xBF (without 0xBB (without 0xEF text)) in (
      one.0 ++ (two.0 ++ three.0),
      grind (arith, append_assoc),
    )

parsed_ranges : (text : List ℕ) → HoldRangesOf (parsed text) text
parsed_ranges text =
    let end = without_bom_suffix text in
    record {
      pairs = cut (without_bom text);
      is_cut = is_cut (without_bom text);
      whole = grind (arith, is_cut);
      each =
          line_ranges (bodies_of (without_bom text));
    }

pub lines_range : (text : List ℕ) (lines : List LineValue) → lines ≡ parsed text
    → HoldRangesOf lines text
lines_range text lines same = grind (arith, parsed_ranges)

pub lines_are : (text : List ℕ) (lines : List LineValue) → lines ≡ parsed text → AreLinesOf lines text
lines_are text lines same = grind (arith, parsed_are_lines)

pub parse_takes_all : (text : List ℕ) → (lines : List LineValue)
    × AreLinesOf lines text × HoldRangesOf lines text
parse_takes_all text = (parsed text, parsed_are_lines text, parsed_ranges text)
