-- The text that is written for a file: its lines, and what this library reads in them.
use Rattle.std.proofs.Common.{◌≡◌, ◌≢◌, ℕ, ◌==◌, ◌&&◌, ◌||◌, Bool, true, false, not, List, []}
use Rattle.std.proofs.Common.{◌∷◌, ◌++◌, if◌then◌else◌, inl, inr}
use Rattle.std.proofs.Common.{None, Option, Some, append-nil, append_assoc, ap, arith, codes, flat_map}
use Rattle.std.proofs.Common.{length-append, map, refl, subst, sym, ◌∙◌}
use Rattle.std.specs.{List.AllByRecursion as Each, List.Contains, List.list_all}
use Rattle.std.specs.{Str.str_to_ascii_lowercase}
use Rattle.std.proofs.lemmas.Bool.{cases_Bool, ne_eqb, eqb-false, Decides.nat_tests}
use Rattle.std.proofs.lemmas.Str.{encodes-append}
use Rattle.texting_robots.specs.Cut.{IsBodyByte, lf}
use Rattle.texting_robots.specs.{Executable.file_bodies, Executable.file_lines, Group.is_agent}
use Rattle.texting_robots.specs.{Statement.IsStatement, Statement.field_names, Trim.IsSpaces, Trim.IsTrimOf}
use Rattle.texting_robots.specs.Line.{Allow, Disallow, LineValue, Raw, UserAgent, nul_as_lf}
use Rattle.texting_robots.specs.Internal.{Cut.bodies_of, Delay.delay_of, Line.delay_or_raw, Line.line_of}
use Rattle.texting_robots.specs.Internal.{Line.line_with, Statement.statement_of}
use Rattle.texting_robots.specs.declared.parser.statement.Kind.{Kind}
use Rattle.texting_robots.specs.declared.parser.statement.Kind.TheVariants as kind
use Rattle.texting_robots.proofs.Shared.{bodies_cons, bodies_nil, body_byte, body_return, body_step}
use Rattle.texting_robots.proofs.Shared.{byte_cases, each_append, line_raw, line_stated, line_without_kind}
use Rattle.texting_robots.proofs.Shared.{statement_complete, statement_sound, trim_if_same}
use Rattle.texting_robots.proofs.Shared.{trim_skips_blanks, without_bom_suffix}
use Rattle.rfc9309.specs.StandardReading.{entries_in, entry_of, from_first_token, stated_in}
use Rattle.rfc9309.specs.{EmptyDisallow.is_empty_disallow}
use Rattle.rfc9309.specs.StandardReading.{line_for, lines_for, standard_text, written_pattern}
use Rattle.rfc9309.specs.Rfc9309 as rfc
use Rattle.rfc9309.proofs.MemberLemmas.{disallowed}
use Rattle.rfc9309.proofs.PatternLemmas.{is_hash, written_bare, written_some, written_visible}
use Rattle.rfc9309.proofs.ReadLemmas.{BeginsLow, after_bom}
use Rattle.rfc9309.proofs.SyntaxLemmas.{each_back, each_front, each_weaker, each_if_all}
use Rattle.rfc9309.proofs.ValueLemmas.{IsVisible, visible_trim}

-- ---- a text of lines

-- a byte of a line
abbrev pub IsOwnByte : ℕ → Type 0
IsOwnByte b = IsBodyByte b × (b ≢ 0)

abbrev pub joined : List (List ℕ) → List ℕ
joined lines = flat_map (λ line. line ++ lf ∷ []) lines

line_first : (line rest : List ℕ) → Each IsOwnByte line
    → bodies_of ((line ++ lf ∷ []) ++ rest) ≡ line ∷ bodies_of rest
line_first [] rest own = bodies_cons lf rest
line_first (b ∷ line) rest own = grind (arith, ne_eqb, bodies_cons, line_first line rest own.1)

lines_cut : (lines : List (List ℕ)) → Each (Each IsOwnByte) lines → bodies_of (joined lines) ≡ lines
lines_cut [] own = bodies_nil
lines_cut (line ∷ lines) own = line_first line _ own.0 ∙ ap (λ more. line ∷ more) (lines_cut lines own.1)

-- a line of such bytes that begins with a low one, if with any
abbrev IsGood : List ℕ → Type 0
IsGood line = Each IsOwnByte line × BeginsLow line

joined_good : (lines : List (List ℕ)) → Each IsGood lines
    → Each (λ b. b ≢ 0) (joined lines) × BeginsLow (joined lines)
joined_good [] good = (tt, tt)
joined_good (line ∷ lines) good = (
  each_append _ _ _
      (each_append _ line _ (each_weaker IsOwnByte _ (λ b is. is.1) line good.0.0) (omega arith, tt))
      (joined_good lines good.1).0,
  low line good.0.1,
)
  where
    low : (line : List ℕ) → BeginsLow line → BeginsLow ((line ++ lf ∷ []) ++ joined lines)
    low [] is = omega arith
    low (b ∷ line) is = is

lines_are_read : (lines : List (List ℕ)) → Each IsGood lines → file_bodies (joined lines) ≡ lines
lines_are_read lines good =
    let (bytes, low) = joined_good lines good in
    ap bodies_of (after_bom [] (joined lines) (inl refl) bytes low)
    ∙ lines_cut lines (each_weaker IsGood _ (λ line is. is.0) _ good)

-- ---- the bytes of a file's lines

own_bodies : (text : List ℕ) → Each (λ b. b ≢ 0) text → Each (Each IsOwnByte) (bodies_of text)
own_bodies [] some = rw bodies_nil tt
own_bodies (b ∷ text) some =
    let later = own_bodies text some.1 in
    rw (bodies_cons b text) (own_step b (bodies_of text) some.0 later)
  where
    own_step : (b : ℕ) (bodies : List (List ℕ)) → b ≢ 0 → Each (Each IsOwnByte) bodies
        → Each (Each IsOwnByte) (body_step b bodies)
    own_step b bodies some later = grind (arith, byte_cases, body_byte, body_return, ne_eqb)

no_nul : (text : List ℕ) → Each (λ b. b ≢ 0) (map nul_as_lf text)
no_nul [] = tt
no_nul (b ∷ text) = (grind (arith, cases_Bool, eqb-false), no_nul text)

pub bodies_own : (file : List ℕ) → Each (Each IsOwnByte) (file_bodies file)
bodies_own file =
    let (taken, whole) = without_bom_suffix (map nul_as_lf file) in
    own_bodies _ (each_back _ taken _ (subst (Each _) whole (no_nul file)))

-- ---- values

white_both : (one two : List ℕ) → IsSpaces one → IsSpaces two → IsSpaces (one ++ two)
white_both one two (chars, all, e) (more, also, f) =
    (chars ++ more, each_append _ chars more all also, rw (e, f) (sym (encodes-append chars more)))

-- what is trimmed stays when it is trimmed again
trimmed_stays : (value region : List ℕ) → IsTrimOf value region → IsTrimOf value value
trimmed_stays value region t = record {
  front = [];
  back = [];
  whole = sym (append-nil value);
  front_spaces = ([], tt, refl);
  front_longest = λ spaces rest e is.
      let whole : region ≡ (t.front ++ spaces) ++ (rest ++ t.back) =
      t.whole ∙ rw e (simp append_assoc) in
      omega (
        arith,
        t.front_longest (t.front ++ spaces) (rest ++ t.back) whole
            (white_both t.front spaces t.front_spaces is),
        length-append {A = ℕ},
      );
  back_spaces = ([], tt, refl);
  back_longest = λ rest spaces e is.
      let whole : value ++ t.back ≡ rest ++ (spaces ++ t.back) =
      rw (← append_assoc) (ap (λ v. v ++ t.back) (sym (append-nil value) ∙ e)) in
      omega (
        arith,
        t.back_longest rest (spaces ++ t.back) whole (white_both spaces t.back is t.back_spaces),
        length-append {A = ℕ},
      );
}

-- a property of all bytes of a line is one of a value in it
value_keeps : (P : ℕ → Type 0) (kind : Kind) (value body : List ℕ) → IsStatement kind value body
    → Each P body → Each P value
value_keeps P kind value body s all =
    let rest = each_back P s.key _ (each_back P s.margin _ (subst (Each P) s.whole all)) in
    let tail : Each P s.tail = elim s.separated [
      | inl (blanks, are, e) ↦ (each_back P blanks _ (subst (Each P) e rest)).1
      | inr (blanks, are, some, e, starts) ↦ each_back P blanks _ (subst (Each P) e rest)
    ] in
    let region = each_front P s.region s.comment (subst (Each P) s.parted tail) in
    each_front P value s.trimmed.back (each_back P s.trimmed.front _ (subst (Each P) s.trimmed.whole region))

-- what is true of the value of a directive
pub record IsValue (value : List ℕ) : Type 0 where
  own : Each IsOwnByte value
  bare : Each (λ b. is_hash b ≡ false) value
  trimmed : IsTrimOf value value

value_is : (kind : Kind) (value body : List ℕ) → statement_of body ≡ Some (kind, value) → Each IsOwnByte body
    → IsValue value
value_is kind value body found own =
    let s = statement_sound kind value body found in
    let t = s.trimmed in
    let bare = each_front _ value t.back (each_back _ t.front _ (subst (Each _) t.whole s.no_hash)) in
    record {
      own = value_keeps IsOwnByte kind value body s own;
      bare = each_weaker _ (λ b. is_hash b ≡ false) (λ b is. ne_eqb b 35 is) value bare;
      trimmed = trimmed_stays value s.region t;
    }

-- a token is such a value, a path begins no comment, and a delay isn't stated
abbrev pub IsFit : rfc.Entry → Type 0
IsFit (rfc.Agent token) = IsValue token
IsFit (rfc.InGroup (rfc.Allow path)) = Each (λ b. is_hash b ≡ false) path
IsFit (rfc.InGroup (rfc.Disallow path)) = Each (λ b. is_hash b ≡ false) path
IsFit (rfc.InGroup (rfc.Delay number)) = ⊥
IsFit _ = Unit {0}

allow_fits : (path body : List ℕ) → Each (λ b. is_hash b ≡ false) path → IsFit (stated_in (Allow path) body)
allow_fits path body bare = elim (cases_Bool (is_empty_disallow (Allow path) body)) [
  | inl is ↦ rw is tt
  | inr other ↦ rw other bare
]

fit_with : (kind : Kind) (value body : List ℕ) → IsValue value
    → IsFit (stated_in (line_with kind value body) body)
fit_with kind.UserAgent value body is = is
fit_with kind.Allow value body is = allow_fits value body is.bare
fit_with kind.Disallow [] body is = allow_fits (codes "/") body (refl, tt)
fit_with kind.Disallow (b ∷ value) body is = is.bare
fit_with kind.Sitemap value body is = tt
fit_with kind.CrawlDelay value body is = at (delay_of value)
  where
    at : (delay : Option ℕ) → IsFit (stated_in (delay_or_raw delay body) body)
    at None = tt
    at (Some delay) = tt

fit_of : (body : List ℕ) → Each IsOwnByte body → IsFit (entry_of body)
fit_of body own = at (statement_of body) refl
  where
    at : (found : Option (Kind × List ℕ)) → statement_of body ≡ found → IsFit (entry_of body)
    at None none = rw (line_raw body none) tt
    at (Some (kind, value)) found =
        rw (line_stated body kind value found) (fit_with kind value body (value_is kind value body found own))

entries_fit : (bodies : List (List ℕ)) → Each (Each IsOwnByte) bodies → Each IsFit (map entry_of bodies)
entries_fit [] own = tt
entries_fit (body ∷ bodies) own = (fit_of body own.0, entries_fit bodies own.1)

stated_fit : (entries : List rfc.Entry) → Each IsFit entries → Each IsFit (from_first_token entries)
stated_fit [] fit = tt
stated_fit (rfc.Agent token ∷ entries) fit = fit
stated_fit (_ ∷ entries) fit = (tt, stated_fit entries fit.1)

-- ---- the lines that are written

written_line : (kind : Kind) (key value : List ℕ)
    → Contains (field_names kind) (str_to_ascii_lowercase key) → Each (λ b. is_hash b ≡ false) value
    → IsTrimOf value value → statement_of (key ++ 58 ∷ 32 ∷ value) ≡ Some (kind, value)
written_line kind key value named bare trim =
    statement_complete kind value _ (record {
      margin = [];
      key = key;
      rest = 58 ∷ 32 ∷ value;
      tail = 32 ∷ value;
      region = 32 ∷ value;
      comment = [];
      whole = refl;
      margin_blank = tt;
      is_key = named;
      separated = inl ([], tt, refl);
      parted = sym (append-nil _);
      no_hash = (omega arith, each_weaker (λ b. is_hash b ≡ false) _ (λ b is. eqb-false b 35 is) value bare);
      is_comment = inl refl;
      trimmed = trim_if_same _ value value (trim_skips_blanks (32 ∷ []) value (inl refl, tt)) trim;
    })

visible_own : (b : ℕ) → IsVisible b → IsOwnByte b
visible_own b is = ((omega arith, omega arith), omega arith)

-- the line of an entry
abbrev pub value_for : rfc.Entry → LineValue
value_for (rfc.Agent token) = UserAgent token
value_for (rfc.InGroup (rfc.Allow path)) = Allow (written_pattern path)
value_for (rfc.InGroup (rfc.Disallow path)) = Disallow (written_pattern path)
value_for _ = Raw []

nothing_read : line_of [] ≡ Raw []
nothing_read = line_without_kind [] [] refl refl

rule_stated : (kind : Kind) (key path : List ℕ) → Contains (field_names kind) (str_to_ascii_lowercase key)
    → Each (λ b. is_hash b ≡ false) path
    → statement_of (key ++ 58 ∷ 32 ∷ written_pattern path) ≡ Some (kind, written_pattern path)
rule_stated kind key path named bare =
    written_line kind key _ named (written_bare path bare) (visible_trim _ (written_visible path))

line_reads : (entry : rfc.Entry) → IsFit entry → line_of (line_for entry) ≡ value_for entry
line_reads (rfc.Agent token) is =
    line_stated _ kind.UserAgent token
    (written_line kind.UserAgent (codes "User-agent") token (0, omega arith, refl) is.bare is.trimmed)
line_reads (rfc.InGroup (rfc.Allow path)) is =
    line_stated _ kind.Allow _ (rule_stated kind.Allow (codes "Allow") path (0, omega arith, refl) is)
line_reads (rfc.InGroup (rfc.Disallow path)) is =
    line_stated _ kind.Disallow _
    (rule_stated kind.Disallow (codes "Disallow") path (0, omega arith, refl) is)
    ∙ disallowed _ _ (written_some path)
line_reads (rfc.InGroup (rfc.Delay number)) is = nothing_read
line_reads (rfc.Sitemap address) is = nothing_read
line_reads rfc.Nothing is = nothing_read

lines_read : (entries : List rfc.Entry) → Each IsFit entries
    → map line_of (map line_for entries) ≡ map value_for entries
lines_read [] fit = refl
lines_read (entry ∷ entries) fit = grind (arith, line_reads, lines_read entries fit.1)

-- ---- the text has these lines

abbrev is_own : ℕ → Bool
is_own b = not (b == 13) && (not (b == 10) && not (b == 0))

own : (text : List ℕ) → list_all is_own text ≡ true → Each IsOwnByte text
own = each_if_all IsOwnByte is_own (λ b is. grind (arith, nat_tests))

own_rule : (field path : List ℕ) → list_all is_own field ≡ true
    → Each IsOwnByte (field ++ written_pattern path)
own_rule field path is =
    each_append _ field _ (own field is)
    (each_weaker IsVisible IsOwnByte visible_own _ (written_visible path))

line_good : (entry : rfc.Entry) → IsFit entry → IsGood (line_for entry)
line_good (rfc.Agent token) is =
    (each_append _ (codes "User-agent: ") token (own (codes "User-agent: ") refl) is.own, omega arith)
line_good (rfc.InGroup (rfc.Allow path)) is = (own_rule (codes "Allow: ") path refl, omega arith)
line_good (rfc.InGroup (rfc.Disallow path)) is = (own_rule (codes "Disallow: ") path refl, omega arith)
line_good (rfc.InGroup (rfc.Delay number)) is = (tt, tt)
line_good (rfc.Sitemap address) is = (tt, tt)
line_good rfc.Nothing is = (tt, tt)

lines_good : (entries : List rfc.Entry) → Each IsFit entries → Each IsGood (map line_for entries)
lines_good [] fit = tt
lines_good (entry ∷ entries) fit = (line_good entry fit.0, lines_good entries fit.1)

pub file_fits : (file : List ℕ) → Each IsFit (from_first_token (entries_in file))
file_fits file = stated_fit _ (entries_fit (file_bodies file) (bodies_own file))

pub text_lines : (file : List ℕ) → file_bodies (standard_text file) ≡ lines_for file
text_lines file = lines_are_read _ (lines_good _ (file_fits file))

pub text_read : (file : List ℕ)
    → file_lines (standard_text file) ≡ map value_for (from_first_token (entries_in file))
text_read file = ap (map line_of) (text_lines file) ∙ lines_read _ (file_fits file)

-- ---- the text is written line by line

abbrev is_token : rfc.Entry → Bool
is_token (rfc.Agent token) = true
is_token entry = false

agent_is : (line : LineValue) (body : List ℕ) → is_agent line ≡ is_token (stated_in line body)
agent_is line body = grind (arith, cases_Bool)

-- what the entries state, if a product token is above them or not
abbrev pub stated : Bool → List rfc.Entry → List rfc.Entry
stated true entries = entries
stated false entries = from_first_token entries

first_stated : (below : Bool) (entry : rfc.Entry) (entries : List rfc.Entry)
    → stated below (entry ∷ entries)
    ≡ (if below || is_token entry then entry else rfc.Nothing) ∷ stated (below || is_token entry) entries
first_stated true entry entries = refl
first_stated false (rfc.Agent token) entries = refl
first_stated false (rfc.InGroup member) entries = refl
first_stated false (_) entries = refl

abbrev pub lines_of : Bool → List (List ℕ) → List ℕ
lines_of below bodies = joined (map line_for (stated below (map entry_of bodies)))

-- the text with a line for this content, and those for the next ones
pub next_line : (below : Bool) (body : List ℕ) (bodies : List (List ℕ)) (text : List ℕ)
    → let now = below || is_agent (line_of body) in
    text ++ lines_of below (body ∷ bodies)
    ≡ ((if now then text ++ line_for (entry_of body) else text) ++ lf ∷ []) ++ lines_of now bodies
next_line below body bodies text =
    rw (agent_is (line_of body) body, first_stated below (entry_of body) (map entry_of bodies))
    (at (below || is_token (entry_of body)))
  where
    at : (now : Bool) → text ++ joined (line_for (if now then entry_of body else rfc.Nothing)
        ∷ map line_for (stated now (map entry_of bodies)))
        ≡ ((if now then text ++ line_for (entry_of body) else text) ++ lf ∷ []) ++ lines_of now bodies
    at true = simp append_assoc
    at false = simp append_assoc
