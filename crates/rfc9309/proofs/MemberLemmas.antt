-- The lines of product tokens, rules, delays and sitemaps.
use Rattle.std.proofs.Common.{◌≡◌, ◌≢◌, ◌⊎◌, inl, inr, ℕ, ◌==◌, ◌||◌, true, List, [], ◌∷◌, ◌++◌, All, Some}
use Rattle.std.proofs.Common.{append-nil, append_assoc, ap, arith, codes, drop, get_or, refl, subst, sym, ◌∙◌}
use Rattle.std.proofs.lemmas.{Str.is_utf8-from_IsUtf8, Bool.Decides.nat_tests, Slice.Eq.bytes_eq-Decides}
use Rattle.std.proofs.lemmas.Bool.{and_from, ne_eqb, or_left, or_right}
use Rattle.std.proofs.lemmas.List.Elements.{All-from_recursion, All-nil}
use Rattle.texting_robots.specs.{Line.UserAgent, Line.Allow, Line.CrawlDelay, Line.Disallow, Delay.Decimal}
use Rattle.texting_robots.specs.{Delay.NamesDelay, Delay.Writes, Trim.IsTrimOf, Internal.Statement.trimmed}
use Rattle.texting_robots.specs.Internal.{Line.line_with, Line.delay_or_raw, Delay.delay_of, Delay.rounded}
use Rattle.texting_robots.proofs.Shared.{is_delay_of, delay_computed, rounded_rounds, each_append}
use Rattle.texting_robots.proofs.Shared.{trimmed_is_trim}
use Rattle.rfc9309.proofs.HasFormLemmas.{IsCharText, chars_text, text_append}
use Rattle.rfc9309.proofs.KeyedLemmas.{IsLineOf, keyed_line, has_at, parts_at, passes, value_passes}
use Rattle.rfc9309.proofs.ValueLemmas.{IsVisible, trim_some, trim_utf8, visible_trim, visible_utf8}
use Rattle.rfc9309.proofs.Sources.{Parts, Source, allowed_in, with_address, with_member, with_source}
use Rattle.rfc9309.proofs.SyntaxLemmas.{each_weaker}
use Rattle.rfc9309.specs.LineTest.{are_some, is_digit, is_identifier_byte, is_number}
use Rattle.rfc9309.specs.LineTest.{is_pattern, is_product_token}
use Rattle.rfc9309.specs.LineForms.{Form, Agent, Rule, Delay, Sitemap}
use Rattle.std.specs.{List.AllByRecursion as Each, Char.IsAsciiDigit, Str.is_utf8}
use Rattle.std.proofs.lemmas.Str.Parse.{without_leading_plus_none}
use Rattle.texting_robots.specs.Line as library
use Rattle.texting_robots.specs.declared.parser.statement.Kind.TheVariants as kind
use Rattle.rfc9309.specs.Rfc9309 as rfc

abbrev pub IsPlain : ℕ → Type 0
IsPlain byte = IsVisible byte × (byte ≢ 35)

identifier_plain : (b : ℕ) → rfc.IsIdentifierByte b → IsPlain b
identifier_plain b is = grind arith

pub token_plain : (token : List ℕ) → rfc.IsProductToken token → Each IsPlain token
token_plain token h = grind (arith, each_weaker, identifier_plain)

pub plain_text : (bytes : List ℕ) → Each IsPlain bytes → IsCharText bytes × IsTrimOf bytes bytes
plain_text bytes plain = grind (arith, each_weaker, visible_trim, visible_utf8)

identifier_passes : (b : ℕ) → rfc.IsIdentifierByte b → is_identifier_byte b ≡ true
identifier_passes b is = grind (arith, nat_tests)

pub name_passes : (name : List ℕ) → rfc.IsIdentifier name → are_some is_identifier_byte name ≡ true
name_passes name h = grind (arith, identifier_passes, passes)

token_passes : (token : List ℕ) → rfc.IsProductToken token → is_product_token token ≡ true
token_passes token h = grind (arith, bytes_eq-Decides, name_passes, or_right)

pub token_line : (token text : List ℕ) → rfc.IsStartGroupLine token text
    → IsLineOf Agent ((UserAgent token, token) ∷ []) text
token_line token text (is, line) =
    let (chars, trim) = plain_text token (token_plain token is) in
    keyed_line kind.UserAgent token token text line chars trim _ (λ body. refl) (tt, tt)
    (token_passes token is)

abbrev pub member_form : rfc.Member → Form
member_form (rfc.Allow pattern) = Rule
member_form (rfc.Disallow pattern) = Rule
member_form (rfc.Delay number) = Delay

pub record MemberRead (member : rfc.Member) (text : List ℕ) : Type 0 where
  pub source : Source
  pub is_line : IsLineOf (member_form member) (source ∷ []) text
  pub written : (parts : Parts) → with_source source parts ≡ with_member member parts
  pub unlisted : (following : List (List ℕ)) → with_address source following ≡ following

pub disallowed : (read body : List ℕ) → read ≢ [] → line_with kind.Disallow read body ≡ Disallow read
disallowed read body h = grind arith

pub trim_is_utf8 : (text : List ℕ) → IsCharText text → is_utf8 (trimmed text) ≡ true
trim_is_utf8 text chars = is_utf8-from_IsUtf8 _ (trim_utf8 _ _ chars.utf8 (trimmed_is_trim _))

pub slash_plain : IsPlain 47
slash_plain = grind arith

-- nothing, or a plain byte and characters
pub record IsRuleValue (value : List ℕ) : Type 0 where
  pub chars : IsCharText value
  pub passes : is_pattern value ≡ true
  pub plain : (b : ℕ) (text : List ℕ) → value ≡ b ∷ text → IsVisible b

begun : (b : ℕ) (value : List ℕ) → IsPlain b → (b == 0x2F || b == 0x2A) ≡ true
    → rfc.IsPatternWith (b ∷ []) value → IsRuleValue value
begun b value plain first is =
    let text = chars_text is.text is.is_text in
    rw is.whole (record {
      chars = text_append (b ∷ []) is.text (plain_text (b ∷ []) (plain, tt)).0 text;
      passes = and_from _ _ first (value_passes is.text text);
      plain = λ c text e. subst IsVisible (ap (λ (t : List ℕ). get_or t 0 0) e) plain.0;
    })

-- a value of spaces and tabs is an empty value after these spaces and tabs
pub emptied : (word value text : List ℕ) → Each rfc.IsWs value → rfc.IsKeyed word value text
    → rfc.IsKeyed word [] text
emptied word value text all line = record {
  margin = line.margin;
  key = line.key;
  blanks = line.blanks;
  gap = line.gap ++ value;
  eol = line.eol;
  whole = line.whole ∙ simp append_assoc;
  margin_blank = line.margin_blank;
  is_key = line.is_key;
  blanks_blank = line.blanks_blank;
  gap_blank = each_append _ _ _ line.gap_blank all;
  is_eol = line.is_eol;
}

abbrev IsRuleLine : (word pattern text : List ℕ) → Type 0
IsRuleLine word pattern text = IsRuleValue pattern × rfc.IsKeyed word pattern text

plain_rule : (word pattern text : List ℕ) → rfc.IsRuleWith word pattern text → IsRuleLine word pattern text
plain_rule word pattern text rule = elim rule.is_pattern [
  | inl (path, same) ↦ rw same (begun 47 rule.value slash_plain refl path, rule.is_line)
  | inr (blanks, none) ↦ rw none (
    record { chars = (plain_text [] tt).0; passes = refl; plain = λ b text e. cc },
    emptied word rule.value text blanks rule.is_line,
  )
]

star_rule : (word pattern text : List ℕ) → rfc.IsStarPattern pattern × rfc.IsKeyed word pattern text
    → IsRuleLine word pattern text
star_rule word pattern text (is, line) = (begun 42 pattern (grind arith) refl is, line)

allow : (pattern read text : List ℕ) → IsTrimOf read pattern → allowed_in pattern read ≡ rfc.Allow pattern
    → IsRuleLine (codes "allow") pattern text → MemberRead (rfc.Allow pattern) text
allow pattern read text trim same (value, line) =
    let chars = value.chars in
    let utf8 = is_utf8-from_IsUtf8 read (trim_utf8 pattern read chars.utf8 trim) in
    record {
      source = (Allow read, pattern);
      is_line =
          keyed_line kind.Allow pattern read text line chars trim (Allow read) (λ body. refl)
          (rw (same, utf8) (read, trim, refl), tt) value.passes;
      written = λ parts. ap (λ member. with_member member parts) same;
      unlisted = λ following. refl;
    }

allow_line : (pattern text : List ℕ) → IsRuleLine (codes "allow") pattern text
    → MemberRead (rfc.Allow pattern) text
allow_line [] text rule = allow [] [] text (visible_trim [] tt) refl rule
allow_line (b ∷ pattern) text rule =
    allow (b ∷ pattern) (trimmed (b ∷ pattern)) text (trimmed_is_trim (b ∷ pattern)) refl rule

disallow_line : (pattern text : List ℕ) → IsRuleLine (codes "disallow") pattern text
    → MemberRead (rfc.Disallow pattern) text
disallow_line [] text (_, line) =
    let slash = codes "/" in
    record {
      source = (Allow slash, []);
      is_line =
          keyed_line kind.Disallow [] [] text line (plain_text [] tt).0 (visible_trim [] tt)
          (Allow slash)
          (λ body. refl)
          (rw (is_utf8-from_IsUtf8 slash (plain_text slash (slash_plain, tt)).0.utf8), tt) refl;
      written = λ parts. refl;
      unlisted = λ following. refl;
    }
disallow_line (b ∷ pattern) text (is, line) =
    let value : List ℕ = b ∷ pattern in
    let read = trimmed value in
    let trim = trimmed_is_trim value in
    record {
      source = (Disallow read, value);
      is_line =
          keyed_line kind.Disallow value read text line is.chars trim (Disallow read)
          (λ body. disallowed read body (trim_some b pattern read (is.plain b pattern refl) trim))
          (rw (trim_is_utf8 value is.chars) (read, trim, refl), tt) is.passes;
      written = λ parts. refl;
      unlisted = λ following. refl;
    }

pub rule_line : (member : rfc.Member) (text : List ℕ) → rfc.IsRule member text ⊎ rfc.IsStarRule member text
    → MemberRead member text
rule_line (rfc.Allow pattern) text (inl is) = allow_line pattern text (plain_rule _ pattern text is)
rule_line (rfc.Allow pattern) text (inr is) = allow_line pattern text (star_rule _ pattern text is)
rule_line (rfc.Disallow pattern) text (inl is) = disallow_line pattern text (plain_rule _ pattern text is)
rule_line (rfc.Disallow pattern) text (inr is) = disallow_line pattern text (star_rule _ pattern text is)
rule_line (rfc.Delay number) text (inl is) = absurd is
rule_line (rfc.Delay number) text (inr is) = absurd is

abbrev decimal_of : List ℕ → List ℕ → Decimal
decimal_of units fraction = record { whole = units; fraction = fraction; exponent = [] }

digit_passes : (b : ℕ) → rfc.IsDigitByte b → is_digit b ≡ true
digit_passes b is = grind (arith, nat_tests)

digits_pass : (digits : List ℕ) → rfc.IsDigits digits → are_some is_digit digits ≡ true
digits_pass digits h = grind (arith, digit_passes, passes)

no_point : (digits : List ℕ) → rfc.IsDigits digits → Each (λ b. b ≢ 0x2E) digits
no_point digits h = grind (arith, each_weaker)

record Numbered (number : List ℕ) : Type 0 where
  delay : ℕ
  is : delay_of number ≡ Some delay
  plain : Each IsPlain number
  passes : is_number number ≡ true

digit_plain : (b : ℕ) → rfc.IsDigitByte b → IsPlain b
digit_plain b is = grind arith

-- a number that begins with a digit has no sign, so it denotes a delay
numbered_by : (d : ℕ) (rest units fraction : List ℕ) → rfc.IsDigitByte d
    → Writes (d ∷ rest) (decimal_of units fraction) → Each IsPlain (d ∷ rest)
    → is_number (d ∷ rest) ≡ true → Numbered (d ∷ rest)
numbered_by d rest units fraction digit writes plain passes =
    let n = decimal_of units fraction in
    let no_plus = without_leading_plus_none (d ∷ rest) (λ e. omega (arith, digit.0)) in
    let names : NamesDelay (d ∷ rest) (rounded n) =
    rw (ne_eqb d 45 (λ e. omega arith), no_plus) (inr (n, writes, rounded_rounds n)) in
    record {
      delay = rounded n;
      is = sym (is_delay_of (d ∷ rest) _ names);
      plain = plain;
      passes = passes;
    }

all_digits : (digits : List ℕ) → rfc.IsDigits digits → All IsAsciiDigit digits × Each IsPlain digits
all_digits [] is = absurd is
all_digits (d ∷ ds) is = (
  All-from_recursion _ (d ∷ ds) is,
  each_weaker _ IsPlain digit_plain (d ∷ ds) is,
)

whole_numbered : (digits : List ℕ) → rfc.IsDigits digits → Numbered digits
unfolding is_number
whole_numbered [] is = absurd is
whole_numbered (d ∷ ds) is =
    let digits = all_digits (d ∷ ds) is in
    numbered_by d ds (d ∷ ds) [] is.0 (record {
      point = [];
      tail = [];
      is_text = sym (append-nil (d ∷ ds));
      whole = digits.0;
      fraction = All-nil _;
      some = omega arith;
      is_point = inr (refl, refl);
      is_tail = inl (refl, refl);
    }) digits.1 (or_left _ _ (digits_pass (d ∷ ds) is))

parts_numbered : (units fraction : List ℕ) → rfc.IsDigits units → rfc.IsDigits fraction
    → Numbered (units ++ (codes "." ++ fraction))
unfolding is_number
parts_numbered [] fraction is following = absurd is
parts_numbered (d ∷ ds) fraction is following =
    let units = all_digits (d ∷ ds) is in
    let digits = all_digits fraction following in
    let number : List ℕ = (d ∷ ds) ++ 0x2E ∷ fraction in
    let parts = parts_at 0x2E (d ∷ ds) fraction (no_point (d ∷ ds) is) in
    numbered_by d _ (d ∷ ds) fraction is.0 (record {
      point = codes ".";
      tail = [];
      is_text = simp append-nil;
      whole = units.0;
      fraction = digits.0;
      some = omega arith;
      is_point = inl refl;
      is_tail = inl (refl, refl);
    }) (each_append IsPlain (d ∷ ds) _ units.1
    (each_append IsPlain (codes ".") fraction (grind arith) digits.1))
    (or_right _ _
    (and_from _ _ (has_at 0x2E (d ∷ ds) fraction) (and_from _ _
    (ap (are_some is_digit) parts.before ∙ digits_pass (d ∷ ds) is)
    (ap (λ t. are_some is_digit (drop 1 t)) parts.from ∙ digits_pass fraction following))))

numbered : (number : List ℕ) → rfc.IsNumber number → Numbered number
numbered number h = grind (arith, parts_numbered, whole_numbered)

pub delay_line : (member : rfc.Member) (text : List ℕ) → rfc.IsDelayLine member text
    → MemberRead member text
delay_line (rfc.Allow pattern) text is = absurd is
delay_line (rfc.Disallow pattern) text is = absurd is
delay_line (rfc.Delay number) text (is, line) =
    let n = numbered number is in
    let (chars, trim) = plain_text number n.plain in
    record {
      source = (CrawlDelay (Some n.delay), number);
      is_line =
          keyed_line kind.CrawlDelay number number text line chars trim _
          (λ body. ap (λ delay. delay_or_raw delay body) n.is)
          ((delay_computed number (Some n.delay)).1 (sym n.is), tt) n.passes;
      written = λ parts. refl;
      unlisted = λ following. refl;
    }

pub member_line : (member : rfc.Member) (text : List ℕ) → rfc.IsMemberLine member text
    → MemberRead member text
member_line member text h = grind (arith, delay_line, rule_line)

pub sitemap_line : (address text : List ℕ) → rfc.IsSitemapLine address text
    → IsLineOf Sitemap ((library.Sitemap (trimmed address), address) ∷ []) text
sitemap_line address text (is, line) =
    let chars = chars_text address is in
    let value = trimmed address in
    let trim = trimmed_is_trim address in
    keyed_line kind.Sitemap address value text line chars trim _ (λ body. refl)
    ((rw (trim_is_utf8 address chars), trim), tt) (value_passes address chars)
