-- Match targets: of URLs in normal form, and of strings that can't be parsed as URLs.
use Rattle.std.specs.{Prelude.reverse, List.list_all, List.prefix_len, List.suffix_len}
use Rattle.std.proofs.Common.{◌≡◌, ℕ, ◌<◌, ◌&&◌, ◌||◌, ◌==◌, Bool, true, false, not, List, [], ◌∷◌, ◌++◌, All}
use Rattle.std.proofs.Common.{IfSome, None, Ok, Option, Some, codes, decimal, drop, get_or, length, sym, refl}
use Rattle.std.proofs.Common.{ap, ◌∙◌, subst, inl, inr, ⊎_elim, arith, append_assoc, append-nil, ◌-◌, ◌≢◌}
use Rattle.std.proofs.Common.{length-append, take-append-drop, take_at, drop_at, is_some, nat_lt, ◌+◌}
use Rattle.std.proofs.Common.{option_map, slice_index, unwrap_or, ◌≤◌, Err, take}
use Rattle.std.specs.Char.{is_ascii_digit, is_ascii_lowercase, to_ascii_lowercase}
use Rattle.std.proofs.lemmas.Bool.{agree_below, cases_Bool, cond-false, cond-true, eqb-true, false≢true}
use Rattle.std.proofs.lemmas.Bool.{cond_both, Decides.nat_tests}
use Rattle.std.proofs.lemmas.List.{take_all, length-reverse, reverse-append, Sums.suffix_len_is}
use Rattle.std.proofs.lemmas.List.Elements.{All-nil, All-weaker, All-take}
use Rattle.percent_encoding.specs.{declared.ascii_set.AsciiSet.AsciiSet, AsciiSet.should_percent_encode}
use Rattle.percent_encoding.specs.Percent.{IsKept, percent_encode}
use Rattle.url.specs.declared.sets.TheConstants.{FRAGMENT, SPECIAL_QUERY, USERINFO}
use Rattle.url.specs.declared.{host.Host.TheVariants.Domain, scheme.SchemeType.TheVariants.SpecialNotFile}
use Rattle.url.specs.{Host.IsDomainOf, Head.without_tail}
use Rattle.url.proofs.{Theorems.parse_url-serialize_special, ParsedCanonical.before_special}
use Rattle.url.specs.Parser.{parse_url, after_double_slash, parse_authority, parse_by_scheme, split_scheme}
use Rattle.url.specs.Parser.{skip_slashes, and_then, parse_body, parse_parts, with_path, Parsed}
use Rattle.url.specs.declared.error.ParseError.TheVariants.{RelativeUrlWithoutBase}
use Rattle.url.specs.Input.{is_empty, rsplit_once, split_once, when, is_c0_control_or_space}
use Rattle.url.specs.Input.{strip_tabs_and_new_lines, trim_c0_control_and_space}
use Rattle.url.specs.Scheme.{IsScheme, default_port, scheme_len, scheme_type, is_file, is_slash, is_special}
use Rattle.url.proofs.{PathLemmas.root_only, RoundTrip.special_body, RoundTrip.split_own_scheme}
use Rattle.url.proofs.InputLemmas.{All-take-prefix_len, All_from_list_all, IsNot, Passes, StopsAt, filter_all}
use Rattle.url.proofs.InputLemmas.{is_empty_nonempty, lowercase_other, map_fixed, prefix_len_at}
use Rattle.url.proofs.InputLemmas.{prefix_len_is, split_once_none}
use Rattle.url.specs.Ipv4.{ends_in_a_number, is_number, last_label_of, parse_number}
use Rattle.url.specs.Path.{IsSegmentList, dot_count, parse_path_start, parse_segments, push_segment}
use Rattle.url.specs.Parts.{IsPortOf, IsValid, Parts, serialize, text_before, kind_of, text_between}
use Rattle.url.specs.declared.slicing.Position.TheVariants.{AfterPath, AfterPort, BeforePath, BeforeUsername}
use Rattle.url.proofs.TextLemmas.{All_body, authority_bytes, is_authority_byte}
use Rattle.texting_robots.specs.Prepared.{with_delimiter, prepared, target_of}
use Rattle.texting_robots.specs.declared.{escape.TheConstants.UNESCAPED, normalized.TheConstants.QUERY}
use Rattle.texting_robots.specs.Internal.Normalized.{IsAuthority, IsDelimited, IsName, IsPath, IsSite}
use Rattle.texting_robots.specs.Internal.Normalized.{IsTarget, Leaves, after_delimited, kept_prefix, is_kept}
use Rattle.texting_robots.specs.Escape.{escaped}
use Rattle.texting_robots.proofs.NormalizedLemmas.{kept_all, kept_but}

-- ---- How `url` parses an absolute URL in normal form

module _ (delimiter : ℕ) (part : List ℕ) (set : AsciiSet)
    (same : agree_below (is_kept part) (kept_but set (λ x. false)) 256 ≡ true) where
  pub labeled_read : (text : List ℕ)
      → Leaves (IsDelimited (delimiter ∷ []) set) text (after_delimited delimiter part text)
  labeled_read [] = ([], refl, (None, refl, tt))
  labeled_read (b ∷ text) = ⊎_elim
      (λ (e : (b == delimiter) ≡ true). rw e (
        delimiter ∷ kept_prefix part text,
        cc (eqb-true b delimiter e, take-append-drop _ text),
        (
          Some (kept_prefix part text),
          refl,
          (kept_all part set (λ x. false) same (kept_prefix part text)
              (All-take-prefix_len (is_kept part) text)).0,
        ),
      ))
      (grind arith) (cases_Bool (b == delimiter))

no_number : (label : List ℕ) → is_ascii_lowercase (slice_index label 0) ≡ true
    → (not (is_empty label) && list_all is_ascii_digit label || is_number (parse_number label))
    ≡ false
unfolding parse_number
no_number [] letter = absurd (false≢true letter)
no_number (b ∷ label) letter =
    let digit : is_ascii_digit b ≡ false = grind (arith, nat_tests) in
    let zero : (b == 48) ≡ false = grind (arith, nat_tests) in
    grind (arith, is_empty_nonempty)

last_label_named : (front : Option (List ℕ)) (label : List ℕ)
    → is_ascii_lowercase (slice_index label 0) ≡ true → last_label_of front label ≡ label
last_label_named front [] letter = absurd (false≢true letter)
last_label_named (Some front) (b ∷ label) letter =
    cond-false _ _ _ (is_empty_nonempty (b ∷ label) (omega arith))
last_label_named None (b ∷ label) letter = refl

domain_of : (host : List ℕ) → IsName host → IsDomainOf SpecialNotFile host
unfolding ends_in_a_number rsplit_once
domain_of [] name = absurd (false≢true name.letter)
domain_of (b ∷ host) name =
    let split = rsplit_once 46 (b ∷ host) in (
      record {
        allowed = name.allowed;
        lower = map_fixed to_ascii_lowercase (b ∷ host)
            (λ k d inside. lowercase_other _ (name.small k d inside));
        named = rw (last_label_named split.0 split.1 name.letter) (no_number split.1 name.letter);
      },
      omega arith,
    )

port_text : (port : Option ℕ) → with_delimiter (codes ":") (option_map decimal port)
    ≡ when (is_some port) (codes ":") ++ (unwrap_or (option_map decimal port) [] ++ [])
port_text None = refl
port_text (Some n) = sym (append-nil _)

record SiteOf (site : List ℕ) : Type 0 where
  scheme : List ℕ
  host : List ℕ
  port : Option ℕ
  assembled : site ≡ scheme ++ (codes "://" ++ (host ++ (when (is_some port) (codes ":")
      ++ (unwrap_or (option_map decimal port) [] ++ []))))
  lower : IsScheme scheme
  kind : scheme_type scheme ≡ SpecialNotFile
  name : IsName host
  other : IsPortOf scheme port

site_at : (scheme : List ℕ) (own : ℕ) (site authority : List ℕ) → default_port scheme ≡ Some own
    → IsScheme scheme → scheme_type scheme ≡ SpecialNotFile
    → site ≡ scheme ++ (codes "://" ++ authority) → IsAuthority own authority → SiteOf site
site_at scheme own site authority default lower kind assembled is = grind (arith, port_text)

site_of : (site : List ℕ) → IsSite site → SiteOf site
unfolding scheme_len scheme_type default_port
site_of site (inl (authority, assembled, is)) =
    let lower : IsScheme (codes "https") = grind arith in
    site_at (codes "https") 443 site authority refl lower refl assembled is
site_of site (inr (authority, assembled, is)) =
    let lower : IsScheme (codes "http") = grind arith in
    site_at (codes "http") 80 site authority refl lower refl assembled is

module _ (front : List ℕ) (site : SiteOf front) (path : List ℕ) (query fragment : Option (List ℕ)) where
  abbrev parts : Parts
  parts = record {
    scheme = site.scheme;
    username = [];
    password = [];
    host = Some (Domain site.host);
    port = site.port;
    path = path;
    query = query;
    fragment = fragment;
  }

  valid : IsSegmentList SpecialNotFile path → 0 < length path → IfSome query (All (IsKept SPECIAL_QUERY))
      → IfSome fragment (All (IsKept FRAGMENT)) → IsValid parts
  valid segments some query_kept fragment_kept = record {
    head = record {
      scheme = site.lower;
      username = All-nil (IsKept USERINFO);
      password = All-nil (IsKept USERINFO);
      host = rw site.kind (domain_of site.host site.name);
      port = site.other;
      bare = λ test. absurd (false≢true
          (rw (is_empty_nonempty site.host (domain_of site.host site.name).1, site.kind) at test));
    };
    path = inl (rw site.kind segments, λ _. some);
    query = rw site.kind query_kept;
    fragment = fragment_kept;
  }

tail_text : (query fragment : Option (List ℕ))
    → when (is_some query) (codes "?")
    ++ (unwrap_or query [] ++ (when (is_some fragment) (codes "#") ++ (unwrap_or fragment [] ++ [])))
    ≡ with_delimiter (codes "?") query ++ with_delimiter (codes "#") fragment
tail_text query fragment = grind (arith, append-nil)

pub target_last : (u : Parts) → serialize u ≡ text_before u BeforePath ++ target_of u
target_last u = simp (append_assoc, append-nil, ← tail_text u.query u.fragment)

prepared_parsed : (url : List ℕ) (u : Parts) → 0 < length url → parse_url None url ≡ Ok u
    → prepared url ≡ target_of u
prepared_parsed url u some parsed = grind arith

pub prepared_plain : (url target : List ℕ) → Leaves IsSite url target → (is : IsTarget target)
    → 0 < length is.path → prepared url ≡ target
prepared_plain url target (front, assembled, is_site) is some =
    let site = site_of front is_site in
    let (query, query_written, query_kept) = is.is_query in
    let (fragment, fragment_written, fragment_kept) = is.is_fragment in
    let u = parts front site is.path query fragment in
    let is_valid = valid front site is.path query fragment is.is_path some query_kept fragment_kept in
    let written : target ≡ target_of u = grind (arith, append_assoc, query_written, fragment_written) in
    let text : url ≡ serialize u =
    assembled ∙ (λ i. site.assembled i ++ written i) ∙ sym (target_last u) in
    let long : 0 < length url = grind (arith, length-append) in
    let parsed = ap (parse_url None) text ∙ parse_url-serialize_special u None is_valid site.kind in
    prepared_parsed url u long parsed ∙ sym written

abbrev is_visible : ℕ → Bool
is_visible b = nat_lt 32 b && not (b == 35) && not (b == 63)

abbrev Visible : List ℕ → Type 0
Visible = All (Passes is_visible)

clean : (text : List ℕ) → Visible text
    → strip_tabs_and_new_lines (trim_c0_control_and_space text) ≡ text
unfolding strip_tabs_and_new_lines trim_c0_control_and_space
clean text visible =
    let shown = All-weaker (Passes is_visible) (λ b. is_c0_control_or_space b ≡ false)
    (λ b passes. grind (arith, nat_tests)) text visible in
    let start = prefix_len_is is_c0_control_or_space text 0 (omega arith) (λ k none. absurd (omega arith))
    (shown 0 0) in
    let end = suffix_len_is is_c0_control_or_space text (length text) 0 (omega arith)
    (λ k past inside. absurd (omega arith)) (λ some. shown (length text - 1) 0 (omega arith)) in
    grind (arith, filter_all, take_all)

no_slash_first : (text more : List ℕ) → 0 < length text → All (Passes is_authority_byte) text
    → StopsAt (λ b. b == 47 || b == 92) (text ++ more)
no_slash_first [] more some all = absurd (omega arith)
no_slash_first (b ∷ text) more some all = let passes = all 0 0 (omega arith) in grind (arith, nat_tests)

module _ (front : List ℕ) (site : SiteOf front) where
  abbrev alone : Parts
  alone = parts front site (codes "/") None None

  is_valid : IsValid alone
  is_valid = valid front site (codes "/") None None (root_only SpecialNotFile) (omega arith) tt tt

  abbrev authority : List ℕ
  authority = text_between alone BeforeUsername AfterPort

  by_end : (more : List ℕ) → StopsAt (λ b. not (is_slash (kind_of alone) b)) more
      → after_double_slash site.scheme (skip_slashes (47 ∷ 47 ∷ (authority ++ more)))
      ≡ and_then (parse_authority site.scheme authority)
      (λ head. Ok (with_path head (parse_path_start (kind_of alone) [] more)))
  unfolding after_double_slash
  by_end more stops =
      let is_slashes = λ (b : ℕ). b == 47 || b == 92 in
      let test = λ (b : ℕ). not (is_slash (kind_of alone) b) in
      let bytes = authority_bytes alone is_valid.head in
      let whole = All-weaker (Passes is_authority_byte) (Passes test) (λ b passes. grind (arith, nat_tests))
      authority bytes in
      let nonempty = (domain_of site.host site.name).1 in
      let some : 0 < length authority = simp length-append (omega arith) in
      let slashes = prefix_len_at is_slashes (47 ∷ 47 ∷ []) (authority ++ more)
      (All_from_list_all is_slashes (47 ∷ 47 ∷ []) refl) (no_slash_first authority more some bytes) in
      let len = sym (prefix_len_at test authority more whole stops) in
      ap (λ n. after_double_slash site.scheme (drop n (47 ∷ 47 ∷ (authority ++ more)))) slashes
      ∙ (λ i. and_then (parse_authority site.scheme (take_at authority more _ len i))
      (λ head. Ok (with_path head (parse_path_start (kind_of alone) [] (drop_at authority more _ len i)))))

  body_parsed : parse_body site.scheme None (47 ∷ 47 ∷ authority) ≡ Ok (without_tail alone)
  unfolding parse_body parse_path_start parse_segments push_segment dot_count percent_encode
  body_parsed =
      let root : parse_path_start (kind_of alone) [] [] ≡ parse_path_start (kind_of alone) [] (codes "/") =
      rw site.kind refl in
      cond-false _ _ _ (ap is_file site.kind) ∙ cond-true _ _ _ (ap is_special site.kind)
      ∙ ap (λ t. after_double_slash site.scheme (skip_slashes (47 ∷ 47 ∷ t)))
      (sym (append-nil authority))
      ∙ by_end [] tt
      ∙ ap (λ p. and_then (parse_authority site.scheme authority) (λ head. Ok (with_path head p))) root
      ∙ sym (by_end (codes "/") refl) ∙ special_body alone is_valid site.kind

  alone_parsed : parse_url None front ≡ Ok alone
  unfolding parse_url parse_parts
  alone_parsed =
      let whole : text_before alone AfterPath ≡ front ++ codes "/" =
      grind (arith, append-nil, append_assoc) in
      let all = All_body (Passes is_visible) alone is_valid.head (λ b passes. grind (arith, nat_tests))
      (λ b passes. grind (arith, nat_tests)) refl (All_from_list_all is_visible (codes "/") refl) in
      let visible = subst Visible (take_at front (codes "/") _ refl)
      (All-take (Passes is_visible) (length front) _ (subst Visible whole all)) in
      let none = λ (delimiter : ℕ) (hidden : is_visible delimiter ≡ false).
      All-weaker (Passes is_visible) (IsNot delimiter)
      (grind arith)
      front visible in
      let hash = ap (split_once 35) (clean front visible) ∙ split_once_none 35 front (none 35 refl) in
      let question = ap (λ r. split_once 63 r.0) hash ∙ split_once_none 63 front (none 63 refl) in
      grind (arith, before_special, body_parsed, split_own_scheme, question, hash)

pub prepared_alone : (front : List ℕ) → IsSite front → prepared front ≡ codes "/"
prepared_alone front is_site =
    let site = site_of front is_site in
    let long : 0 < length front = grind (arith, length-append) in
    prepared_parsed front (alone front site) long (alone_parsed front site)

no_slash : (query fragment : Option (List ℕ))
    → get_or (with_delimiter (codes "?") query ++ with_delimiter (codes "#") fragment) 0 0 ≢ 47
no_slash None None = λ slash. absurd (omega arith)
no_slash None (Some part) = λ slash. absurd (omega arith)
no_slash (Some part) fragment = λ slash. absurd (omega arith)

pub path_some : (target : List ℕ) → get_or target 0 0 ≡ 47 → (is : IsTarget target) → 0 < length is.path
path_some target slash is = by is.path is.assembled
  where
    by : (path : List ℕ) → target ≡ path ++ (is.query ++ is.fragment) → 0 < length path
    by [] same = absurd (no_slash is.is_query.0 is.is_fragment.0
        (sym (ap (λ t. get_or t 0 0) (same ∙ (λ i. is.is_query.1 i ++ is.is_fragment.1 i))) ∙ slash))
    by (b ∷ path) same = omega arith

pub target_read : (target tail rest end : List ℕ) → Leaves IsPath target tail
    → rest ≡ after_delimited 63 QUERY.now tail → end ≡ after_delimited 35 UNESCAPED.now rest → end ≡ []
    → IsTarget target
unfolding is_kept should_percent_encode
target_read target tail rest end (path, assembled, is_path) following last none =
    let (query, tail_is, is_query) = labeled_read 63 QUERY.now SPECIAL_QUERY refl tail in
    let (fragment, rest_is, is_fragment) = labeled_read 35 UNESCAPED.now FRAGMENT refl rest in
    grind (arith, append-nil)

-- ---- Strings that can't be parsed as URLs, for example because they begin with a slash

abbrev slash : ℕ
slash = 47

-- how many bytes trimming removes at the end, given the reversed string
abbrev trimmed_front : List ℕ → ℕ
trimmed_front text = prefix_len is_c0_control_or_space text

stops : (xs : List ℕ) → trimmed_front (xs ++ slash ∷ []) ≤ length xs
stops [] = omega arith
stops (x ∷ xs) = grind (arith, cond_both, stops xs)

trimmed : (rest : List ℕ) → trim_c0_control_and_space (slash ∷ rest)
    ≡ slash ∷ take (length rest - suffix_len is_c0_control_or_space (slash ∷ rest)) rest
unfolding trim_c0_control_and_space
trimmed rest =
    let taken = suffix_len is_c0_control_or_space (slash ∷ rest) in
    let turned : taken ≡ trimmed_front (reverse rest ++ slash ∷ []) =
    ap trimmed_front (reverse-append (slash ∷ []) rest) in
    grind (arith, length-reverse, stops)

parsed_from : List ℕ → Parsed Parts
parsed_from text =
    let hash = split_once 35 (strip_tabs_and_new_lines text) in
    let question = split_once 63 hash.0 in
    parse_by_scheme (split_scheme question.0) None question.0 question.1 hash.1

no_url : (rest : List ℕ) → parse_url None (slash ∷ rest) ≡ Err RelativeUrlWithoutBase
unfolding parse_url strip_tabs_and_new_lines split_once split_scheme scheme_len trim_c0_control_and_space
    parsed_from
no_url rest = ap parsed_from (trimmed rest)

pub slash_prepared : (text : List ℕ) → slice_index text 0 ≡ slash → prepared text ≡ escaped text
slash_prepared text h = grind (arith, no_url)
