-- The lines of a file of the grammar are read as their entries, one by one.
use Rattle.std.proofs.Common.{arith, ◌≡◌, ◌≢◌, inl, inr, ℕ, List, [], ◌∷◌, ◌++◌, append_assoc, ap, map}
use Rattle.std.proofs.Common.{filter, flat_map, refl, subst, sym, ◌∙◌}
use Rattle.std.specs.List.{AllByRecursion as Each, AllZip}
use Rattle.texting_robots.specs.Executable.{file_bodies, file_lines, sitemaps_in}
use Rattle.texting_robots.specs.{Line.nul_as_lf, Line.without_bom, Trim.IsTrimOf}
use Rattle.texting_robots.specs.Internal.Cut.{bodies_of}
use Rattle.rfc9309.proofs.ReadLemmas.{after_bom, file_sources, low_of_front, BeginsLow, IsBefore, bare_no_nul}
use Rattle.rfc9309.proofs.ReadLemmas.{end_bytes, last_end_adds_none, line_before, file_same, before_sources}
use Rattle.rfc9309.proofs.ReadLemmas.{low_append, sources_in, sources_of, lines_in}
use Rattle.rfc9309.proofs.OtherLemmas.{empty_line, other_line}
use Rattle.rfc9309.proofs.MemberLemmas.{member_form, member_line, sitemap_line, token_line}
use Rattle.rfc9309.proofs.Sources.{IsRead, Parts, Source, onto, parts_in, parts_of, with_address, with_source}
use Rattle.rfc9309.proofs.{SyntaxLemmas.each_front, EntryLemmas.entry_parts, KeyedLemmas.IsLineOf}
use Rattle.rfc9309.specs.LineForms.{AreRulesBelowAgents as AreFree, Form, Empty, Agent, Sitemap, Other}
use Rattle.texting_robots.proofs.Shared.{bodies_nil, each_append}
use Rattle.rfc9309.specs.Rfc9309 as rfc
use Rattle.texting_robots.specs.Line as library

pub record Line : Type 0 where
  pub form : Form
  pub sources : List Source
  pub text : List ℕ
  pub is : IsLineOf form sources text

abbrev pub forms_of : List Line → List Form
forms_of lines = map (λ (line : Line). line.form) lines

abbrev pub sources_from : List Line → List Source
sources_from lines = flat_map (λ (line : Line). line.sources) lines

abbrev pub joined : List Line → List ℕ
joined lines = flat_map (λ (line : Line). line.text) lines

pub line_bodies : (line : Line) (rest : List ℕ)
    → IsBefore line.is.body (bodies_of (line.text ++ rest)) (bodies_of rest)
line_bodies line rest = grind (arith, append_assoc, line_before)

lines_read : (lines : List Line) → sources_of (joined lines) ≡ sources_from lines
lines_read [] = ap sources_in bodies_nil
lines_read (line ∷ lines) = grind (arith, before_sources, line_bodies, sources_of, lines_read lines)

each_read : (lines : List Line) → Each IsRead (sources_from lines)
each_read [] = tt
each_read (line ∷ lines) = each_append _ _ _ line.is.read (each_read lines)

abbrev AreBytes : List ℕ → Type 0
AreBytes text = Each (λ b. b ≢ 0) text × BeginsLow text

bytes_append : (text later : List ℕ) → AreBytes text → AreBytes later → AreBytes (text ++ later)
bytes_append text later is also = grind (arith, each_append, low_append)

lines_bytes : (lines : List Line) → AreBytes (joined lines)
lines_bytes [] = (tt, tt)
lines_bytes (line ∷ lines) = grind (arith, bare_no_nul, bytes_append, end_bytes, lines_bytes lines)

onto_both : {X A : Type 0} (put : X → A → A) (xs ys : List X) (following : A)
    → onto put (xs ++ ys) following ≡ onto put xs (onto put ys following)
onto_both put [] ys following = refl
onto_both put (x ∷ xs) ys following = ap (put x) (onto_both put xs ys _)

abbrev addresses_in : List Source → List (List ℕ)
addresses_in sources = onto with_address sources []

abbrev NoneAbove : List rfc.Entry → Type 0
NoneAbove entries = filter rfc.is_rule (rfc.above_groups entries) ≡ []

-- a line of this form keeps rules below user-agent lines if the entry does
abbrev IsCounted : Form → rfc.Entry → Type 0
IsCounted form entry = (following : List rfc.Entry) (forms : List Form)
    → (NoneAbove following → AreFree forms) → NoneAbove (entry ∷ following) → AreFree (form ∷ forms)

member_counted : (member : rfc.Member) → IsCounted (member_form member) (rfc.InGroup member)
member_counted (rfc.Allow pattern) following forms more none = cc
member_counted (rfc.Disallow pattern) following forms more none = cc
member_counted (rfc.Delay number) following forms more none = more none

-- a line of the grammar as the library reads it
record EntryRead (entry : rfc.Entry) (text : List ℕ) : Type 0 where
  form : Form
  sources : List Source
  is : IsLineOf form sources text
  put : (following : List rfc.Entry)
      → onto with_source sources (entry_parts following) ≡ entry_parts (entry ∷ following)
  lists : (following : List rfc.Entry)
      → onto with_address sources (rfc.addresses_of following) ≡ rfc.addresses_of (entry ∷ following)
  counted : IsCounted form entry

entry_read : (entry : rfc.Entry) (text : List ℕ) → rfc.IsLine entry text
    → EntryRead entry text
entry_read (rfc.Agent token) text is = record {
  form = Agent;
  sources = _;
  is = token_line token text is;
  put = λ following. refl;
  lists = λ following. refl;
  counted = λ following forms more none. tt;
}
entry_read (rfc.InGroup member) text is =
    let read = member_line member text is in
    record {
      form = member_form member;
      sources = read.source ∷ [];
      is = read.is_line;
      put = λ following. read.written (entry_parts following);
      lists = λ following. read.unlisted (rfc.addresses_of following);
      counted = member_counted member;
    }
entry_read (rfc.Sitemap address) text is = record {
  form = Sitemap;
  sources = _;
  is = sitemap_line address text is;
  put = λ following. refl;
  lists = λ following. refl;
  counted = λ following forms more none. more none;
}
entry_read rfc.Nothing text (inl is) = record {
  form = Empty;
  sources = [];
  is = empty_line text is;
  put = λ following. refl;
  lists = λ following. refl;
  counted = λ following forms more none. more none;
}
entry_read rfc.Nothing text (inr is) = record {
  form = Other;
  sources = [];
  is = other_line text is;
  put = λ following. refl;
  lists = λ following. refl;
  counted = λ following forms more none. more none;
}

pub record EntriesRead (entries : List rfc.Entry) (text : List ℕ) : Type 0 where
  pub lines : List Line
  pub whole : text ≡ joined lines
  pub parts : parts_in (sources_from lines) ≡ entry_parts entries
  pub addresses : addresses_in (sources_from lines) ≡ rfc.addresses_of entries
  pub free : NoneAbove entries → AreFree (forms_of lines)

pub entries_read : (entries : List rfc.Entry) (text : List ℕ)
    → rfc.AreLines rfc.IsLine entries text → EntriesRead entries text
entries_read [] text none = record {
  lines = [];
  whole = none;
  parts = refl;
  addresses = refl;
  free = λ none. tt;
}
entries_read (entry ∷ entries) text (line, rest, whole, is, are) =
    let one = entry_read entry line is in
    let more = entries_read entries rest are in
    record {
      lines = record { form = one.form; sources = one.sources; text = line; is = one.is } ∷ more.lines;
      whole = whole ∙ ap (λ t. line ++ t) more.whole;
      parts =
          onto_both with_source one.sources (sources_from more.lines) _
          ∙ ap (onto with_source one.sources) more.parts ∙ one.put entries;
      addresses =
          onto_both with_address one.sources (sources_from more.lines) _
          ∙ ap (onto with_address one.sources) more.addresses ∙ one.lists entries;
      free = one.counted entries (forms_of more.lines) more.free;
    }

module _ {Content : List ℕ → Type 0} {text : List ℕ} (file : rfc.IsFileOf Content text) (lines : List Line)
    (whole : file.rest ++ file.nl ≡ joined lines) where
  bytes : AreBytes (file.rest ++ file.nl)
  bytes = subst AreBytes (sym whole) (lines_bytes lines)

  pub no_nul : Each (λ b. b ≢ 0) file.rest
  no_nul = each_front (λ b. b ≢ 0) _ _ bytes.0

  pub after_front : without_bom (map nul_as_lf (file.bom ++ file.rest)) ≡ file.rest
  after_front = grind (arith, after_bom, bytes, low_of_front, no_nul)

  pub bodies_are : file_bodies text ≡ bodies_of file.rest
  bodies_are = grind (arith, after_front)

  pub sources_are : file_sources text ≡ sources_from lines
  sources_are =
      ap sources_in bodies_are ∙ sym (last_end_adds_none file.rest file.nl file.is_nl) ∙ ap sources_of whole
      ∙ lines_read lines

  pub sources_read : Each IsRead (file_sources text)
  sources_read = subst (Each IsRead) (sym sources_are) (each_read lines)

with_content : {Content Other : List ℕ → Type 0} {text : List ℕ} (file : rfc.IsFileOf Content text)
    → Other (file.rest ++ file.nl) → rfc.IsFileOf Other text
with_content file content = grind arith

pub no_rules : (numbers : List (List ℕ)) → filter rfc.is_rule (map rfc.Delay numbers) ≡ []
no_rules [] = refl
no_rules (number ∷ numbers) = no_rules numbers

-- with only these delays before the groups, and some sitemaps
pub record FileRead (numbers : List (List ℕ)) (groups : List rfc.Group) (text : List ℕ) : Type 0 where
  pub read : Each IsRead (file_sources text)
  pub parts : parts_in (file_sources text) ≡ parts_of (map rfc.Delay numbers) groups
  pub none : filter rfc.is_rule (parts_in (file_sources text)).ungrouped ≡ []
  pub same : (parts_in (file_sources text)).groups ≡ groups
  pub lists : (addresses : List (List ℕ)) × rfc.ListsSitemaps addresses text

pub file_with : (text : List ℕ) (numbers : List (List ℕ)) (groups : List rfc.Group)
    → rfc.IsFileWith numbers groups text → FileRead numbers groups text
file_with text numbers groups file =
    let content = file.is_content in
    let all = entries_read content.entries (file.rest ++ file.nl) content.are_lines in
    let parts : parts_in (file_sources text) ≡ parts_of (map rfc.Delay numbers) groups =
    ap parts_in (sources_are file all.lines all.whole) ∙ all.parts
    ∙ ap (λ above. parts_of above (rfc.groups_of content.entries)) content.above
    ∙ ap (parts_of (map rfc.Delay numbers)) (sym content.written) in
    record {
      read = sources_read file all.lines all.whole;
      parts = parts;
      none = ap (λ (p : Parts). filter rfc.is_rule p.ungrouped) parts ∙ no_rules numbers;
      same = ap (λ (p : Parts). p.groups) parts;
      lists = (
        rfc.addresses_of content.entries,
        with_content file (record {
          entries = content.entries;
          are_lines = content.are_lines;
          written = refl;
        }),
      );
    }

pub file_read : (text : List ℕ) (groups : List rfc.Group) → rfc.IsFile groups text
    → (numbers : List (List ℕ)) × FileRead numbers groups text
file_read text groups (numbers, file) = (numbers, file_with text numbers groups file)

trims_read : (sources : List Source) → Each IsRead sources
    → AllZip IsTrimOf (sitemaps_in (lines_in sources)) (addresses_in sources)
trims_read [] all = tt
trims_read ((library.Sitemap value, address) ∷ sources) (is, all) = rw is.0 (is.1, trims_read sources all)
trims_read (_ ∷ sources) (_, all) = trims_read sources all

module _ (text : List ℕ) (addresses : List (List ℕ)) (file : rfc.ListsSitemaps addresses text) where
  abbrev all : EntriesRead file.is_content.entries (file.rest ++ file.nl)
  all = entries_read file.is_content.entries (file.rest ++ file.nl) file.is_content.are_lines

  pub addresses_are : addresses_in (file_sources text) ≡ addresses
  addresses_are =
      ap addresses_in (sources_are file all.lines all.whole) ∙ all.addresses ∙ sym file.is_content.written

  pub sitemaps_are_read : AllZip IsTrimOf (sitemaps_in (file_lines text)) addresses
  sitemaps_are_read =
      rw (file_same text []).1 (subst (AllZip IsTrimOf _) addresses_are
      (trims_read (file_sources text) (sources_read file all.lines all.whole)))
