-- The samples are files of the grammar, line by line.
use Rattle.std.proofs.Common.{◌≡◌, ◌++◌, ◌∷◌, List, [], ℕ, codes, drop, flat_map, inl, inr, refl}
use Rattle.std.proofs.Common.{map, subst, sym}
use Rattle.std.specs.Str.{chars, is_utf8}
use lib.Utf8.{encode}
use Rattle.texting_robots.specs.Internal.{Cut.cut, Line.line_of, Statement.statement_of, Delay.delay_of}
use Rattle.bstr.specs.{Trim.kept_end, Trim.kept_start, Utf8.pieces_from, Utf8.spans_from}
use Rattle.rfc9309.proofs.EntryLemmas.{lines_both, lines_robotstxt, wide_lines}
use Rattle.rfc9309.proofs.HasFormLemmas.{agent_passes, delay_passes, form_passes, keyed_passes, pattern_with}
use Rattle.rfc9309.proofs.{FileLemmas.addresses_are, FileLemmas.file_read, Sources.written}
use Rattle.rfc9309.specs.LineForms.{Empty, Other, Sitemap}
use Rattle.rfc9309.specs.Sample.{cr, cr_lf, lf, path}
use Rattle.rfc9309.specs.Rfc9309 as rfc
use Rattle.rfc9309.specs.Sample as sample
use Rattle.rfc9309.proofs.standard_samples_are_files.Goals as goal
use Rattle.rfc9309.specs.LineTest.{is_number}

record Row (Line : rfc.Entry → List ℕ → Type 0) : Type 0 where
  entry : rfc.Entry
  line : List ℕ
  is : Line entry line

module _ {Line : rfc.Entry → List ℕ → Type 0} where
  abbrev row : (entry : rfc.Entry) (line : List ℕ) → Line entry line → Row Line
  row entry line is = record { entry = entry; line = line; is = is }

  abbrev entries_in : List (Row Line) → List rfc.Entry
  entries_in all = map (λ row. row.entry) all

  abbrev text_in : List (Row Line) → List ℕ
  text_in all = flat_map (λ row. row.line) all

  rows : (all : List (Row Line)) → rfc.AreLines Line (entries_in all) (text_in all)
  rows [] = refl
  rows (row ∷ all) = (row.line, _, refl, row.is, rows all)

feed : rfc.IsNl lf
feed = inr (inl refl)

both : rfc.IsNl cr_lf
both = inr (inr refl)

bare : rfc.IsRobotstxtByLines sample.bare_groups sample.bare_text
unfolding is_utf8 chars encode
bare =
    let path_rule : rfc.Member = rfc.Allow path in
    let empty_rule : rfc.Member = rfc.Disallow [] in
    let rule : rfc.Member = rfc.Disallow (codes "/") in
    let lines : List (Row rfc.IsStandardLine) =
    row (rfc.Agent (codes "bot")) _ (agent_passes cr_lf both (codes "user-agent: bot") refl)
    ∷ row rfc.Nothing _ (form_passes lf feed Empty (codes "\t# more of it # here") refl)
    ∷ row (rfc.Agent (codes "other-bot_x")) _
    (agent_passes cr (inl refl) (codes " User-Agent\t:\tother-bot_x ") refl)
    ∷ row (rfc.InGroup path_rule) _ (record {
      value = path;
      is_pattern = inl (pattern_with 47 47 _ refl refl, refl);
      is_line = keyed_passes lf feed (codes "allow") (codes "allow: " ++ path ++ codes " # after") refl;
    })
    ∷ row (rfc.InGroup empty_rule) _ (record {
      value = [];
      is_pattern = inr (tt, refl);
      is_line = keyed_passes cr_lf both (codes "disallow") (codes "Disallow: ") refl;
    })
    ∷ row rfc.Nothing _ (form_passes lf feed Empty [] refl)
    ∷ row (rfc.Agent (codes "*")) _ (agent_passes lf feed (codes "USER-AGENT: *") refl)
    ∷ row (rfc.InGroup rule) _ (record {
      value = codes "/";
      is_pattern = inl (pattern_with 47 47 [] refl refl, refl);
      is_line = keyed_passes lf feed (codes "disallow") (codes "disallow: /") refl;
    }) ∷ [] in
    record { entries = entries_in lines; are_lines = rows lines; none_above = refl; written = refl }

-- with a byte order mark, and no terminator after the last line
is_file : rfc.IsFile sample.wide_groups sample.wide_text
unfolding is_utf8 chars encode is_number
is_file =
    let (address, sitemap) = form_passes lf feed Sitemap (codes "Sitemap: https://a/s") refl in
    let disallow : rfc.Member = rfc.Disallow (codes "*.gif$") in
    let delay : rfc.Member = rfc.Delay (codes "1.5") in
    let lines : List (Row rfc.IsLine) =
    row rfc.Nothing _ (inl (form_passes lf feed Empty (codes "# in front") refl))
    ∷ row (rfc.InGroup (rfc.Delay (codes "2"))) _
    (inr (inr (delay_passes cr_lf both (codes "crawl-delay: 2") refl)))
    ∷ row (rfc.Agent (codes "Bot")) _ (agent_passes lf feed (codes "user-agent: Bot") refl)
    ∷ row (rfc.Sitemap address) _ sitemap
    ∷ row (rfc.InGroup disallow) _ (inr (inl (
      pattern_with 42 42 (codes ".gif$") refl refl,
      keyed_passes cr (inl refl) (codes "disallow") (codes "Disallow: *.gif$") refl,
    )))
    ∷ row (rfc.InGroup delay) _ (inr (inr (delay_passes lf feed (codes "Crawl-delay: 1.5") refl)))
    ∷ row rfc.Nothing _ (inr (form_passes lf feed Other (codes "Host: a # b") refl)) ∷ [] in
    let wide = wide_lines bare.entries sample.bare_text bare.are_lines in (
      codes "2" ∷ [],
      record {
        bom = 0xEF ∷ 0xBB ∷ 0xBF ∷ [];
        rest = drop 3 sample.wide_text;
        nl = lf;
        whole = refl;
        is_bom = inr refl;
        is_nl = inr feed;
        is_content = record {
          entries = entries_in lines ++ bare.entries;
          are_lines =
              lines_both rfc.IsLine (entries_in lines) bare.entries (text_in lines) sample.bare_text
              (rows lines) wide;
          above = refl;
          written = rw (bare.none_above, ← bare.written) refl;
        };
      },
    )

pub returns : goal.returns
unfolding cut line_of statement_of delay_of written kept_end kept_start spans_from pieces_from is_utf8 chars
    encode
returns c =
    let (addresses, lists) = (file_read sample.wide_text sample.wide_groups is_file).1.lists in
    -- each file has one list of addresses, which is computed
    let same : sample.wide_sitemaps ≡ addresses = addresses_are sample.wide_text addresses lists in
    record {
      bare = lines_robotstxt sample.bare_groups sample.bare_text bare;
      wide = is_file;
      sitemaps = subst (λ (all : List (List ℕ)). rfc.ListsSitemaps all sample.wide_text) (sym same) lists;
      rules = refl;
    }
