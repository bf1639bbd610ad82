-- Two small files, and what they contain by the relations of `specs/Rfc9309.antt`: one of the standard's own
-- grammar, and one that has lines of the extended grammar before the same lines.
use Rattle.std.specs.Prelude.{ℕ, List, [], ◌∷◌, ◌++◌, codes}
use Rattle.rfc9309.specs.Rfc9309.{Allow, Delay, Disallow, Group, Member}

abbrev pub lf : List ℕ
lf = 0x0A ∷ []

abbrev pub cr : List ℕ
cr = 0x0D ∷ []

abbrev pub cr_lf : List ℕ
cr_lf = 0x0D ∷ 0x0A ∷ []

-- characters of one, two, three and four bytes
abbrev pub path : List ℕ
path = codes "/a!\"*$" ++ 0xC3 ∷ 0xB6 ∷ 0xE3 ∷ 0x83 ∷ 0x84 ∷ 0xF0 ∷ 0x9F ∷ 0xA4 ∷ 0x96 ∷ []

-- the file without its last line end
abbrev pub bare_lines : List ℕ
bare_lines =
    codes "user-agent: bot" ++ cr_lf
    ++ codes "\t# more of it # here" ++ lf
    ++ codes " User-Agent\t:\tother-bot_x " ++ cr
    ++ codes "allow: " ++ path ++ codes " # after" ++ lf
    ++ codes "Disallow: " ++ cr_lf
    ++ lf
    ++ codes "USER-AGENT: *" ++ lf
    ++ codes "disallow: /"

abbrev pub bare_text : List ℕ
bare_text = bare_lines ++ lf

abbrev pub bare_groups : List Group
bare_groups =
    record {
      tokens = codes "bot" ∷ codes "other-bot_x" ∷ [];
      members = Allow path ∷ Disallow [] ∷ [];
    }
    ∷ record { tokens = codes "*" ∷ []; members = Disallow (codes "/") ∷ [] }
    ∷ []

abbrev pub wide_text : List ℕ
wide_text =
    0xEF ∷ 0xBB ∷ 0xBF ∷ []
    ++ codes "# in front" ++ lf
    ++ codes "crawl-delay: 2" ++ cr_lf
    ++ codes "user-agent: Bot" ++ lf
    ++ codes "Sitemap: https://a/s" ++ lf
    ++ codes "Disallow: *.gif$" ++ cr
    ++ codes "Crawl-delay: 1.5" ++ lf
    ++ codes "Host: a # b" ++ lf
    ++ bare_lines

abbrev pub wide_groups : List Group
wide_groups =
    record { tokens = codes "Bot" ∷ []; members = Disallow (codes "*.gif$") ∷ Delay (codes "1.5") ∷ [] }
    ∷ bare_groups

abbrev pub wide_sitemaps : List (List ℕ)
wide_sitemaps = codes "https://a/s" ∷ []

-- the rules of the second file for the crawler `BOT`
abbrev pub wide_rules : List Member
wide_rules = Disallow (codes "*.gif$") ∷ Allow path ∷ Disallow [] ∷ []
