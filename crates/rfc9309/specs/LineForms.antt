-- What the lines of a file that this library reads have to look like for the file to follow the grammar of
-- RFC 9309 (`IsFile`). All conditions but the last are about single lines, and about the bytes between them.
use Rattle.std.specs.Prelude.{◌≡◌, ◌≢◌, ◌⊎◌, ℕ, All, List, [], ◌∷◌, ◌++◌}
use Rattle.std.specs.List.{AllZip}
use Rattle.texting_robots.specs.{Cut.lf, Executable.file_bodies, Line.without_bom}
use Rattle.rfc9309.specs.Rfc9309 as rfc

-- only spaces, tabs and a comment; a user-agent line; an Allow or a Disallow; a delay; a sitemap; a record
-- with another name
pub data Form : Type 0 where
  Empty Agent Rule Delay Sitemap Other : Form

-- the line, including its terminator, is of this form
abbrev pub IsFormOf : Form → List ℕ → Type 0
IsFormOf Empty line = rfc.IsEmptyLine line
IsFormOf Agent line = (token : List ℕ) × rfc.IsStartGroupLine token line
IsFormOf Rule line = (member : rfc.Member) × (rfc.IsRule member line ⊎ rfc.IsStarRule member line)
IsFormOf Delay line = (member : rfc.Member) × rfc.IsDelayLine member line
IsFormOf Sitemap line = (address : List ℕ) × rfc.IsSitemapLine address line
IsFormOf Other line = rfc.IsOtherLine line

-- with LF after the content, it is a line of this form; another terminator, or none at the end of the file,
-- makes no difference
abbrev pub HasForm : Form → List ℕ → Type 0
HasForm form body = IsFormOf form (body ++ lf ∷ [])

-- each rule is below a user-agent line
abbrev pub AreRulesBelowAgents : List Form → Type 0
AreRulesBelowAgents [] = Unit {0}
AreRulesBelowAgents (Agent ∷ forms) = Unit {0}
AreRulesBelowAgents (Rule ∷ forms) = ⊥
AreRulesBelowAgents (form ∷ forms) = AreRulesBelowAgents forms

-- The lines of the text have these forms, one for each line.
-- - `no_nul`: this library reads NUL as a line terminator, but the grammar doesn't have it;
-- - `bom`: what is skipped at the start of the text is a complete byte order mark, or nothing;
-- - `each`: the content of each line has its form;
-- - `below`: each rule is below a user-agent line.
pub record AreForms (forms : List Form) (text : List ℕ) : Type 0 where
  pub no_nul : All (λ byte. byte ≢ 0) text
  pub bom : (bom : List ℕ) × rfc.IsBom bom × (text ≡ bom ++ without_bom text)
  pub each : AllZip HasForm forms (file_bodies text)
  pub below : AreRulesBelowAgents forms
