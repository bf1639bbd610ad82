-- What the bytes of a file mean for one crawler, or for all crawlers.
use Rattle.std.specs.Prelude.{◌≡◌, ℕ, ◌≤◌, Bool, true, false, IsUtf8, List, None, Option, Some, is_some}
use Rattle.std.specs.Prelude.{length, take, unwrap_or}
use Rattle.safe_output.specs.Lines.{ended}
use Rattle.rfc9309.specs.{Matching.all_stay, Matching.normal_uri, StandardReading.standard_text}
use Rattle.rfc9309.specs.StandardTarget.{written_target}
use Rattle.texting_robots.specs.Callers.{AreSitemapsOf, HasLines, IsDelayFor, IsRobotWithoutSitemaps}
use Rattle.texting_robots.specs.Callers.{agents_in, file_limit, file_lines, prepared}
use Rattle.c_calls.specs.declared.reading.{OpenRobot.OpenRobot, OpenSite.OpenSite}

-- the bytes of a file that are used
abbrev pub bytes_read : List ℕ → List ℕ
bytes_read file = take file_limit file

-- In RFC 9309's reading (`true`) a site also has the text that stands for the file.
abbrev pub site_of : (by_rfc9309 : Bool) → List ℕ → OpenSite
site_of false file = record { file = bytes_read file; text = None }
site_of true file = record { file = bytes_read file; text = Some (standard_text (bytes_read file)) }

abbrev pub IsSiteOfSomeFile : OpenSite → Type 0
IsSiteOfSomeFile site = (by_rfc9309 : Bool) × (file : List ℕ) × (site ≡ site_of by_rfc9309 file)

-- the text whose rules apply
abbrev pub read_text : OpenSite → List ℕ
read_text site = unwrap_or site.text site.file

abbrev pub HasFewLines : List ℕ → Type 0
HasFewLines text = length (file_lines text) ≤ file_limit

-- what the rules are compared with for a URL
abbrev pub target_in : (by_rfc9309 : Bool) → List ℕ → List ℕ
target_in false url = prepared url
target_in true url = normal_uri all_stay (written_target url)

-- the crawler's robot for the site, without its sitemaps: the rules are those of the text that is read, and
-- the delay is the file's
pub record IsRobotIn (agent : List ℕ) (site : OpenSite) (robot : OpenRobot) : Type 0 where
  pub reading : robot.by_rfc9309 ≡ is_some site.text
  pub rules : IsRobotWithoutSitemaps agent (read_text site) robot.robot
  pub delay : HasLines site.file (λ lines. IsDelayFor agent lines robot.delay)

abbrev pub IsRobotFor : List ℕ → OpenSite → OpenRobot → Type 0
IsRobotFor agent site robot = IsUtf8 agent × IsRobotIn agent site robot

abbrev pub GivesRobot : List ℕ → OpenSite → (OpenRobot → Type 0) → Type 0
GivesRobot agent site P = (robot : OpenRobot) × IsRobotFor agent site robot × P robot

abbrev pub IsRobotOfSomeFile : OpenRobot → Type 0
IsRobotOfSomeFile robot =
    (agent : List ℕ) × (site : OpenSite) × IsSiteOfSomeFile site × IsRobotIn agent site robot

abbrev pub HasDelay : List ℕ → List ℕ → Option ℕ → Type 0
HasDelay agent file delay = IsUtf8 agent × HasLines file (λ lines. IsDelayFor agent lines delay)

-- the sitemaps that the file lists, each followed by LF
pub record AreSitemaps (file text : List ℕ) : Type 0 where
  pub sitemaps : List (List ℕ)
  pub listed : HasLines file (λ lines. AreSitemapsOf lines sitemaps)
  pub written : text ≡ ended sitemaps

-- the names in the file's user-agent lines, each once and followed by LF
abbrev pub AreAgents : List ℕ → List ℕ → Type 0
AreAgents file text = text ≡ ended (agents_in (file_lines file))

abbrev pub AreTexts : Bool → List ℕ → List ℕ → Type 0
AreTexts true file text = AreAgents file text
AreTexts false file text = AreSitemaps file text
