-- What a run is requested to do.
use Rattle.std.specs.Prelude.{ℕ, Bool, List, Option, map, option_map}
use Rattle.audit_core.specs.declared.request.{Request.Request, Format.Format}
use Rattle.safe_output.specs.declared.level.Level.{Level}

-- what a report states of a request: the crawler, if the report is about a single one; the crawlers, where an
-- empty list means `*` and each that the file names; the level of `--strict`; the names of the warnings that
-- are reported, where an empty list means all, and of those that are left out; and whether needless rules are
-- looked for
pub record RequestValue : Type 0 where
  pub agent : Option (List ℕ)
  pub agents : List (List ℕ)
  pub urls : List (List ℕ)
  pub format : Format
  pub has_colors : Bool
  pub strict : Option Level
  pub only : List (List ℕ)
  pub ignored : List (List ℕ)
  pub has_needless : Bool

abbrev pub requested_by : Request → RequestValue
requested_by request = record {
  agent = option_map (λ agent. agent.now) request.agent;
  agents = map (λ agent. agent.now) request.agents.items;
  urls = map (λ url. url.now) request.urls.items;
  format = request.format;
  has_colors = request.has_colors;
  strict = request.strict;
  only = map (λ name. name.now) request.only.items;
  ignored = map (λ name. name.now) request.ignored.items;
  has_needless = request.has_needless;
}
