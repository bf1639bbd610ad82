-- The rows of an audit.
use Rattle.std.specs.Prelude.{ℕ, ◌+◌, List, [], ◌∷◌}
use Rattle.texting_robots.specs.Callers.{LineValue, UserAgent, Allow, Disallow, CrawlDelay, by_value}
use Rattle.texting_robots.specs.Callers.{Sitemap as SitemapLine}
use Rattle.robots_examples.specs.declared.audit.{Kind.Kind, Row.Row}
use Rattle.robots_examples.specs.declared.audit.Kind.TheVariants.{Agent, Rule, Sitemap, Delay, Other}

abbrev pub kind_of : LineValue → Kind
kind_of (UserAgent value) = Agent
kind_of (Allow value) = Rule
kind_of (Disallow value) = Rule
kind_of (SitemapLine value) = Sitemap
kind_of (CrawlDelay delay) = Delay
kind_of _ = Other

-- a row by value, wherever the bytes of its line are
pub record RowValue : Type 0 where
  pub number : ℕ
  pub kind : Kind
  pub line : LineValue

abbrev pub row_value : Row → RowValue
row_value row = record { number = row.number; kind = row.kind; line = by_value row.line }

-- the rows of these lines, numbered from n
abbrev pub rows_from : ℕ → List LineValue → List RowValue
rows_from n [] = []
rows_from n (line ∷ lines) =
    record { number = n; kind = kind_of line; line = line } ∷ rows_from (n + 1) lines
