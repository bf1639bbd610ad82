-- The lines of a text as a function.
use Rattle.std.specs.Prelude.{ℕ, List, [], ◌∷◌, codes, map, Option, Some, None}
use Rattle.texting_robots.specs.{declared.parser.statement.Kind.Kind}
use Rattle.texting_robots.specs.Internal.{Cut.bodies_of, Delay.delay_of, Statement.statement_of}
use Rattle.texting_robots.specs.Line.{LineValue, UserAgent, Allow, Disallow, Sitemap, CrawlDelay, Raw}
use Rattle.texting_robots.specs.declared.parser.statement.Kind.TheVariants as kind

abbrev pub delay_or_raw : Option ℕ → List ℕ → LineValue
delay_or_raw None body = Raw body
delay_or_raw (Some delay) body = CrawlDelay (Some delay)

-- `body` is the content of the line
abbrev pub line_with : Kind → List ℕ → List ℕ → LineValue
line_with kind.UserAgent value body = UserAgent value
line_with kind.Allow value body = Allow value
line_with kind.Disallow [] body = Allow (codes "/")
line_with kind.Disallow (b ∷ value) body = Disallow (b ∷ value)
line_with kind.Sitemap value body = Sitemap value
line_with kind.CrawlDelay value body = delay_or_raw (delay_of value) body

abbrev pub line_by : Option (Kind × List ℕ) → List ℕ → LineValue
line_by None body = Raw body
line_by (Some found) body = line_with found.0 found.1 body

unfoldable pub line_of : List ℕ → LineValue
line_of body = line_by (statement_of body) body

abbrev pub lines_of : List ℕ → List LineValue
lines_of text = map line_of (bodies_of text)
