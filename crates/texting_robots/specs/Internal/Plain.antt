-- Values as most are, which need no second look.
use Rattle.std.specs.Prelude.{◌≡◌, ◌<◌, ◌==◌, ℕ, List, false, length}
use Rattle.std.specs.List.{list_any, position_or_len}
use Rattle.texting_robots.specs.{Escape.is_escaped, Pattern.is_wildcard, Internal.Statement.hash}
use Rattle.texting_robots.specs.Line.{LineValue, Allow, Disallow, Sitemap}

-- no byte of the text is `#` or has to be escaped, and its first wildcard is at this index
pub record IsPlain (text : List ℕ) (first : ℕ) : Type 0 where
  pub some : 0 < length text
  pub uncommented : list_any (λ byte. byte == hash) text ≡ false
  pub unescaped : list_any is_escaped text ≡ false
  pub wildcard : first ≡ position_or_len is_wildcard text

-- the value of a rule or a sitemap is such a text
abbrev pub HoldsPlain : LineValue → ℕ → Type 0
HoldsPlain (Allow value) first = IsPlain value first
HoldsPlain (Disallow value) first = IsPlain value first
HoldsPlain (Sitemap value) first = IsPlain value first
HoldsPlain line first = Unit {0}
