-- Conditions on URLs and paths.
use Rattle.std.specs.Prelude.{ℕ, Bool, List, None, is_err}
use Rattle.url.specs.Parser.{parse_url}

-- by the specification of `url`
abbrev pub is_unparsable : List ℕ → Bool
is_unparsable text = is_err (parse_url None text)
