-- The match target of a URL or a path.
use Rattle.std.specs.Prelude.{ℕ, List, [], ◌++◌, codes, Option, Some, None, Ok, Err}
use Rattle.url.specs.{Parts.Parts, Parser.parse_url}
use Rattle.texting_robots.specs.Escape.{escaped}

-- a delimiter and the text after it, if there is one
abbrev pub with_delimiter : List ℕ → Option (List ℕ) → List ℕ
with_delimiter delimiter None = []
with_delimiter delimiter (Some text) = delimiter ++ text

-- the path, `?` and the query, `#` and the fragment
abbrev pub target_of : Parts → List ℕ
target_of url = url.path ++ with_delimiter (codes "?") url.query ++ with_delimiter (codes "#") url.fragment

-- the match target of a string, which patterns are compared with; `url` specifies what a URL is
abbrev pub prepared : List ℕ → List ℕ
prepared [] = codes "/"
prepared text = elim (parse_url None text) [ Ok url ↦ target_of url | Err e ↦ escaped text ]
