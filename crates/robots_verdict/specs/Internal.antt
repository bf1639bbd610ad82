-- Where the code cuts an input, and the parts of a header by value.
use Rattle.std.specs.Prelude.{◌≡◌, ◌≢◌, ℕ, ◌<◌, List, length, map, slice_index}
use Rattle.std.specs.List.{AllByRecursion as Each}
use Rattle.safe_output.specs.{Lines.lf}
use Rattle.robots_verdict.specs.{Input.Input, declared.header.Header.Header}

abbrev pub IsOneLine : List ℕ → Type 0
IsOneLine line = Each (λ byte. byte ≢ lf) line

pub record IsFirstLf (input : List ℕ) (place : ℕ) : Type 0 where
  pub within : place < length input
  pub feed : slice_index input place ≡ lf
  pub before : (k : ℕ) → k < place → slice_index input k ≢ lf

abbrev pub value_of : Header → Input
value_of header = record {
  agent = header.agent.now;
  urls = map (λ url. url.now) header.urls.items;
  file = header.file.now;
}
