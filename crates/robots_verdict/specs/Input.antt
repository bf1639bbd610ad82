-- The parts of an input.
use Rattle.std.specs.Prelude.{ℕ, ◌==◌, ◌&&◌, Bool, List, [], ◌∷◌, ◌++◌, Option, Some, None, length}
use Rattle.std.specs.Prelude.{option_map, if◌then◌else◌}
use Rattle.std.specs.{List.list_all, Io.BufRead.strip_last, Str.is_utf8}
use Rattle.safe_output.specs.Lines.{lf}

abbrev pub cr : ℕ
cr = 13

-- the first line without its LF and a CR before that, and what follows; `line` is what precedes this input
abbrev pub line_from : List ℕ → List ℕ → Option (List ℕ × List ℕ)
line_from line [] = None
line_from line (byte ∷ input) =
    if byte == lf then Some (strip_last cr line, input) else line_from (line ++ byte ∷ []) input

abbrev pub with_url : List ℕ → List (List ℕ) × List ℕ → List (List ℕ) × List ℕ
with_url url found = (url ∷ found.0, found.1)

-- the lines before the first empty one, which are URLs, and what follows that, the file
abbrev pub urls_from : List ℕ → List ℕ → Option (List (List ℕ) × List ℕ)
urls_from line [] = None
urls_from line (byte ∷ input) =
    if byte == lf
    then (if length (strip_last cr line) == 0 then Some ([], input)
    else option_map (with_url (strip_last cr line)) (urls_from [] input))
    else urls_from (line ++ byte ∷ []) input

pub record Input : Type 0 where
  pub agent : List ℕ
  pub urls : List (List ℕ)
  pub file : List ℕ

abbrev pub input_of : List ℕ → List (List ℕ) × List ℕ → Input
input_of agent found = record { agent = agent; urls = found.0; file = found.1 }

abbrev pub after_agent : Option (List ℕ × List ℕ) → Option Input
after_agent None = None
after_agent (Some (agent, rest)) = option_map (input_of agent) (urls_from [] rest)

-- the line with the crawler's name, the lines with URLs, and after an empty line the file; `None` if no line
-- after the first is empty
abbrev pub split : List ℕ → Option Input
split input = after_agent (line_from [] input)

abbrev pub are_utf8 : Input → Bool
are_utf8 input = is_utf8 input.agent && list_all is_utf8 input.urls
