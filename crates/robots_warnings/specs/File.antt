-- The lines within the size limit of a file.
use Rattle.std.specs.Prelude.{ℕ, List, map}
use Rattle.texting_robots.specs.Callers.{LineValue, Label, bodies_read, group_name, labels_of, lines_read}

abbrev pub hash : ℕ
hash = 35

-- the file's lines, labeled for a crawler
abbrev pub labels_for : List ℕ → List ℕ → List Label
labels_for agent file = labels_of (group_name agent (lines_read file)) (bodies_read file)

abbrev pub lines_of : List Label → List LineValue
lines_of labels = map (λ (label : Label). label.line) labels
