-- Two files that differ only in a rule that doesn't apply to a crawler.
use Rattle.std.specs.Prelude.{◌≡◌, ◌⊎◌, ℕ, List, ◌∷◌, ◌++◌, codes, length, take}
use Rattle.texting_robots.specs.Callers.{Allow, AreFileLinesOf, Disallow, IsCaptured, LineValue, file_limit}
use Rattle.texting_robots.specs.Callers.{group_name}

-- an Allow or a Disallow; an empty Disallow is an Allow of `/`
abbrev pub IsRule : LineValue → Type 0
IsRule line = (value : List ℕ) × ((line ≡ Allow value) ⊎ (line ≡ Disallow value))

-- the lines of the files, as far as they are within the size limit, are the same but for one. In both files
-- this is a rule, and in the first one it isn't captured for the crawler.
pub record DifferInRule (agent file other : List ℕ) : Type 0 where
  pub above : List LineValue
  pub line : LineValue
  pub other_line : LineValue
  pub below : List LineValue
  pub lines : AreFileLinesOf (above ++ line ∷ below) (take file_limit file)
  pub other_lines : AreFileLinesOf (above ++ other_line ∷ below) (take file_limit other)
  pub rule : IsRule line
  pub other_rule : IsRule other_line
  pub uncaptured : ¬ IsCaptured (group_name agent (above ++ line ∷ below)) (above ++ line ∷ below)
      (length above)

-- an Allow in place of another crawler's Disallow
abbrev pub example : Type 0
example =
    DifferInRule (codes "b") (codes "User-agent: a\nDisallow: /\n") (codes "User-agent: a\nAllow: /\n")
