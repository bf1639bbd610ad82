use Rattle.std.proofs.Common.{[], ◌≡◌, ◌||◌, ◌∷◌, ℕ, List, drop}
use Rattle.std.specs.{HashSet.contains_text, List.filter_map, List.list_any}
use Rattle.texting_robots.specs.Callers.{file_lines}
use Rattle.robots_warnings.specs.Closed.{is_exempt, is_literally, opened_path}
use Rattle.robots_warnings.proofs.closed.exempt_patterns.Given as goal

abbrev pub invariant-loop-url : goal.invariant-loop-url
invariant-loop-url l = (pattern : List ℕ)
    → (contains_text l.patterns pattern || list_any (λ url. list_any (is_literally pattern)
    (filter_map opened_path (url.now ∷ []))) (drop l.url-index l.url-items))
    ≡ is_exempt (file_lines l.site) pattern
