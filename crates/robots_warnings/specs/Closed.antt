-- What is closed to a crawler.
use Rattle.std.specs.Prelude.{[], ℕ, ◌==◌, Bool, false, not, ◌||◌, ◌&&◌, List, ◌∷◌, ◌++◌, Option, Some, None}
use Rattle.std.specs.Prelude.{bytes_eq, codes, count_by, drop, if◌then◌else◌, is_some, length, nat_eq, nat_le}
use Rattle.std.specs.Prelude.{nat_lt, true, ◌≡◌, ◌+◌}
use Rattle.std.specs.List.{filter_map, list_all, list_any, starts_with}
use Rattle.std.specs.{Option.option_or, Str.byte, Str.str_to_ascii_lowercase}
use Rattle.texting_robots.specs.Callers.{LineValue, PlacedRule, is_named, placed_rules, prepared, robots_file}
use Rattle.texting_robots.specs.Callers.{sitemaps_in}
use Rattle.texting_robots.specs.Group.{is_agent}
use Rattle.robots_warnings.specs.declared.site_patterns.TheConstants.{STATIC_FILES, WELL_KNOWN}
use Rattle.robots_warnings.specs.Rules.{begins_oddly, has_dollar_inside}
use Rattle.safe_output.specs.{Bytes.somewhere}
use Rattle.robots_warnings.specs.{Positions.begin_with_one, Crawlers.meant, Crawlers.other_group}

-- ---- Rules that leave nothing, or nearly nothing, of a site to a crawler.

abbrev pub is_star_or_dollar : ℕ → Bool
is_star_or_dollar b = b == byte "*" || b == byte "$"

-- a star, and then only stars and `$`
abbrev pub is_anything : List ℕ → Bool
is_anything [] = false
is_anything (b ∷ pattern) = b == byte "*" && list_all is_star_or_dollar pattern

-- `/`, alone or before a pattern that is anything
abbrev pub is_root : List ℕ → Bool
is_root [] = false
is_root (b ∷ pattern) = b == byte "/" && (length pattern == 0 || is_anything pattern)

abbrev pub without_stars : List ℕ → List ℕ
without_stars [] = []
without_stars (b ∷ pattern) = if b == byte "*" then without_stars pattern else b ∷ pattern

abbrev pub are_signs : List ℕ → Bool
are_signs pattern = list_all (λ b. is_star_or_dollar b || b == byte "/") pattern

-- anything, or a root possibly after stars: it matches every text that starts with a slash. Such a pattern
-- has only stars, `$`, and slashes, which is tested first
abbrev pub is_whole_site : List ℕ → Bool
is_whole_site pattern = are_signs pattern && (is_anything pattern || is_root (without_stars pattern))

-- a Disallow of the whole site
abbrev pub is_closing : PlacedRule → Bool
is_closing placed = not placed.rule.1 && is_whole_site placed.rule.0

abbrev pub is_file_end : ℕ → Bool
is_file_end b = is_star_or_dollar b || b == byte "?"

-- the text begins with this end of a file's name, and then has only stars, `$` and `?`
abbrev pub is_name_end : List ℕ → List ℕ → Bool
is_name_end text end = starts_with nat_eq text end && list_all is_file_end (drop (length end) text)

abbrev pub begins_name_end : List ℕ → Bool
begins_name_end text = list_any (λ end. is_name_end text end.now) STATIC_FILES

-- written for static files, paths that are known to every crawler, or the home page: it may match others, as
-- `/*.js` does `/a.jsp`
abbrev pub opens_little : List ℕ → Bool
opens_little pattern =
    (somewhere begins_name_end pattern || bytes_eq pattern (codes "/$"))
    || list_any (λ start. starts_with nat_eq pattern start.now) WELL_KNOWN

-- the pattern has no slash or star at its start, or has a byte other than a star or `$` after a `$`
abbrev pub matches_no_path : List ℕ → Bool
matches_no_path pattern = begins_oddly pattern || has_dollar_inside pattern

-- an Allow that is at least as long as this pattern, and whose own pattern isn't exempt and may match a path
abbrev pub is_rival : (is_exempt : List ℕ → Bool) → List ℕ → PlacedRule → Bool
is_rival is_exempt pattern placed =
    (placed.rule.1 && not (is_exempt placed.rule.0 || matches_no_path placed.rule.0))
    && nat_le (length pattern) (length placed.rule.0)

-- a Disallow of the whole site without a rival among these rules
abbrev pub closes : (is_exempt : List ℕ → Bool) → List PlacedRule → PlacedRule → Bool
closes is_exempt rules placed = is_closing placed && not (list_any (is_rival is_exempt placed.rule.0) rules)

-- an Allow with this pattern leaves the site closed. `is_exempt` holds for patterns that only open what
-- crawlers may also fetch of a closed site, such as sitemaps
abbrev pub leaves_closed : (is_exempt : List ℕ → Bool) → List ℕ → Bool
leaves_closed is_exempt pattern = is_exempt pattern || opens_little pattern

abbrev pub first_of : {X : Type 0} → (X → Option ℕ) → List X → Option ℕ
first_of f [] = None
first_of f (x ∷ xs) = option_or (f x) (first_of f xs)

abbrev pub line_if : (PlacedRule → Bool) → PlacedRule → Option ℕ
line_if test placed = if test placed then Some placed.line else None

abbrev pub first_line : (PlacedRule → Bool) → List PlacedRule → Option ℕ
first_line test rules = first_of (line_if test) rules

-- the line of the first of these rules that closes the site
abbrev pub first_closing : (is_exempt : List ℕ → Bool) → List PlacedRule → Option ℕ
first_closing is_exempt rules = first_line (closes (leaves_closed is_exempt) rules) rules

-- the pattern is this path, with or without `$`, and the path has no star or `$`
abbrev pub is_literally : List ℕ → List ℕ → Bool
is_literally pattern path =
    not (list_any is_star_or_dollar path)
    && (bytes_eq path pattern || bytes_eq (path ++ codes "$") pattern)

-- the path of a sitemap, if it has more than `/`
abbrev pub opened_path : List ℕ → Option (List ℕ)
opened_path url = let path = prepared url in if nat_lt 1 (length path) then Some path else None

-- Allows of these paths leave the site closed
abbrev pub opened_paths : List LineValue → List (List ℕ)
opened_paths lines = robots_file ∷ filter_map opened_path (sitemaps_in lines)

abbrev pub is_exempt : List LineValue → List ℕ → Bool
is_exempt lines pattern = list_any (is_literally pattern) (opened_paths lines)

-- ---- `closed-site`

-- the crawler's vendor applies another group, or the name in the file is probably a mistake for that of
-- another crawler
abbrev pub is_elsewhere : List LineValue → List ℕ → Bool
is_elsewhere lines agent =
    is_some (other_group lines agent) || (is_named agent lines && is_some (meant agent))

-- the line of the first rule that closes the site to the crawler
abbrev pub line_closing_site : List LineValue → List ℕ → Option ℕ
line_closing_site lines agent =
    if is_elsewhere lines agent then None else first_closing (is_exempt lines) (placed_rules agent lines)

-- ---- Groups of crawlers that have none of the Disallow rules of `*`.

abbrev pub star_rules : List LineValue → List PlacedRule
star_rules lines = placed_rules (codes "*") lines

-- how many Disallows `*` has
abbrev pub star_count : List LineValue → ℕ
star_count lines = count_by (λ placed. not placed.rule.1) (star_rules lines)

abbrev pub denies : List ℕ → PlacedRule → Bool
denies pattern placed = not placed.rule.1 && bytes_eq placed.rule.0 pattern

-- the rule is for the whole site, or a Disallow that is one of these rules
abbrev pub is_kept : List PlacedRule → PlacedRule → Bool
is_kept rules placed =
    is_whole_site placed.rule.0 || (not placed.rule.1 && list_any (denies placed.rule.0) rules)

-- in all its groups, the crawler has none of the Disallows of `*`, and no rule for the whole site
abbrev pub lacks_all : List LineValue → List ℕ → Bool
lacks_all lines agent = not (list_any (is_kept (star_rules lines)) (placed_rules agent lines))

-- this name, which is in lower case, is that of a crawler that has none of the Disallows of `*`
abbrev pub is_lacking : List (List ℕ) → List LineValue → List ℕ → Bool
is_lacking agents lines name =
    list_any (λ agent. bytes_eq (str_to_ascii_lowercase agent) name && lacks_all lines agent) agents

-- the first of these lines is a user-agent line, and its list of user-agent lines names such a crawler
abbrev pub name_lacking : List (List ℕ) → List LineValue → (from_here : List LineValue) → Bool
name_lacking agents lines [] = false
name_lacking agents lines (line ∷ after) =
    is_agent line
    && begin_with_one (λ name. is_lacking agents lines (str_to_ascii_lowercase name)) (line ∷ after)

-- so do the lines from the one with this number on, counted from 1
abbrev pub IsReplacing : (agents : List (List ℕ)) → (lines all : List LineValue) → ℕ → Type 0
IsReplacing agents lines all number =
    (position : ℕ) × (number ≡ position + 1) × (name_lacking agents lines (drop position all) ≡ true)
