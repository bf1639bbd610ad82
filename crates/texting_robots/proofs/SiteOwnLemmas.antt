-- Iterating over the lines of a name: what this gives, and where it starts.
use Rattle.std.specs.{Prelude.filter, Option.option_to_list}
use Rattle.std.proofs.Common.{◌≡◌, inl, inr, ℕ, zero, suc, ◌+◌, ◌<◌, ◌≤◌, ◌==◌, Bool, true, false, ◌||◌, ◌&&◌}
use Rattle.std.proofs.Common.{List, [], ◌∷◌, ◌++◌, Option, Some, None, length, drop, refl, ap, sym, arith}
use Rattle.std.proofs.Common.{cond, get_or, slice_get, take, IsPermutation, subst, ltb}
use Rattle.std.specs.List.{All, cons_option, filter_map, list_any}
use Rattle.std.proofs.lemmas.Bool.{eq-eqb, ne_eqb, cases_Bool, le-ltb, lt-ltb, ltb-false, ltb-true}
use Rattle.std.proofs.{lemmas.Bool.Decides.eqb_tells, Math.Bool.and-false}
use Rattle.std.proofs.lemmas.List.{Elements.filter_agree, take_more, append-nil, drop-drop}
use Rattle.texting_robots.specs.Rules.{IsFirstOverlong, PlacedRule}
use Rattle.texting_robots.specs.{declared.error.Error.Error, Error.IsMemoryErrorOr, Executable.IsRejectionOf}
use Rattle.texting_robots.specs.declared.error.Error.TheVariants as error
use Rattle.texting_robots.specs.Group.{group_name, is_agent, is_member}
use Rattle.texting_robots.specs.{Pattern.IsOverlong, Internal.Group.from_captured, Robot.IsRobotOf}
use Rattle.texting_robots.specs.declared.site.{lines.ByteRange.ByteRange, own.Position.Position}
use Rattle.texting_robots.specs.{Robot.RobotValue, Line.LineValue, Line.UserAgent, Executable.placed_rules}
use Rattle.texting_robots.specs.Executable.{captured_delays, captured_lines, file_lines, delay_for}
use Rattle.texting_robots.proofs.{CapturedLemmas.captured_walked, ExecutableLemmas.delay_is_computed}
use Rattle.texting_robots.proofs.SiteNameLemmas.{drop_is, first_here, here, later_at, past_end}
use Rattle.texting_robots.proofs.{SiteNameLemmas.groups_from_first, MainTheoremLemmas.rules_are_computed}
use Rattle.texting_robots.proofs.MainTheoremLemmas.{overlong_rejected, rejection_is_computed}
use Rattle.texting_robots.proofs.SiteLemmas.{delay_of_group, given_push, rule_of_group, none_later}
use Rattle.texting_robots.specs.Internal.Site.{Named, Tagged, delay_of, in_front, is_group_of, named, listed}
use Rattle.texting_robots.specs.Internal.Site.{own_tagged, rejection_at, rule_of, tagged, tagged_from}
use Rattle.texting_robots.specs.Internal.Site.{first_named, own_at, AreOfFile, IsWholeWalk, is_later}
use Rattle.texting_robots.specs.Internal.Site.{own_from, has_name}
use Rattle.texting_robots.proofs.SiteGroupLemmas.{Ascends, names_ascend, no_names, none_above, of_group}
use Rattle.texting_robots.proofs.SiteGroupLemmas.{starts, some_names, tagged_ascends}

group_first : (p : ℕ → Bool) (r : ℕ) (tags : List Tagged) → ((q : ℕ) → q ≤ r → p q ≡ false) → Ascends tags
    → filter (λ t. (t.group == r) || p t.group) tags ≡ of_group r tags ++ filter (λ t. p t.group) tags
group_first p r [] none ascends = refl
group_first p r (t ∷ tags) none (first, rest) = elim (eqb_tells t.group r) [
  | inl (is, same) ↦ rw (is, none t.group (omega arith)) (ap (λ ts. t ∷ ts) (group_first p r tags none rest))
  | inr (isnt, other) ↦ rw isnt (elim (cases_Bool (p t.group)) [
    | inl has ↦
        let above : r < t.group = grind (arith, cases_Bool, ltb-false, ltb-true, r, none) in
        let nothing = none_above r t.group tags above first in
        grind (arith, p, group_first p r tags none rest)
    | inr hasnt ↦ rw hasnt (group_first p r tags none rest)
  ])
]

later_next : (name : List ℕ) (group : ℕ) (n : Named) (names : List Named) (r : ℕ) → has_name name n ≡ true
    → group < n.group → ((q : ℕ) → q < n.group → is_group_of name names q ≡ false)
    → is_later name group (n ∷ names) r ≡ ((r == n.group) || is_later name n.group names r)
later_next name group n names r has above none = elim (eqb_tells r n.group) [
  | inl (is, same) ↦ grind (arith, eq-eqb, lt-ltb)
  | inr (isnt, other) ↦ rw (isnt, has, ne_eqb n.group r (λ same. other (sym same))) (elim (cases_Bool
      (ltb n.group r)) [
        | inl is_less ↦ rw (is_less, lt-ltb group r (let less = ltb-true n.group r is_less in omega arith))
            refl
        | inr isnt_less ↦ rw (isnt_less, none r (let least = ltb-false n.group r isnt_less in omega arith))
            (and-false (ltb group r))
      ])
]

later_same : (name : List ℕ) (group : ℕ) (n : Named) (names : List Named) (r : ℕ) → n.group ≤ group
    → is_later name group (n ∷ names) r ≡ is_later name group names r
later_same name group n names r least = grind (arith, and-false, cases_Bool, ltb-true, ne_eqb)

none_below : (name : List ℕ) (names : List Named) (least q : ℕ)
    → ((j : ℕ) (m : Named) → slice_get names j ≡ Some m → least ≤ m.group) → q < least
    → is_group_of name names q ≡ false
none_below name [] least q above below = refl
none_below name (n ∷ names) least q above below =
    rw (ne_eqb n.group q (λ same. (let here = above 0 n refl in omega arith)), and-false (has_name name n))
    (none_below name names least q (λ j m at. above (suc j) m at) below)

groups_after : (name : List ℕ) (names : List Named) (name_index next r : ℕ)
    → next ≡ name_index + 1 + first_named name (drop (name_index + 1) names)
    → is_group_of name (drop next names) r ≡ is_group_of name (drop (name_index + 1) names) r
groups_after name names name_index next r are =
    cc (
      drop-drop (first_named name (drop (name_index + 1) names)) (name_index + 1) names,
      groups_from_first name (drop (name_index + 1) names) r,
    )

pub first_kept : (name : List ℕ) (name_index next : ℕ) (names : List Named)
    → next ≡ name_index + 1 + first_named name (drop (name_index + 1) names)
    → first_named name (drop next names) ≡ 0
first_kept name name_index next names are =
    cc (
      drop-drop (first_named name (drop (name_index + 1) names)) (name_index + 1) names,
      first_here (has_name name) (drop (name_index + 1) names),
    )

pub next_group : (name : List ℕ) (group name_index next : ℕ) (names : List Named) (tags rest : List Tagged)
    (n : Named)
    → slice_get names name_index ≡ Some n → first_named name (drop name_index names) ≡ 0
    → AreOfFile names tags
    → group < n.group → in_front group rest ≡ []
    → next ≡ name_index + 1 + first_named name (drop (name_index + 1) names)
    → own_from name n.group (drop n.start tags) (drop next names) tags
    ≡ own_from name group rest (drop name_index names) tags
next_group name group name_index next names tags rest n at first (lines, named_is, tagged_is) above gone are =
    let after = drop (name_index + 1) names in
    let left = drop_is names name_index n at in
    let has : has_name name n ≡ true = here (has_name name) n after (rw left at first) in
    let there : slice_get (named lines) name_index
    ≡ Some n = cc in
    let none = λ (q : ℕ) (below : q < n.group). none_below name after n.group q
    (grind (arith, later_at, names_ascend, name_index, names))
    below in
    let front : in_front n.group (drop n.start tags) ≡ of_group n.group tags =
    subst (λ (ts : List Tagged). in_front n.group (drop n.start ts) ≡ of_group n.group ts) (sym tagged_is)
    (starts lines name_index n there).lines in
    let ascends : Ascends tags = grind (arith, tagged_ascends) in
    let later = λ (t : Tagged). later_next name group n after t.group has above none in
    let passed : (q : ℕ) → q ≤ n.group → is_later name n.group after q ≡ false =
    λ q least. rw (le-ltb n.group q least) refl in
    cc (
      filter_agree _ _ (λ (t : Tagged). ap (λ b. ltb n.group t.group && b)
          (groups_after name names name_index next t.group are)) tags,
      group_first (is_later name n.group after) n.group tags passed ascends,
      filter_agree _ _ later tags,
    )

pub same_group : (name : List ℕ) (group name_index next : ℕ) (names : List Named) (tags rest : List Tagged)
    (n : Named)
    → slice_get names name_index ≡ Some n → n.group ≤ group
    → next ≡ name_index + 1 + first_named name (drop (name_index + 1) names)
    → own_from name group rest (drop next names) tags ≡ own_from name group rest (drop name_index names) tags
same_group name group name_index next names tags rest n at least are =
    grind (arith, drop_is, filter_agree, later_same, groups_after)

none_pass : (p : ℕ → Bool) (tags : List Tagged) → ((q : ℕ) → p q ≡ false) → filter (λ t. p t.group) tags ≡ []
none_pass p [] none = refl
none_pass p (t ∷ tags) none = rw (none t.group) (none_pass p tags none)

pub at_end : (name : List ℕ) (group name_index : ℕ) (names : List Named) (tags rest : List Tagged)
    → slice_get names name_index ≡ None → in_front group rest ≡ [] → own_from name group rest
    (drop name_index names) tags ≡ []
at_end name group name_index names tags rest out gone =
    rw (gone, past names name_index out)
    (none_pass (is_later name group []) tags (λ q. and-false (ltb group q)))
  where
    past : {X : Type 0} (xs : List X) (i : ℕ) → slice_get xs i ≡ None → drop i xs ≡ []
    past [] zero out = refl
    past [] (suc i) out = refl
    past (x ∷ xs) zero out = cc
    past (x ∷ xs) (suc i) out = past xs i out

no_group : (name : List ℕ) (lines : List LineValue) → is_group_of name (named lines) 0 ≡ false
no_group name lines = grind (arith, none_later)

later_than_none : (name : List ℕ) (lines : List LineValue) (r : ℕ)
    → (ltb 0 r && is_group_of name (named lines) r) ≡ is_group_of name (named lines) r
later_than_none name lines r = grind (arith, lt-ltb, no_group)

pub own_named : (name : List ℕ) (lines : List LineValue)
    → own_from name 0 [] (drop (first_named name (named lines)) (named lines)) (tagged lines)
    ≡ own_tagged name lines
own_named name lines = filter_agree _ _
    (grind (arith, later_than_none, groups_from_first, lines)) (tagged lines)

pub own_unnamed : (name : List ℕ) (names : List Named) (tags : List Tagged) (name_index : ℕ) → names ≡ []
    → own_from name 0 tags (drop name_index names) tags ≡ in_front 0 tags
own_unnamed name names tags name_index none =
    rw (nothing names name_index none, none_pass (is_later name 0 []) tags (λ q. and-false (ltb 0 q)))
    (append-nil (in_front 0 tags))
  where
    nothing : {X : Type 0} (xs : List X) (i : ℕ) → xs ≡ [] → drop i xs ≡ []
    nothing [] zero none = refl
    nothing [] (suc i) none = refl
    nothing (x ∷ xs) i none = cc

pub whole_walk : (name : List ℕ) (position : Position) (names : List Named) (tags : List Tagged)
    → position.name_index ≡ first_named name names → position.group ≡ 0 → (length names ≡ 0 → position.at ≡ 0)
    → (0 < length names → length tags ≤ position.at)
    → IsWholeWalk name names tags (own_at name position names tags)
whole_walk name position [] tags first at_zero unnamed some = grind (arith, own_unnamed)
whole_walk name position (n ∷ names) tags first at_zero unnamed some = grind (arith, own_named, past_end)

-- ---- What all members give, and the members of a group.

added : {X : Type 0} (is_member : Bool) (given : Tagged → Option X) (tag : Tagged) (tags : List Tagged)
    (here : Option X) → given tag ≡ here → (is_member ≡ false → here ≡ None)
    → cons_option here (filter_map given tags)
    ≡ filter_map given (cons_option (cond is_member (Some tag) None) tags)
added is_member given tag tags here fits none = grind arith

all_from : {X : Type 0} (given : ℕ × LineValue → Option X) (of_tag : Tagged → Option X)
    → ((name_index group : ℕ) (line : LineValue)
    → of_tag (record { number = name_index + 1; line = line; group = group }) ≡ given (name_index, line))
    → ((name_index : ℕ) (line : LineValue) → is_member line ≡ false → given (name_index, line) ≡ None)
    → (name : List ℕ) (name_index : ℕ) (lines : List LineValue) → list_any is_agent lines ≡ false
    → from_captured given name (record { captured = true; named = false }) name_index lines
    ≡ filter_map of_tag (tagged_from 0 false name_index lines)
all_from given of_tag fits none name name_index [] without = refl
all_from given of_tag fits none name name_index (UserAgent value ∷ lines) without = cc
all_from given of_tag fits none name name_index (line ∷ lines) without =
    grind (arith, added, all_from given of_tag fits none name (name_index + 1) lines without)

front_next : (is_member : Bool) (tag : Tagged) (tags : List Tagged) → (tag.group == 0) ≡ true
    → in_front 0 tags ≡ tags
    → let all = cons_option (cond is_member (Some tag) None) tags in in_front 0 all ≡ all
front_next is_member tag tags first same = grind arith

front_all : (name_index : ℕ) (lines : List LineValue) → list_any is_agent lines ≡ false
    → in_front 0 (tagged_from 0 false name_index lines) ≡ tagged_from 0 false name_index lines
front_all name_index [] without = refl
front_all name_index (UserAgent value ∷ lines) without = cc
front_all name_index (line ∷ lines) without =
    grind (arith, front_next, front_all (name_index + 1) lines without)

found_in_all : {X : Type 0} (given : ℕ × LineValue → Option X) (of_tag : Tagged → Option X)
    → ((name_index group : ℕ) (line : LineValue)
    → of_tag (record { number = name_index + 1; line = line; group = group }) ≡ given (name_index, line))
    → ((name_index : ℕ) (line : LineValue) → is_member line ≡ false → given (name_index, line) ≡ None)
    → (name : List ℕ) (lines : List LineValue) → list_any is_agent lines ≡ false
    → filter_map given (captured_lines name lines) ≡ filter_map of_tag (in_front 0 (tagged lines))
found_in_all given of_tag fits none name lines without = grind (arith, all_from, captured_walked, front_all)

pub rules_of_all : (agent : List ℕ) (lines : List LineValue) → list_any is_agent lines ≡ false
    → placed_rules agent lines ≡ filter_map rule_of (in_front 0 (tagged lines))
rules_of_all agent lines without = grind (arith, found_in_all, rule_of_group)

pub delays_of_all : (agent : List ℕ) (lines : List LineValue) → list_any is_agent lines ≡ false
    → captured_delays agent lines ≡ filter_map delay_of (in_front 0 (tagged lines))
delays_of_all agent lines without = grind (arith, delay_of_group, found_in_all)

pub given_whole : {X : Type 0} (given : Tagged → Option X) (all : List X) (name : List ℕ) (names : List Named)
    (tags walk : List Tagged) (lines : List LineValue) → names ≡ named lines → tags ≡ tagged lines
    → IsWholeWalk name names tags walk
    → (list_any is_agent lines ≡ false → all ≡ filter_map given (in_front 0 (tagged lines)))
    → (list_any is_agent lines ≡ true → all ≡ filter_map given (own_tagged name lines))
    → filter_map given walk ≡ all
given_whole given all name [] tags walk lines named_is tagged_is whole unnamed some =
    grind (arith, no_names)
given_whole given all name (n ∷ names) tags walk lines named_is tagged_is whole unnamed some =
    grind (arith, some_names)

-- ---- Loops of a site, and equal robots.

pub listed_more : (text : List ℕ) (sitemaps : List ByteRange) (i : ℕ) (d : ByteRange) → i < length sitemaps
    → filter_map (listed text) (take (i + 1) sitemaps)
    ≡ filter_map (listed text) (take i sitemaps) ++ option_to_list (listed text (get_or sitemaps i d))
listed_more text sitemaps i d within =
    cc (take_more sitemaps i d within, given_push (listed text) (take i sitemaps) (get_or sitemaps i d))

-- the rule of this line is the first that is too long, or memory ran out
pub rejected_at : (agent file : List ℕ) (rule : PlacedRule) (taken left : List PlacedRule) (e : Error)
    → taken ++ rule ∷ left ≡ placed_rules agent (file_lines file)
    → All (λ (other : PlacedRule). ¬ IsOverlong other.rule.0) taken
    → IsMemoryErrorOr (IsOverlong rule.rule.0) e → IsRejectionOf agent file (rejection_at rule.line e)
rejected_at agent file rule taken left error.InvalidRule whole accepted is =
    let first : IsFirstOverlong (placed_rules agent (file_lines file)) rule.line = grind arith in
    (overlong_rejected agent file rule.line first, first)
rejected_at agent file rule taken left other whole accepted is = tt

pub given_nothing : {X Y : Type 0} (h : X → Option Y) (x : X) (xs : List X) → filter_map h (x ∷ xs) ≡ []
    → (h x ≡ None) × (filter_map h xs ≡ [])
given_nothing h x xs none = grind arith

pub none_if_nil : {X Y : Type 0} (h : X → Option Y) (xs : List X) (i : ℕ) (d : X) → i < length xs
    → filter_map h xs ≡ [] → h (get_or xs i d) ≡ None
none_if_nil h [] i d within none = absurd (omega arith)
none_if_nil h (x ∷ xs) zero d within none = (given_nothing h x xs none).0
none_if_nil h (x ∷ xs) (suc i) d within none =
    none_if_nil h xs i d (omega arith) (given_nothing h x xs none).1

pub same_group_robot : (agent other : List ℕ) (lines : List LineValue) (robot : RobotValue)
    → group_name agent lines ≡ group_name other lines → IsRobotOf agent lines robot
    → IsRobotOf other lines robot
same_group_robot agent other lines robot same is =
    let rules : placed_rules agent lines ≡ placed_rules other lines =
    cc in
    let delays : delay_for agent lines ≡ delay_for other lines =
    cc in
    record {
      delay = grind (arith, delay_is_computed);
      sitemaps = is.sitemaps;
      rules = (rules_are_computed other lines robot.rules).1
          (subst (λ (all : List PlacedRule). IsPermutation all robot.rules) rules
          ((rules_are_computed agent lines robot.rules).0 is.rules));
      accepted = grind (arith, rejection_is_computed, is.accepted);
    }
