-- A crawler gets the rules and the delay that the source lines define for it.
use Rattle.std.proofs.Common.{◌≡◌, ℕ, Bool, true, false, not, ◌||◌, List, [], ◌∷◌, ◌++◌, Option, Some, None}
use Rattle.std.proofs.Common.{flat_map, filter, cond, bytes_eq, sym, refl, subst, append-nil, ◌&&◌}
use Rattle.std.proofs.Common.{slice_get, arith}
use Rattle.std.specs.List.{AllZip, AllByRecursion as Each, list_any, cons_option, filter_map, last_or}
use Rattle.texting_robots.specs.Executable.{rule_in, rules_for, captured_delays, delay_for}
use Rattle.texting_robots.specs.Line.{LineValue, UserAgent, delay_in}
use Rattle.texting_robots.specs.Group.{group_name, is_agent, is_agent_named, is_member}
use Rattle.texting_robots.proofs.Shared.{cond_same, given_captured, rules_walked, delays_walked, before_agent}
use Rattle.texting_robots.proofs.Shared.{before_agents, option_or_none}
use Rattle.rfc9309.specs.Rfc9309.{Group, Member, put_before, is_rule, has_token, groups_for}
use Rattle.rfc9309.proofs.Sources.{IsRead, Source, allowed_in, member_in, parts_in}
use Rattle.rfc9309.specs.StandardRobot.{IsDelayAs, IsDelayOf, delay_among, is_delay, IsReadAs}
use Rattle.std.specs.{Str.str_to_ascii_lowercase, Option.option_or}
use Rattle.std.proofs.lemmas.List.{Elements.filter-append}
use Rattle.texting_robots.specs.{declared.groups.GroupTracker.GroupTracker}
use Rattle.texting_robots.specs.Internal.{Group.start_of}
use Rattle.rfc9309.proofs.{ReadLemmas.lines_in}
use Rattle.rfc9309.specs.Rfc9309 as rfc

-- the user-agent lines of a group, with the name among them or not
abbrev pub naming : Bool → GroupTracker
naming named = record { captured = named; named = named }

abbrev pub closed : Bool → GroupTracker
closed captured = record { captured = captured; named = false }

module _ {X : Type 0} (given : LineValue → Option X) (wanted : Member → Bool) (R : Member → X → Type 0)
  where
    -- if the line gives nothing, the member isn't wanted
    abbrev pub Gives : Member → Option X → Type 0
    Gives member None = wanted member ≡ false
    Gives member (Some x) = (wanted member ≡ true) × R member x

    -- lines without members give nothing
    pub record IsGiven : Type 0 where
      pub none : (line : LineValue) → is_member line ≡ false → given line ≡ None
      pub some : (line : LineValue) (text : List ℕ) → is_member line ≡ true → IsRead (line, text)
          → Gives (member_in line text) (given line)

    -- the members that are wanted mean these values
    abbrev pub AreFound : List Member → List X → Type 0
    AreFound members found = AllZip R (filter wanted members) found

pub rules_given : IsGiven rule_in is_rule IsReadAs
rules_given = grind (arith, allowed_in, member_in)

abbrev pub members_in : List Group → List Member
members_in groups = flat_map (λ group. group.members) groups

module _ (name : List ℕ) where
  abbrev pub is_named : List ℕ → Bool
  is_named token = bytes_eq (str_to_ascii_lowercase token) name

  abbrev pub has : Group → Bool
  has group = list_any is_named group.tokens

  abbrev pub theirs : List Group → List Member
  theirs groups = members_in (filter has groups)

  -- members before any token, if the state captures them, and those of the first group also if the current
  -- user-agent lines have the name
  abbrev pub captured : GroupTracker → List Member → List Group → List Member
  captured walk [] [] = []
  captured walk [] (next ∷ later) = cond (walk.named || has next) next.members [] ++ theirs later
  captured walk (member ∷ members) groups = cond walk.captured (member ∷ members) [] ++ theirs groups

  pub captured_closed : (is : Bool) (members : List Member) (groups : List Group)
      → captured (closed is) members groups ≡ cond is members [] ++ theirs groups
  captured_closed is members groups = grind arith

  -- after a user-agent line, the first group also counts as the name's if its token is the name
  pub captured_after : (walk : GroupTracker) (token : List ℕ) (members : List Member) (groups : List Group)
      → captured walk [] (put_before (token ∷ []) members groups)
      ≡ captured (naming (is_named token || walk.named)) members groups
  captured_after walk token members groups = grind arith

  pub any_put : (token : List ℕ) (members : List Member) (groups : List Group)
      → (is_named token || list_any has groups)
      ≡ list_any has (put_before (token ∷ []) members groups)
  any_put token members groups = grind arith

  any_named : (sources : List Source)
      → list_any (is_agent_named name) (lines_in sources) ≡ list_any has (parts_in sources).groups
  any_named [] = refl
  any_named ((UserAgent token, text) ∷ sources) = grind (arith, any_put, parts_in, any_named sources)
  any_named (_ ∷ sources) = any_named sources

module _ {X : Type 0} (given : LineValue → Option X) (wanted : Member → Bool) (R : Member → X → Type 0)
    (is_given : IsGiven given wanted R) (name : List ℕ) where
  abbrev found : GroupTracker → List Source → List X
  found walk sources = given_captured given name walk (lines_in sources)

  abbrev Found : List Member → List X → Type 0
  Found members rest = AreFound given wanted R members rest

  member_found : (is : Bool) (member : Member) (o : Option X) (members : List Member) (groups : List Group)
      (rest : List X) → Gives given wanted R member o
      → Found (captured name (closed is) members groups) rest
      → Found (cond is (member ∷ members) [] ++ theirs name groups) (cons_option (cond is o None) rest)
  member_found is member o members groups rest gives all = grind arith

  abbrev after : Bool → GroupTracker → GroupTracker
  after group walk = record { captured = walk.captured; named = not group && walk.named }

  captured_found : (group : Bool) (walk : GroupTracker) (member : Member) (o : Option X)
      (members : List Member) (groups : List Group) (rest : List X)
      → (group ≡ true → Gives given wanted R member o) → (group ≡ false → o ≡ None)
      → Found (captured name (after group walk) members groups) rest
      → Found (captured name walk (cond group (member ∷ members) members) groups)
      (cons_option (cond walk.captured o None) rest)
  captured_found group walk member o members groups rest h h2 h3 = grind (arith, cond_same, member_found)

  -- the `GroupTracker` finds what the members that apply mean
  pub walk_finds : (walk : GroupTracker) (sources : List Source) → Each IsRead sources
      → Found (captured name walk (parts_in sources).ungrouped (parts_in sources).groups)
      (found walk sources)
  walk_finds walk [] all = tt
  walk_finds walk ((UserAgent token, text) ∷ sources) (is, all) =
      let parts = parts_in sources in
      rw (
        is_given.none _ refl,
        cond_same {X = Option X} walk.captured None,
        captured_after name walk token parts.ungrouped parts.groups,
      )
      (walk_finds (naming _) sources all)
  walk_finds walk ((line, text) ∷ sources) (is, all) =
      let parts = parts_in sources in
      captured_found (is_member line) walk _ (given line) parts.ungrouped parts.groups _
      (λ group. is_given.some line text group is) (is_given.none line)
      (walk_finds (after (is_member line) walk) sources all)

pub named_groups : (agent : List ℕ) (groups : List Group) (lines : List LineValue) (some : Bool)
    → list_any (is_agent_named (str_to_ascii_lowercase agent)) lines ≡ some
    → list_any (has_token agent) groups ≡ some
    → filter (has (group_name agent lines)) groups ≡ groups_for agent groups
named_groups agent groups lines some h h2 = grind arith

pub groups_with_name : (agent : List ℕ) (sources : List Source)
    → filter (has (group_name agent (lines_in sources))) (parts_in sources).groups
    ≡ groups_for agent (parts_in sources).groups
groups_with_name agent sources =
    named_groups agent (parts_in sources).groups (lines_in sources) _
    (any_named _ sources) refl

module _ (agent : List ℕ) (sources : List Source)
    (none : filter is_rule (parts_in sources).ungrouped ≡ []) where
  abbrev own_name : List ℕ
  own_name = group_name agent (lines_in sources)

  pub rules_captured :
      filter is_rule
      (captured own_name (start_of (lines_in sources)) (parts_in sources).ungrouped (parts_in sources).groups)
      ≡ rfc.rules_for agent (parts_in sources).groups
  rules_captured = grind (arith, filter-append, groups_with_name, parts_in)

  pub rules_written : Each IsRead sources → AllZip IsReadAs (rfc.rules_for agent (parts_in sources).groups)
      (rules_for agent (lines_in sources))
  rules_written all =
      let lines = lines_in sources in
      rw (rules_walked agent lines) (
      subst (λ members. AllZip IsReadAs members (given_captured rule_in own_name (start_of lines) lines))
      rules_captured (walk_finds rule_in is_rule IsReadAs rules_given own_name (start_of lines) sources all))

delays_given : IsGiven delay_in is_delay IsDelayOf
delays_given = grind (arith, allowed_in, member_in)

first_as : (members : List Member) (delays : List ℕ) → AllZip IsDelayOf members delays
    → IsDelayAs (slice_get members 0) (slice_get delays 0)
first_as [] [] all = refl
first_as [] (delay ∷ delays) all = absurd all
first_as (member ∷ members) [] all = absurd all
first_as (member ∷ members) (delay ∷ delays) all = (delay, all.0, refl)

last_as : (member : Option Member) (delay : Option ℕ) (members : List Member) (delays : List ℕ)
    → IsDelayAs member delay → AllZip IsDelayOf members delays
    → IsDelayAs (last_or member members) (last_or delay delays)
last_as member delay [] [] is all = is
last_as member delay [] (d ∷ delays) is all = absurd all
last_as member delay (m ∷ members) [] is all = absurd all
last_as member delay (m ∷ members) (d ∷ delays) is all = last_as _ _ members _ (d, all.0, refl) all.1

or_as : (member other : Option Member) (delay more : Option ℕ) → IsDelayAs member delay
    → IsDelayAs other more → IsDelayAs (option_or member other) (option_or delay more)
or_as member other delay more h h2 = grind arith

above_found : (sources : List Source) → Each IsRead sources
    → AllZip IsDelayOf (filter is_delay (parts_in sources).ungrouped)
    (filter_map delay_in (before_agent (lines_in sources)))
above_found [] all = tt
above_found ((UserAgent token, text) ∷ sources) (is, all) = tt
above_found ((line, text) ∷ sources) (is, all) =
    grind (arith, delays_given, member_in, parts_in, above_found sources all)

abbrev has_any : List Group → Bool
has_any [] = false
has_any (group ∷ groups) = true

put_some : (tokens : List (List ℕ)) (members : List Member) (groups : List Group)
    → true ≡ has_any (put_before tokens members groups)
put_some tokens members groups = grind arith

any_group : (sources : List Source) → list_any is_agent (lines_in sources) ≡ has_any (parts_in sources).groups
any_group [] = refl
any_group ((UserAgent token, text) ∷ sources) = grind (arith, parts_in, put_some)
any_group (_ ∷ sources) = any_group sources

chosen : (agent name : List ℕ) (groups : List Group) (above : List Member) (found lead : List ℕ) (is : Bool)
    → is ≡ has_any groups
    → AllZip IsDelayOf (filter is_delay (cond (not is) above [] ++ theirs name groups)) found
    → AllZip IsDelayOf (filter is_delay above) lead
    → filter (has name) groups ≡ groups_for agent groups
    → IsDelayAs (delay_among agent groups (filter is_delay above))
    (option_or (slice_get found 0) (cond is (last_or None lead) None))
chosen agent name groups above found lead is h h2 h3 h4 =
    grind (arith, append-nil, first_as, last_as, option_or_none, or_as)

pub delay_written : (agent : List ℕ) (sources : List Source) → Each IsRead sources
    → IsDelayAs (delay_among agent (parts_in sources).groups (filter is_delay (parts_in sources).ungrouped))
    (delay_for agent (lines_in sources))
delay_written agent sources all =
    let parts = parts_in sources in
    let lines = lines_in sources in
    let name = group_name agent lines in
    let is = list_any is_agent lines in
    let found = walk_finds delay_in is_delay IsDelayOf delays_given name (start_of lines) sources all in
    let members = captured name (start_of lines) parts.ungrouped parts.groups in
    let delays = subst (AllZip IsDelayOf (filter is_delay members)) (sym (delays_walked agent lines)) found in
    let caught =
    subst (λ members. AllZip IsDelayOf (filter is_delay members) (captured_delays agent lines))
    (captured_closed name (not is) parts.ungrouped _) delays in
    chosen agent name parts.groups parts.ungrouped _
    _ is (any_group sources) caught
    (subst (λ above. AllZip IsDelayOf (filter is_delay parts.ungrouped) (filter_map delay_in above))
    (sym (before_agents lines)) (above_found sources all)) (groups_with_name agent sources)
