-- A file in the standard's grammar as it is printed is a list of its lines, and such lines are a file in it.
use Rattle.std.proofs.Common.{◌≡◌, inl, inr, List, [], ◌∷◌, ◌++◌, ℕ, flat_map, sym, append-nil}
use Rattle.std.proofs.Common.{append_assoc, ap, refl, subst, ◌∙◌}
use Rattle.std.specs.List.{AllByRecursion as Each}
use Rattle.rfc9309.proofs.Sources.{Parts, group_put, groups_put, onto, parts_of, with_group}
use Rattle.rfc9309.proofs.Sources.{with_member, with_token}
use Rattle.rfc9309.proofs.SyntaxLemmas.{repeats_both, repeats_none, repeats_one}
use Rattle.rfc9309.specs.Rfc9309 as rfc

abbrev pub entry_parts : List rfc.Entry → Parts
entry_parts entries = parts_of (rfc.above_groups entries) (rfc.groups_of entries)

pub lines_both : (Line : rfc.Entry → List ℕ → Type 0) (entries more : List rfc.Entry) (text later : List ℕ)
    → rfc.AreLines Line entries text → rfc.AreLines Line more later
    → rfc.AreLines Line (entries ++ more) (text ++ later)
lines_both Line [] more text later none also = rw none also
lines_both Line (entry ∷ entries) more text later (line, rest, whole, is, are) also = (
  line,
  rest ++ later,
  ap (λ t. t ++ later) whole ∙ append_assoc line rest later,
  is,
  lines_both Line entries more rest later are also,
)

-- ---- from groups to lines

-- adding the text's entries before others has the effect of `make` on the groups of those others
record Makes (make : Parts → Parts) (text : List ℕ) : Type 0 where
  entries : List rfc.Entry
  are_lines : rfc.AreLines rfc.IsStandardLine entries text
  same : (following : List rfc.Entry) → entry_parts (entries ++ following) ≡ make (entry_parts following)

entry_makes : {make : Parts → Parts} (entry : rfc.Entry) (text : List ℕ) → rfc.IsStandardLine entry text
    → ((following : List rfc.Entry) → entry_parts (entry ∷ following) ≡ make (entry_parts following))
    → Makes make text
entry_makes entry text is same = record {
  entries = entry ∷ [];
  are_lines = (text, [], sym (append-nil text), is, refl);
  same = same;
}

both_make : {first second : Parts → Parts} {text later : List ℕ} → Makes first text → Makes second later
    → Makes (λ parts. first (second parts)) (text ++ later)
both_make {first} is also = record {
  entries = is.entries ++ also.entries;
  are_lines = lines_both _ is.entries also.entries _ _ is.are_lines also.are_lines;
  same = λ following.
      ap entry_parts (append_assoc is.entries also.entries following) ∙ is.same _
      ∙ ap first (also.same following);
}

token_made : (token text : List ℕ) → rfc.IsStartGroupLine token text → Makes (with_token token) text
token_made token text is = entry_makes (rfc.Agent token) text is (λ following. refl)

member_made : (member : rfc.Member) (text : List ℕ) → rfc.IsRule member text → Makes (with_member member) text
member_made member text is = entry_makes (rfc.InGroup member) text is (λ following. refl)

gap_made : (text : List ℕ) → rfc.IsEmptyLine text → Makes (λ parts. parts) text
gap_made text is = entry_makes rfc.Nothing text is (λ following. refl)

-- a text of parts, each of which has one item or is an empty line
parts_make : {X : Type 0} (act : X → Parts → Parts) (P : X → List ℕ → Type 0)
    → ((x : X) (text : List ℕ) → P x text → Makes (act x) text) → {xs : List X} {text : List ℕ}
    → rfc.Repeats (rfc.IsOneOr P rfc.IsEmptyLine) xs text → Makes (onto act xs) text
parts_make {X} act P one is = rw (is.written, is.whole) (units_make _ is.each)
  where
    units_make : (units : List (rfc.RepeatUnit X))
        → Each (λ unit. rfc.IsOneOr P rfc.IsEmptyLine unit.items unit.bytes) units
        → Makes (onto act (flat_map (λ unit. unit.items) units)) (flat_map (λ unit. unit.bytes) units)
    units_make [] all = record { entries = []; are_lines = refl; same = λ following. refl }
    units_make (unit ∷ units) (inl (x, is, same), all) =
        rw same (both_make (one x unit.bytes is) (units_make units all))
    units_make (unit ∷ units) (inr (is, none), all) =
        rw none (both_make (gap_made unit.bytes is) (units_make units all))

group_made : (group : rfc.Group) (text : List ℕ) → rfc.IsGroup group text → Makes (with_group group) text
group_made group text is =
    let all =
    both_make (token_made is.token is.start is.is_start) (
    both_make (parts_make with_token rfc.IsStartGroupLine token_made is.are_agents)
    (parts_make with_member rfc.IsRule member_made is.are_members)) in
    rw is.whole (record {
      entries = all.entries;
      are_lines = all.are_lines;
      same = λ following. all.same following ∙ group_put is.token is.tokens group _ is.written;
    })

pub robotstxt_lines : (groups : List rfc.Group) (text : List ℕ) → rfc.IsRobotstxt groups text
    → rfc.IsRobotstxtByLines (rfc.merged groups) text
robotstxt_lines groups text is =
    let made = parts_make with_group rfc.IsGroup group_made is in
    let parts : entry_parts made.entries ≡ parts_of [] (rfc.merged groups) =
    ap entry_parts (sym (append-nil made.entries)) ∙ made.same [] ∙ groups_put groups in
    record {
      entries = made.entries;
      are_lines = made.are_lines;
      none_above = ap (λ (p : Parts). p.ungrouped) parts;
      written = sym (ap (λ (p : Parts). p.groups) parts);
    }

-- ---- from lines to groups

abbrev AreMembers : List rfc.Member → List ℕ → Type 0
AreMembers members text = rfc.Repeats (rfc.IsOneOr rfc.IsRule rfc.IsEmptyLine) members text

-- groups without lines between them
abbrev AreGroups : List rfc.Group → List ℕ → Type 0
AreGroups [] text = text ≡ []
AreGroups (group ∷ groups) text =
    (first : List ℕ) × (rest : List ℕ) × (text ≡ first ++ rest) × rfc.IsGroup group first
    × AreGroups groups rest

-- lines with these members, and groups
record IsTail (members : List rfc.Member) (groups : List rfc.Group) (text : List ℕ) : Type 0 where
  lead : List ℕ
  rest : List ℕ
  whole : text ≡ lead ++ rest
  are_members : AreMembers members lead
  are_groups : AreGroups groups rest

-- without members, the lines are empty
only_gaps : {X : Type 0} (P : X → List ℕ → Type 0) (text : List ℕ) → AreMembers [] text
    → rfc.Repeats (rfc.IsOneOr P rfc.IsEmptyLine) [] text
only_gaps {X} P text are = rw are.whole (at are.units are.each (sym are.written))
  where
    at : (units : List (rfc.RepeatUnit rfc.Member))
        → Each (λ unit. rfc.IsOneOr rfc.IsRule rfc.IsEmptyLine unit.items unit.bytes) units
        → flat_map (λ unit. unit.items) units ≡ []
        → rfc.Repeats (rfc.IsOneOr P rfc.IsEmptyLine) [] (flat_map (λ unit. unit.bytes) units)
    at [] all none = repeats_none _
    at (unit ∷ units) (inl (member, is, same), all) none = absurd cc
    at (unit ∷ units) (inr (is, same), all) none =
        repeats_both (repeats_one _ [] unit.bytes (inr (is, refl))) (at units all (rw same at none))

-- the group of a token, with the members below it or with the tokens of the next group
token_group : (token line lead rest : List ℕ) (members : List rfc.Member) (groups : List rfc.Group)
    → rfc.IsStartGroupLine token line → AreMembers members lead → AreGroups groups rest
    → AreGroups (rfc.put_before (token ∷ []) members groups) (line ++ (lead ++ rest))
token_group token line lead rest [] (next ∷ groups) is are (first, later, whole, group, more) = (
  line ++ (lead ++ first),
  later,
  rw whole (simp append_assoc),
  record {
    token = token;
    tokens = next.tokens;
    start = line;
    agents = lead ++ (group.start ++ group.agents);
    lines = group.lines;
    whole = rw group.whole (simp append_assoc);
    is_start = is;
    are_agents =
        rw group.written (repeats_both (only_gaps rfc.IsStartGroupLine lead are)
        (repeats_both (repeats_one _ (group.token ∷ []) group.start (inl (group.token, group.is_start, refl)))
        group.are_agents));
    written = refl;
    are_members = group.are_members;
  },
  more,
)
token_group token line lead rest members groups is are more = (
  line ++ lead,
  rest,
  sym (append_assoc line lead rest),
  record {
    token = token;
    tokens = [];
    start = line;
    agents = [];
    lines = lead;
    whole = refl;
    is_start = is;
    are_agents = repeats_none _;
    written = refl;
    are_members = are;
  },
  more,
)

-- a line with a member or none
line_above : (members above : List rfc.Member) (groups : List rfc.Group) (line text : List ℕ)
    → rfc.IsOneOr rfc.IsRule rfc.IsEmptyLine members line → IsTail above groups text
    → IsTail (members ++ above) groups (line ++ text)
line_above members above groups line text is tail = record {
  lead = line ++ tail.lead;
  rest = tail.rest;
  whole = ap (λ t. line ++ t) tail.whole ∙ sym (append_assoc line tail.lead tail.rest);
  are_members = repeats_both (repeats_one _ members line is) tail.are_members;
  are_groups = tail.are_groups;
}

tail_of : (entries : List rfc.Entry) (text : List ℕ) → rfc.AreLines rfc.IsStandardLine entries text
    → IsTail (rfc.above_groups entries) (rfc.groups_of entries) text
tail_of [] text none = rw none (record {
  lead = [];
  rest = [];
  whole = refl;
  are_members = repeats_none _;
  are_groups = refl;
})
tail_of (rfc.Agent token ∷ entries) text (line, rest, whole, is, are) =
    let tail = tail_of entries rest are in
    record {
      lead = [];
      rest = line ++ (tail.lead ++ tail.rest);
      whole = whole ∙ ap (λ t. line ++ t) tail.whole;
      are_members = repeats_none _;
      are_groups = token_group token line tail.lead tail.rest _ _ is tail.are_members tail.are_groups;
    }
tail_of (rfc.InGroup member ∷ entries) text (line, rest, whole, is, are) =
    rw whole (line_above (member ∷ []) _ _ line rest (inl (member, is, refl)) (tail_of entries rest are))
tail_of (rfc.Sitemap address ∷ entries) text (line, rest, whole, is, are) = absurd is
tail_of (rfc.Nothing ∷ entries) text (line, rest, whole, is, are) =
    rw whole (line_above [] _ _ line rest (inr (is, refl)) (tail_of entries rest are))

groups_repeat : (groups : List rfc.Group) (text : List ℕ) → AreGroups groups text
    → rfc.IsRobotstxt groups text
groups_repeat [] text none = rw none (repeats_none _)
groups_repeat (group ∷ groups) text (first, rest, whole, is, more) =
    rw whole (repeats_both (repeats_one _ (group ∷ []) first (inl (group, is, refl)))
    (groups_repeat groups rest more))

pub lines_robotstxt : (groups : List rfc.Group) (text : List ℕ) → rfc.IsRobotstxtByLines groups text
    → rfc.IsRobotstxt groups text
lines_robotstxt groups text is =
    let tail = tail_of is.entries text is.are_lines in
    let gaps : rfc.IsRobotstxt [] tail.lead =
    only_gaps rfc.IsGroup tail.lead
    (subst (λ members. AreMembers members tail.lead) is.none_above tail.are_members) in
    subst (λ groups. rfc.IsRobotstxt groups text) (sym is.written)
    (subst (rfc.IsRobotstxt (rfc.groups_of is.entries)) (sym tail.whole)
    (repeats_both gaps (groups_repeat _ tail.rest tail.are_groups)))

-- ---- the standard's lines are among those of the extended grammar

wide_line : (entry : rfc.Entry) (text : List ℕ) → rfc.IsStandardLine entry text → rfc.IsLine entry text
wide_line (rfc.Agent token) text is = is
wide_line (rfc.InGroup member) text is = inl is
wide_line (rfc.Sitemap address) text is = absurd is
wide_line rfc.Nothing text is = inl is

pub wide_lines : (entries : List rfc.Entry) (text : List ℕ) → rfc.AreLines rfc.IsStandardLine entries text
    → rfc.AreLines rfc.IsLine entries text
wide_lines [] text none = none
wide_lines (entry ∷ entries) text (line, rest, whole, is, are) =
    (line, rest, whole, wide_line entry line is, wide_lines entries rest are)
