-- What the check at the end says of the found lines.
use Rattle.std.proofs.Common.{◌≡◌, ◌+◌, ◌∙◌, ℕ, zero, suc, Bool, true, false, List, [], ◌∷◌, ◌++◌, All, ap}
use Rattle.std.proofs.Common.{arith, codes, filter, length, map, refl, subst, subst₂, sym, take, take_all}
use Rattle.std.proofs.Common.{◌==◌}
use Rattle.std.specs.{BTreeMap.keys, Cmp.nat_cmp_total, Bool.Decides}
use Rattle.std.proofs.lemmas.List.Elements.{All-contains, Contains-append_left, Contains-push}
use Rattle.std.proofs.lemmas.{Bool.Decides.same_from_decides}
use Rattle.std.proofs.lemmas.Map.{Lookups.exact_unsigned, Views.btree_map_contains_key_iff}
use Rattle.std.specs.List.{Contains, enumerate_from, list_any}
use Rattle.texting_robots.specs.Callers.{IsRejected, LineValue, PlacedRule, agents_in, delay_for, file_bodies}
use Rattle.texting_robots.specs.Callers.{file_lines, placed_rules, rules_for, sitemaps_in, unplaced}
use Rattle.robots_rules.specs.{Same.HaveSameVerdicts, Search.rule_at}
use Rattle.texting_robots.specs.Internal.{Line.line_of}
use Rattle.robots_rules.specs.declared.needless.{NeedlessRule.NeedlessRule, Reason.Reason}
use Rattle.robots_rules.specs.Blocks.{AreFoundIn, KeepBlocks, begin_with_mark, left_from}
use Rattle.robots_rules.specs.Search.{IsSameWithout, IsSettled, Reasons, SettledValue, is_found, names_of}
use Rattle.robots_rules.specs.Needless.{AreDeletable, MeanTheSame, lines_without, numbers_of}
use Rattle.robots_rules.proofs.BlockLemmas.{among, left_are}
use Rattle.robots_rules.proofs.LeftLemmas.{map_left}
use Rattle.robots_rules.proofs.TogetherLemmas.{in_named, named_in, of_map}

-- `*` and the names that the file has are among the names, if `*` is
pub among_names : (star : List ℕ) (agents : List (List ℕ)) → Contains agents star
    → (agent : List ℕ) → Contains (star ∷ agents) agent → Contains agents agent
among_names star agents has agent listed = grind arith

pub among_pushed : (star : List ℕ) (agents : List (List ℕ)) (agent : List ℕ) → Contains (star ∷ agents) agent
    → Contains (agents ++ star ∷ []) agent
among_pushed star agents agent (zero, below, same) =
    subst (Contains (agents ++ star ∷ [])) same (Contains-push agents star)
among_pushed star agents agent (suc k, below, at) =
    grind (arith, Contains-append_left)

numbers_are : (entries : List (ℕ × Reason))
    → numbers_of (map rule_at entries) ≡ map (λ (e : ℕ × Reason). e.0) entries
numbers_are [] = refl
numbers_are (e ∷ entries) = ap (λ ns. e.0 ∷ ns) (numbers_are entries)

module _ (found : Reasons) (list : List NeedlessRule) (are : list ≡ map rule_at found.entries) where
  is_key : (n : ℕ) → list_any (λ number. number == n) (numbers_of list) ≡ is_found found n
  is_key n =
      let same : numbers_of list ≡ keys found = rw are (numbers_are found.entries) in
      same_from_decides _ _ (in_named n (numbers_of list), named_in n (numbers_of list))
      (subst (λ ns. Decides (is_found found n) (Contains ns n)) (sym same)
      (btree_map_contains_key_iff nat_cmp_total exact_unsigned found n))

  are_keys : ◌≡◌ {A = ℕ → Bool} (among (numbers_of list)) (is_found found)
  are_keys = grind (arith, is_key)

  pub lines_left : {A : Type 0} (lines : List A)
      → lines_without (numbers_of list) lines ≡ left_from (is_found found) 0 lines
  lines_left lines =
      left_are (numbers_of list) 0 lines ∙ ap (λ (gone : ℕ → Bool). left_from gone 0 lines) are_keys

  module _ (file : List ℕ) (settled : List SettledValue) (is : IsSameWithout found settled file) where
    left_lines : file_lines is.left ≡ lines_without (numbers_of list) (file_lines file)
    left_lines =
        ap (map line_of) is.others ∙ map_left line_of (is_found found) 0 (file_bodies file)
        ∙ sym (lines_left (file_lines file))

    agent_alike : ((agent : List ℕ) → Contains (codes "*" ∷ agents_in (file_lines file)) agent
        → Contains (names_of settled) agent) → (agent : List ℕ)
        → Contains (codes "*" ∷ agents_in (file_lines file)) agent
        → MeanTheSame agent (file_lines file) (lines_without (numbers_of list) (file_lines file))
    agent_alike named agent has =
        let (one, listed, same) =
        of_map (λ (settled : SettledValue). settled.agent) settled agent (named agent has) in
        subst₂ (λ name others. MeanTheSame name (file_lines file) others) same left_lines
        (All-contains (λ (one : SettledValue). MeanTheSame one.agent (file_lines file) (file_lines is.left))
        settled one is.alike listed)

    pub are_deletable : ((agent : List ℕ) → Contains (codes "*" ∷ agents_in (file_lines file)) agent
        → Contains (names_of settled) agent) → AreDeletable (numbers_of list) (file_lines file)
    are_deletable named = record {
      alike = agent_alike named;
      sitemaps = ap sitemaps_in (sym left_lines) ∙ sym is.sitemaps;
    }

    pub are_found_in : ((agent : List ℕ) → Contains (codes "*" ∷ agents_in (file_lines file)) agent
        → Contains (names_of settled) agent) → KeepBlocks (is_found found) (file_lines file)
        → begin_with_mark (left_from (is_found found) 0 (file_bodies file)) ≡ false → AreFoundIn file list
    are_found_in named blocks front = record {
      deletable = λ some. record {
        lines = are_deletable named;
        blocks = subst (λ (gone : ℕ → Bool). KeepBlocks gone (file_lines file)) (sym are_keys) blocks;
        front = ap begin_with_mark (lines_left (file_bodies file)) ∙ front;
      };
    }

pub means_the_same : (lines left : List LineValue) (settled : SettledValue) (agent : List ℕ)
    (rules others : List PlacedRule)
    → ◌≡◌ {A = SettledValue} (record { agent = agent; rules = rules }) settled → IsSettled lines settled
    → ¬ IsRejected agent left → delay_for agent left ≡ delay_for agent lines
    → others ≡ placed_rules agent left → unplaced rules ≡ unplaced others
    → MeanTheSame settled.agent lines left
means_the_same lines left settled agent rules others is settled_so accepted delay are same =
    subst (λ (s : SettledValue). IsSettled lines s → MeanTheSame s.agent lines left) is (λ so. record {
      accepted = so.accepted;
      left_accepted = accepted;
      delay = delay;
      verdicts = subst (HaveSameVerdicts [] (rules_for agent lines)) (same ∙ ap unplaced are) so.same;
    }) settled_so

pub same_without : (found : Reasons) (settled : List SettledValue) (file left other : List ℕ) (count : ℕ)
    → count ≡ length left → other ≡ take count left
    → file_bodies left ≡ left_from (is_found found) 0 (file_bodies file)
    → sitemaps_in (file_lines file) ≡ sitemaps_in (file_lines other)
    → All (λ (one : SettledValue). MeanTheSame one.agent (file_lines file) (file_lines other)) settled
    → IsSameWithout found settled file
same_without found settled file left other count counted read others sitemaps alike =
    let whole : other ≡ left = read ∙ take_all count left (omega (arith, counted)) in
    record {
      left = left;
      others = others;
      alike = subst (λ text. All (λ (one : SettledValue). MeanTheSame one.agent (file_lines file)
          (file_lines text)) settled) whole alike;
      sitemaps = sitemaps ∙ ap (λ text. sitemaps_in (file_lines text)) whole;
    }

-- without no numbers, all lines are left
pub all_lines : {A : Type 0} (position : ℕ) (lines : List A)
    → map (λ (p : ℕ × A). p.1) (filter (λ (p : ℕ × A). true) (enumerate_from position lines)) ≡ lines
all_lines position [] = refl
all_lines position (line ∷ lines) = ap (λ ls. line ∷ ls) (all_lines (position + 1) lines)

pub nothing_found : (text : List ℕ) (list : List NeedlessRule) → list ≡ [] → AreFoundIn text list
nothing_found text list none = record { deletable = λ some. absurd (some none) }
