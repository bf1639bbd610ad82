-- Rules that pass a computed test (`is_usual`) and have plain paths are comparable, so the computed verdict
-- is the standard's (`agreed`). Then the three examples.
use Rattle.std.proofs.Common.{◌≡◌, ◌≢◌, ◌<◌, ◌∷◌, ◌&&◌, Bool, true, false, inl, inr, List, [], ℕ, codes}
use Rattle.std.proofs.Common.{get_or, length, map, nat_lt, refl, ap, arith, subst}
use Rattle.std.specs.List.{AllByRecursion as Each, AllZip, Contains, list_all}
use Rattle.std.specs.{Char.is_ascii_graphic, Prelude.slice_index}
use Rattle.std.proofs.lemmas.Bool.{and_parts, eqb-false, ltb-true}
use Rattle.texting_robots.specs.Rules.{PlacedRule, unplaced}
use Rattle.texting_robots.specs.{Escape.escaped, Trim.IsTrimOf, Verdict.IsVerdict}
use Rattle.texting_robots.proofs.Shared.{allowed_by, rule_answers, deciding_rule, graphic_trimmed}
use Rattle.texting_robots.proofs.Shared.{trimmed_is_trim}
use Rattle.rfc9309.specs.Comparable.{AreComparable, IsPathOf, IsPlainPath}
use Rattle.rfc9309.specs.Matching.{IsRfcVerdict, Reading, all_stay, as_in_table, filled, has_dollar, is_ended}
use Rattle.rfc9309.specs.Matching.{normal_from, normal_path, normal_uri, octets, without_end}
use Rattle.rfc9309.specs.{Examples.mixed_rules, Examples.page_rules, StandardRobot.IsReadAs}
use Rattle.rfc9309.proofs.VerdictLemmas.{each_contains, verdicts_agree}
use Rattle.rfc9309.proofs.{SyntaxLemmas.each_if_all, ValueLemmas.visible_trim}
use Rattle.rfc9309.specs.Rfc9309 as rfc
use Rattle.rfc9309.proofs.verdict.examples_of_verdicts.Goals as goal

abbrev is_trimmed : List ℕ → Bool
is_trimmed [] = true
is_trimmed (b ∷ path) = is_ascii_graphic b && is_ascii_graphic (get_or (b ∷ path) (length path) 0)

-- trimmed, and each Disallow but an empty one has more than one octet
abbrev is_usual : Reading → rfc.Member → Bool
is_usual stays (rfc.Allow path) = is_trimmed path
is_usual stays (rfc.Disallow []) = true
is_usual stays (rfc.Disallow (b ∷ path)) = is_trimmed (b ∷ path) && nat_lt 1 (octets stays (b ∷ path))
is_usual stays (rfc.Delay number) = false

trimmed : (path : List ℕ) → is_trimmed path ≡ true → IsTrimOf path path
trimmed [] is = visible_trim [] tt
trimmed (b ∷ path) is =
    let (first, last) = and_parts _ _ is in
    subst (λ v. IsTrimOf v (b ∷ path)) (graphic_trimmed b path first last) (trimmed_is_trim _)

abbrev read : rfc.Member → PlacedRule
read (rfc.Allow path) = record { rule = (escaped path, true); line = 0 }
read (rfc.Disallow (b ∷ path)) = record { rule = (escaped (b ∷ path), false); line = 0 }
read _ = record { rule = (codes "/", true); line = 0 }

abbrev IsPlain : Reading → rfc.Member → Type 0
IsPlain stays (rfc.Allow path) = IsPlainPath stays path
IsPlain stays (rfc.Disallow path) = IsPlainPath stays path
IsPlain stays (rfc.Delay number) = Unit {0}

module _ (stays : Reading) (members : List rfc.Member) (uri : List ℕ)
    (usual : list_all (is_usual stays) members ≡ true) where
  are_usual : (member : rfc.Member) → Contains members member → is_usual stays member ≡ true
  are_usual member =
      each_contains (λ member. is_usual stays member ≡ true) members member
      (each_if_all (λ member. is_usual stays member ≡ true) (is_usual stays) (λ member is. is) members usual)

  are_trimmed : (path : List ℕ) → IsPathOf members path → IsTrimOf path path
  are_trimmed path (inl has) = trimmed path (are_usual _ has)
  are_trimmed [] (inr has) = visible_trim [] tt
  are_trimmed (b ∷ path) (inr has) = trimmed _ (and_parts _ _ (are_usual _ has)).0

  are_long : (path : List ℕ) → Contains members (rfc.Disallow path) → path ≢ [] → 1 < octets stays path
  are_long [] has some = absurd (some refl)
  are_long (b ∷ path) has some = ltb-true 1 _ (and_parts _ _ (are_usual _ has)).1

  are_plain : (path : List ℕ) → Each (IsPlain stays) members → IsPathOf members path → IsPlainPath stays path
  are_plain path all (inl has) = each_contains (IsPlain stays) members (rfc.Allow path) all has
  are_plain path all (inr has) = each_contains (IsPlain stays) members (rfc.Disallow path) all has

  agreed : (answer : Bool) → normal_uri stays uri ≡ uri
      → normal_uri stays (codes "/robots.txt") ≡ codes "/robots.txt" → Each (IsPlain stays) members
      → allowed_by (deciding_rule (map read members) uri) ≡ answer
      → AreComparable stays (octets stays) members uri
      × IsRfcVerdict stays (octets stays) members uri answer
  agreed answer normal robots all is =
      let are : AreComparable stays _ members uri = record {
        normal = normal;
        robots = robots;
        trimmed = are_trimmed;
        plain = λ path listed. are_plain path all listed;
        counted = λ path listed. refl;
        empty = λ has. are_long;
      } in
      let rules = unplaced _ in (
        are,
        (verdicts_agree stays _ members rules uri (are_read members usual) are answer).0
            (subst (IsVerdict rules uri) is (rule_answers (map read members) uri).0),
      )
    where
      are_read : (members : List rfc.Member) → list_all (is_usual stays) members ≡ true
          → AllZip IsReadAs members (unplaced (map read members))
      are_read [] all = tt
      are_read (member ∷ members) all =
          let (is, rest) = and_parts _ _ all in (one member is, are_read members rest)
        where
          one : (member : rfc.Member) → is_usual stays member ≡ true → IsReadAs member (read member).rule
          one (rfc.Allow path) is = (path, trimmed path is, refl)
          one (rfc.Disallow []) is = refl
          one (rfc.Disallow (b ∷ path)) is = (b ∷ path, trimmed (b ∷ path) (and_parts _ _ is).0, refl)
          one (rfc.Delay number) is = cc

plain : (stays : Reading) (path : List ℕ) → normal_path stays path ≡ escaped (without_end path)
    → has_dollar (without_end path) ≡ false → IsPlainPath stays path
plain stays path normal dollar = grind arith

mixed_plain : Each (IsPlain all_stay) mixed_rules
unfolding normal_from without_end is_ended
mixed_plain = grind (arith, plain)

pub returns : goal.returns
unfolding normal_from without_end is_ended filled
returns c = record {
  longest =
      agreed _ page_rules _ refl false refl refl
      (plain as_in_table _ refl refl, (plain _ _ refl refl, tt)) refl;
  mixed = (
    agreed all_stay mixed_rules _ refl false refl refl mixed_plain refl,
    agreed _ _ _ refl true refl refl mixed_plain refl,
  );
  empty_disallow = (
    record {
      other = λ e. eqb-false 120 114 refl (ap (λ (l : List ℕ). slice_index l 1) e);
      path = codes "/";
      listed = (1, omega arith, refl);
      some = λ e. cc;
      is_match = record { strings = []; rest = codes "x"; whole = refl; end = λ e. cc };
      most = λ allowed has. absurd (each_contains (λ member. member ≢ rfc.Allow allowed) rules
          _ ((λ e. cc), ((λ e. cc), tt)) has refl);
    },
    (rule_answers (map read rules) (codes "/x")).0,
  );
}
  where
    rules : List rfc.Member
    rules = rfc.Disallow [] ∷ rfc.Disallow (codes "/") ∷ []
