-- What files decide that have the same rules for every crawler.
use Rattle.std.proofs.Common.{◌≡◌, ◌≢◌, ℕ, Bool, true, false, List, [], ◌∷◌, ap, arith, bytes_eq, codes, inl}
use Rattle.std.proofs.Common.{Contains, inr, length, refl, subst, suc, sym, take, zero, ◌<◌}
use Rattle.std.specs.{List.Any, Str.chars, Str.is_utf8, Str.str_to_ascii_lowercase}
use Rattle.std.proofs.lemmas.{Bool.Decides.not_from_Decides, Bool.cases_Bool, Bool.false≢true}
use Rattle.std.proofs.lemmas.Slice.{Eq.bytes_eq-Decides}
use Rattle.bstr.specs.{Trim.kept_end, Trim.kept_start, Utf8.pieces_from, Utf8.spans_from}
use Rattle.texting_robots.specs.{Callers.IsOverlong, Pattern.MatchesWith}
use Rattle.texting_robots.specs.Callers.{IsVerdict, Matches, PlacedRule, Rule, Disallow, UserAgent, unplaced}
use Rattle.texting_robots.specs.Callers.{file_limit, group_name, lines_read, placed_rules, robots_file}
use Rattle.texting_robots.specs.Internal.{Cut.cut, Delay.delay_of, Line.line_of, Statement.statement_of}
use Rattle.texting_robots.proofs.Shared.{any_overlong_decides, rejection_is_computed, answer_as_placed}
use Rattle.texting_robots.proofs.Shared.{read_rejected, read_robot}
use Rattle.robots_responses.specs.{Responses.DecidesAll}
use lib.Utf8.{encode}

-- a file decides as its rules do if every crawler has the same
decides : (answer : Bool) (file : List ℕ) (rules : List PlacedRule)
    → ((agent : List ℕ) → placed_rules agent (lines_read file) ≡ rules)
    → ¬ Any (λ (rule : Rule). IsOverlong rule.0) (unplaced rules)
    → ((text : List ℕ) → text ≢ robots_file → IsVerdict (unplaced rules) text answer)
    → DecidesAll answer (take file_limit file)
decides answer file rules are fit verdict = record {
  accepted = λ agent rejected. fit (subst (λ rules. Any (λ (rule : Rule). IsOverlong rule.0) (unplaced rules))
      (are agent) ((rejection_is_computed agent (lines_read file)).0 (read_rejected agent file rejected)));
  verdict = λ agent text robot is differs.
      let own = (read_robot agent file robot is).rules in
      ((answer_as_placed agent (lines_read file) robot.rules own).verdicts text answer).1
      (rw (are agent) (verdict text differs));
}

pub allows_all : (site : List ℕ) → site ≡ [] → DecidesAll true site
unfolding cut
allows_all site is =
    rw is (decides true [] [] (λ agent. refl) (not_from_Decides _ (any_overlong_decides []) refl)
    (λ text differs (apart, pattern, (k, below, at), matches, longest). absurd (omega arith)))

abbrev closed : List ℕ
closed = codes "User-agent: *\nDisallow: *\n"

all_named : (agent : List ℕ)
    → group_name agent (UserAgent (codes "*") ∷ Disallow (codes "*") ∷ []) ≡ codes "*"
all_named agent = elim (cases_Bool (bytes_eq (codes "*") (str_to_ascii_lowercase agent))) [
  | inl is ↦ rw is (sym ((bytes_eq-Decides _ _).0 is))
  | inr isnt ↦ rw isnt refl
]

abbrev rule : PlacedRule
rule = record { rule = (codes "*", false); line = 2 }

denied : (agent : List ℕ) → placed_rules agent (lines_read closed) ≡ rule ∷ []
unfolding cut line_of statement_of delay_of kept_end kept_start spans_from pieces_from is_utf8 chars encode
denied agent = rw (all_named agent) refl

pub denies_all : (site : List ℕ) → site ≡ closed → DecidesAll false site
unfolding MatchesWith
denies_all site is =
    rw is (decides false closed (rule ∷ []) denied
    (not_from_Decides _ (any_overlong_decides (unplaced (rule ∷ []))) refl)
    (λ text differs. (differs, codes "*", (0, omega arith, refl), (text, ([], refl), tt), none text)))
  where
    none : (text pattern : List ℕ) → Contains (unplaced (rule ∷ [])) (pattern, true) → Matches pattern text
        → length pattern < 1
    none text pattern (zero, below, at) matches = absurd (false≢true (ap (λ (rule : Rule). rule.1) at))
    none text pattern (suc k, below, at) matches = absurd (omega arith)
