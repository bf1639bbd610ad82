use Rattle.std.proofs.Common.{◌≡◌, ℕ, List, map, subst}
use Rattle.texting_robots.specs.Executable.{file_lines}
use Rattle.texting_robots.specs.Internal.Site.{delay_of, rule_of, tag_at, tagged}
use Rattle.texting_robots.proofs.SiteLemmas.{delays_of_own, rules_of_own}
use Rattle.texting_robots.proofs.SiteOwnLemmas.{delays_of_all, given_whole, rules_of_all}
use Rattle.texting_robots.proofs.site.Site.own_lines.Goals as goal

pub returns : goal.returns
returns c =
    let agent = c.args.agent.now in
    let lines = file_lines c.args.self.now in
    let named_is = rw c.self.view_is at c.self.invariant.names_are in
    let kept = rw (← c.deref-2.ensures.value, c.self.view_is) at c.self.invariant.groups_are in
    let tagged_is = subst (λ (text : List ℕ). map (tag_at text) c.deref-2.result.now ≡ tagged lines)
    (cc) kept in
    record {
      rules = given_whole rule_of _ _ _ _ _ lines named_is tagged_is c.new.ensures (rules_of_all agent lines)
          (λ some. rw c.group_name.ensures (rules_of_own agent lines some));
      delays = given_whole delay_of _ _ _ _ _ lines named_is tagged_is c.new.ensures
          (delays_of_all agent lines) (λ some. rw c.group_name.ensures (delays_of_own agent lines some));
    }
