use Rattle.std.proofs.Common.{◌≡◌, ◌∙◌, Bool, IfOk, List, subst, sym, ℕ}
use Rattle.texting_robots.specs.Callers.{file_lines, placed_rules}
use Rattle.robots_warnings.specs.Closed.{first_closing}
use Rattle.robots_warnings.proofs.closed.line_closing_site.Goals as goal

pub returns : goal.returns
returns c =
    let rules = placed_rules c.args.agent.now (file_lines c.args.site.now) in
    rw (sym c.in_ok-is_elsewhere.ensures ∙ c.if-branch.false) (subst (λ (exempt : List ℕ → Bool).
    IfOk c.first_closing.result (λ line. line ≡ first_closing exempt rules)) c.requires
    (rw (c.deref.ensures.value, c.in_ok-rules.ensures) at c.first_closing.ensures))
