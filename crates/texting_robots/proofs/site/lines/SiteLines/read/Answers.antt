use Rattle.std.proofs.Common.{◌≡◌, ◌+◌, ◌-◌, ◌++◌, [], ◌∷◌, ℕ, List, append_assoc, append-nil, ap, arith, map}
use Rattle.std.proofs.Common.{cond, drop, length, length-drop, None, refl, sym, take, true, ◌∙◌}
use Rattle.std.proofs.{lemmas.Bool.Decides.nat_tests, Math.Seq.drop-append_seam, Math.Seq.take-append_seam}
use Rattle.std.proofs.lemmas.List.{length-append, nil_from_length, take-append-drop}
use Rattle.std.specs.List.{filter_map, last_or, list_any}
use Rattle.texting_robots.specs.{Executable.file_lines, Group.is_agent, Line.LineValue, Line.delay_in}
use Rattle.texting_robots.specs.Internal.{Cut.empty_lines, Cut.read_as, Line.line_of, Line.lines_of}
use Rattle.texting_robots.specs.Internal.Site.{count_after, early_after, joins_after, line_at, group_after}
use Rattle.texting_robots.proofs.EmptyLemmas.{agents_past, delay_past, named_past, sitemaps_past, tagged_past}
use Rattle.texting_robots.proofs.{CutFromFront.bodies_nil, LineLemmas.without_bom_map}
use Rattle.texting_robots.proofs.RulesLemmas.{before_agents, append_option}
use Rattle.texting_robots.proofs.SiteLemmas.{agents_more, early_more}
use Rattle.texting_robots.proofs.site.lines.SiteLines.read.Goals as goal

pub loop-rest-init : goal.loop-rest-init
loop-rest-init c =
    let empty = c.new-lines.ensures in
    let text = c.args.text.now in
    let lines = file_lines text in
    let first = c.without_bom-rest.ensures in
    let left : lines_of (read_as true c.without_bom-rest.result.now) ≡ lines =
    ap (λ t. lines_of (read_as true t)) first.value ∙ ap lines_of (without_bom_map text) in
    let last = λ (front : List LineValue). cond (list_any is_agent lines)
    (last_or None (filter_map delay_in front)) None in
    let (front, end) = first.end in
    rw (left, empty.lines, empty.names, empty.sitemaps, empty.early, empty.begun, empty.group, empty.joins)
    (record {
      end = (front, end);
      count = omega (arith, ap length end, length-append front c.without_bom-rest.result.now);
      lines_are = refl;
      names_are = refl;
      sitemaps_are = refl;
      agents = refl;
      early = ap last (sym (before_agents lines));
    })

body_at : (text front rest body more : List ℕ) → text ≡ front ++ rest → rest ≡ body ++ more
    → take (length body) (drop (length text - length rest) text) ≡ body
body_at text front rest body more is parts =
    let start : length text - length rest ≡ length front = omega
    (arith, ap length is, length-append front rest) in
    ap (λ k. take (length body) (drop k text)) start
    ∙ ap (λ t. take (length body) (drop (length front) t)) is
    ∙ ap (take (length body)) (drop-append_seam front rest)
    ∙ ap (take (length body)) parts ∙ take-append_seam body more

pub loop-rest-preserved : goal.loop-rest-preserved
loop-rest-preserved c =
    let so_far = c.loop-rest.invariant in
    let text = c.args.text.now in
    let rest = c.loop-rest.rest.now in
    let body = c.split_line.result.0.now in
    let after = c.split_line.result.1.now in
    let (front, is) = so_far.end in
    let (ending, parts) = c.split_line.ensures.parts in
    let next : lines_of (read_as true rest) ≡ line_of body ∷ lines_of (read_as true after) =
    ap (map line_of) c.split_line.ensures.lines in
    let here : line_at text (record { start = length text - length rest; len = length body })
    ≡ line_of body = ap line_of (body_at text front rest body (ending ++ after) is parts) in
    let added = rw here at c.in_ok-add.ensures in
    let begun = c.loop-rest.lines.begun in
    let early = c.loop-rest.lines.early in
    let number = c.loop-rest.number + 1 in
    let group = group_after c.loop-rest.lines.group c.loop-rest.lines.joins number (line_of body) in
    let joins = joins_after c.loop-rest.lines.joins (line_of body) in
    let count = count_after (length c.loop-rest.lines.member_lines.items) (line_of body) in
    let empty = c.empty_lines-empty.ensures in
    let k = empty_lines true after in
    let above = front ++ (body ++ ending) in
    rw (
      c.split_at.ensures.back,
      empty.value,
      added.group,
      added.joins,
      added.count,
      added.early,
      added.begun,
    ) (record {
      end = (
        above ++ take k after,
        is ∙ ap (λ t. front ++ t) (parts ∙ sym (append_assoc body ending after))
            ∙ sym (append_assoc front (body ++ ending) after)
            ∙ ap (λ t. above ++ t) (sym (take-append-drop k after))
            ∙ sym (append_assoc above (take k after) (drop k after)),
      );
      count = omega (
        arith,
        so_far.count,
        c.split_line.ensures.shorter,
        rw empty.value at empty.within,
        length-drop k after,
      );
      lines_are = rw (← tagged_past true number after group joins)
          (append_option _ _ _ _ added.lines ∙ rw next at so_far.lines_are);
      names_are = rw (← named_past true number after group joins count)
          (append_option _ _ _ _ added.names ∙ rw next at so_far.names_are);
      sitemaps_are = rw (← sitemaps_past true number after)
          (append_option _ _ _ _ added.sitemaps ∙ rw next at so_far.sitemaps_are);
      agents = rw (← agents_past true number after)
          (agents_more begun (line_of body) (lines_of (read_as true after)) ∙ rw next at so_far.agents);
      early = rw (← delay_past true number after (early_after begun early (line_of body)))
          (early_more begun early (line_of body) (lines_of (read_as true after)) ∙ rw next at so_far.early);
    })

none_left : (rest : List ℕ) → length rest ≡ 0 → lines_of (read_as true rest) ≡ []
none_left rest none =
    ap (λ t. lines_of (read_as true t)) (nil_from_length rest none) ∙ ap (map line_of) bodies_nil

pub returns : goal.returns
returns c =
    let none : length c.loop-rest.rest.now ≡ 0 =
    grind (arith, nat_tests, c.is_empty.ensures, c.loop-rest-test.false) in
    let at_end = rw (none_left c.loop-rest.rest.now none) at c.loop-rest.invariant in
    record {
      lines = rw c.finished.ensures.lines (sym (append-nil _) ∙ at_end.lines_are);
      names = rw c.finished.ensures.names (sym (append-nil _) ∙ at_end.names_are);
      sitemaps = rw c.finished.ensures.sitemaps (sym (append-nil _) ∙ at_end.sitemaps_are);
      early = c.finished.ensures.early ∙ at_end.early;
    }
