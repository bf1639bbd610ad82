use Rattle.std.proofs.Common.{ℕ, List, length, slice_range, string_bytes, ap}
use Rattle.std.proofs.Common.{subst, ◌∙◌, arith, length-append, rules}
use Rattle.texting_robots.specs.Internal.Segments.{ArePrefilter, AreSegments}
use Rattle.texting_robots.specs.{Escape.escaped}
use Rattle.texting_robots.proofs.PlainLemmas.{known_wildcard}
use Rattle.texting_robots.proofs.SearchLemmas.{after_old, entries_pushed, entry_new, rules_pushed}
use Rattle.texting_robots.proofs.rules.RuleTable.push.Goals as goal

pub new-requires : goal.new-requires
new-requires c = grind (arith, after_old, c.in_ok-ends.ensures)

pub push_segments-requires : goal.push_segments-requires
push_segments-requires c =
    let reserved = c.in_ok-reserve_few.ensures in
    let text = rw reserved.text at c.in_ok-push_escaped.ensures in
    let old_text = string_bytes c.args.self.now.text in
    let more = escaped c.args.value.now in
    let put = ap length text ∙ length-append old_text more in
    let before = ap length reserved.text in
    let same = ap (λ (t : List ℕ). slice_range t c.len-first_byte.result (length t))
    (c.as_bytes.ensures.value ∙ text)
    ∙ after_old old_text more c.len-first_byte.result (omega arith) in
    known_wildcard c.args.value.now _ c.args.first same c.requires.plain

pub returns : goal.returns
returns c =
    let reserved = c.in_ok-reserve_few.ensures in
    let text = rw reserved.text at c.in_ok-push_escaped.ensures in
    let added = rw (reserved.segments, reserved.borders) at c.in_ok-ends.ensures in
    let old = c.args.self.now in
    let old_text = string_bytes old.text in
    let more = escaped c.args.value.now in
    let put = ap length text ∙ length-append old_text more in
    let size = ap length text in
    let before = ap length reserved.text in
    let same = ap (λ (t : List ℕ). slice_range t c.len-first_byte.result (length t))
    (c.as_bytes.ensures.value ∙ text)
    ∙ after_old old_text more c.len-first_byte.result (omega arith) in
    let cut = subst (λ p. AreSegments p c.in_ok-ends.ends added.segments c.push_segments.new.borders.items)
    same added.are_segments in
    let needed = subst (λ (p : List ℕ). ArePrefilter p c.of-prefilter.result)
    (c.new.ensures ∙ same) c.of-prefilter.ensures in
    let segments = ap length added.put_segments in
    let kept = ap length reserved.segments in
    let as_many = ap length reserved.entries in
    let pushed = c.push_reserved.ensures in
    let room = c.reserve.ensures in
    record {
      known = record {
        known = rw (pushed.items, room.items, reserved.entries, text, added.put_segments, added.put_tables)
            (entries_pushed old_text more old.segments.items added.segments old.borders.items added.tables
            old.entries.items _ c.requires.entries.known
            (rw (← added.put_tables) (entry_new old_text more old.segments.items added.segments _ _ (record {
              pattern_span = rw c.in_ok-between.ensures (record { start = omega arith; end = omega arith });
              searched_span = rw c.in_ok-between-2.ensures
                  (record { start = omega arith; end = omega arith });
              is_cut = cut;
              needed = needed;
            }))));
        masks = omega
            (arith, c.requires.entries.masks, pushed.len, room.len, as_many, ap length reserved.masks);
      };
      added = rw (pushed.items, room.items, reserved.entries, text, ← c.in_ok-narrow.ensures)
          (rules_pushed old_text more old.segments.items old.borders.items old.entries.items _
          c.requires.entries.known
          (rw c.in_ok-between.ensures (record { start = omega arith; end = omega arith })));
      accepted = search rules;
      rejected = search rules;
    }
