-- Exports the lemmas that other crates use, so that all others can change. Declares nothing.

pub use Rattle.texting_robots.proofs.CutLemmas.{byte_cases, cut_nil, is_cut, cut_unique}
pub use Rattle.texting_robots.proofs.CrLfLemmas.{body_byte, body_return, body_step, bodies_cons}
pub use Rattle.texting_robots.proofs.TrimLemmas.{trim_skips_blanks, each_append, graphic_trimmed, trim_unique}
pub use Rattle.texting_robots.proofs.TrimLemmas.{trim_if_same, trim_drops_blanks, trimmed_is_trim}
pub use Rattle.texting_robots.proofs.TrimLemmas.{white_is_scalar}
pub use Rattle.texting_robots.proofs.StatementLemmas.{NoBlank, statement_sound, skips_nothing}
pub use Rattle.texting_robots.proofs.StatementLemmas.{skip_front, statement_complete}
pub use Rattle.texting_robots.proofs.DelayLemmas.{is_delay_of, delay_computed, rounded_rounds}
pub use Rattle.texting_robots.proofs.LineLemmas.{each_text_has_its_lines, without_bom_suffix, without_bom_map}
pub use Rattle.texting_robots.proofs.LineLemmas.{line_raw, line_stated, line_without_kind}
pub use Rattle.texting_robots.proofs.LineLemmas.{lines_of_file_bodies}
pub use Rattle.texting_robots.proofs.CapturedLemmas.{IsWalkAt, drop_cons, captured_walked, cond_same}
pub use Rattle.texting_robots.proofs.CapturedLemmas.{delays_walked, given_captured, is_captured_decides}
pub use Rattle.texting_robots.proofs.CapturedLemmas.{walk_first, walk_next, named_is_agent, rules_walked}
pub use Rattle.texting_robots.proofs.CapturedLemmas.{some_passes, taken_decides}
pub use Rattle.texting_robots.proofs.RulesLemmas.{before_agent, before_agents, first_or_cons}
pub use Rattle.texting_robots.proofs.RulesLemmas.{option_or_none}
pub use Rattle.texting_robots.proofs.SiteOwnLemmas.{same_group_robot}
pub use Rattle.texting_robots.proofs.SegmentLemmas.{in_front, only_wildcards_match, plain_segment}
pub use Rattle.texting_robots.proofs.VerdictLemmas.{verdict_unique, order_changes_nothing, permuted_verdicts}
pub use Rattle.texting_robots.proofs.MainTheoremLemmas.{answer_as_placed, placed_are_rules}
pub use Rattle.texting_robots.proofs.MainTheoremLemmas.{deciding_line_holds_its_rule, has_lines}
pub use Rattle.texting_robots.proofs.MainTheoremLemmas.{lines_are_read, no_line_allows, not_rejected}
pub use Rattle.texting_robots.proofs.MainTheoremLemmas.{lines_satisfy, rules_permuted, read_rejected}
pub use Rattle.texting_robots.proofs.MainTheoremLemmas.{read_robot, rejection_is_computed, rules_are_computed}
pub use Rattle.texting_robots.proofs.BestLemmas.{Either, allowed_by, rule_answers, deciding_rule}
pub use Rattle.texting_robots.proofs.BestLemmas.{each_text_answered, matches, matches_decides}
pub use Rattle.texting_robots.proofs.BestLemmas.{placed_of}
pub use Rattle.texting_robots.proofs.ExampleLemmas.{any_overlong_decides, matches_sound, not_matching}
pub use Rattle.texting_robots.proofs.{CutFromFront.bodies_nil, CountLemmas.parsed_within}
pub use Rattle.texting_robots.proofs.{LabelLemmas.labels_hold, LaneLemmas.found_or_end}
pub use Rattle.texting_robots.proofs.{TheoremLemmas.raw_changes_nothing}
pub use Rattle.texting_robots.proofs.NormalizedLemmas.{escaped_plain, none_past}
pub use Rattle.texting_robots.proofs.ExecutableLemmas.{delay_is_computed}
pub use Rattle.texting_robots.proofs.{ExecutableLemmas.sitemaps_are_computed}
