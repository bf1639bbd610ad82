use Rattle.std.{proofs.Common.arith, specs.Fmt.digits}
use Rattle.percent_encoding.specs.AsciiSet.{should_percent_encode}
use Rattle.percent_encoding.specs.Percent.{percent_decode, percent_encode}
use Rattle.url.specs.{Host.ascii_domain, Host.parse_special_host, Ipv4.ends_in_a_number, Ipv4.parse_number}
use Rattle.url.specs.Input.{rsplit_once, split_once, strip_tabs_and_new_lines, trim_c0_control_and_space}
use Rattle.url.specs.Parser.{after_double_slash, host_len, leading_slashes, parse_authority, parse_body}
use Rattle.url.specs.Parser.{parse_non_special, parse_parts, parse_port, parse_url, split_scheme}
use Rattle.url.specs.Path.{dot_count, parse_path_start, parse_segments, push_segment}
use Rattle.url.specs.Scheme.{default_port, scheme_len, scheme_type}
use Rattle.texting_robots.proofs.laws.examples_of_urls.Goals as goal

pub returns : goal.returns
unfolding parse_url trim_c0_control_and_space strip_tabs_and_new_lines split_once split_scheme scheme_len
    parse_parts parse_body scheme_type default_port after_double_slash parse_authority rsplit_once host_len
    parse_special_host percent_decode ascii_domain ends_in_a_number parse_number parse_port leading_slashes
    parse_path_start parse_segments push_segment dot_count percent_encode should_percent_encode
    parse_non_special digits
returns c = grind arith
