-- The address of the robots.txt file for a URL.
use Rattle.std.specs.Prelude.{ℕ, List, ◌++◌, ◌||◌, Bool, Option, Some, None, Ok, Err, codes, bytes_eq}
use Rattle.std.specs.Prelude.{decimal, option_map, if◌then◌else◌}
use Rattle.url.specs.declared.error.ParseError.TheVariants.{EmptyHost, SetHostOnCannotBeABaseUrl}
use Rattle.url.specs.Parts.{Parts, cannot_be_a_base, nonempty_host}
use Rattle.url.specs.{Host.host_text, declared.host.Host.Host}
use Rattle.url.specs.Parser.{Parsed, parse_url, and_then}
use Rattle.texting_robots.specs.{Prepared.with_delimiter}

abbrev pub is_web : List ℕ → Bool
is_web scheme = bytes_eq scheme (codes "http") || bytes_eq scheme (codes "https")

-- the address for this host, with `:` and the port unless that is the default one
abbrev pub address_at : Parts → Option (Host (List ℕ)) → Parsed (List ℕ)
address_at url None = Err EmptyHost
address_at url (Some host) =
    Ok (url.scheme ++ codes "://" ++ host_text host ++ with_delimiter (codes ":")
    (option_map decimal url.port)
    ++ codes "/robots.txt")

abbrev pub robots_address_of : Parts → Parsed (List ℕ)
robots_address_of url =
    if cannot_be_a_base url then Err SetHostOnCannotBeABaseUrl
    else (if is_web url.scheme then address_at url (nonempty_host url) else Err EmptyHost)

-- the address for a string, parsed as `url` specifies
abbrev pub robots_address : List ℕ → Parsed (List ℕ)
robots_address text = and_then (parse_url None text) robots_address_of
