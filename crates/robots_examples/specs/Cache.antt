-- The content of a cache, and its errors.
use Rattle.std.specs.Prelude.{◌≡◌, ◌⊎◌, ◌||◌, Bool, false, Err, IsOk, List, ℕ, if◌then◌else◌, length, nat_lt}
use Rattle.std.specs.Prelude.{remove, take}
use Rattle.url.specs.{Parser.IsOutOfRoom, declared.error.ParseError.ParseError}
use Rattle.texting_robots.specs.Callers.{IsFileRejected, IsMemoryErrorOr, file_limit, robots_address}
use Rattle.robots_examples.specs.declared.cache.CacheError.{CacheError}
use Rattle.robots_examples.specs.declared.cache.CacheError.TheVariants.{Url, File, Memory}

abbrev pub most_robots : ℕ
most_robots = 64

-- the URL has no robots.txt address, or an allocation failed, or `Overflow`
abbrev pub IsNoAddressOrMemory : List ℕ → ParseError → Type 0
IsNoAddressOrMemory url error = (robots_address url ≡ Err error) ⊎ IsOutOfRoom error

-- the URL has no robots.txt address, the file is rejected for the crawler, or an allocation failed
abbrev pub IsCacheError : List ℕ → List ℕ → List ℕ → CacheError → Type 0
IsCacheError agent url file (Url error) = IsNoAddressOrMemory url error
IsCacheError agent url file (File error) =
    IsOk (robots_address url) × IsMemoryErrorOr (IsFileRejected agent (take file_limit file)) error
IsCacheError agent url file Memory = IsOk (robots_address url)
    × (¬ IsFileRejected agent (take file_limit file))

-- without the first entry if there are `most_robots` and none has the address
abbrev pub with_room : {E : Type 0} → Bool → List E → List E
with_room is_known entries =
    if nat_lt (length entries) most_robots || is_known then entries else remove entries 0

-- unchanged, but without the first entry if the cache was full and an allocation failed
abbrev pub left_after : {E : Type 0} → CacheError → List E → List E
left_after (Url error) entries = entries
left_after (File error) entries = entries
left_after Memory entries = with_room false entries
