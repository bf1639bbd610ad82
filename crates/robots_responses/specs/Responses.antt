-- What the response to a request for a robots.txt file means. Numbers of sections are those of RFC 9309.
use Rattle.std.specs.Prelude.{◌≡◌, ◌≢◌, ◌⊎◌, ℕ, ◌<◌, ◌≤◌, Bool, true, IsSomeAnd, List}
use Rattle.texting_robots.specs.Callers.{IsFileRejected, IsRobotOfFile, IsVerdict, RobotValue, robots_file}
use Rattle.texting_robots.specs.Callers.{unplaced}
use Rattle.robots_responses.specs.declared.response.{Meaning.Meaning, Response.Response}
use Rattle.robots_responses.specs.declared.response.Meaning.TheVariants.{Parse, Follow, AllowAll, DenyAll}

-- the status is one of those from `least` to `greatest`, but not `other`
abbrev pub HasStatus : (least greatest other : ℕ) → Response → Type 0
HasStatus least greatest other response =
    IsSomeAnd response.status (λ status. (least ≤ status) × (status ≤ greatest) × (status ≢ other))

-- 2.3.1.1: it brings the file, which is empty with 204. 206 brings a part, but no part was asked for. Of a
-- body that breaks off, the rules that are missing can't be followed
abbrev pub IsFile : Response → Type 0
IsFile response = HasStatus 200 299 206 response × (response.is_complete ≡ true)

-- 2.3.1.2: it says where the file is. 304 never does: it says that an earlier file is still the same. So it
-- is unreachable here, which is a reason to keep the earlier file (2.4)
abbrev pub IsRedirect : Response → Type 0
IsRedirect response = HasStatus 300 399 304 response × (response.has_location ≡ true)

-- 2.3.1.3: it says that there is no file. The standard has all from 400 to 499 here, also 401, 403 and 404;
-- with 429 the server can't answer now, so this is unreachable, as it is for Google
abbrev pub IsUnavailable : Response → Type 0
IsUnavailable response = HasStatus 400 499 429 response

-- 2.3.1.2: five redirects in a row are followed, to any host
abbrev pub redirect_limit : ℕ
redirect_limit = 5

-- what the response means. After more redirects the file is unavailable (2.3.1.2), which allows everything
-- (2.3.1.3). All else is unreachable, which denies everything (2.3.1.4): no answer, a server's error, an
-- answer that isn't final (1xx), a redirect to nowhere, a status that isn't one (RFC 9110, 15)
abbrev pub IsMeaningOf : Response → Meaning → Type 0
IsMeaningOf response Parse = IsFile response
IsMeaningOf response Follow = IsRedirect response × (response.redirects < redirect_limit)
IsMeaningOf response AllowAll =
    IsUnavailable response ⊎ (IsRedirect response × (redirect_limit ≤ response.redirects))
IsMeaningOf response DenyAll = (¬ IsFile response) × (¬ IsRedirect response) × ¬ IsUnavailable response

-- the file can be used for every crawler, and has this verdict on every match target but `/robots.txt`,
-- which is always allowed
pub record DecidesAll (answer : Bool) (file : List ℕ) : Type 0 where
  pub accepted : (agent : List ℕ) → ¬ IsFileRejected agent file
  pub verdict : (agent text : List ℕ) (robot : RobotValue) → IsRobotOfFile agent file robot
      → text ≢ robots_file → IsVerdict (unplaced robot.rules) text answer
