-- What a response to a request for a robots.txt file means, as a number.
use Rattle.std.specs.Prelude.{◌≡◌, ℕ, Bool, ℤ, pos, Some}
use Rattle.robots_responses.specs.{Responses.IsMeaningOf, declared.response.Meaning.Meaning}
use Rattle.robots_responses.specs.declared.response.Meaning.TheVariants.{Parse, Follow, AllowAll, DenyAll}

abbrev pub number_of : Meaning → ℤ
number_of Parse = pos 0
number_of Follow = pos 1
number_of AllowAll = pos 2
number_of DenyAll = pos 3

-- the number is that of the meaning of a response with these properties
abbrev pub SaysMeaning : (status redirects : ℕ) (has_location is_complete : Bool) → ℤ → Type 0
SaysMeaning status redirects has_location is_complete number =
    (meaning : Meaning) × (number ≡ number_of meaning) × IsMeaningOf (record {
      status = Some status;
      redirects = redirects;
      has_location = has_location;
      is_complete = is_complete;
    }) meaning
