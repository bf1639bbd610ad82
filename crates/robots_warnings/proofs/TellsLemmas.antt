-- How lists of warnings grow, and that what they say is so.
use Rattle.std.specs.Prelude.{Any, Contains, IsTrue, is_some}
use Rattle.std.proofs.Common.{[], ◌≡◌, ◌∙◌, ℕ, All, Bool, false, true, List, ◌∷◌, ◌++◌, Option, None, Some}
use Rattle.std.proofs.Common.{ap, arith, flat_map, if◌then◌else◌, map, refl, sym}
use Rattle.std.proofs.lemmas.List.Elements.{All-append, All-cons, All-contains_itself, All-map, All-nil}
use Rattle.std.proofs.lemmas.List.Elements.{Contains-append_left, Contains-append_right}
use Rattle.std.proofs.lemmas.Map.{Lookups.exact_unsigned, Views.btree_map_get_iff}
use Rattle.std.proofs.lemmas.{Bool.false≢true, List.get_or-map, List.length-map}
use Rattle.std.specs.{BTreeMap.BTreeMap, BTreeMap.IsOrdered, BTreeMap.get, Cmp.nat_cmp_total}
use Rattle.std.specs.{Borrow.Bor, Ordering.nat_cmp}
use Rattle.texting_robots.specs.Callers.{Label, file_lines, label_by_value}
use Rattle.robots_warnings.specs.declared.table.Cause.{Cause, TheVariants.UrlNotNormal}
use Rattle.robots_warnings.specs.{declared.read.FileRead.FileRead, File.lines_of, Means.Means, Means.is_style}
use Rattle.robots_warnings.specs.{Conflicts.is_empty_at, declared.known.Known.Known, Message.WarningValue}
use Rattle.robots_warnings.specs.{Read.IsRead, Targets.has_odd_target}
use Rattle.robots_warnings.specs.Internal.{Adds, Tells.Tells, Tells.overruling_at}
use Rattle.robots_warnings.specs.Warnings.{HasClosed, HasEach, HasOverruling, IsAbout, url_warnings}

contains_map : {X Y : Type 0} (f : X → Y) (xs : List X) (x : X) → Contains xs x → Contains (map f xs) (f x)
contains_map f xs x (k, below, at) =
    (k, omega (arith, length-map xs f, below), get_or-map f xs k x (f x) below ∙ ap f at)

-- warnings that are so were added
pub tells_added : {IsSo : WarningValue → Type 0} {old new : List WarningValue} (more : List WarningValue)
    → Adds old new more → All IsSo more → Tells IsSo old new
tells_added {IsSo} {old} more is all =
    record {
      kept = λ warning has. rw is (Contains-append_left old more warning has);
      so = λ before. rw is (All-append IsSo old more before all);
    }

pub tells_on : {IsSo : WarningValue → Type 0} {old new last : List WarningValue}
    → Tells IsSo old new → Tells IsSo new last → Tells IsSo old last
tells_on first next =
    record {
      kept = λ warning has. next.kept warning (first.kept warning has);
      so = λ all. next.so (first.so all);
    }

pub tells_push : {IsSo : WarningValue → Type 0} {old new last : List WarningValue} (warning : WarningValue)
    → Tells IsSo old new → last ≡ new ++ warning ∷ [] → IsSo warning → Tells IsSo old last
tells_push {IsSo} warning tells is so =
    tells_on tells (tells_added (warning ∷ []) is (All-cons IsSo warning [] so (All-nil IsSo)))

-- all of them were added
pub all_added : (old : List WarningValue) {new : List WarningValue} (more : List WarningValue)
    → Adds old new more → All (Contains new) more
all_added old more is k other below =
    rw is (Contains-append_right old more _ (All-contains_itself more k other below))

-- each line that has a warning still has it in a list that keeps the warnings for this reason
pub each_stays : (is_reason : Cause → Bool) (IsIn : ℕ → Type 0) (old new : List WarningValue)
    → ((warning : WarningValue) → is_reason warning.cause ≡ true → Contains old warning
    → Contains new warning) → HasEach is_reason IsIn old → HasEach is_reason IsIn new
each_stays is_reason IsIn old new kept has number is =
    let (k, warning, below, at, about) = has number is in
    let (place, within, found) = kept warning about.1 (k, below, at) in
    (place, warning, within, found, about)

abbrev ToldOf : (agents : List (Bor (List ℕ))) → FileRead → (found : List WarningValue) → Type 0
ToldOf agents read found =
    let names = map (λ agent. agent.now) agents in
    let labels = map label_by_value read.labels.items in
    All (Means names read.bytes.now labels) found × HasClosed names (file_lines read.site) found
    × HasOverruling (is_empty_at labels) names (file_lines read.site) found

-- what is told of a request is told of the same in other words
pub told_of : (known : Known) {agents : List (Bor (List ℕ))} {read : FileRead} (found : List WarningValue)
    → known.agents.now ≡ agents → known.read.now ≡ read
    → ToldOf known.agents.now known.read.now found → ToldOf agents read found
told_of known found are is told = rw (sym are, sym is) told

-- each entry of a map has its warning
pub each_at : {V : Type 0} (is_reason : Cause → Bool) (warning_of : ℕ × V → WarningValue)
    → ((entry : ℕ × V) → IsAbout is_reason entry.0 (warning_of entry))
    → (old new : List WarningValue) (entries : BTreeMap ℕ V) → IsOrdered nat_cmp entries
    → Adds old new (map warning_of entries.entries)
    → HasEach is_reason (λ number. IsTrue (is_some (get nat_cmp entries number))) new
each_at {V} is_reason warning_of about old new entries ordered is number some =
    by (get nat_cmp entries number) refl some
  where
    by : (found : Option V) → get nat_cmp entries number ≡ found → is_some found ≡ true
        → Any (IsAbout is_reason number) new
    by None at some = absurd (false≢true some)
    by (Some value) at some =
        let among = (btree_map_get_iff nat_cmp_total exact_unsigned entries ordered number value).0 at in
        let (k, below, there) : Contains new (warning_of (number, value)) =
        rw is (Contains-append_right old (map warning_of entries.entries) _
        (contains_map warning_of entries.entries (number, value) among)) in
        (k, warning_of (number, value), below, there, about (number, value))

-- the lines of a file that was read are those of its site
pub lines_are : (read : FileRead) → IsRead read
    → file_lines read.site ≡ lines_of (map label_by_value read.labels.items)
lines_are read is = ap file_lines is.site_is ∙ sym is.lines_are

module _ (agents : List (List ℕ)) (file : List ℕ) (labels : List Label) where
  abbrev So : WarningValue → Type 0
  So = Means agents file labels

  style_means : (warning : WarningValue) → is_style warning.cause ≡ true → So warning
  style_means warning is isnt = absurd (false≢true (sym isnt ∙ is))

  url_means : (is_odd : Bool) (url : List ℕ)
      → All So (if is_odd
      then record { line = None; cause = UrlNotNormal; about = Some url; detail = None } ∷ [] else [])
  url_means false url = All-nil So
  url_means true url = All-cons So _ [] (style_means _ refl) (All-nil So)

  pub urls_mean : (urls : List (List ℕ)) → All So (flat_map url_warnings urls)
  urls_mean [] = All-nil So
  urls_mean (url ∷ urls) =
      All-append So (url_warnings url) (flat_map url_warnings urls) (url_means (has_odd_target url) url)
      (urls_mean urls)

  pub overruling_means : (entries : List (ℕ × ℕ)) → All So (map overruling_at entries)
  overruling_means entries =
      All-map So overruling_at entries (λ k entry below. style_means _ refl)
