-- The verdict of rules that are read from rules of the grammar is that of the standard.
use Rattle.std.proofs.Common.{◌≡◌, ◌≢◌, ◌↔◌, ◌⊎◌, ℕ, zero, suc, Bool, true, false, inl, inr, List, [], ◌∷◌}
use Rattle.std.proofs.Common.{refl, codes, length, sym, ap, ◌∙◌, arith, subst, length-append}
use Rattle.std.specs.List.{AllByRecursion as Each, AllZip, Contains, list_any}
use Rattle.std.proofs.lemmas.List.Elements.{All-contains, All-from_recursion}
use Rattle.texting_robots.specs.Callers.{IsDenied, IsRobotOfFile, IsVerdict, Matches, RobotValue, Rule}
use Rattle.texting_robots.specs.Callers.{escaped, unplaced}
use Rattle.texting_robots.specs.{Escape.is_escaped, Trim.IsTrimOf}
use Rattle.texting_robots.proofs.Shared.{escaped_plain, trim_unique, permuted_verdicts}
use Rattle.rfc9309.specs.Comparable.{AreComparable, IsPathOf, IsPlainPath}
use Rattle.rfc9309.specs.Matching.{IsDisallowed, IsMatch, IsRfcVerdict, Reading, normal_uri, octets}
use Rattle.rfc9309.specs.{StandardRobot.IsReadAs, Rfc9309.IsFileWith}
use Rattle.rfc9309.proofs.NormalLemmas.{end_of, escaped_parts, matches_so}
use Rattle.rfc9309.proofs.{FileLemmas.file_with, RobotLemmas.robot_as}
use Rattle.rfc9309.specs.Rfc9309 as rfc

pub zip_swap : {A B : Type 0} (R : A → B → Type 0) (xs : List A) (ys : List B) → AllZip R xs ys
    → AllZip (λ y x. R x y) ys xs
zip_swap R [] [] zip = zip
zip_swap R [] (y ∷ ys) zip = zip
zip_swap R (x ∷ xs) [] zip = zip
zip_swap R (x ∷ xs) (y ∷ ys) zip = (zip.0, zip_swap R xs ys zip.1)

pub zip_has : {A B : Type 0} (R : A → B → Type 0) (xs : List A) (ys : List B) (y : B) → AllZip R xs ys
    → Contains ys y → (x : A) × Contains xs x × R x y
zip_has R [] [] y zip (k, below, at) = absurd (omega arith)
zip_has R [] (z ∷ ys) y zip has = absurd zip
zip_has R (x ∷ xs) [] y zip has = absurd zip
zip_has R (x ∷ xs) (z ∷ ys) y (is, zip) (zero, below, at) = grind arith
zip_has R (x ∷ xs) (z ∷ ys) y (is, zip) (suc k, below, at) =
    let (other, (j, low, here), also) = zip_has R xs ys y zip (k, omega arith, at) in
    (other, (suc j, omega arith, here), also)

zip_right : (members : List rfc.Member) (rules : List Rule) (member : rfc.Member)
    → AllZip IsReadAs members rules → Contains members member
    → (rule : Rule) × Contains rules rule × IsReadAs member rule
zip_right members rules member zip =
    zip_has (λ rule member. IsReadAs member rule) rules members member (zip_swap _ members rules zip)

-- the rule as it is read, if it needn't be trimmed
abbrev read : rfc.Member → Rule
read (rfc.Allow path) = (escaped path, true)
read (rfc.Disallow (b ∷ path)) = (escaped (b ∷ path), false)
read _ = (codes "/", true)

pub kind_of : (rule other : Rule) → ◌≡◌ {A = Rule} rule other → rule.1 ≡ other.1
kind_of rule other e = ap (λ (r : Rule). r.1) e

pub pattern_of : (rule other : Rule) → ◌≡◌ {A = Rule} rule other → rule.0 ≡ other.0
pattern_of rule other e = ap (λ (r : Rule). r.0) e

pub each_contains : {X : Type 0} (P : X → Type 0) (xs : List X) (x : X) → Each P xs → Contains xs x → P x
each_contains P xs x all has = All-contains P xs x (All-from_recursion P xs all) has

pub octets_are : (stays : Reading) (path : List ℕ) → IsPlainPath stays path
    → length (escaped path) ≡ octets stays path
octets_are stays path is = grind (arith, end_of, escaped_parts, length-append)

pub octets_written : (stays : Reading) (path : List ℕ) → IsPlainPath stays path
    → list_any is_escaped path ≡ false → length path ≡ octets stays path
octets_written stays path is plain = grind (arith, octets_are, escaped_plain)

module _ (stays : Reading) (count : List ℕ → ℕ) (members : List rfc.Member) (rules : List Rule)
    (uri : List ℕ) (zip : AllZip IsReadAs members rules)
    (are : AreComparable stays count members uri) where
  matching : (path : List ℕ) → IsPathOf members path → Matches (escaped path) uri ↔ IsMatch stays path uri
  matching path listed = matches_so stays path uri are.normal (are.plain path listed)

  counts : (path : List ℕ) → IsPathOf members path → count path ≡ length (escaped path)
  counts path listed = grind (arith, octets_are)

  own : (path value : List ℕ) → IsPathOf members path → IsTrimOf value path → value ≡ path
  own path value listed trim = sym (trim_unique path _ trim) ∙ trim_unique _ _ (are.trimmed _ listed)

  read_of : (member : rfc.Member) (rule : Rule) → Contains members member → IsReadAs member rule
      → ◌≡◌ {A = Rule} rule (read member)
  read_of (rfc.Allow path) rule listed (value, trim, e) =
      e ∙ ap (λ v. (escaped v, true)) (own path value (inl listed) trim)
  read_of (rfc.Disallow []) rule listed e = e
  read_of (rfc.Disallow (b ∷ path)) rule listed (value, trim, e) =
      e ∙ ap (λ v. (escaped v, false)) (own (b ∷ path) value (inr listed) trim)
  read_of (rfc.Delay number) rule listed e = absurd e

  read_listed : (member : rfc.Member) → Contains members member → Contains rules (read member)
  read_listed member listed =
      let (rule, has, is) = zip_right members rules member zip listed in
      subst (Contains rules) (read_of member rule listed is) has

  disallow_of : (pattern : List ℕ) (member : rfc.Member) → Contains members member
      → ◌≡◌ {A = Rule} (pattern, false) (read member)
      → (path : List ℕ) × Contains members (rfc.Disallow path) × (path ≢ []) × (pattern ≡ escaped path)
  disallow_of pattern member h h2 = grind (arith, kind_of, pattern_of)

  allow_of : (pattern : List ℕ) (member : rfc.Member) → Contains members member
      → IsReadAs member (pattern, true)
      → ((path : List ℕ) × Contains members (rfc.Allow path) × (pattern ≡ escaped path))
      ⊎ (Contains members (rfc.Disallow []) × (pattern ≡ codes "/"))
  allow_of pattern member h h2 = grind (arith, kind_of, pattern_of, read_of)

  to_disallowed : IsDenied rules uri → IsDisallowed stays count members uri
  to_disallowed (differs, pattern, has, matches, longest) =
      let (member, at, as_read) = zip_has IsReadAs members rules (pattern, false) zip has in
      let (path, listed, some, written) =
      disallow_of pattern member at (read_of member (pattern, false) at as_read) in
      record {
        other = rw (are.normal, are.robots) differs;
        path = path;
        listed = listed;
        some = some;
        is_match = (matching path (inr listed)).0 (rw written at matches);
        most = λ allowed has allows.
            let less =
            longest (escaped allowed) (read_listed (rfc.Allow allowed) has)
            ((matching allowed (inl has)).1 allows) in
            let size = ap length written in
            let one = counts allowed (inl has) in
            let two = counts path (inr listed) in
            omega arith;
      }

  denied : (path : List ℕ) → Contains members (rfc.Disallow path) → path ≢ []
      → Contains rules (escaped path, false)
  denied [] listed some = absurd (some refl)
  denied (b ∷ path) listed some = read_listed (rfc.Disallow (b ∷ path)) listed

  to_denied : IsDisallowed stays count members uri → IsDenied rules uri
  to_denied is = (
    λ e. is.other (ap (λ text. normal_uri stays text) e),
    escaped is.path,
    denied is.path is.listed is.some,
    (matching is.path (inr is.listed)).1 is.is_match,
    λ pattern has matches.
        let (member, at, as_read) = zip_has IsReadAs members rules (pattern, true) zip has in
        let two = counts is.path (inr is.listed) in
        elim (allow_of pattern member at as_read) [
          | inl (path, listed, written) ↦
              let less = is.most path listed ((matching path (inl listed)).0 (rw written at matches)) in
              let size = ap length written in
              let one = counts path (inl listed) in
              omega arith
          | inr (empty, root) ↦
              let size = ap length root in
              let one = are.counted is.path (inr is.listed) in
              let longer = are.empty empty is.path is.listed is.some in
              omega arith
        ],
  )

  pub verdicts_agree : (answer : Bool)
      → IsVerdict rules uri answer ↔ IsRfcVerdict stays count members uri answer
  verdicts_agree answer = grind (arith, to_denied, to_disallowed)

pub robot_agrees : (stays : Reading) (count : List ℕ → ℕ) (agent text uri : List ℕ) (groups : List rfc.Group)
    (numbers : List (List ℕ)) (robot : RobotValue) (answer : Bool)
    → IsFileWith numbers groups text → IsRobotOfFile agent text robot
    → AreComparable stays count (rfc.rules_for agent groups) uri
    → IsVerdict (unplaced robot.rules) uri answer
    ↔ IsRfcVerdict stays count (rfc.rules_for agent groups) uri answer
robot_agrees stays count agent text uri groups numbers robot answer written is fit =
    let (addresses, lists) = (file_with text numbers groups written).lists in
    let members = rfc.rules_for agent groups in
    let (placed, same, zip) =
    (robot_as agent text groups numbers addresses robot written lists is).rules in
    let alike = permuted_verdicts placed robot.rules same uri answer in
    let agree = verdicts_agree stays count members (unplaced placed) uri zip fit answer in
    (λ v. agree.0 (alike.0 v), λ v. alike.1 (agree.1 v))
