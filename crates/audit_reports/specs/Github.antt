-- The findings as annotations of a workflow on GitHub: one workflow command per line, such as
--
--     ::error file=robots.txt,line=3,title=missing-slash::the rule doesn't start with / or *, ..
--
-- In messages `%`, CR and LF are escaped, in properties also `:` and `,`: a text ends neither its property
-- nor its line.
use Rattle.std.specs.Prelude.{ℕ, Bool, true, false, List, [], ◌∷◌, ◌++◌, ◌==◌, ◌&&◌, ◌||◌, not, Option, Some}
use Rattle.std.specs.Prelude.{None, codes, decimal, flat_map, if◌then◌else◌, map, string_bytes}
use Rattle.std.specs.{List.list_all, Str.byte}
use Rattle.safe_output.specs.{Lines.ended, Sanitize.sanitized, declared.level.Level.Level}
use Rattle.safe_output.specs.declared.level.Level.TheVariants.{Error, Note, Warning}
use Rattle.audit_core.specs.{declared.findings.Finding.Finding}

-- a byte of a property or of a message
abbrev pub escaped_byte : (is_property : Bool) → ℕ → List ℕ
escaped_byte is_property b =
    if b == byte "%" then codes "%25" else if b == 13 then codes "%0D" else if b == 10 then codes "%0A"
    else if b == byte ":" && is_property then codes "%3A"
    else if b == byte "," && is_property then codes "%2C" else b ∷ []

abbrev pub escaped : (is_property : Bool) → List ℕ → List ℕ
escaped is_property text = flat_map (escaped_byte is_property) text

abbrev pub property_text : List ℕ → List ℕ
property_text = escaped true

-- up to the name of the file; GitHub's word for a note is `notice`
abbrev pub command_label : Level → List ℕ
command_label Error = codes "::error file="
command_label Warning = codes "::warning file="
command_label Note = codes "::notice file="

abbrev pub line_property : Option ℕ → List ℕ
line_property None = []
line_property (Some line) = codes ",line=" ++ property_text (decimal line)

-- `file` is the sanitized name of the file
abbrev pub command_of : List ℕ → Finding → List ℕ
command_of file finding =
    let message = escaped false (string_bytes finding.message) in
    command_label finding.level
    ++ (property_text file ++ (line_property finding.line
    ++ (codes ",title=" ++ (property_text finding.name.now ++ (codes "::" ++ message)))))

-- a command, sanitized as a whole, so that it is one line, and no other command begins within it
abbrev pub command : List ℕ → Finding → List ℕ
command file finding = sanitized (command_of file finding)

abbrev pub github_text : List ℕ → List Finding → List ℕ
github_text file findings = ended (map (command (sanitized file)) findings)

-- neither CR, LF nor a byte that ends a property
abbrev pub is_in_property : List ℕ → Bool
is_in_property text = list_all (λ b. not (b == 13 || b == 10 || b == byte ":" || b == byte ",")) text
