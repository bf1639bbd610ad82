-- A file in both readings: this library's, and that of RFC 9309.
use Rattle.std.specs.Prelude.{◌≡◌, ℕ, List, take}
use Rattle.texting_robots.specs.Callers.{LineValue, file_limit, file_lines}
use Rattle.rfc9309.specs.StandardReading.{standard_text}
use Rattle.robots_warnings.specs.Read.{IsRead}
use Rattle.audit_core.specs.declared.readings.FileReadings.{FileReadings}

-- the text that stands for what is read of a file
abbrev pub text_read : List ℕ → List ℕ
text_read file = standard_text (take file_limit file)

abbrev pub text_lines : List ℕ → List LineValue
text_lines file = file_lines (text_read file)

-- the readings of this file
pub record AreReadings (file : List ℕ) (readings : FileReadings) : Type 0 where
  pub bytes : readings.here.bytes.now ≡ file
  pub here : IsRead readings.here
  pub standard : readings.standard ≡ text_read file
