-- A file that was read.
use Rattle.std.specs.Prelude.{◌≡◌, map, take}
use Rattle.texting_robots.specs.Callers.{bodies_in, bodies_read, file_limit, label_by_value, lines_read}
use Rattle.robots_warnings.specs.{declared.read.FileRead.FileRead, Facts.is_too_large, File.lines_of}

-- the lines and the site are those of the file, and it is known whether it is larger than the limit
pub record IsRead (read : FileRead) : Type 0 where
  pub lines_are : lines_of (map label_by_value read.labels.items) ≡ lines_read read.bytes.now
  pub bodies_are : bodies_in (map label_by_value read.labels.items) ≡ bodies_read read.bytes.now
  pub size_is : read.facts.is_too_large ≡ is_too_large read.bytes.now
  pub site_is : read.site ≡ take file_limit read.bytes.now
