-- The message for each error, and the exit status.
use Rattle.std.specs.Prelude.{ℕ, List, Option, None, Some, Result, Ok, Err, codes}
use Rattle.texting_robots.specs.declared.error.Error.{Error}
use Rattle.texting_robots.specs.declared.error.Error.TheVariants as error
use Rattle.safe_output.specs.declared.streams.ReadError.{ReadError}
use Rattle.safe_output.specs.declared.streams.ReadError.TheVariants as read
use Rattle.robots_verdict.specs.declared.fault.Fault.{Fault}
use Rattle.robots_verdict.specs.declared.fault.Fault.TheVariants.{HeaderNotUtf8, InvalidRule}
use Rattle.robots_verdict.specs.declared.fault.Fault.TheVariants.{Memory, NoEmptyLine, Read, Write}

abbrev pub text_of : Fault → List ℕ
text_of Read = codes "robots_verdict: reading the input failed"
text_of Write = codes "robots_verdict: writing the output failed"
text_of NoEmptyLine = codes "robots_verdict: no empty line after the URLs"
text_of HeaderNotUtf8 = codes "robots_verdict: a header line isn't UTF-8"
text_of InvalidRule = codes "robots_verdict: a captured rule with $ is too long"
text_of Memory = codes "robots_verdict: out of memory"

abbrev pub status_of : Fault → ℕ
status_of Read = 1
status_of Write = 1
status_of NoEmptyLine = 2
status_of HeaderNotUtf8 = 2
status_of InvalidRule = 3
status_of Memory = 4

abbrev pub status_after : Result (Unit {0}) Fault → ℕ
status_after (Ok _) = 0
status_after (Err fault) = status_of fault

abbrev pub message_after : Result (Unit {0}) Fault → Option (List ℕ)
message_after (Ok _) = None
message_after (Err fault) = Some (text_of fault)

-- the library never returns `InvalidRobots`
abbrev pub fault_of : Error → Fault
fault_of error.InvalidRobots = Memory
fault_of error.InvalidRule = InvalidRule
fault_of error.Memory = Memory

abbrev pub fault_of_read : ReadError → Fault
fault_of_read read.Folder = Read
fault_of_read read.Read = Read
fault_of_read read.Memory = Memory
