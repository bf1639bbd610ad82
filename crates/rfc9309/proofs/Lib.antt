-- Files in the standard's grammar are read as the groups and rules that they define. Each line of such a file
-- is a source line: the line as the library reads it, and its value as written (`Sources`). Adding the source
-- lines one before the other, from the last one on, gives the file's merged groups or its sitemaps
-- (`FileLemmas`), and the `GroupTracker` finds the rules of these groups (`GroupLemmas`).
pub mod MemberLemmas
pub mod OtherLemmas
pub mod HasFormLemmas
pub mod SyntaxLemmas
pub mod ValueLemmas
pub mod Sources
pub mod EntryLemmas
pub mod ReadLemmas
pub mod KeyedLemmas
pub mod GroupLemmas
pub mod LineFormLemmas
pub mod FileLemmas
pub mod RobotLemmas
pub mod NormalLemmas
pub mod VerdictLemmas
pub mod PatternLemmas
pub mod TextLemmas
pub mod StandardLemmas
pub mod EditLemmas
pub mod DecidedLemmas
