pub mod MatchLemmas
pub mod SideLemmas
pub mod ClosureLemmas
pub mod PoolLemmas
pub mod VerdictLemmas
-- Rules whose removal changes no verdict, one after the other, are needless together (`TogetherLemmas`,
-- `SettledLemmas`). What is left of the bytes of a file has the lines that stay (`DeletedLemmas`,
-- `LeftLemmas`).
pub mod TogetherLemmas
pub mod BlockLemmas
pub mod SettledLemmas
pub mod CrawlerLemmas
pub mod DeletedLemmas
pub mod LeftLemmas
-- A rule that another one replaces changes no verdict.
pub mod ReplacedLemmas
